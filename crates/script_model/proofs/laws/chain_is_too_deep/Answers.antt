use Rattle.script_model.proofs.HeightRow.{chain_is_too_deep}
use Rattle.script_model.proofs.laws.chain_is_too_deep.Goals as goal

pub returns : goal.returns
returns c = chain_is_too_deep
