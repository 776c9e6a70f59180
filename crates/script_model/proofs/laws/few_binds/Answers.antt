use Rattle.script_model.proofs.Binds.{few_binds}
use Rattle.script_model.proofs.laws.few_binds.Goals as goal

pub returns : goal.returns
returns c = few_binds
