use Rattle.script_model.proofs.TypedValues.{declarations_have_types}
use Rattle.script_model.proofs.laws.declarations_have_types.Goals as goal

pub returns : goal.returns
returns c = declarations_have_types
