use Rattle.script_model.proofs.TypedValues.{values_have_types}
use Rattle.script_model.proofs.laws.values_have_types.Goals as goal

pub returns : goal.returns
returns c = values_have_types
