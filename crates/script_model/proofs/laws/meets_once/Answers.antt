use Rattle.script_model.proofs.Places.{meets_once}
use Rattle.script_model.proofs.laws.meets_once.Goals as goal

pub returns : goal.returns
returns c = meets_once
