use Rattle.script_model.proofs.NeededGives.{needed_gives}
use Rattle.script_model.proofs.laws.needed_gives.Goals as goal

pub returns : goal.returns
returns c = needed_gives
