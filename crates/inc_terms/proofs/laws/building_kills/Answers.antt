use Rattle.inc_terms.proofs.Rebuilding.{building_kills}
use Rattle.inc_terms.proofs.laws.building_kills.Goals as goal

pub returns : goal.returns
returns c = building_kills
