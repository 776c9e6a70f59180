use Rattle.node_arena.proofs.RightSides.{building_fits}
use Rattle.node_arena.proofs.laws.building_fits.Goals as goal

pub returns : goal.returns
returns c = building_fits
