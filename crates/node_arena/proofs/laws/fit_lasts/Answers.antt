use Rattle.node_arena.proofs.RightSides.{fit_lasts}
use Rattle.node_arena.proofs.laws.fit_lasts.Goals as goal

pub returns : goal.returns
returns c = fit_lasts
