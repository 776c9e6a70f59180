use Rattle.node_arena.proofs.RightSides.{fit_lists_given}
use Rattle.node_arena.proofs.laws.fit_lists_given.Goals as goal

pub returns : goal.returns
returns c = fit_lists_given
