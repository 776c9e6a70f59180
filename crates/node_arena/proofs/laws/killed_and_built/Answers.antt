use Rattle.node_arena.proofs.RightSides.{killed_and_built}
use Rattle.node_arena.proofs.laws.killed_and_built.Goals as goal

pub returns : goal.returns
returns c = killed_and_built
