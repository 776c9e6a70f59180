use Rattle.node_arena.proofs.RightSides.{same_rows_unfold}
use Rattle.node_arena.proofs.laws.same_rows_unfold.Goals as goal

pub returns : goal.returns
returns c = same_rows_unfold
