use Rattle.node_arena.proofs.RightSides.{new_in_scope}
use Rattle.node_arena.proofs.laws.new_in_scope.Goals as goal

pub returns : goal.returns
returns c = new_in_scope
