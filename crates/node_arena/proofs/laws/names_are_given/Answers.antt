use Rattle.node_arena.proofs.Graph.{names_are_given}
use Rattle.node_arena.proofs.laws.names_are_given.Goals as goal

pub returns : goal.returns
returns c = names_are_given
