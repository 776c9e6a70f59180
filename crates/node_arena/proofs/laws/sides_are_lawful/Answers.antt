use Rattle.node_arena.proofs.RightSides.{sides_are_lawful}
use Rattle.node_arena.proofs.laws.sides_are_lawful.Goals as goal

pub returns : goal.returns
returns c = sides_are_lawful
