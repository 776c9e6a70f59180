-- What a holder holds.
use Rattle.node_arena.specs.Arena.{Arena}

-- the functions and the nodes
pub record Held (F : Type 0) : Type 0 where
  pub functions : F
  pub arena : Arena
