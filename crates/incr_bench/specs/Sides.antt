-- What right sides may call.
use Rattle.std.specs.Prelude.{◌≡◌, ◌≤◌, Bool, [], IsTrue}
use Rattle.inc_value.specs.declared.function.FnRef.{FnRef}
use Rattle.node_arena.specs.Building.{Use}
use Rattle.node_arena.specs.RightSide.{RightSide}

-- the function is known, lists no nodes, and takes no more of them than the number beside it
pub record CanCall (known : FnRef → Bool) (right : FnRef → RightSide) (u : Use) : Type 0 where
  pub is_known : IsTrue (known u.function)
  pub lists_none : (right u.function).ids ≡ []
  pub size : (right u.function).size ≤ u.most
