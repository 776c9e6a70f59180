-- A script and a graph that fit still fit after each kind of command: a declaration at the end, one that is changed
-- in place, and none.
use Rattle.std.proofs.Common.{◌≡◌, ℕ, Some, refl}
use Rattle.script_model.specs.Check.{target_of_body}
use Rattle.script_model.specs.Formula.{Body, Name, Computed}
use Rattle.transfer.specs.Shows.{IsOwn}

-- what is its own target, by its body
pub own_target : (k : ℕ) (b : Body) → IsOwn (Some b) → target_of_body k b ≡ k
own_target k (Computed (Name t) kept) own = absurd own
own_target k b own = refl
