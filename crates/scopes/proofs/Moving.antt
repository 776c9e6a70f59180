-- Rows on the way from one list to the first.
use Rattle.std.proofs.Common.{◌≡◌, ◌≢◌, ℕ, ◌++◌, length}
use Rattle.index_lists.specs.Lists.{Lists, list_at}
use Rattle.scopes.specs.declared.member.Member.{Member}

-- some rows of the list are put behind those of the first
pub record IsMoving (old now : Lists Member) (list : ℕ) : Type 0 where
  pub all : list_at now 0 ++ list_at now list ≡ list_at old 0 ++ list_at old list
  pub others : (other : ℕ) → other ≢ 0 → other ≢ list → list_at now other ≡ list_at old other
  pub width : length now.lists ≡ length old.lists
