use Rattle.std.proofs.Common.{◌≡◌, length}
use Rattle.index_lists.specs.Lists.{list_at, count}
use Rattle.scopes.proofs.Moving.{IsMoving}
use Rattle.scopes.proofs.scopes.move_all.Given as goal

abbrev pub invariant-loop-place : goal.invariant-loop-place
invariant-loop-place l = record {
  moving : IsMoving l.fn.lists l.lists l.list;
  count : count l.lists ≡ count l.fn.lists;
}

abbrev pub decreases-loop-place : goal.decreases-loop-place
decreases-loop-place l = length (list_at l.lists l.list)
