use Rattle.std.proofs.Common.{◌≡◌, length, vec_capacity}
use Rattle.observers.specs.Keeping.{IsMarked}
use Rattle.observers.proofs.due.unmark.Given as goal

-- those that are left are marked, and no others
abbrev pub invariant-loop-place : goal.invariant-loop-place
invariant-loop-place l = record {
  marked : IsMarked l.places.items l.marked.items;
  width : length l.marked.items ≡ length l.initial.marked.items;
  capacity : vec_capacity l.places ≡ vec_capacity l.initial.places;
}

-- how many are left
abbrev pub decreases-loop-place : goal.decreases-loop-place
decreases-loop-place l = length l.places.items
