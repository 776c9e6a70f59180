use Rattle.std.proofs.Common.{◌≡◌, length, vec_capacity}
use Rattle.observers.specs.Keeping.{put_all}
use Rattle.observers.proofs.settle.put_settled.Given as goal

abbrev pub invariant-loop-one : goal.invariant-loop-one
invariant-loop-one l = record {
  made : put_all l.settled.items l.made.items ≡ put_all l.initial.settled.items l.initial.made.items;
  capacity : vec_capacity l.settled ≡ vec_capacity l.initial.settled;
}

-- how many are left
abbrev pub decreases-loop-one : goal.decreases-loop-one
decreases-loop-one l = length l.settled.items
