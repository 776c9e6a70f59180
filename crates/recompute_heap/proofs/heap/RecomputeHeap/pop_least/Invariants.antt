use Rattle.std.proofs.Common.{◌≡◌, ◌-◌, ◌≤◌}
use Rattle.recompute_heap.specs.Agree.{NoneBelow}
use Rattle.recompute_heap.proofs.heap.RecomputeHeap.pop_least.Given as goal

abbrev pub invariant-loop-self : goal.invariant-loop-self
invariant-loop-self l =
    (l.self-inside.places ≡ l.initial.self-inside.places) × (l.self-inside.buckets ≡ l.initial.self-inside.buckets)
    × NoneBelow l.self-inside.buckets l.self-inside.least × (l.self-inside.least ≤ 129)

abbrev pub decreases-loop-self : goal.decreases-loop-self
decreases-loop-self l = 129 - l.self-inside.least
