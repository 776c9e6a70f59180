use Rattle.std.proofs.Common.{◌≡◌, Some, None, option_map, slice_index_or}
use Rattle.std.specs.Prelude.{option_and_then}
use Rattle.point_map.proofs.Chains.{Ahead}
use Rattle.point_map.proofs.buckets.find_from.Given as goal

abbrev pub invariant-loop-step : goal.invariant-loop-step
invariant-loop-step g l =
    Ahead (λ k. option_and_then (λ x. x.next) (slice_index_or l.links.slots k None)) l.fn.first l.links.capacity
    (λ k. option_map (λ x. x.point) (slice_index_or l.links.slots k None) ≡ Some l.p) l.at l._step
