use Rattle.std.proofs.Common.{ap, None, option_map, slice_index_or, arith}
use Rattle.point_map.proofs.Chains.{links_empty}
use Rattle.point_map.proofs.Links.{next_at, bucket_at}
use Rattle.point_map.proofs.buckets.Buckets.none.Goals as goal

pub invariant_of-result : goal.invariant_of-result
invariant_of-result g c = (
  links_empty c.new.result.items (next_at c.new-2.result.slots) (bucket_at c.new-2.result.slots)
      (λ b. ap (λ xs. slice_index_or xs b None) c.new.ensures.items)
      (λ k. ap (λ xs. option_map (λ l. l.bucket) (slice_index_or xs k None)) c.new-2.ensures.empty),
  grind (arith, c.new-2.ensures.empty, c.new-2.ensures.capacity),
)
