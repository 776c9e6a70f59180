use Rattle.std.proofs.Common.{ap, None, option_map, slice_index_or, ◌∙◌, arith}
use Rattle.point_map.proofs.Chains.{links_empty}
use Rattle.point_map.proofs.Links.{nothing_there}
use Rattle.point_map.proofs.buckets.Buckets.new.Goals as goal

pub invariant_of-result : goal.invariant_of-result
invariant_of-result g c =
    let e = (c.in_ok-with_capacity.ensures).empty in
    let i = (c.in_ok-vec.ensures).items_if_clones_equal in
    let none = i (λ y h. grind arith) in (
      links_empty c.in_ok-vec.field-0.items _ _
          (λ b. ap (λ xs. slice_index_or xs b None) none ∙ nothing_there c.args.width b None)
          (λ k. ap (λ xs. option_map (λ l. l.bucket) (slice_index_or xs k None)) e),
      grind (arith, e, (c.in_ok-with_capacity.ensures).capacity),
    )
