use Rattle.std.proofs.Common.{◌∙◌, ap, sym, arith, length}
use Rattle.std.specs.Prelude.{count_by, is_some, sum_by}
use Rattle.index_lists.specs.Lists.{links_at, ends_at, rows_of}
use Rattle.index_lists.proofs.Changes.{links_empty}
use Rattle.index_lists.proofs.lists.IndexLists.new.Goals as goal

pub invariant_of-result : goal.invariant_of-result
invariant_of-result g c =
    let slots = c.new-2.result.slots in
    let none = c.new.ensures.items in (
      links_empty c.new.result.items (links_at slots) (λ list. ap (λ xs. ends_at xs list) none),
      grind (arith, c.new-2.ensures.empty, c.new-2.ensures.capacity),
      ap (count_by is_some) c.new-2.ensures.empty ∙ sym (ap (λ es. sum_by length (rows_of es slots)) none),
    )
