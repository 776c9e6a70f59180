use Rattle.std.proofs.Common.{◌≡◌, ◌∙◌, ◌<◌, ◌++◌, ◌-◌, [], ap, sym, arith, length, replicate}
use Rattle.std.proofs.lemmas.Result.{on_ok_weaker}
use Rattle.index_lists.specs.Lists.{rows_of}
use Rattle.index_lists.proofs.Changes.{length-rows_of, rows_wide, widened, wide_linked, wide_count}
use Rattle.index_lists.proofs.lists.IndexLists.widen.Goals as goal

pub invariant_of-self : goal.invariant_of-self
invariant_of-self g c =
    let s = c.self.inside in
    let ends = s.ends.items in
    let wide = c.resize.new.self.items in
    let slots = s.links.slots in
    let width = c.args.width in
    let len_is : s.ends.len ≡ length ends = s.ends.ok.0 in
    let short : s.ends.len < width = omega (arith, c.if-width-len.false, c.len-len.ensures) in
    let is = c.resize.ensures.items in (
      wide_linked c.resize.result ends wide slots width s.ends.len short len_is is c.self.invariant.0,
      c.self.invariant.1,
      c.self.invariant.2 ∙ sym (wide_count c.resize.result ends wide slots width s.ends.len short len_is is),
    )

pub returns-clause-lists : goal.returns-clause-lists
returns-clause-lists g c =
    let s = c.self.inside in
    let ends = s.ends.items in
    let slots = s.links.slots in
    let width = c.args.width in
    let more = width - s.ends.len in
    let old = c.args.self.now.lists in
    let len_is : s.ends.len ≡ length ends = s.ends.ok.0 in
    let short : s.ends.len < width = omega (arith, c.if-width-len.false, c.len-len.ensures) in
    let n : length old ≡ s.ends.len =
    ap (λ v. length v.lists) (sym c.self.view_is) ∙ length-rows_of ends slots ∙ sym len_is in
    on_ok_weaker c.resize.result
    (λ e. ap (λ es. rows_of es slots) e ∙ rows_wide ends more slots
    ∙ ap (λ v. v.lists ++ replicate more []) c.self.view_is ∙ ap (λ k. old ++ replicate (width - k) []) (sym n))
    (widened c.resize.result ends c.resize.new.self.items slots width s.ends.len short len_is c.resize.ensures.items)
