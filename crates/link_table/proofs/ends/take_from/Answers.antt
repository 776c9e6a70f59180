use Rattle.std.proofs.Common.{◌∙◌, ap, sym, arith, length}
use Rattle.std.specs.Prelude.{slice_get, slice_set}
use Rattle.std.proofs.lemmas.List.{length-set}
use Rattle.link_table.proofs.Lists.{item_filled, item_popped, get_set_same, length_more}
use Rattle.link_table.proofs.Written.{refill_all}
use Rattle.link_table.proofs.ends.take_from.Goals as goal

pub returns-then-i-len-clause-taken : goal.returns-then-i-len-clause-taken
returns-then-i-len-clause-taken c =
    let parts = rw c.unwrap-last.ensures at c.pop.ensures.items in
    item_popped c.args.row.now.items c.pop.new.self.items c.unwrap-last.result c.args.i parts (c.if-i-len.true ∙ c.len.ensures.value)

pub returns-clause-taken : goal.returns-clause-taken
returns-clause-taken c =
    let rest = c.pop.new.self.items in let last = c.unwrap-last.result in
    let parts = rw c.unwrap-last.ensures at c.pop.ensures.items in
    let all = refill_all rest (slice_set rest c.args.i last) (length-set rest c.args.i last) in
    let whole = ap length parts ∙ length_more rest last in
    rw c.deref_mut.ensures.value (
    item_filled c.args.row.now.items rest _ last c.args.i parts
    (omega (arith, whole, c.requires.there, c.len.ensures.value, c.if-i-len.false)) all)

pub returns-clause-moved : goal.returns-clause-moved
returns-clause-moved c =
    let rest = c.pop.new.self.items in let last = c.unwrap-last.result in
    let parts = rw c.unwrap-last.ensures at c.pop.ensures.items in
    let all = refill_all rest (slice_set rest c.args.i last) (length-set rest c.args.i last) in
    let whole = ap length parts ∙ length_more rest last in
    let here = get_set_same rest c.args.i last (omega (arith, whole, c.requires.there, c.len.ensures.value, c.if-i-len.false)) in
    rw c.deref_mut.ensures.value (sym here ∙ sym (ap (λ l. slice_get l c.args.i) all))
