use Rattle.std.proofs.Common.{◌≡◌, ◌∙◌, Some, None, IsSome, refl, sym, subst}
use Rattle.slab.specs.Slab.{get}
use Rattle.point_map.specs.Rows.{at}
use Rattle.row_map.specs.Numbers.{rows_of}
use Rattle.row_map.proofs.Numbers.{held, entry_there, row_there, stands_there, turns, numbered_removed, removed}
use Rattle.row_map.proofs.map.RowMap.remove.Goals as goal

pub remove-number-requires : goal.remove-number-requires
remove-number-requires g c =
    let i = c.self.inside in
    let there = rw (← c.self.view_is) at c.requires.there in
    record { there = held i.numbers (rows_of i.rows.slots) c.self.invariant c.args.p (at i.numbers c.args.p) refl ∙ there }

pub unwrap-row-requires : goal.unwrap-row-requires
unwrap-row-requires g c =
    let i = c.self.inside in
    let t = entry_there i.numbers i.rows c.self.invariant c.args.p c.remove-number.result c.remove-number.ensures.value in
    subst IsSome (sym (c.try_remove.ensures.value ∙ t.1)) refl

pub invariant_of-self : goal.invariant_of-self
invariant_of-self g c =
    let i = c.self.inside in
    let n = c.remove-number.result in
    let e = c.unwrap-row.result in
    let there : get i.rows n ≡ Some e = sym c.try_remove.ensures.value ∙ c.unwrap-row.ensures in
    let stands = stands_there i.numbers i.rows c.self.invariant c.args.p n c.remove-number.ensures.value e there in
    let u = c.try_remove.ensures.updates in
    numbered_removed i.numbers (rows_of i.rows.slots) c.self.invariant c.remove-number.new.self (rows_of c.try_remove.new.self.slots) c.args.p n e.row
    stands c.remove-number.ensures.changes (turns i.rows.slots c.try_remove.new.self.slots n None u.changed u.others)

pub returns-clause-value : goal.returns-clause-value
returns-clause-value g c =
    let i = c.self.inside in
    let e = c.unwrap-row.result in
    let there : get i.rows c.remove-number.result ≡ Some e = sym c.try_remove.ensures.value ∙ c.unwrap-row.ensures in
    rw (← c.self.view_is) (row_there i.numbers i.rows c.self.invariant c.args.p c.remove-number.result c.remove-number.ensures.value e there)

pub returns-clause-removed : goal.returns-clause-removed
returns-clause-removed g c =
    let i = c.self.inside in
    let n = c.remove-number.result in
    let e = c.unwrap-row.result in
    let there : get i.rows n ≡ Some e = sym c.try_remove.ensures.value ∙ c.unwrap-row.ensures in
    let stands = stands_there i.numbers i.rows c.self.invariant c.args.p n c.remove-number.ensures.value e there in
    let u = c.try_remove.ensures.updates in
    rw (← c.self.view_is) (removed i.numbers (rows_of i.rows.slots) c.self.invariant c.remove-number.new.self (rows_of c.try_remove.new.self.slots)
    c.args.p n e.row stands c.remove-number.ensures.changes (turns i.rows.slots c.try_remove.new.self.slots n None u.changed u.others))
