use Rattle.std.proofs.Common.{◌≡◌, ◌∙◌, Some, refl, ap, sym}
use Rattle.slab.specs.Slab.{get}
use Rattle.point_map.specs.Rows.{at}
use Rattle.row_map.specs.Numbers.{rows_of}
use Rattle.row_map.proofs.Numbers.{none_numbered, entry_there, row_there, stands_there, turn_written, rewritten, numbered_rewritten, no_some}
use Rattle.row_map.proofs.map.RowMap.get_mut.Goals as goal

pub returns-in_err-number : goal.returns-in_err-number
returns-in_err-number g c =
    let i = c.self.inside in
    let none = none_numbered i.numbers (rows_of i.rows.slots) c.self.invariant c.args.p (sym c.in_err-number.ensures) in
    rw c.from_residual.ensures (
      (refl, λ w. tt, c.self.view_is),
      record { writes_back = tt; value = sym none ∙ ap (λ m. at m c.args.p) c.self.view_is },
    )

pub returns-in_err-entry : goal.returns-in_err-entry
returns-in_err-entry g c =
    let i = c.self.inside in
    let t = entry_there i.numbers i.rows c.self.invariant c.args.p c.in_ok-number.field-0.now (sym c.in_ok-number.ensures) in
    absurd (no_some _ (c.in_err-entry.ensures.value ∙ t.1))

pub invariant_of-self-lent : goal.invariant_of-self-lent
invariant_of-self-lent g c w =
    let i = c.self.inside in
    let m = rows_of i.rows.slots in
    let p = c.args.p in
    let n = c.in_ok-number.field-0.now in
    let number : at i.numbers p ≡ Some n = sym c.in_ok-number.ensures in
    let e = c.in_ok-entry.entry.now in
    let there : get i.rows n ≡ Some e = sym c.in_ok-entry.ensures.value in
    let stands = stands_there i.numbers i.rows c.self.invariant p n number e there in
    let turn = turn_written i.numbers i.rows c.self.invariant p n number e there w in
    numbered_rewritten i.numbers m c.self.invariant _ p n e.row w stands turn

pub returns : goal.returns
returns g c =
    let i = c.self.inside in
    let m = rows_of i.rows.slots in
    let p = c.args.p in
    let n = c.in_ok-number.field-0.now in
    let number : at i.numbers p ≡ Some n = sym c.in_ok-number.ensures in
    let e = c.in_ok-entry.entry.now in
    let there : get i.rows n ≡ Some e = sym c.in_ok-entry.ensures.value in
    let stands = stands_there i.numbers i.rows c.self.invariant p n number e there in (
      (
        refl,
        λ w.
            let turn = turn_written i.numbers i.rows c.self.invariant p n number e there w in
            rw (← c.self.view_is) (rewritten i.numbers m c.self.invariant _ p n e.row w stands turn),
        refl,
      ),
      record {
        writes_back = tt;
        value = sym (row_there i.numbers i.rows c.self.invariant p n number e there) ∙ ap (λ x. at x p) c.self.view_is;
      },
    )
