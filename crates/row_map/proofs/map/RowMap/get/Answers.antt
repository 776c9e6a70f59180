use Rattle.std.proofs.Common.{◌∙◌, ap, sym, option_copied}
use Rattle.point_map.specs.Rows.{at}
use Rattle.row_map.specs.Numbers.{rows_of}
use Rattle.row_map.proofs.Numbers.{none_numbered, entry_there, row_there, once, no_some}
use Rattle.row_map.proofs.map.RowMap.get.Goals as goal

pub returns-in_err-number-clause-value : goal.returns-in_err-number-clause-value
returns-in_err-number-clause-value g c =
    let i = c.self.inside in
    let none = none_numbered i.numbers (rows_of i.rows.slots) c.self.invariant c.args.p (sym c.in_err-number.ensures) in
    ap option_copied c.from_residual.ensures ∙ (sym none ∙ ap (λ m. at m c.args.p) c.self.view_is)

pub returns-in_err-number-clause-once : goal.returns-in_err-number-clause-once
returns-in_err-number-clause-once g c =
    let i = c.self.inside in rw (← c.self.view_is) (once i.numbers (rows_of i.rows.slots) c.self.invariant)

pub returns-in_err-entry-clause-value : goal.returns-in_err-entry-clause-value
returns-in_err-entry-clause-value g c =
    let i = c.self.inside in
    let t = entry_there i.numbers i.rows c.self.invariant c.args.p c.in_ok-number.field-0.now (sym c.in_ok-number.ensures) in
    absurd (no_some _ (c.in_err-entry.ensures ∙ t.1))

pub returns-in_err-entry-clause-once : goal.returns-in_err-entry-clause-once
returns-in_err-entry-clause-once g c =
    let i = c.self.inside in rw (← c.self.view_is) (once i.numbers (rows_of i.rows.slots) c.self.invariant)

pub returns-clause-value : goal.returns-clause-value
returns-clause-value g c =
    let i = c.self.inside in
    let n = c.in_ok-number.field-0.now in
    let row = row_there i.numbers i.rows c.self.invariant c.args.p n (sym c.in_ok-number.ensures) c.in_ok-entry.entry.now (sym c.in_ok-entry.ensures) in
    sym row ∙ ap (λ m. at m c.args.p) c.self.view_is

pub returns-clause-once : goal.returns-clause-once
returns-clause-once g c = let i = c.self.inside in rw (← c.self.view_is) (once i.numbers (rows_of i.rows.slots) c.self.invariant)
