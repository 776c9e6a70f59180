use Rattle.std.proofs.Common.{Some}
use Rattle.std.specs.Prelude.{slice_set}
use Rattle.slot_map.proofs.Cells.{on_err, by_slot_wide, apart_wide, rows_wide, absent_wide, changed_wide, by_slot_filled, apart_filled, changed_filled, changed_beside, apart_changed}
use Rattle.slot_map.proofs.map.SlotMap.add.Goals as goal

pub invariant_of-self : goal.invariant_of-self
invariant_of-self g c =
    let i = c.self.inside in
    let by = by_slot_wide i.cells.items c.open.new.cells.items i.beside c.open.new.beside c.self.invariant.0 c.self.invariant.1 c.open.ensures.cells c.open.ensures.beside in
    let apart = apart_wide i.cells.items c.open.new.cells.items i.beside c.open.new.beside c.self.invariant.0 c.self.invariant.1 c.open.ensures.cells c.open.ensures.beside in
    (by, apart)

pub returns-in_err-open-clause-err : goal.returns-in_err-open-clause-err
returns-in_err-open-clause-err g c =
    let i = c.self.inside in
    rw (← c.self.view_is) (on_err c.from_residual.result (rows_wide i.cells.items c.open.new.cells.items i.beside c.open.new.beside c.self.invariant.0 c.self.invariant.1 c.open.ensures.cells c.open.ensures.beside))

pub invariant_of-self-then-branch : goal.invariant_of-self-then-branch
invariant_of-self-then-branch g c =
    let i = c.self.inside in
    let by = by_slot_wide i.cells.items c.open.new.cells.items i.beside c.open.new.beside c.self.invariant.0 c.self.invariant.1 c.open.ensures.cells c.open.ensures.beside in
    let apart = apart_wide i.cells.items c.open.new.cells.items i.beside c.open.new.beside c.self.invariant.0 c.self.invariant.1 c.open.ensures.cells c.open.ensures.beside in
    let absent = rw (← c.self.view_is) at c.requires.absent in
    let none = absent_wide i.cells.items c.open.new.cells.items i.beside c.open.new.beside c.self.invariant.0 c.self.invariant.1 c.open.ensures.cells c.open.ensures.beside c.args.p absent in
    let free = c.in_ok-open.ensures.in_cell c.if-branch.true in
    rw c.fill.ensures (by_slot_filled c.open.new.cells.items c.open.new.beside c.args.p c.args.row by apart free none.0 none.1, apart_filled c.open.new.cells.items c.open.new.beside c.args.p c.args.row by apart free none.0 none.1)

pub insert-requires-clause-absent : goal.insert-requires-clause-absent
insert-requires-clause-absent g c =
    let i = c.self.inside in
    let absent = rw (← c.self.view_is) at c.requires.absent in
    let none = absent_wide i.cells.items c.open.new.cells.items i.beside c.open.new.beside c.self.invariant.0 c.self.invariant.1 c.open.ensures.cells c.open.ensures.beside c.args.p absent in
    none.1

pub invariant_of-self-else-branch : goal.invariant_of-self-else-branch
invariant_of-self-else-branch g c =
    let i = c.self.inside in
    let by = by_slot_wide i.cells.items c.open.new.cells.items i.beside c.open.new.beside c.self.invariant.0 c.self.invariant.1 c.open.ensures.cells c.open.ensures.beside in
    let apart = apart_wide i.cells.items c.open.new.cells.items i.beside c.open.new.beside c.self.invariant.0 c.self.invariant.1 c.open.ensures.cells c.open.ensures.beside in
    let absent = rw (← c.self.view_is) at c.requires.absent in
    let none = absent_wide i.cells.items c.open.new.cells.items i.beside c.open.new.beside c.self.invariant.0 c.self.invariant.1 c.open.ensures.cells c.open.ensures.beside c.args.p absent in
    (by, apart_changed c.open.new.cells.items c.open.new.beside c.insert.new.self c.args.p (Some c.args.row) apart c.insert.ensures.changes none.0)

pub returns-then-branch-clause-added : goal.returns-then-branch-clause-added
returns-then-branch-clause-added g c =
    let i = c.self.inside in
    let by = by_slot_wide i.cells.items c.open.new.cells.items i.beside c.open.new.beside c.self.invariant.0 c.self.invariant.1 c.open.ensures.cells c.open.ensures.beside in
    let apart = apart_wide i.cells.items c.open.new.cells.items i.beside c.open.new.beside c.self.invariant.0 c.self.invariant.1 c.open.ensures.cells c.open.ensures.beside in
    let absent = rw (← c.self.view_is) at c.requires.absent in
    let none = absent_wide i.cells.items c.open.new.cells.items i.beside c.open.new.beside c.self.invariant.0 c.self.invariant.1 c.open.ensures.cells c.open.ensures.beside c.args.p absent in
    let free = c.in_ok-open.ensures.in_cell c.if-branch.true in
    rw (← c.self.view_is, c.fill.ensures) (changed_wide i.cells.items c.open.new.cells.items i.beside c.open.new.beside c.self.invariant.0 c.self.invariant.1 c.open.ensures.cells c.open.ensures.beside
    (slice_set c.open.new.cells.items c.args.p.node.slot (Some (c.args.p, c.args.row))) c.open.new.beside c.args.p (Some c.args.row)
    (changed_filled c.open.new.cells.items c.open.new.beside c.args.p c.args.row by apart free none.0 none.1))

pub returns-else-branch-clause-added : goal.returns-else-branch-clause-added
returns-else-branch-clause-added g c =
    let i = c.self.inside in
    let by = by_slot_wide i.cells.items c.open.new.cells.items i.beside c.open.new.beside c.self.invariant.0 c.self.invariant.1 c.open.ensures.cells c.open.ensures.beside in
    let apart = apart_wide i.cells.items c.open.new.cells.items i.beside c.open.new.beside c.self.invariant.0 c.self.invariant.1 c.open.ensures.cells c.open.ensures.beside in
    let absent = rw (← c.self.view_is) at c.requires.absent in
    let none = absent_wide i.cells.items c.open.new.cells.items i.beside c.open.new.beside c.self.invariant.0 c.self.invariant.1 c.open.ensures.cells c.open.ensures.beside c.args.p absent in
    rw (← c.self.view_is) (changed_wide i.cells.items c.open.new.cells.items i.beside c.open.new.beside c.self.invariant.0 c.self.invariant.1 c.open.ensures.cells c.open.ensures.beside
    c.open.new.cells.items c.insert.new.self c.args.p (Some c.args.row)
    (changed_beside c.open.new.cells.items c.open.new.beside c.insert.new.self c.args.p (Some c.args.row) c.insert.ensures.changes none.0))
