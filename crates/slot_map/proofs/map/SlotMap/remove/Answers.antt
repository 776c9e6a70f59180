use Rattle.std.proofs.Common.{◌∙◌, None, refl, ap, sym, option_map}
use Rattle.std.specs.Prelude.{slice_set}
use Rattle.point_map.proofs.Places.{row_removed, within}
use Rattle.slot_map.proofs.Cells.{row_of_cell, no_cell, row_beside, stands_once, cell_set, changed_in_cells, changed_beside, by_slot_still, apart_still}
use Rattle.slot_map.proofs.map.SlotMap.remove.Goals as goal

pub invariant_of-self : goal.invariant_of-self
invariant_of-self g c =
    let i = c.self.inside in
    let cells = i.cells.items in
    let p = c.args.p in
    let f = c.if-has_cell.ensures.found refl in
    let there = rw c.deref.ensures.value at f.1 in
    let set = cell_set cells p.node.slot (None) (within cells p.node.slot p f.0 there) in
    rw c.exchange.ensures.now (
      by_slot_still cells (slice_set cells p.node.slot (None)) i.beside p f.0 c.self.invariant.0 c.self.invariant.1 there (None) set (λ j q s h. absurd (let n = h in cc)),
      apart_still cells (slice_set cells p.node.slot (None)) i.beside p f.0 c.self.invariant.0 c.self.invariant.1 there (None) set (λ j q s h. absurd (let n = h in cc)),
    )

pub returns-then-has_cell-clause-value : goal.returns-then-has_cell-clause-value
returns-then-has_cell-clause-value g c =
    let i = c.self.inside in
    let f = c.if-has_cell.ensures.found refl in
    let there = rw c.deref.ensures.value at f.1 in
    rw (← c.self.view_is) (row_of_cell i.cells.items i.beside c.args.p f.0 c.self.invariant.0 there
    ∙ sym (c.exchange.ensures.was ∙ ap (option_map (λ e. e.1)) there))

pub returns-then-has_cell-clause-changes : goal.returns-then-has_cell-clause-changes
returns-then-has_cell-clause-changes g c =
    let i = c.self.inside in
    let cells = i.cells.items in
    let p = c.args.p in
    let f = c.if-has_cell.ensures.found refl in
    let there = rw c.deref.ensures.value at f.1 in
    let new = slice_set cells p.node.slot (None) in
    let set = cell_set cells p.node.slot (None) (within cells p.node.slot p f.0 there) in
    rw (← c.self.view_is, c.exchange.ensures.now) (changed_in_cells cells new i.beside p (None)
    (row_removed cells new p.node.slot p f.0 (stands_once cells c.self.invariant.0) there set) (c.self.invariant.1 p.node.slot p f.0 there))

pub remove-requires : goal.remove-requires
remove-requires g c =
    let i = c.self.inside in
    let other = rw c.deref.ensures.value at (c.if-has_cell.ensures.other refl) in
    let none = no_cell i.cells.items c.args.p c.self.invariant.0 other in
    record { there = rw (← c.self.view_is, row_beside i.cells.items i.beside c.args.p none) at c.requires.there }

pub returns-clause-value : goal.returns-clause-value
returns-clause-value g c =
    let i = c.self.inside in
    let other = rw c.deref.ensures.value at (c.if-has_cell.ensures.other refl) in
    let none = no_cell i.cells.items c.args.p c.self.invariant.0 other in
    rw (← c.self.view_is) (row_beside i.cells.items i.beside c.args.p none ∙ c.remove.ensures.value)

pub returns-clause-changes : goal.returns-clause-changes
returns-clause-changes g c =
    let i = c.self.inside in
    let other = rw c.deref.ensures.value at (c.if-has_cell.ensures.other refl) in
    let none = no_cell i.cells.items c.args.p c.self.invariant.0 other in
    rw (← c.self.view_is) (changed_beside i.cells.items i.beside c.remove.new.self c.args.p (None) c.remove.ensures.changes none)
