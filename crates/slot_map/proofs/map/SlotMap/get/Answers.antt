use Rattle.std.proofs.Common.{◌∙◌, refl, ap, sym}
use Rattle.std.specs.Prelude.{option_map}
use Rattle.point_map.specs.Rows.{at}
use Rattle.slot_map.proofs.Cells.{row_of_cell, no_cell, row_beside}
use Rattle.slot_map.proofs.map.SlotMap.get.Goals as goal

pub returns-then-has_cell : goal.returns-then-has_cell
returns-then-has_cell g c =
    let i = c.self.inside in
    let f = c.if-has_cell.ensures.found refl in
    let there = rw c.deref.ensures.value at f.1 in
    let row = rw c.deref-then-has_cell.ensures.value at c.row_at.ensures in
    row ∙ (ap (option_map (λ e. e.1)) there ∙ (sym (row_of_cell i.cells.items i.beside c.args.p f.0 c.self.invariant.0 there)
    ∙ ap (λ m. at m c.args.p) c.self.view_is))

pub returns : goal.returns
returns g c =
    let i = c.self.inside in
    let other = rw c.deref.ensures.value at (c.if-has_cell.ensures.other refl) in
    let none = no_cell i.cells.items c.args.p c.self.invariant.0 other in
    c.find_beside.ensures ∙ (sym (row_beside i.cells.items i.beside c.args.p none) ∙ ap (λ m. at m c.args.p) c.self.view_is)
