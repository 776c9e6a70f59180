use Rattle.std.proofs.Common.{◌≡◌, ◌∙◌, Some, refl, ap, sym}
use Rattle.std.specs.Prelude.{slice_set}
use Rattle.point_map.proofs.Places.{row_replaced, point_of_pair, within}
use Rattle.slot_map.proofs.Cells.{row_of_cell, no_cell, row_beside, stands_once, cell_set, changed_in_cells, changed_beside}
use Rattle.slot_map.proofs.Cells.{by_slot_still, apart_still, apart_changed, lent_cell, none_where}
use Rattle.slot_map.proofs.map.SlotMap.get_mut.Goals as goal

pub invariant_of-self-lent : goal.invariant_of-self-lent
invariant_of-self-lent g c w =
    let i = c.self.inside in
    let cells = i.cells.items in
    let p = c.args.p in
    let f = c.if-has_cell.ensures.found refl in
    let there = rw c.deref.ensures.value at f.1 in
    let lent = rw c.unwrap-there.ensures at c.as_mut.ensures.value in
    let pair = lent_cell cells p f.0 c.unwrap-there.result.now c.index_mut.result.now there lent c.index_mut.ensures.value in
    let point : c.unwrap-there.result.now.0 ≡ p = ap (λ x. x.0) pair in
    let set = cell_set cells p.node.slot (Some (p, w)) (within cells p.node.slot p f.0 there) in
    rw point (
      by_slot_still cells (slice_set cells p.node.slot (Some (p, w))) i.beside p f.0 c.self.invariant.0 c.self.invariant.1 there (Some (p, w)) set
          (λ j q s h. sym (point_of_pair p q w s h)),
      apart_still cells (slice_set cells p.node.slot (Some (p, w))) i.beside p f.0 c.self.invariant.0 c.self.invariant.1 there (Some (p, w)) set
          (λ j q s h. sym (point_of_pair p q w s h)),
    )

pub returns-then-has_cell : goal.returns-then-has_cell
returns-then-has_cell g c =
    let i = c.self.inside in
    let cells = i.cells.items in
    let p = c.args.p in
    let f = c.if-has_cell.ensures.found refl in
    let there = rw c.deref.ensures.value at f.1 in
    let lent = rw c.unwrap-there.ensures at c.as_mut.ensures.value in
    let pair = lent_cell cells p f.0 c.unwrap-there.result.now c.index_mut.result.now there lent c.index_mut.ensures.value in
    let point : c.unwrap-there.result.now.0 ≡ p = ap (λ x. x.0) pair in (
      (
        refl,
        λ w.
            let new = slice_set cells p.node.slot (Some (p, w)) in
            let set = cell_set cells p.node.slot (Some (p, w)) (within cells p.node.slot p f.0 there) in
            rw (← c.self.view_is, point) (changed_in_cells cells new i.beside p (Some w)
            (row_replaced cells new p.node.slot p f.0 w (stands_once cells c.self.invariant.0) there set) (c.self.invariant.1 p.node.slot p f.0 there)),
        refl,
      ),
      record {
        writes_back = tt;
        value = rw (← c.self.view_is) (ap (λ x. Some x.1) pair ∙ sym (row_of_cell cells i.beside p f.0 c.self.invariant.0 there));
      },
    )

pub returns-then-not-holds : goal.returns-then-not-holds
returns-then-not-holds g c =
    let i = c.self.inside in
    let other = rw c.deref.ensures.value at (c.if-has_cell.ensures.other refl) in
    let none = no_cell i.cells.items c.args.p c.self.invariant.0 other in (
      (refl, λ w. tt, c.self.view_is),
      record {
        writes_back = tt;
        value = rw (← c.self.view_is) (sym (row_beside i.cells.items i.beside c.args.p none ∙ none_where _ c.if-not-holds.ensures));
      },
    )

pub invariant_of-self-lent-2 : goal.invariant_of-self-lent-2
invariant_of-self-lent-2 g c w =
    let i = c.self.inside in
    let other = rw c.deref.ensures.value at (c.if-has_cell.ensures.other refl) in
    let none = no_cell i.cells.items c.args.p c.self.invariant.0 other in
    let written = rw c.unwrap-row.ensures at (c.get_mut.follows.holds w) in
    (c.self.invariant.0, apart_changed i.cells.items i.beside (c.get_mut.follows.lender w) c.args.p (Some w) c.self.invariant.1 written.changes none)

pub returns : goal.returns
returns g c =
    let i = c.self.inside in
    let other = rw c.deref.ensures.value at (c.if-has_cell.ensures.other refl) in
    let none = no_cell i.cells.items c.args.p c.self.invariant.0 other in (
      (
        refl,
        λ w.
            let written = rw c.unwrap-row.ensures at (c.get_mut.follows.holds w) in
            rw (← c.self.view_is) (changed_beside i.cells.items i.beside (c.get_mut.follows.lender w) c.args.p (Some w) written.changes none),
        refl,
      ),
      record {
        writes_back = tt;
        value = rw (← c.self.view_is) ((rw c.unwrap-row.ensures at c.get_mut.ensures.value)
            ∙ sym (row_beside i.cells.items i.beside c.args.p none));
      },
    )
