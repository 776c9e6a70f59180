-- Rows in cells, and beside.
use Rattle.std.proofs.Common.{◌≡◌, ◌≢◌, ◌∙◌, ◌⊎◌, inl, inr, ℕ, zero, suc, ◌<◌, true, false, Bool, List, [], ◌∷◌, ◌++◌, length, refl, ap, sym, arith}
use Rattle.std.specs.Prelude.{Option, Some, None, is_some, slice_index_or, Result, Ok, Err, OnErr, slice_set, if◌then◌else◌}
use Rattle.std.proofs.lemmas.Bool.{cases_eq}
use Rattle.std.proofs.lemmas.List.{get_or-set_same, get_or-set_other}
use Rattle.std.proofs.lemmas.Option.{none-some}
use Rattle.inc_value.specs.declared.node.Point.{Point}
use Rattle.point_map.specs.Rows.{Rows, Place, row_in, at, same_point, StandsOnce, Changes, KeepsRows}
use Rattle.point_map.proofs.Places.{PlaceChanges, RowChanges, row_once, row_absent, rows_agree, row_inserted, point_of_pair, point_cases, stands_nowhere, within}
use Rattle.slot_map.specs.Slots.{cell, rows_of, IsBySlot, IsFreeCell, IsApart}

-- what holds is there with an error
pub on_err : {A E : Type 0} {P : Type 0} (r : Result A E) → P → OnErr r P
on_err (Ok x) h = tt
on_err (Err e) h = h

module _ {R : Type 0} where
  -- the first of two rows, if it is there
  abbrev pub first_of : Option R → Option R → Option R
  first_of None b = b
  first_of (Some r) b = Some r

  chosen_first : (b : Bool) (r : R) (x y : Option R) → (if b then Some r else first_of x y) ≡ first_of (if b then Some r else x) y
  chosen_first true r x y = refl
  chosen_first false r x y = refl

  first_alone : (x : Option R) → first_of x None ≡ x
  first_alone None = refl
  first_alone (Some r) = refl

  -- what is in the first of two lists is found there
  pub row_in_both : (xs ys : List (Place R)) (p : Point) → row_in (xs ++ ys) p ≡ first_of (row_in xs p) (row_in ys p)
  row_in_both [] ys p = refl
  row_in_both (None ∷ rest) ys p = row_in_both rest ys p
  row_in_both (Some e ∷ rest) ys p = rw (row_in_both rest ys p) (chosen_first (same_point e.0 p) e.1 (row_in rest p) (row_in ys p))

  -- no point stands in two cells
  pub stands_once : (cells : List (Place R)) → IsBySlot cells → StandsOnce cells
  stands_once cells by i j p a b at_i at_j = sym (by.slot i p a at_i) ∙ by.slot j p b at_j

  -- the row of a point that has its cell
  pub row_of_cell : (cells : List (Place R)) (beside : Rows R) (p : Point) (r : R) → IsBySlot cells → cell cells p.node.slot ≡ Some (p, r)
      → at (rows_of cells beside) p ≡ Some r
  row_of_cell cells beside p r by there =
      row_in_both cells beside.places p
      ∙ ap (λ x. first_of x (row_in beside.places p)) (row_once cells p.node.slot p r (stands_once cells by) there)

  -- a point whose cell has it not stands in none
  pub no_cell : (cells : List (Place R)) (p : Point) → IsBySlot cells → ((r : R) → cell cells p.node.slot ≢ Some (p, r)) → row_in cells p ≡ None
  no_cell cells p by other = row_absent cells p (λ r s. other r (ap (cell cells) (by.slot s.0 p r s.1) ∙ s.1))

  -- its row is beside
  pub row_beside : (cells : List (Place R)) (beside : Rows R) (p : Point) → row_in cells p ≡ None → at (rows_of cells beside) p ≡ at beside p
  row_beside cells beside p none = row_in_both cells beside.places p ∙ ap (λ x. first_of x (row_in beside.places p)) none

  -- one cell changes
  pub cell_set : (cells : List (Place R)) (i : ℕ) (e : Place R) → i < length cells → PlaceChanges cells (slice_set cells i e) i e
  cell_set cells i e within = record {
    changed = get_or-set_same cells i e None within;
    others = λ j differs. get_or-set_other cells i j e None differs;
  }

  -- a change in the cells, of a point that isn't beside
  pub changed_in_cells : (old new : List (Place R)) (beside : Rows R) (p : Point) (row : Option R) → RowChanges old new p row → at beside p ≡ None
      → Changes (rows_of old beside) (rows_of new beside) p row
  changed_in_cells old new beside p row c none = record {
    changed = row_in_both new beside.places p ∙ (ap (λ x. first_of x (row_in beside.places p)) c.changed ∙ (ap (first_of row) none ∙ first_alone row));
    others = λ q differs. row_in_both new beside.places q
        ∙ (ap (λ x. first_of x (row_in beside.places q)) (c.others q differs) ∙ sym (row_in_both old beside.places q));
  }

  -- a change beside, of a point that has no cell
  pub changed_beside : (cells : List (Place R)) (old new : Rows R) (p : Point) (row : Option R) → Changes old new p row → row_in cells p ≡ None
      → Changes (rows_of cells old) (rows_of cells new) p row
  changed_beside cells old new p row c none = record {
    changed = row_beside cells new p none ∙ c.changed;
    others = λ q differs. row_in_both cells new.places q ∙ (ap (first_of (row_in cells q)) (c.others q differs) ∙ sym (row_in_both cells old.places q));
  }

  -- cells stay by their slots where one gets another row for its point, or is vacated
  module _ (cells new : List (Place R)) (beside : Rows R) (p : Point) (r : R) (by : IsBySlot cells) (apart : IsApart cells beside)
      (there : cell cells p.node.slot ≡ Some (p, r)) where
    was : (e : Place R) → PlaceChanges cells new p.node.slot e → ((i : ℕ) (q : Point) (s : R) → e ≡ Some (q, s) → q ≡ p) → (i : ℕ) (q : Point) (s : R)
        → cell new i ≡ Some (q, s) → (t : R) × (cell cells i ≡ Some (q, t))
    was e c same i q s h = elim (cases_eq i p.node.slot) [
      | inl is ↦
          let e_is = sym c.changed ∙ (ap (cell new) (sym is) ∙ h) in
          (r, rw (is, same i q s e_is) there)
      | inr differs ↦ (s, sym (c.others i differs) ∙ h)
    ]

    pub by_slot_still : (e : Place R) → PlaceChanges cells new p.node.slot e → ((i : ℕ) (q : Point) (s : R) → e ≡ Some (q, s) → q ≡ p) → IsBySlot new
    by_slot_still e c same = record {
      slot = λ i q s h. let w = was e c same i q s h in by.slot i q w.0 w.1;
      main = λ i q s h. let w = was e c same i q s h in by.main i q w.0 w.1;
    }

    pub apart_still : (e : Place R) → PlaceChanges cells new p.node.slot e → ((i : ℕ) (q : Point) (s : R) → e ≡ Some (q, s) → q ≡ p) → IsApart new beside
    apart_still e c same i q s h = let w = was e c same i q s h in apart i q w.0 w.1

  -- what is in a cell stays apart from a map beside that changes at another point
  pub apart_changed : (cells : List (Place R)) (old new : Rows R) (p : Point) (row : Option R) → IsApart cells old → Changes old new p row
      → row_in cells p ≡ None → IsApart cells new
  apart_changed cells old new p row apart c none i q s h = elim (point_cases q p) [
    | inl same ↦ absurd (stands_nowhere cells q s (ap (row_in cells) same ∙ none) (i, h))
    | inr differs ↦ c.others q differs ∙ apart i q s h
  ]

  -- what is in neither
  none_first : (x y : Option R) → first_of x y ≡ None → (x ≡ None) × (y ≡ None)
  none_first None y h = (refl, h)
  none_first (Some r) y h = absurd (none-some r (sym h))

  pub none_in_both : (cells : List (Place R)) (beside : Rows R) (p : Point) → at (rows_of cells beside) p ≡ None → (row_in cells p ≡ None) × (at beside p ≡ None)
  none_in_both cells beside p h = none_first (row_in cells p) (row_in beside.places p) (sym (row_in_both cells beside.places p) ∙ h)

  -- the same cells, and the same rows beside
  module _ (cells wide : List (Place R)) (beside roomy : Rows R) (by : IsBySlot cells) (apart : IsApart cells beside)
      (same : (i : ℕ) → cell wide i ≡ cell cells i) (kept : KeepsRows beside roomy) where
    pub by_slot_wide : IsBySlot wide
    by_slot_wide = record { slot = λ i q s h. by.slot i q s (sym (same i) ∙ h); main = λ i q s h. by.main i q s (sym (same i) ∙ h) }

    pub apart_wide : IsApart wide roomy
    apart_wide i q s h = kept q ∙ apart i q s (sym (same i) ∙ h)

    cells_kept : (q : Point) → row_in wide q ≡ row_in cells q
    cells_kept q = rows_agree cells wide q (stands_once wide by_slot_wide) (λ r s. (s.0, same s.0 ∙ s.1)) (λ r s. (s.0, sym (same s.0) ∙ s.1))

    pub rows_wide : KeepsRows (rows_of cells beside) (rows_of wide roomy)
    rows_wide q = row_in_both wide roomy.places q
        ∙ (ap (λ x. first_of x (row_in roomy.places q)) (cells_kept q) ∙ (ap (first_of (row_in cells q)) (kept q) ∙ sym (row_in_both cells beside.places q)))

    pub absent_wide : (p : Point) → at (rows_of cells beside) p ≡ None → (row_in wide p ≡ None) × (at roomy p ≡ None)
    absent_wide p none = none_in_both wide roomy p (rows_wide p ∙ none)

    pub changed_wide : (c : List (Place R)) (b : Rows R) (p : Point) (row : Option R) → Changes (rows_of wide roomy) (rows_of c b) p row
        → Changes (rows_of cells beside) (rows_of c b) p row
    changed_wide c b p row h = record { changed = h.changed; others = λ q differs. h.others q differs ∙ rows_wide q }

  -- a point comes into its cell
  module _ (cells : List (Place R)) (beside : Rows R) (p : Point) (r : R) (by : IsBySlot cells) (apart : IsApart cells beside)
      (free : IsFreeCell cells p) (none : row_in cells p ≡ None) (out : at beside p ≡ None) where
    abbrev filled : List (Place R)
    filled = slice_set cells p.node.slot (Some (p, r))

    filling : PlaceChanges cells filled p.node.slot (Some (p, r))
    filling = cell_set cells p.node.slot (Some (p, r)) free.within

    told : (i : ℕ) (q : Point) (s : R) → cell filled i ≡ Some (q, s) → ((i ≡ p.node.slot) × (q ≡ p)) ⊎ (cell cells i ≡ Some (q, s))
    told i q s h = elim (cases_eq i p.node.slot) [
      | inl is ↦ inl (is, sym (point_of_pair p q r s (sym filling.changed ∙ (ap (cell filled) (sym is) ∙ h))))
      | inr differs ↦ inr (sym (filling.others i differs) ∙ h)
    ]

    pub by_slot_filled : IsBySlot filled
    by_slot_filled = record {
      slot = λ i q s h. elim (told i q s h) [ inl is ↦ ap (λ x. x.node.slot) is.1 ∙ sym is.0 | inr before ↦ by.slot i q s before ];
      main = λ i q s h. elim (told i q s h) [ inl is ↦ ap (λ x. x.part) is.1 ∙ free.is_main | inr before ↦ by.main i q s before ];
    }

    pub apart_filled : IsApart filled beside
    apart_filled i q s h = elim (told i q s h) [ inl is ↦ ap (at beside) is.1 ∙ out | inr before ↦ apart i q s before ]

    pub changed_filled : Changes (rows_of cells beside) (rows_of filled beside) p (Some r)
    changed_filled = changed_in_cells cells filled beside p (Some r)
        (row_inserted cells filled p.node.slot p r (stands_once cells by) none free.empty filling) out

  -- a cell within, whatever stands for one that isn't
  same_cell : (cells : List (Place R)) (i : ℕ) (d : Place R) → i < length cells → slice_index_or cells i d ≡ slice_index_or cells i None
  same_cell [] i d h = absurd (omega (arith, h))
  same_cell (x ∷ rest) zero d h = refl
  same_cell (x ∷ rest) (suc i) d h = same_cell rest i d (omega (arith, h))

  -- what is lent of a point's cell is the point with its row
  pub lent_cell : (cells : List (Place R)) (p : Point) (r : R) (x : Point × R) (d : Place R) → cell cells p.node.slot ≡ Some (p, r) → Some x ≡ d
      → d ≡ slice_index_or cells p.node.slot d → x ≡ (p, r)
  lent_cell cells p r x d there lent is =
      let e : ◌≡◌ {A = Option (Point × R)} (Some x) (Some (p, r)) =
      lent ∙ (is ∙ (same_cell cells p.node.slot d (within cells p.node.slot p r there) ∙ there)) in cc

  pub none_where : (o : Option R) → false ≡ is_some o → o ≡ None
  none_where None h = refl
  none_where (Some r) h = absurd (let e = h in cc)
