-- What is read off rows, at one point.
use Rattle.std.proofs.Common.{◌≡◌, ◌∙◌, inl, inr, ℕ, zero, suc, ◌<◌, ◌≤◌, Bool, true, false, List, [], ◌∷◌, ◌++◌, map, length, refl, ap, sym, arith}
use Rattle.std.specs.Prelude.{Option, Some, None, IsSome, is_some, flat_map, count_by, cond, option_and_then, unwrap_or, slice_get, slice_index_or, if◌then◌else◌}
use Rattle.std.proofs.lemmas.List.Sums.{sum_by-append}
use Rattle.inc_value.specs.declared.node.Point.{Point}
use Rattle.point_map.specs.Rows.{Rows, Place, at, row_in, same_point, Holds, StandsOnce}
use Rattle.point_map.proofs.Places.{pair_of, row_absent, same_point_eq}
use Rattle.link_table.specs.declared.ends.End.{End}
use Rattle.link_table.specs.Links.{link, same_link, times}
use Rattle.link_table.specs.Ends.{ends_at, ends_with, row_ends, points}
use Rattle.link_table.proofs.Counts.{kids_times, others_times}
use Rattle.link_table.proofs.Lists.{split}
use Rattle.necessity.specs.Need.{root_times}
use Rattle.point_rows.specs.declared.row.Row.{Row}
use Rattle.point_rows.specs.declared.row.Side.{Side}
use Rattle.point_rows.specs.declared.row.Side.TheVariants.{Kids, Readers}
use Rattle.point_rows.specs.Cells.{placed, cell, cells, height_in, above_zero, roots_in, some_items, read_in, side_in, link_cell, heights_of, roots_of, links_of, read_of, side_of}

-- a point that stands first has no other row
pub no_other_row : (q p : Point) (r : Row) (rest : List (Place Row)) → StandsOnce (Some (q, r) ∷ rest) → same_point q p ≡ true → row_in rest p ≡ None
no_other_row q p r rest once s =
    row_absent rest p (λ w st.
    let i = once 0 (suc st.0) p r w (pair_of q p r r (same_point_eq q p s) refl) st.1 in absurd (omega (arith, i)))

-- the rest of places at which each point stands once
pub once_rest : (e : Place Row) (rest : List (Place Row)) → StandsOnce (e ∷ rest) → StandsOnce rest
once_rest e rest once i j p a b hi hj = let s = once (suc i) (suc j) p a b hi hj in omega (arith, s)

module _ {A : Type 0} (f : Row → Option A) where
  first : (q p : Point) (r : Row) (rest : List (Place Row)) (b : Bool) (o : Option A) → same_point q p ≡ b → f r ≡ o
      → (b ≡ true → row_in rest p ≡ None) → row_in (flat_map (cell f) rest) p ≡ option_and_then f (row_in rest p)
      → row_in (placed q o ++ flat_map (cell f) rest) p ≡ option_and_then f (if b then Some r else row_in rest p)
  first q p r rest true None s h none next = next ∙ ap (option_and_then f) (none refl) ∙ sym h
  first q p r rest false None s h none next = next
  first q p r rest true (Some a) s h none next = rw s (sym h)
  first q p r rest false (Some a) s h none next = rw s next

  row_in_cells : (xs : List (Place Row)) → StandsOnce xs → (p : Point) → row_in (flat_map (cell f) xs) p ≡ option_and_then f (row_in xs p)
  row_in_cells [] once p = refl
  row_in_cells (None ∷ rest) once p = row_in_cells rest (once_rest None rest once) p
  row_in_cells (Some e ∷ rest) once p =
      first e.0 p e.1 rest (same_point e.0 p) (f e.1) refl refl (no_other_row e.0 p e.1 rest once)
      (row_in_cells rest (once_rest (Some e) rest once) p)

  -- at a point stands what its row gives
  pub at_cells : (m : Rows Row) → StandsOnce m.places → (p : Point) → at (cells f m) p ≡ option_and_then f (at m p)
  at_cells m once p = row_in_cells m.places once p

module _ (m : Rows Row) (once : StandsOnce m.places) (p : Point) where
  pub height_at : at (heights_of m) p ≡ option_and_then height_in (at m p)
  height_at = at_cells height_in m once p

  pub ends_is : (s : Side) → ends_at (side_of s m) p ≡ row_ends (option_and_then (side_in s) (at m p))
  ends_is s = ap row_ends (at_cells (side_in s) m once p)

  pub roots_is : root_times (roots_of m) p ≡ unwrap_or (option_and_then roots_in (at m p)) 0
  roots_is = ap (λ o. unwrap_or o 0) (at_cells roots_in m once p)

  some_height : (o : Option Row) → IsSome (option_and_then height_in o) → IsSome o
  some_height None s = let f = s in absurd cc
  some_height (Some r) s = refl

  -- a point with a height has a row
  pub holds_row : Holds (heights_of m) p → Holds m p
  holds_row h = some_height (at m p) (rw (← height_at) h)

pub above_back : (n : ℕ) → unwrap_or (above_zero n) 0 ≡ n
above_back zero = refl
above_back (suc n) = refl

pub items_back : {A : Type 0} (xs : List A) → unwrap_or (some_items xs) [] ≡ xs
items_back [] = refl
items_back (x ∷ xs) = refl

read_from : (o : Option Row) → unwrap_or (option_and_then read_in o) [] ≡ points (row_ends (option_and_then (side_in Readers) o))
read_from None = refl
read_from (Some row) = items_back (points row.readers.items)

-- the readers of a point are at the other ends of its links
pub read_is : (m : Rows Row) → StandsOnce m.places → (q : Point) → unwrap_or (at (read_of m) q) [] ≡ points (ends_at (side_of Readers m) q)
read_is m once q =
    ap (λ o. unwrap_or o []) (at_cells read_in m once q) ∙ read_from (at m q) ∙ sym (ap points (ends_is m once q Readers))

-- the links of the first row, where its point has no other
first_times : (r : Point) (v : Row) (rest : List (Place Row)) (q : Point) → row_in rest r ≡ None
    → count_by (same_link r q) (flat_map link_cell rest) ≡ ends_with (row_ends (option_and_then (side_in Kids) (row_in rest r))) q
    → count_by (same_link r q) (flat_map link_cell (Some (r, v) ∷ rest)) ≡ ends_with v.kids.items q
first_times r v rest q gone next =
    let none : count_by (same_link r q) (flat_map link_cell rest) ≡ 0 = rw gone at next in
    let parts = sum_by-append (λ l. cond (same_link r q l) 1 0) (map (λ k. link r k.point) v.kids.items) (flat_map link_cell rest) in
    let here = kids_times r q v.kids.items in omega (arith, parts, none, here)

row_times : (xs : List (Place Row)) → StandsOnce xs → (p q : Point)
    → count_by (same_link p q) (flat_map link_cell xs) ≡ ends_with (row_ends (option_and_then (side_in Kids) (row_in xs p))) q
row_times [] once p q = refl
row_times (None ∷ rest) once p q = row_times rest (once_rest None rest once) p q
row_times (Some (r, v) ∷ rest) once p q =
    let next = row_times rest (once_rest (Some (r, v)) rest once) p q in
    elim (split (same_point r p)) [
      | inl same ↦ let at_p = same_point_eq r p same in let gone = no_other_row r p v rest once same in
          let first = first_times r v rest q (rw (← at_p) at gone) (rw (← at_p) at next) in rw same (rw (← at_p) first)
      | inr other ↦
          let parts = sum_by-append (λ l. cond (same_link p q l) 1 0) (map (λ k. link r k.point) v.kids.items) (flat_map link_cell rest) in
          let none = others_times r p q v.kids.items other in rw other (omega (arith, parts, none, next))
    ]

-- links are counted as the ends of their reader
pub times_is : (m : Rows Row) → StandsOnce m.places → (p q : Point) → times (links_of m) p q ≡ ends_with (ends_at (side_of Kids m) p) q
times_is m once p q = row_times m.places once p q ∙ sym (ap (λ l. ends_with l q) (ends_is m once p Kids))

some_same : (o : Option Row) → is_some (option_and_then height_in o) ≡ is_some o
some_same None = refl
some_same (Some row) = refl

-- a point has a height where it has a row
pub held_same : (m : Rows Row) → StandsOnce m.places → (p : Point) → is_some (at (heights_of m) p) ≡ is_some (at m p)
held_same m once p = ap is_some (height_at m once p) ∙ some_same (at m p)

pub points_length : (ends : List End) → length ends ≡ length (points ends)
points_length [] = refl
points_length (e ∷ rest) = ap suc (points_length rest)

pub points_at : (ends : List End) (i : ℕ) (d : End) → i < length ends → slice_get (points ends) i ≡ Some (slice_index_or ends i d).point
points_at [] i d h = absurd (omega (arith, h))
points_at (e ∷ rest) zero d h = refl
points_at (e ∷ rest) (suc i) d h = points_at rest i d (omega (arith, h))

pub points_past : (ends : List End) (i : ℕ) → length ends ≤ i → slice_get (points ends) i ≡ None
points_past [] i h = refl
points_past (e ∷ rest) zero h = absurd (omega (arith, h))
points_past (e ∷ rest) (suc i) h = points_past rest i (omega (arith, h))
