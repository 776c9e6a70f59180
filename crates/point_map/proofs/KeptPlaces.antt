-- Points that buckets keep, and the places that a contract of a map sees.
use Rattle.std.proofs.Common.{◌≡◌, ◌≢◌, ◌∙◌, ℕ, zero, suc, ◌<◌, ◌≤◌, List, [], ◌∷◌, length, refl, ap, sym, subst, inl, inr, arith, is_some, count_by, option_map}
use Rattle.std.specs.Prelude.{Option, Some, None, Result, Ok, Err, slice_index_or, slice_set, IfSome, IfNone, IfOk, OnSome}
use Rattle.std.proofs.Math.ListN.{get_or-map}
use Rattle.std.proofs.lemmas.Bool.{cases_eq}
use Rattle.std.proofs.lemmas.List.{length-map, get_or-set_same, get_or-set_other, get_or_past}
use Rattle.std.proofs.lemmas.Grind.{common_steps}
use Rattle.inc_value.specs.declared.node.Point.{Point}
use Rattle.point_map.specs.Rows.{Rows, at, standing, row_in, IsWalk}
use Rattle.point_map.specs.Buckets.{Kept, Buckets, kept_at, kept_with, with_row, KeptChanges, IsTaken}
use Rattle.point_map.specs.BySlot.{entry_of, places_of, rows_of, own_bucket, IsInOwn, IsBySlot}
use Rattle.point_map.specs.Lends.{IsWritten}
use Rattle.point_map.proofs.Places.{PlaceChanges, RowChanges, row_once, row_absent, row_inserted, row_removed, row_replaced, row_taken, walk}

some_same : {A : Type 0} (a b : A) → Some a ≡ Some b → a ≡ b
some_same a b h = cc

pub no_some : {A : Type 0} (a : A) → ◌≡◌ {A = Option A} None (Some a) → ⊥
no_some a h = cc

-- what is so whatever the answer
pub on_some : {A P : Type 0} (o : Option A) → P → OnSome o P
on_some None h = tt
on_some (Some a) h = h

module _ {R : Type 0} where
  -- what stands at a place of what is kept
  pub seen_at : (kept : List (Option (Kept R))) (i : ℕ)
      → slice_index_or (places_of kept) i None ≡ option_map entry_of (slice_index_or kept i None)
  seen_at kept i = get_or-map (option_map entry_of) kept i None

  -- a place with a point
  pub stands : (b : Buckets R) (i : ℕ) (k : Kept R) → kept_at b i ≡ Some k → slice_index_or (places_of b.kept) i None ≡ Some (k.point, k.row)
  stands b i k there = seen_at b.kept i ∙ ap (option_map entry_of) there

  -- one place of the buckets changes, and so does one place that is seen
  place_changes : (old new : Buckets R) (i : ℕ) (k : Option (Kept R)) → KeptChanges old new i k
      → PlaceChanges (places_of old.kept) (places_of new.kept) i (option_map entry_of k)
  place_changes old new i k changes = record {
    changed = seen_at new.kept i ∙ ap (option_map entry_of) changes.changed;
    others = λ j differs. seen_at new.kept j ∙ ap (option_map entry_of) (changes.others j differs) ∙ sym (seen_at old.kept j);
  }

  -- as many places are seen with a point as keep one
  pub count_seen : (kept : List (Option (Kept R))) → count_by is_some (places_of kept) ≡ count_by is_some kept
  count_seen [] = refl
  count_seen (None ∷ rest) = grind (arith, common_steps, count_seen rest)
  count_seen (Some k ∷ rest) = grind (arith, common_steps, count_seen rest)

  -- a point in place of another keeps the count
  count_set : (kept : List (Option (Kept R))) (i : ℕ) (k l : Kept R) → slice_index_or kept i None ≡ Some k
      → count_by is_some (slice_set kept i (Some l)) ≡ count_by is_some kept
  count_set [] i k l there = refl
  count_set (e ∷ rest) zero k l there = grind (arith, common_steps)
  count_set (e ∷ rest) (suc i) k l there = grind (arith, common_steps, count_set rest i k l there)

  -- where no place keeps a point the count is 0
  pub none_counted : (kept : List (Option (Kept R))) → ((i : ℕ) (k : Kept R) → slice_index_or kept i None ≡ Some k → ⊥) → count_by is_some kept ≡ 0
  none_counted [] never = refl
  none_counted (None ∷ rest) never = none_counted rest (λ i k there. never (suc i) k there)
  none_counted (Some k ∷ rest) never = absurd (never 0 k refl)

  in_own : (old new : Buckets R) (k : Kept R) → new.width ≡ old.width → IsInOwn old.width k → IsInOwn new.width k
  in_own old new k width own = subst (λ w. IsInOwn w k) (sym width) own

  -- what a change of buckets by slot leaves: buckets by slot, and this row at the point alone
  pub record SlotChanges (old new : Buckets R) (p : Point) (row : Option R) : Type 0 where
    pub by_slot : IsBySlot new
    pub changed : row_in (places_of new.kept) p ≡ row
    pub others : (q : Point) → q ≢ p → row_in (places_of new.kept) q ≡ row_in (places_of old.kept) q

  slot_changes : (old new : Buckets R) (p : Point) (row : Option R) → RowChanges (places_of old.kept) (places_of new.kept) p row
      → ((i : ℕ) (k : Kept R) → kept_at new i ≡ Some k → IsInOwn new.width k) → (0 < new.spare → 0 < new.width) → SlotChanges old new p row
  slot_changes old new p row rows own wide = record {
    by_slot = record { once = rows.once; own = own; wide = wide };
    changed = rows.changed;
    others = rows.others;
  }

  own_after : (old new : Buckets R) (i : ℕ) (e : Option (Kept R)) → IsBySlot old → KeptChanges old new i e → new.width ≡ old.width
      → ((k : Kept R) → e ≡ Some k → IsInOwn old.width k) → (j : ℕ) (k : Kept R) → kept_at new j ≡ Some k → IsInOwn new.width k
  own_after old new i e by_slot changes width own j k there =
      elim (cases_eq j i) [
        | inl same ↦ in_own old new k width (own k (sym changes.changed ∙ ap (kept_at new) (sym same) ∙ there))
        | inr differs ↦ in_own old new k width (by_slot.own j k (sym (changes.others j differs) ∙ there))
      ]

  -- a point is put into its bucket
  pub slot_put : (old new : Buckets R) (i : ℕ) (k : Kept R) → IsBySlot old → row_in (places_of old.kept) k.point ≡ None
      → kept_at old i ≡ None → KeptChanges old new i (Some k) → new.width ≡ old.width → IsInOwn old.width k
      → SlotChanges old new k.point (Some k.row)
  slot_put old new i k by_slot absent vacant changes width own =
      slot_changes old new k.point (Some k.row)
      (row_inserted (places_of old.kept) (places_of new.kept) i k.point k.row by_slot.once absent
      (seen_at old.kept i ∙ ap (option_map entry_of) vacant) (place_changes old new i (Some k) changes))
      (own_after old new i (Some k) by_slot changes width (λ l same. subst (IsInOwn old.width) (some_same k l same) own))
      (λ room. subst (λ w. 0 < w) (sym width) own.wide)

  -- a point is taken off its bucket
  pub slot_off : (old new : Buckets R) (i : ℕ) (k : Kept R) → IsBySlot old → kept_at old i ≡ Some k → KeptChanges old new i None
      → new.width ≡ old.width → SlotChanges old new k.point None
  slot_off old new i k by_slot there changes width =
      slot_changes old new k.point None
      (row_removed (places_of old.kept) (places_of new.kept) i k.point k.row by_slot.once (stands old i k there)
      (place_changes old new i None changes))
      (own_after old new i None by_slot changes width (λ l same. absurd (no_some l same)))
      (λ room. subst (λ w. 0 < w) (sym width) (by_slot.own i k there).wide)

  own_taken : (old new : Buckets R) (i : ℕ) → IsBySlot old → IsTaken old new i → new.width ≡ old.width
      → (j : ℕ) (k : Kept R) → kept_at new j ≡ Some k → IsInOwn new.width k
  own_taken old new i by_slot taken width j k there =
      elim (cases_eq j taken.vacated) [
        | inl same ↦ absurd (no_some k (sym taken.vacant ∙ ap (kept_at new) (sym same) ∙ there))
        | inr stays ↦ elim (cases_eq j i) [
          | inl same ↦ in_own old new k width (by_slot.own taken.vacated k
              (sym (taken.moved (λ e. stays (same ∙ sym e))) ∙ ap (kept_at new) (sym same) ∙ there))
          | inr differs ↦ in_own old new k width (by_slot.own j k (sym (taken.others j differs stays) ∙ there))
        ]
      ]

  -- a point is taken off, and another of its bucket may move to its place
  pub slot_taken : (old new : Buckets R) (i : ℕ) (k : Kept R) → IsBySlot old → kept_at old i ≡ Some k → IsTaken old new i
      → new.width ≡ old.width → SlotChanges old new k.point None
  slot_taken old new i k by_slot there taken width =
      slot_changes old new k.point None
      (row_taken (places_of old.kept) (places_of new.kept) i taken.vacated k.point k.row by_slot.once (stands old i k there) (record {
        vacant = seen_at new.kept taken.vacated ∙ ap (option_map entry_of) taken.vacant;
        moved = λ differs. seen_at new.kept i ∙ ap (option_map entry_of) (taken.moved differs) ∙ sym (seen_at old.kept taken.vacated);
        others = λ j not_i not_v. seen_at new.kept j ∙ ap (option_map entry_of) (taken.others j not_i not_v) ∙ sym (seen_at old.kept j);
      }))
      (own_taken old new i by_slot taken width)
      (λ room. subst (λ w. 0 < w) (sym width) (by_slot.own i k there).wide)

  kept_within : (b : Buckets R) (i : ℕ) (k : Kept R) → kept_at b i ≡ Some k → i < length b.kept
  kept_within b i k there = grind (arith, get_or_past)

  written_changes : (b : Buckets R) (i : ℕ) (k : Kept R) (row : R) → kept_at b i ≡ Some k
      → KeptChanges b (with_row b i row) i (Some (kept_with row k))
  written_changes b i k row there = record {
    changed = get_or-set_same b.kept i (option_map (kept_with row) (kept_at b i)) None (kept_within b i k there)
        ∙ ap (option_map (kept_with row)) there;
    others = λ j differs. get_or-set_other b.kept i j (option_map (kept_with row) (kept_at b i)) None differs;
  }

  same_points : (b : Buckets R) (i : ℕ) (k : Kept R) (row : R) (j : ℕ) → kept_at b i ≡ Some k
      → option_map (λ e. e.0) (slice_index_or (places_of (with_row b i row).kept) j None) ≡ option_map (λ e. e.0) (slice_index_or (places_of b.kept) j None)
  same_points b i k row j there =
      let changes = place_changes b (with_row b i row) i (Some (kept_with row k)) (written_changes b i k row there) in
      elim (cases_eq j i) [
        | inl same ↦ subst (λ x. option_map (λ e. e.0) (slice_index_or (places_of (with_row b i row).kept) x None)
            ≡ option_map (λ e. e.0) (slice_index_or (places_of b.kept) x None)) (sym same)
            (ap (option_map (λ e. e.0)) changes.changed ∙ sym (ap (option_map (λ e. e.0)) (stands b i k there)))
        | inr differs ↦ ap (option_map (λ e. e.0)) (changes.others j differs)
      ]

  -- a write of a row is seen as one, and leaves buckets by slot
  pub row_written : (b : Buckets R) (i : ℕ) (k : Kept R) (row : R) → IsBySlot b → kept_at b i ≡ Some k
      → IsWritten (rows_of b) (rows_of (with_row b i row)) k.point row × IsBySlot (with_row b i row)
  row_written b i k row by_slot there =
      let changes = written_changes b i k row there in
      let rows = row_replaced (places_of b.kept) (places_of (with_row b i row).kept) i k.point k.row row by_slot.once (stands b i k there)
      (place_changes b (with_row b i row) i (Some (kept_with row k)) changes) in
      let own = by_slot.own i k there in (
        record {
          changes = record { changed = rows.changed; others = rows.others };
          points = λ j. same_points b i k row j there;
          count = count_seen (with_row b i row).kept
              ∙ ap (λ e. count_by is_some (slice_set b.kept i e)) (ap (option_map (kept_with row)) there)
              ∙ count_set b.kept i k (kept_with row k) there ∙ sym (count_seen b.kept);
          spare = refl;
        },
        record {
          once = rows.once;
          own = own_after b (with_row b i row) i (Some (kept_with row k)) by_slot changes refl
              (λ l same. subst (IsInOwn b.width) (some_same (kept_with row k) l same) (record { wide = own.wide; own = own.own }));
          wide = by_slot.wide;
        },
      )

  -- a point that no place keeps has no row
  no_row : (b : Buckets R) (p : Point) → ((i : ℕ) (k : Kept R) → kept_at b i ≡ Some k → k.point ≡ p → ⊥) → row_in (places_of b.kept) p ≡ None
  no_row b p never = row_absent (places_of b.kept) p (λ r s. at_place s.0 r (slice_index_or b.kept s.0 None) refl s.1)
    where
      at_place : (i : ℕ) (r : R) (o : Option (Kept R)) → kept_at b i ≡ o → slice_index_or (places_of b.kept) i None ≡ Some (p, r) → ⊥
      at_place i r None is h = no_some (p, r) (sym (ap (option_map entry_of) is) ∙ sym (seen_at b.kept i) ∙ h)
      at_place i r (Some k) is h =
          never i k is (ap (λ e. e.0) (some_same (k.point, k.row) (p, r) (sym (stands b i k is) ∙ h)))

  -- where the point's own bucket doesn't have it, it has no row
  absent_from_own : (b : Buckets R) (p : Point) (bucket : ℕ) → IsBySlot b → bucket ≡ own_bucket p b.width
      → ((i : ℕ) (k : Kept R) → kept_at b i ≡ Some k → k.bucket ≡ bucket → k.point ≢ p) → row_in (places_of b.kept) p ≡ None
  absent_from_own b p bucket by_slot own never =
      no_row b p (λ i k is same. never i k is ((by_slot.own i k is).own ∙ ap (λ q. own_bucket q b.width) same ∙ sym own) same)

  -- where no place keeps a point, no point has a row
  pub absent_everywhere : (b : Buckets R) (p : Point) → ((i : ℕ) (k : Kept R) → kept_at b i ≡ Some k → ⊥) → row_in (places_of b.kept) p ≡ None
  absent_everywhere b p never = no_row b p (λ i k is same. never i k is)

  -- empty buckets are by slot, where there are some if there is room
  pub by_slot_empty : (b : Buckets R) → b.kept ≡ [] → (0 < b.spare → 0 < b.width) → IsBySlot b
  by_slot_empty b empty wide = record {
    once = λ i j p x y hi hj. absurd (no_some (p, x) (ap (λ ks. slice_index_or (places_of ks) i None) (sym empty) ∙ hi));
    own = λ i k there. absurd (no_some k (ap (λ ks. slice_index_or ks i None) (sym empty) ∙ there));
    wide = wide;
  }

  -- without buckets no point has a row
  pub no_buckets : (b : Buckets R) (m : Rows R) (p : Point) → rows_of b ≡ m → IsBySlot b → b.width ≡ 0 → at m p ≡ None
  no_buckets b m p is by_slot none =
      ap (λ x. at x p) (sym is) ∙ absent_everywhere b p (λ i k there.
      let wide = (by_slot.own i k there).wide in absurd (omega (arith, wide, none)))

  point_from : (o : Option (Kept R)) (p : Point) → option_map (λ k. k.point) o ≡ Some p → (k : Kept R) × (o ≡ Some k) × (k.point ≡ p)
  point_from None p h = absurd (no_some p h)
  point_from (Some k) p h = (k, refl, some_same k.point p h)

  entry_from : (o : Option (Kept R)) (p : Point) → option_map (λ e. e.0) (option_map entry_of o) ≡ Some p
      → (k : Kept R) × (o ≡ Some k) × (k.point ≡ p)
  entry_from None p h = absurd (no_some p h)
  entry_from (Some k) p h = (k, refl, some_same k.point p h)

  -- the place where a point stands keeps it
  pub kept_found : (b : Buckets R) (m : Rows R) (i : ℕ) (p : Point) → rows_of b ≡ m → option_map (λ e. e.0) (standing m i) ≡ Some p
      → (k : Kept R) × (kept_at b i ≡ Some k) × (k.point ≡ p)
  kept_found b m i p is found =
      entry_from (kept_at b i) p (ap (option_map (λ e. e.0)) (sym (seen_at b.kept i)) ∙ ap (λ x. option_map (λ e. e.0) (standing x i)) is ∙ found)

  -- a place that keeps a point has its row
  pub row_found_at : (b : Buckets R) (m : Rows R) (p : Point) (o : Option ℕ) → rows_of b ≡ m → IsBySlot b
      → IfSome o (λ i. option_map (λ k. k.point) (kept_at b i) ≡ Some p) → IfSome o (λ i. option_map (λ e. e.1) (standing m i) ≡ at m p)
  row_found_at b m p None is by_slot found = tt
  row_found_at b m p (Some i) is by_slot found =
      let k = point_from (kept_at b i) p found in
      let here = stands b i k.0 k.1 in
      ap (λ x. option_map (λ e. e.1) (standing x i)) (sym is) ∙ ap (option_map (λ e. e.1)) here
      ∙ sym (row_once (places_of b.kept) i k.0.point k.0.row by_slot.once here) ∙ ap (λ q. row_in (places_of b.kept) q) k.2 ∙ ap (λ x. at x p) is

  -- where a point is not found in its own bucket it has no row
  pub absent_at : (b : Buckets R) (m : Rows R) (p : Point) (bucket : ℕ) (o : Option ℕ) → rows_of b ≡ m → IsBySlot b
      → bucket ≡ own_bucket p b.width
      → IfNone o ((i : ℕ) (k : Kept R) → kept_at b i ≡ Some k → k.bucket ≡ bucket → k.point ≢ p) → IfNone o (at m p ≡ None)
  absent_at b m p bucket (Some i) is by_slot own never = tt
  absent_at b m p bucket None is by_slot own never = ap (λ x. at x p) (sym is) ∙ absent_from_own b p bucket by_slot own never

  -- a walk over the places
  pub kept_walk : (b : Buckets R) (m : Rows R) (bound : ℕ) → rows_of b ≡ m → IsBySlot b → length b.kept ≤ bound → IsWalk m bound
  kept_walk b m bound is by_slot long =
      subst (λ x. IsWalk x bound) is (walk (rows_of b) bound by_slot.once
      (subst (λ n. n ≤ bound) (sym (length-map b.kept (option_map entry_of))) long))

  -- a write of a row is seen as one in a map, and leaves buckets by slot
  pub map_written : (b new : Buckets R) (m : Rows R) (i : ℕ) (p : Point) (row : R) → rows_of b ≡ m → IsBySlot b
      → option_map (λ e. e.0) (standing m i) ≡ Some p → new ≡ with_row b i row → IsWritten m (rows_of new) p row × IsBySlot new
  map_written b new m i p row is by_slot found written =
      let k = kept_found b m i p is found in
      let w = row_written b i k.0 row by_slot k.1 in (
        subst (λ x. IsWritten x (rows_of new) p row) is (subst (λ x. IsWritten (rows_of b) (rows_of x) p row) (sym written)
            (subst (λ q. IsWritten (rows_of b) (rows_of (with_row b i row)) q row) k.2 w.0)),
        subst IsBySlot (sym written) w.1,
      )

  pub new_by_slot : {E : Type 0} (o : Result (Buckets R) E) (width : ℕ) → 0 < width → IfOk o (λ b. b.kept ≡ []) → IfOk o (λ b. b.width ≡ width)
      → IfOk o (λ b. IsBySlot b)
  new_by_slot (Ok b) width wide empty is = by_slot_empty b empty (λ room. subst (λ w. 0 < w) (sym is) wide)
  new_by_slot (Err e) width wide empty is = tt

  row_kept : (o : Option (Kept R)) → option_map (λ k. k.row) o ≡ option_map (λ e. e.1) (option_map entry_of o)
  row_kept None = refl
  row_kept (Some k) = refl

  -- the row that is kept at a place stands there
  pub row_seen : (b : Buckets R) (m : Rows R) (i : ℕ) → rows_of b ≡ m → option_map (λ k. k.row) (kept_at b i) ≡ option_map (λ e. e.1) (standing m i)
  row_seen b m i is =
      row_kept (kept_at b i) ∙ ap (option_map (λ e. e.1)) (sym (seen_at b.kept i)) ∙ ap (λ x. option_map (λ e. e.1) (standing x i)) is
