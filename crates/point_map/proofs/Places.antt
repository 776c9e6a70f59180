-- Places and the rows found in them.
use Rattle.std.proofs.Common.{◌≡◌, ◌≢◌, ◌∙◌, ◌⊎◌, ℕ, zero, suc, ◌<◌, ◌≤◌, Bool, true, false, List, [], ◌∷◌, length, refl, ap, sym, inl, inr, arith}
use Rattle.std.specs.Prelude.{Option, Some, None, slice_index_or, IsSome, if◌then◌else◌}
use Rattle.inc_value.specs.declared.node.Point.{Point}
use Rattle.inc_value.specs.declared.node.Part.{Part}
use Rattle.inc_value.specs.declared.node.Part.TheVariants.{Change, Main}
use Rattle.std.proofs.lemmas.Bool.{cases_eq}
use Rattle.std.proofs.lemmas.List.{get_or_past}
use Rattle.std.proofs.lemmas.Grind.{common_steps}
use Rattle.point_map.specs.Rows.{Rows, same_part, same_point, Place, at, row_in, StandsOnce, IsWalk}

pub same_part_eq : (p q : Part) → same_part p q ≡ true → p ≡ q
same_part_eq Change Change h = refl
same_part_eq Main Main h = refl
same_part_eq Change Main h = absurd (let e = h in cc)
same_part_eq Main Change h = absurd (let e = h in cc)

pub same_part_self : (p : Part) → same_part p p ≡ true
same_part_self Change = refl
same_part_self Main = refl

-- the test of points is exact
pub same_point_eq : (p q : Point) → same_point p q ≡ true → p ≡ q
same_point_eq p q h = grind (arith, common_steps, same_part_eq)

pub same_point_self : (p : Point) → same_point p p ≡ true
same_point_self p = grind (arith, common_steps, same_part_self)

point_cases_if : (p q : Point) (b : Bool) → same_point p q ≡ b → (p ≡ q) ⊎ (p ≢ q)
point_cases_if p q true h = inl (same_point_eq p q h)
point_cases_if p q false h = inr (λ same. let e : true ≡ false = sym (same_point_self p) ∙ ap (same_point p) same ∙ h in cc)

-- two points are the same or not
pub point_cases : (p q : Point) → (p ≡ q) ⊎ (p ≢ q)
point_cases p q = point_cases_if p q (same_point p q) refl

module _ {R : Type 0} where
  pub pair_of : (q p : Point) (a r : R) → q ≡ p → Some a ≡ Some r → ◌≡◌ {A = Option (Point × R)} (Some (q, a)) (Some (p, r))
  pair_of q p a r same h = cc

  pub row_of_pair : (p : Point) (a b : R) → ◌≡◌ {A = Option (Point × R)} (Some (p, a)) (Some (p, b)) → a ≡ b
  row_of_pair p a b h = let e : ◌≡◌ {A = Point × R} (p, a) (p, b) = cc in ap (λ x. x.1) e

  row_found_if : (e : Point × R) (rest : List (Place R)) (p : Point) (r : R) (b : Bool) → same_point e.0 p ≡ b
      → (row_in rest p ≡ Some r → (i : ℕ) × (slice_index_or rest i None ≡ Some (p, r)))
      → (if b then Some e.1 else row_in rest p) ≡ Some r → (i : ℕ) × (slice_index_or (Some e ∷ rest) i None ≡ Some (p, r))
  row_found_if e rest p r true s next h = (0, pair_of e.0 p e.1 r (same_point_eq e.0 p s) h)
  row_found_if e rest p r false s next h = let f = next h in (suc f.0, f.1)

  -- a row that is found stands at a place
  pub row_found : (places : List (Place R)) (p : Point) (r : R) → row_in places p ≡ Some r
      → (i : ℕ) × (slice_index_or places i None ≡ Some (p, r))
  row_found [] p r h = absurd (let e = h in cc)
  row_found (None ∷ rest) p r h = let f = row_found rest p r h in (suc f.0, f.1)
  row_found (Some e ∷ rest) p r h = row_found_if e rest p r (same_point e.0 p) refl (row_found rest p r) h

  row_there_if : (e : Point × R) (rest : List (Place R)) (p : Point) (r : R) (b : Bool) → same_point e.0 p ≡ b
      → (i : ℕ) → ((j : ℕ) → slice_index_or rest j None ≡ Some (p, r) → (c : R) × (row_in rest p ≡ Some c))
      → slice_index_or (Some e ∷ rest) i None ≡ Some (p, r) → (c : R) × ((if b then Some e.1 else row_in rest p) ≡ Some c)
  row_there_if e rest p r true s i next h = (e.1, refl)
  row_there_if e rest p r false s zero next h = absurd (let same = same_point_self p in cc)
  row_there_if e rest p r false s (suc i) next h = next i h

  -- a point that stands at a place has a row
  pub row_there : (places : List (Place R)) (i : ℕ) (p : Point) (r : R) → slice_index_or places i None ≡ Some (p, r)
      → (b : R) × (row_in places p ≡ Some b)
  row_there [] i p r h = absurd (let e = h in cc)
  row_there (None ∷ rest) zero p r h = absurd (let e = h in cc)
  row_there (None ∷ rest) (suc i) p r h = row_there rest i p r h
  row_there (Some e ∷ rest) i p r h = row_there_if e rest p r (same_point e.0 p) refl i (λ j. row_there rest j p r) h

  row_of_places : (places : List (Place R)) (i j : ℕ) (p : Point) (r b : R) → slice_index_or places i None ≡ Some (p, r)
      → slice_index_or places j None ≡ Some (p, b) → i ≡ j → row_in places p ≡ Some b → row_in places p ≡ Some r
  row_of_places places i j p r b hi hj e found =
      let same : ◌≡◌ {A = Option (Point × R)} (Some (p, r)) (Some (p, b)) = cc in
      let rows = row_of_pair p r b same in cc

  -- where no point stands twice, what stands at a place is the row of its point
  pub row_once : (places : List (Place R)) (i : ℕ) (p : Point) (r : R) → StandsOnce places
      → slice_index_or places i None ≡ Some (p, r) → row_in places p ≡ Some r
  row_once places i p r once h =
      let t = row_there places i p r h in
      let f = row_found places p t.0 t.1 in
      let e = once i f.0 p r t.0 h f.1 in
      row_of_places places i f.0 p r t.0 h f.1 e t.1

  -- a point with a row stands at a place
  abbrev pub Stands : List (Place R) → Point → R → Type 0
  Stands places p r = (i : ℕ) × (slice_index_or places i None ≡ Some (p, r))

  -- what stands at one place changes, and no other place does
  pub record PlaceChanges (old new : List (Place R)) (i : ℕ) (e : Place R) : Type 0 where
    pub changed : slice_index_or new i None ≡ e
    pub others : (j : ℕ) → j ≢ i → slice_index_or new j None ≡ slice_index_or old j None

  row_of_answer : (places : List (Place R)) (p : Point) (o : Option R) → row_in places p ≡ o
      → ((r : R) → Stands places p r → ⊥) → o ≡ None
  row_of_answer places p None h never = refl
  row_of_answer places p (Some r) h never = absurd (never r (row_found places p r h))

  -- a point that stands nowhere has no row
  pub row_absent : (places : List (Place R)) (p : Point) → ((r : R) → Stands places p r → ⊥) → row_in places p ≡ None
  row_absent places p never = row_of_answer places p (row_in places p) refl never

  -- a point without a row stands nowhere
  pub stands_nowhere : (places : List (Place R)) (p : Point) (r : R) → row_in places p ≡ None → Stands places p r → ⊥
  stands_nowhere places p r absent s = let t = row_there places s.0 p r s.1 in let e = t.1 in cc

  agree_from : (old new : List (Place R)) (q : Point) (o : Option R) → row_in old q ≡ o → StandsOnce new
      → ((r : R) → Stands old q r → Stands new q r) → ((r : R) → Stands new q r → Stands old q r) → row_in new q ≡ o
  agree_from old new q None h once there back = row_absent new q (λ r s. stands_nowhere old q r h (back r s))
  agree_from old new q (Some r) h once there back = let s = there r (row_found old q r h) in row_once new s.0 q r once s.1

  -- a point that stands in both with the same rows has the same row in both
  pub rows_agree : (old new : List (Place R)) (q : Point) → StandsOnce new
      → ((r : R) → Stands old q r → Stands new q r) → ((r : R) → Stands new q r → Stands old q r) → row_in new q ≡ row_in old q
  rows_agree old new q once there back = agree_from old new q (row_in old q) refl once there back

  pub point_of_pair : (p q : Point) (a b : R) → ◌≡◌ {A = Option (Point × R)} (Some (p, a)) (Some (q, b)) → p ≡ q
  point_of_pair p q a b h = let e : ◌≡◌ {A = Point × R} (p, a) (q, b) = cc in ap (λ x. x.0) e

  none_or_some : (p : Point) (a : R) → ◌≡◌ {A = Option (Point × R)} None (Some (p, a)) → ⊥
  none_or_some p a h = cc

  -- another point stands where it stood, if the place changed had no such point and has none
  stays : (old new : List (Place R)) (i : ℕ) (e : Place R) (q : Point) (r : R) → PlaceChanges old new i e
      → (slice_index_or old i None ≡ Some (q, r) → ⊥) → Stands old q r → Stands new q r
  stays old new i e q r changes never s =
      elim (cases_eq s.0 i) [
        | inl same ↦ absurd (never (let at = s.1 in cc))
        | inr differs ↦ (s.0, changes.others s.0 differs ∙ s.1)
      ]

  was : (old new : List (Place R)) (i j : ℕ) (e : Place R) (q : Point) (r : R) → PlaceChanges old new i e
      → (e ≡ Some (q, r) → ⊥) → slice_index_or new j None ≡ Some (q, r) → slice_index_or old j None ≡ Some (q, r)
  was old new i j e q r changes never h =
      elim (cases_eq j i) [
        | inl same ↦ absurd (never (sym changes.changed ∙ ap (λ x. slice_index_or new x None) (sym same) ∙ h))
        | inr differs ↦ sym (changes.others j differs) ∙ h
      ]

  stood : (old new : List (Place R)) (i : ℕ) (e : Place R) (q : Point) (r : R) → PlaceChanges old new i e
      → (e ≡ Some (q, r) → ⊥) → Stands new q r → Stands old q r
  stood old new i e q r changes never s = (s.0, was old new i s.0 e q r changes never s.1)

  -- new places hold the points of the old ones, and this row at one point alone
  pub record RowChanges (old new : List (Place R)) (p : Point) (row : Option R) : Type 0 where
    pub once : StandsOnce new
    pub changed : row_in new p ≡ row
    pub others : (q : Point) → q ≢ p → row_in new q ≡ row_in old q

  once_inserted : (old new : List (Place R)) (i : ℕ) (p : Point) (r : R) → StandsOnce old → row_in old p ≡ None
      → PlaceChanges old new i (Some (p, r)) → StandsOnce new
  once_inserted old new i p r once absent changes j k q a b hj hk =
      elim (cases_eq j i) [
        | inl j_is ↦ elim (cases_eq k i) [
          | inl k_is ↦ j_is ∙ sym k_is
          | inr k_not ↦ absurd (
              let same = point_of_pair p q r a (sym changes.changed ∙ ap (λ x. slice_index_or new x None) (sym j_is) ∙ hj) in
              stands_nowhere old q b (ap (row_in old) (sym same) ∙ absent) (k, sym (changes.others k k_not) ∙ hk))
        ]
        | inr j_not ↦ elim (cases_eq k i) [
          | inl k_is ↦ absurd (
              let same = point_of_pair p q r b (sym changes.changed ∙ ap (λ x. slice_index_or new x None) (sym k_is) ∙ hk) in
              stands_nowhere old q a (ap (row_in old) (sym same) ∙ absent) (j, sym (changes.others j j_not) ∙ hj))
          | inr k_not ↦ once j k q a b (sym (changes.others j j_not) ∙ hj) (sym (changes.others k k_not) ∙ hk)
        ]
      ]

  -- a point that wasn't there is put into a vacant place
  pub row_inserted : (old new : List (Place R)) (i : ℕ) (p : Point) (r : R) → StandsOnce old → row_in old p ≡ None
      → slice_index_or old i None ≡ None → PlaceChanges old new i (Some (p, r)) → RowChanges old new p (Some r)
  row_inserted old new i p r once absent vacant changes =
      let kept = once_inserted old new i p r once absent changes in
      record {
        once = kept;
        changed = row_once new i p r kept changes.changed;
        others = λ q differs. rows_agree old new q kept
            (λ a. stays old new i (Some (p, r)) q a changes (λ h. none_or_some q a (sym vacant ∙ h)))
            (λ a. stood old new i (Some (p, r)) q a changes (λ h. differs (sym (point_of_pair p q r a h))));
      }

  -- a place is vacated
  pub row_removed : (old new : List (Place R)) (i : ℕ) (p : Point) (r : R) → StandsOnce old
      → slice_index_or old i None ≡ Some (p, r) → PlaceChanges old new i None → RowChanges old new p None
  row_removed old new i p r once here changes =
      let kept : StandsOnce new = λ j k q a b hj hk. once j k q a b
      (was old new i j None q a changes (none_or_some q a) hj) (was old new i k None q b changes (none_or_some q b) hk) in
      record {
        once = kept;
        changed = row_absent new p (λ a s.
            let same = once s.0 i p a r (was old new i s.0 None p a changes (none_or_some p a) s.1) here in
            none_or_some p a (sym changes.changed ∙ ap (λ x. slice_index_or new x None) (sym same) ∙ s.1));
        others = λ q differs. rows_agree old new q kept
            (λ a. stays old new i None q a changes (λ h. differs (sym (point_of_pair p q r a (sym here ∙ h)))))
            (λ a. stood old new i None q a changes (none_or_some q a));
      }

  -- a place is vacated, and what stood at another, now vacant, stands there
  pub record PlaceTaken (old new : List (Place R)) (i vacated : ℕ) : Type 0 where
    pub vacant : slice_index_or new vacated None ≡ None
    pub moved : vacated ≢ i → slice_index_or new i None ≡ slice_index_or old vacated None
    pub others : (j : ℕ) → j ≢ i → j ≢ vacated → slice_index_or new j None ≡ slice_index_or old j None

  -- where a point stood that stands here now
  record Came (old : List (Place R)) (i vacated j : ℕ) (q : Point) (a : R) : Type 0 where
    pub place : ℕ
    pub there : slice_index_or old place None ≡ Some (q, a)
    pub not_taken : place ≢ i
    pub moved : place ≡ vacated → j ≡ i
    pub stayed : place ≢ vacated → j ≡ place

  came : (old new : List (Place R)) (i v j : ℕ) (q : Point) (a : R) → PlaceTaken old new i v → slice_index_or new j None ≡ Some (q, a)
      → Came old i v j q a
  came old new i v j q a taken here =
      elim (cases_eq j v) [
        | inl same ↦ absurd (none_or_some q a (sym taken.vacant ∙ ap (λ x. slice_index_or new x None) (sym same) ∙ here))
        | inr stays ↦ elim (cases_eq j i) [
          | inl same ↦
              let differs : v ≢ i = λ e. stays (same ∙ sym e) in
              record {
                place = v;
                there = sym (taken.moved differs) ∙ ap (λ x. slice_index_or new x None) (sym same) ∙ here;
                not_taken = differs;
                moved = λ e. same;
                stayed = λ never. absurd (never refl);
              }
          | inr differs ↦ record {
            place = j;
            there = sym (taken.others j differs stays) ∙ here;
            not_taken = differs;
            moved = λ e. absurd (stays e);
            stayed = λ e. refl;
          }
        ]
      ]

  once_taken : (old new : List (Place R)) (i v : ℕ) → StandsOnce old → PlaceTaken old new i v → StandsOnce new
  once_taken old new i v once taken j k q a b hj hk =
      let from_j = came old new i v j q a taken hj in
      let from_k = came old new i v k q b taken hk in
      let same = once from_j.place from_k.place q a b from_j.there from_k.there in
      elim (cases_eq from_j.place v) [
        | inl is_v ↦ from_j.moved is_v ∙ sym (from_k.moved (sym same ∙ is_v))
        | inr differs ↦ from_j.stayed differs ∙ same ∙ sym (from_k.stayed (λ e. differs (same ∙ e)))
      ]

  still : (old new : List (Place R)) (i v : ℕ) (p q : Point) (r a : R) → PlaceTaken old new i v → slice_index_or old i None ≡ Some (p, r)
      → q ≢ p → Stands old q a → Stands new q a
  still old new i v p q r a taken here differs s =
      let not_i : s.0 ≢ i = λ e. differs (sym (point_of_pair p q r a (sym here ∙ ap (λ x. slice_index_or old x None) (sym e) ∙ s.1))) in
      elim (cases_eq s.0 v) [
        | inl is_v ↦ (i, taken.moved (λ e. not_i (is_v ∙ e)) ∙ ap (λ x. slice_index_or old x None) (sym is_v) ∙ s.1)
        | inr stays ↦ (s.0, taken.others s.0 not_i stays ∙ s.1)
      ]

  -- a point is taken off its place
  pub row_taken : (old new : List (Place R)) (i v : ℕ) (p : Point) (r : R) → StandsOnce old
      → slice_index_or old i None ≡ Some (p, r) → PlaceTaken old new i v → RowChanges old new p None
  row_taken old new i v p r once here taken =
      let kept = once_taken old new i v once taken in
      record {
        once = kept;
        changed = row_absent new p (λ a s.
            let from = came old new i v s.0 p a taken s.1 in from.not_taken (once from.place i p a r from.there here));
        others = λ q differs. rows_agree old new q kept
            (λ a. still old new i v p q r a taken here differs)
            (λ a s. let from = came old new i v s.0 q a taken s.1 in (from.place, from.there));
      }

  had : (old new : List (Place R)) (i j : ℕ) (p q : Point) (r s a : R) → slice_index_or old i None ≡ Some (p, r)
      → PlaceChanges old new i (Some (p, s)) → slice_index_or new j None ≡ Some (q, a)
      → (b : R) × (slice_index_or old j None ≡ Some (q, b))
  had old new i j p q r s a here changes h =
      elim (cases_eq j i) [
        | inl same ↦ (
          r,
          ap (λ x. slice_index_or old x None) same ∙ here ∙ pair_of p q r r
              (point_of_pair p q s a (sym changes.changed ∙ ap (λ x. slice_index_or new x None) (sym same) ∙ h)) refl,
        )
        | inr differs ↦ (a, sym (changes.others j differs) ∙ h)
      ]

  -- a place gets another row for its point
  pub row_replaced : (old new : List (Place R)) (i : ℕ) (p : Point) (r s : R) → StandsOnce old
      → slice_index_or old i None ≡ Some (p, r) → PlaceChanges old new i (Some (p, s)) → RowChanges old new p (Some s)
  row_replaced old new i p r s once here changes =
      let kept : StandsOnce new = λ j k q a b hj hk.
      let at_j = had old new i j p q r s a here changes hj in
      let at_k = had old new i k p q r s b here changes hk in
      once j k q at_j.0 at_k.0 at_j.1 at_k.1 in
      record {
        once = kept;
        changed = row_once new i p s kept changes.changed;
        others = λ q differs. rows_agree old new q kept
            (λ a. stays old new i (Some (p, s)) q a changes (λ h. differs (sym (point_of_pair p q r a (sym here ∙ h)))))
            (λ a. stood old new i (Some (p, s)) q a changes (λ h. differs (sym (point_of_pair p q s a h))));
      }

  -- a place where something stands is one of the places
  pub within : (places : List (Place R)) (i : ℕ) (p : Point) (r : R) → slice_index_or places i None ≡ Some (p, r) → i < length places
  within places i p r there = grind (arith, get_or_past)

  some_row : (m : Rows R) (p : Point) (row : Option R) → at m p ≡ row → IsSome row → (r : R) × (at m p ≡ Some r)
  some_row m p None is h = absurd (let e = h in cc)
  some_row m p (Some r) is h = (r, is)

  -- a walk over the places
  pub walk : (m : Rows R) (bound : ℕ) → StandsOnce m.places → length m.places ≤ bound → IsWalk m bound
  walk m bound once long = record {
    every = λ p h.
        let row = some_row m p (at m p) refl h in
        let found = row_found m.places p row.0 row.1 in
        let inside = within m.places found.0 p row.0 found.1 in
        record { place = found.0; row = row.0; below = omega (arith, inside, long); there = found.1 };
    once = once;
    there = λ i p row h. row_once m.places i p row once h;
  }
