-- Places and buckets that agree: what each change leaves.
use Rattle.std.proofs.Common.{◌≡◌, ◌≢◌, ◌∙◌, ℕ, ◌+◌, ◌<◌, ◌≤◌, List, [], ◌∷◌, refl, ap, sym, subst, inl, inr, arith, false, is_some, IsSome, option_map}
use Rattle.std.proofs.lemmas.Grind.{common_steps}
use Rattle.std.specs.Prelude.{Option, Some, None, slice_index_or, option_and_then, count_by, max}
use Rattle.std.proofs.Math.ListN.{get_or-map}
use Rattle.std.proofs.lemmas.Bool.{cases_eq}
use Rattle.inc_value.specs.declared.node.Point.{Point}
use Rattle.point_map.specs.Rows.{row_in, StandsOnce}
use Rattle.point_map.specs.Buckets.{Kept, Buckets, kept_at, kept_count, KeptChanges, IsTaken}
use Rattle.point_map.proofs.Places.{point_cases, point_of_pair, row_once, row_absent, row_found}
use Rattle.recompute_heap.specs.Agree.{leveled, heights_of, Agree, HasBuckets, EveryKept, NoneBelow, NoneAbove}

some_same : {A : Type 0} (a b : A) → Some a ≡ Some b → a ≡ b
some_same a b h = cc

no_some : {A : Type 0} (a : A) → ◌≡◌ {A = Option A} None (Some a) → ⊥
no_some a h = cc

not_some : (o : Option ℕ) → is_some o ≡ false → o ≡ None
not_some None h = refl
not_some (Some x) h = absurd (let e = h in cc)

none_low : (o : Option ℕ) → ((h : ℕ) → o ≡ Some h → ⊥) → o ≡ None
none_low None never = refl
none_low (Some h) never = absurd (never h refl)

module _ {R : Type 0} where
  -- the height of a point by its place
  abbrev pub height : (Point → Option ℕ) → (ℕ → Option (Kept R)) → Point → Option ℕ
  height place kept p = option_and_then (λ i. option_map (λ k. k.bucket) (kept i)) (place p)

  seen_at : (kept : List (Option (Kept R))) (i : ℕ)
      → slice_index_or (heights_of kept) i None ≡ option_map leveled (slice_index_or kept i None)
  seen_at kept i = get_or-map (option_map leveled) kept i None

  kept_from : (o : Option (Kept R)) (p : Point) (h : ℕ) → option_map leveled o ≡ Some (p, h)
      → (k : Kept R) × (o ≡ Some k) × (k.point ≡ p) × (k.bucket ≡ h)
  kept_from None p h e = absurd (no_some (p, h) e)
  kept_from (Some k) p h e = (k, refl, point_of_pair k.point p k.bucket h e, ap (λ x. x.1) (some_same (k.point, k.bucket) (p, h) e))

  module _ (kept : List (Option (Kept R))) (place : Point → Option ℕ) (agree : Agree place (λ i. slice_index_or kept i None)) where
    place_of : (p : Point) (i h : ℕ) → slice_index_or (heights_of kept) i None ≡ Some (p, h) → place p ≡ Some i
    place_of p i h there =
        let k = kept_from (slice_index_or kept i None) p h (sym (seen_at kept i) ∙ there) in
        ap place (sym k.2) ∙ agree.placed i k.0 k.1

    pub stands_once : StandsOnce (heights_of kept)
    stands_once i j p a b hi hj = some_same i j (sym (place_of p i a hi) ∙ place_of p j b hj)

    view_from : (p : Point) (o : Option ℕ) → place p ≡ o → row_in (heights_of kept) p ≡ option_and_then (λ i. option_map (λ k. k.bucket)
        (slice_index_or kept i None)) o
    view_from p None is = row_absent (heights_of kept) p (λ h s. no_some s.0 (sym is ∙ place_of p s.0 h s.1))
    view_from p (Some i) is =
        let k = agree.held p i is in
        row_once (heights_of kept) i p k.0.bucket stands_once
        (seen_at kept i ∙ ap (option_map leveled) k.1 ∙ ap (λ q. Some (q, k.0.bucket)) k.2)
        ∙ sym (ap (option_map (λ x. x.bucket)) k.1)

    -- the row of a point is its height
    pub view_at : (p : Point) → row_in (heights_of kept) p ≡ height place (λ i. slice_index_or kept i None) p
    view_at p = view_from p (place p) refl

  same_from : (kept new_kept : ℕ → Option (Kept R)) (o : Option ℕ) → ((i : ℕ) → o ≡ Some i → new_kept i ≡ kept i)
      → option_and_then (λ i. option_map (λ k. k.bucket) (new_kept i)) o ≡ option_and_then (λ i. option_map (λ k. k.bucket) (kept i)) o
  same_from kept new_kept None same = refl
  same_from kept new_kept (Some i) same = ap (option_map (λ k. k.bucket)) (same i refl)

  -- a point that keeps its place, with what stands there, keeps its height
  pub same_height : (place new_place : Point → Option ℕ) (kept new_kept : ℕ → Option (Kept R)) (p : Point) → new_place p ≡ place p
      → ((i : ℕ) → place p ≡ Some i → new_kept i ≡ kept i) → height new_place new_kept p ≡ height place kept p
  same_height place new_place kept new_kept p is same =
      ap (option_and_then (λ i. option_map (λ k. k.bucket) (new_kept i))) is ∙ same_from kept new_kept (place p) same

  -- a point is put in
  module _ (place new_place : Point → Option ℕ) (kept new_kept : ℕ → Option (Kept R)) (p : Point) (j : ℕ) (new : Kept R) (agree : Agree place kept)
      (absent : place p ≡ None) (vacant : kept j ≡ None) (at_p : new_place p ≡ Some j) (others : (q : Point) → q ≢ p → new_place q ≡ place q)
      (at_j : new_kept j ≡ Some new) (is_p : new.point ≡ p) (kept_others : (i : ℕ) → i ≢ j → new_kept i ≡ kept i) where
    not_j : (q : Point) (i : ℕ) → place q ≡ Some i → i ≢ j
    not_j q i h same = let k = agree.held q i h in no_some k.0 (sym vacant ∙ ap kept (sym same) ∙ k.1)

    pub agree_put : Agree new_place new_kept
    agree_put = record {
      held = λ q i h. elim (point_cases q p) [
        | inl same ↦
            let is_j = some_same j i (sym at_p ∙ ap new_place (sym same) ∙ h) in
            (new, ap new_kept (sym is_j) ∙ at_j, is_p ∙ sym same)
        | inr differs ↦
            let was = sym (others q differs) ∙ h in
            let k = agree.held q i was in
            (k.0, kept_others i (not_j q i was) ∙ k.1, k.2)
      ];
      placed = λ i k h. elim (cases_eq i j) [
        | inl same ↦
            let is_new = some_same new k (sym at_j ∙ ap new_kept (sym same) ∙ h) in
            ap new_place (ap (λ x. x.point) (sym is_new) ∙ is_p) ∙ at_p ∙ ap Some (sym same)
        | inr differs ↦
            let was = agree.placed i k (sym (kept_others i differs) ∙ h) in
            others k.point (λ same. no_some i (sym absent ∙ ap place (sym same) ∙ was)) ∙ was
      ];
    }

    pub height_put : (q : Point) → q ≢ p → height new_place new_kept q ≡ height place kept q
    height_put q differs = same_height place new_place kept new_kept q (others q differs) (λ i h. kept_others i (not_j q i h))

    pub height_new : height new_place new_kept p ≡ Some new.bucket
    height_new = ap (option_and_then (λ i. option_map (λ k. k.bucket) (new_kept i))) at_p ∙ ap (option_map (λ k. k.bucket)) at_j

  -- a point is taken off, and its place is vacant
  module _ (place new_place : Point → Option ℕ) (kept new_kept : ℕ → Option (Kept R)) (p : Point) (j : ℕ) (agree : Agree place kept)
      (there : place p ≡ Some j) (off : new_place p ≡ None) (others : (q : Point) → q ≢ p → new_place q ≡ place q)
      (vacant : new_kept j ≡ None) (kept_others : (i : ℕ) → i ≢ j → new_kept i ≡ kept i) where
    other_place : (q : Point) (i : ℕ) → q ≢ p → place q ≡ Some i → i ≢ j
    other_place q i differs h same =
        let k = agree.held q i h in
        let l = agree.held p j there in
        let both = some_same k.0 l.0 (sym k.1 ∙ ap kept same ∙ l.1) in
        differs (sym k.2 ∙ ap (λ x. x.point) both ∙ l.2)

    pub agree_off : Agree new_place new_kept
    agree_off = record {
      held = λ q i h. elim (point_cases q p) [
        | inl same ↦ absurd (no_some i (sym off ∙ ap new_place (sym same) ∙ h))
        | inr differs ↦
            let was = sym (others q differs) ∙ h in
            let k = agree.held q i was in
            (k.0, kept_others i (other_place q i differs was) ∙ k.1, k.2)
      ];
      placed = λ i k h. elim (cases_eq i j) [
        | inl same ↦ absurd (no_some k (sym vacant ∙ ap new_kept (sym same) ∙ h))
        | inr differs ↦
            let was = agree.placed i k (sym (kept_others i differs) ∙ h) in
            others k.point (λ same. differs (some_same i j (sym was ∙ ap place same ∙ there))) ∙ was
      ];
    }

    pub height_off : (q : Point) → q ≢ p → height new_place new_kept q ≡ height place kept q
    height_off q differs = same_height place new_place kept new_kept q (others q differs) (λ i h. kept_others i (other_place q i differs h))

    pub height_none : height new_place new_kept p ≡ None
    height_none = ap (option_and_then (λ i. option_map (λ k. k.bucket) (new_kept i))) off

  -- a point is taken off, and another comes to its place
  module _ (place mid_place new_place : Point → Option ℕ) (kept new_kept : ℕ → Option (Kept R)) (p q : Point) (j v : ℕ) (k : Kept R)
      (agree : Agree place kept)
      (there : place p ≡ Some j) (off : mid_place p ≡ None) (mid_others : (x : Point) → x ≢ p → mid_place x ≡ place x)
      (vacant : new_kept v ≡ None) (moved : v ≢ j → new_kept j ≡ kept v) (kept_others : (i : ℕ) → i ≢ j → i ≢ v → new_kept i ≡ kept i)
      (at_j : new_kept j ≡ Some k) (is_q : k.point ≡ q) (at_q : new_place q ≡ Some j) (others : (x : Point) → x ≢ q
      → new_place x ≡ mid_place x) where
    v_not_j : v ≢ j
    v_not_j same = no_some k (sym vacant ∙ ap new_kept same ∙ at_j)

    at_v : kept v ≡ Some k
    at_v = sym (moved v_not_j) ∙ at_j

    q_was : place q ≡ Some v
    q_was = ap place (sym is_q) ∙ agree.placed v k at_v

    p_not_q : p ≢ q
    p_not_q same = v_not_j (some_same v j (sym q_was ∙ ap place (sym same) ∙ there))

    stays_at : (x : Point) (i : ℕ) → x ≢ p → x ≢ q → place x ≡ Some i → new_kept i ≡ kept i
    stays_at x i not_p not_q h =
        let c = agree.held x i h in
        let l = agree.held p j there in
        kept_others i
        (λ same. not_p (sym c.2 ∙ ap (λ y. y.point) (some_same c.0 l.0 (sym c.1 ∙ ap kept same ∙ l.1)) ∙ l.2))
        (λ same. not_q (sym c.2 ∙ ap (λ y. y.point) (some_same c.0 k (sym c.1 ∙ ap kept same ∙ at_v)) ∙ is_q))

    pub agree_moved : Agree new_place new_kept
    agree_moved = record {
      held = λ x i h. elim (point_cases x q) [
        | inl same ↦
            let is_j = some_same j i (sym at_q ∙ ap new_place (sym same) ∙ h) in
            (k, ap new_kept (sym is_j) ∙ at_j, is_q ∙ sym same)
        | inr not_q ↦ elim (point_cases x p) [
          | inl same ↦ absurd (no_some i (sym off ∙ ap mid_place (sym same) ∙ sym (others x not_q) ∙ h))
          | inr not_p ↦
              let was = sym (mid_others x not_p) ∙ sym (others x not_q) ∙ h in
              let c = agree.held x i was in
              (c.0, stays_at x i not_p not_q was ∙ c.1, c.2)
        ]
      ];
      placed = λ i c h. elim (cases_eq i j) [
        | inl same ↦
            let is_k = some_same k c (sym at_j ∙ ap new_kept (sym same) ∙ h) in
            ap new_place (ap (λ y. y.point) (sym is_k) ∙ is_q) ∙ at_q ∙ ap Some (sym same)
        | inr not_j ↦
            let not_v : i ≢ v = λ same. no_some c (sym vacant ∙ ap new_kept (sym same) ∙ h) in
            let was = agree.placed i c (sym (kept_others i not_j not_v) ∙ h) in
            others c.point (λ same. not_v (some_same i v (sym was ∙ ap place same ∙ q_was)))
            ∙ mid_others c.point (λ same. not_j (some_same i j (sym was ∙ ap place same ∙ there))) ∙ was
      ];
    }

    pub height_moved : (x : Point) → x ≢ p → height new_place new_kept x ≡ height place kept x
    height_moved x not_p =
        elim (point_cases x q) [
          | inl same ↦ ap (height new_place new_kept) same
              ∙ ap (option_and_then (λ i. option_map (λ y. y.bucket) (new_kept i))) at_q ∙ ap (option_map (λ y. y.bucket)) (moved v_not_j)
              ∙ sym (ap (option_and_then (λ i. option_map (λ y. y.bucket) (kept i))) q_was) ∙ sym (ap (height place kept) same)
          | inr not_q ↦ same_height place new_place kept new_kept x (others x not_q ∙ mid_others x not_p) (λ i h. stays_at x i not_p not_q h)
        ]

    pub height_gone : height new_place new_kept p ≡ None
    height_gone = ap (option_and_then (λ i. option_map (λ y. y.bucket) (new_kept i))) (others p p_not_q ∙ off)

  some_from : (place : Point → Option ℕ) (kept : ℕ → Option (Kept R)) (p : Point) (o : Option ℕ) → place p ≡ o → Agree place kept
      → is_some (option_and_then (λ i. option_map (λ k. k.bucket) (kept i)) o) ≡ is_some o
  some_from place kept p None is agree = refl
  some_from place kept p (Some i) is agree = let k = agree.held p i is in ap (λ x. is_some (option_map (λ y. y.bucket) x)) k.1

  -- a point has a height where it has a place
  pub some_height : (kept : List (Option (Kept R))) (place : Point → Option ℕ) (p : Point) → Agree place (λ i. slice_index_or kept i None)
      → is_some (row_in (heights_of kept) p) ≡ is_some (place p)
  some_height kept place p agree =
      ap is_some (view_at kept place agree p) ∙ some_from place (λ i. slice_index_or kept i None) p (place p) refl agree

  -- a point without a height has no place
  pub absent_place : (kept : List (Option (Kept R))) (place : Point → Option ℕ) (p : Point) → Agree place (λ i. slice_index_or kept i None)
      → row_in (heights_of kept) p ≡ None → place p ≡ None
  absent_place kept place p agree h = not_some (place p) (sym (some_height kept place p agree) ∙ ap is_some h)

  -- what is so of each point stays so, once a point of which it is so is put in
  pub every_put : (P : Kept R → Type 0) (old new : Buckets R) (j : ℕ) (k : Kept R) → EveryKept P old → KeptChanges old new j (Some k)
      → P k → EveryKept P new
  every_put P old new j k every changes of_k i c h =
      elim (cases_eq i j) [
        | inl same ↦ subst P (some_same k c (sym changes.changed ∙ ap (kept_at new) (sym same) ∙ h)) of_k
        | inr differs ↦ every i c (sym (changes.others i differs) ∙ h)
      ]

  -- what is so of each point stays so, once a point is taken off
  pub every_taken : (P : Kept R → Type 0) (old new : Buckets R) (j : ℕ) → EveryKept P old → IsTaken old new j → EveryKept P new
  every_taken P old new j every taken i c h =
      elim (cases_eq i taken.vacated) [
        | inl same ↦ absurd (no_some c (sym taken.vacant ∙ ap (kept_at new) (sym same) ∙ h))
        | inr not_v ↦ elim (cases_eq i j) [
          | inl same ↦
              let not_same : taken.vacated ≢ j = λ e. not_v (same ∙ sym e) in
              every taken.vacated c (sym (taken.moved not_same) ∙ ap (kept_at new) (sym same) ∙ h)
          | inr not_j ↦ every i c (sym (taken.others i not_j not_v) ∙ h)
        ]
      ]

  pub every_off : (P : Kept R → Type 0) (old new : Buckets R) (j : ℕ) → EveryKept P old → KeptChanges old new j None → EveryKept P new
  every_off P old new j every changes i c h =
      elim (cases_eq i j) [
        | inl same ↦ absurd (no_some c (sym changes.changed ∙ ap (kept_at new) (sym same) ∙ h))
        | inr differs ↦ every i c (sym (changes.others i differs) ∙ h)
      ]

  -- where nothing comes to the place, the vacated place is that one
  pub vacated_is : (old new : Buckets R) (j : ℕ) (taken : IsTaken old new j) → kept_at new j ≡ None → taken.vacated ≡ j
  vacated_is old new j taken h =
      elim (cases_eq taken.vacated j) [
        | inl same ↦ same
        | inr differs ↦ absurd (stood_none (kept_at old taken.vacated) taken.stood (sym (taken.moved differs) ∙ h))
      ]
    where
      stood_none : (o : Option (Kept R)) → IsSome o → o ≡ None → ⊥
      stood_none None s e = let f = s in cc
      stood_none (Some x) s e = cc

  -- the same places and points agree as before
  pub agree_same : (place new_place : Point → Option ℕ) (kept new_kept : ℕ → Option (Kept R)) → Agree place kept
      → ((p : Point) → new_place p ≡ place p) → ((i : ℕ) → new_kept i ≡ kept i) → Agree new_place new_kept
  agree_same place new_place kept new_kept agree places_same kept_same = record {
    held = λ p i h. let k = agree.held p i (sym (places_same p) ∙ h) in (k.0, kept_same i ∙ k.1, k.2);
    placed = λ i k h. places_same k.point ∙ agree.placed i k (sym (kept_same i) ∙ h);
  }

  -- the point at a place
  pub point_from : (o : Option (Kept R)) (q : Point) → option_map (λ k. k.point) o ≡ Some q → (k : Kept R) × (o ≡ Some k) × (k.point ≡ q)
  point_from None q h = absurd (no_some q h)
  point_from (Some k) q h = (k, refl, some_same k.point q h)

  -- each height is one of a point that is kept
  pub every_height : (P : ℕ → Type 0) (b : Buckets R) (p : Point) (h : ℕ) → EveryKept (λ k. P k.bucket) b → row_in
      (heights_of b.kept) p ≡ Some h → P h
  every_height P b p h every is =
      let found = row_found (heights_of b.kept) p h is in
      let k = kept_from (slice_index_or b.kept found.0 None) p h (sym (seen_at b.kept found.0) ∙ found.1) in
      subst P k.3 (every found.0 k.0 k.1)

  -- where no height is below 129 and none above 128, no point is there
  pub none_there : (b : Buckets R) (least : ℕ) (p : Point) → NoneBelow b least → NoneAbove b 128 → 128 < least → row_in (heights_of b.kept) p ≡ None
  none_there b least p below above high =
      none_low (row_in (heights_of b.kept) p) (λ h is.
      let under = every_height (λ n. least ≤ n) b p h below is in
      let over = every_height (λ n. n ≤ 128) b p h above is in
      omega (arith, under, over, high))

  -- where no point is counted, none is there
  pub none_counted : (kept : List (Option (Kept R))) (p : Point) → count_by is_some kept ≡ 0 → row_in (heights_of kept) p ≡ None
  none_counted [] p zero = refl
  none_counted (None ∷ rest) p zero = none_counted rest p zero
  none_counted (Some k ∷ rest) p zero = absurd (grind (arith, common_steps, zero))

  pub point_none : (o : Option (Kept R)) → option_map (λ k. k.point) o ≡ None → o ≡ None
  point_none None h = refl
  point_none (Some k) h = absurd (no_some k.point (sym h))

  -- as many points and as much room, in as many buckets
  pub buckets_same : (old new : Buckets R) (width : ℕ) → HasBuckets old width → new.width ≡ old.width
      → kept_count new + new.spare ≡ kept_count old + old.spare → HasBuckets new width
  buckets_same old new width has same sum = record {
    few = let f = has.few in omega (arith, f, same);
    all = λ some. same ∙ has.all (omega (arith, some, sum));
  }

  -- all the buckets there are to be
  pub buckets_full : (old new : Buckets R) (width : ℕ) → HasBuckets old width → new.width ≡ max old.width width → HasBuckets new width
  buckets_full old new width has is =
      let full : new.width ≡ width = let f = has.few in grind (arith, f, is) in
      record { few = omega (arith, full); all = λ some. full }
