-- Points, their numbers, and the places at which they stand.
use Rattle.std.proofs.Common.{◌≡◌, ◌≢◌, ◌∙◌, ℕ, List, refl, ap, sym, subst, inl, inr}
use Rattle.std.specs.Prelude.{Option, Some, None, is_some, IsSome, option_map, slice_index_or, slice_set}
use Rattle.std.proofs.Math.ListN.{get_or-map}
use Rattle.std.proofs.lemmas.Bool.{cases_eq}
use Rattle.slab.specs.Slab.{Slab, get, Updates}
use Rattle.slab.proofs.SlabLemmas.{Updates-with_value}
use Rattle.inc_value.specs.declared.node.Point.{Point}
use Rattle.point_map.specs.Rows.{Rows, Place, at, standing, StandsOnce, Changes}
use Rattle.point_map.proofs.Places.{PlaceChanges, RowChanges, row_once, row_absent, row_inserted, row_removed, row_replaced, stands_nowhere}
use Rattle.point_map.proofs.Places.{point_cases, point_of_pair}
use Rattle.row_map.specs.declared.Entry.{Entry}
use Rattle.row_map.specs.Numbers.{pair_of, rows_of, StandsAt, IsNumbered}
use Rattle.row_map.specs.Turns.{PlaceTurns, IsAdded, IsRewritten, IsRemoved}

pub some_same : {A : Type 0} (a b : A) → Some a ≡ Some b → a ≡ b
some_same a b h = cc

pub no_some : {A : Type 0} (a : A) → ◌≡◌ {A = Option A} None (Some a) → ⊥
no_some a h = cc

module _ {R : Type 0} where
  -- what stands at a place is the entry in its slot
  pub seen_at : (slots : List (Option (Entry R))) (i : ℕ) → standing (rows_of slots) i ≡ option_map pair_of (slice_index_or slots i None)
  seen_at slots i = get_or-map (option_map pair_of) slots i None

  entry_of : (o : Option (Entry R)) (p : Point) (row : R) → option_map pair_of o ≡ Some (p, row) → o ≡ Some (record { point = p; row = row })
  entry_of None p row h = absurd (no_some (p, row) h)
  entry_of (Some e) p row h = ap (λ x. Some (record { point = x.0; row = x.1 })) (some_same (e.point, e.row) (p, row) h)

  -- a point that stands at a place has its entry there
  pub has_entry : (slots : List (Option (Entry R))) (i : ℕ) (p : Point) (row : R) → standing (rows_of slots) i ≡ Some (p, row)
      → slice_index_or slots i None ≡ Some (record { point = p; row = row })
  has_entry slots i p row there = entry_of (slice_index_or slots i None) p row (sym (seen_at slots i) ∙ there)

  -- one slot changes, and so does one place
  pub turns : (old new : List (Option (Entry R))) (i : ℕ) (e : Option (Entry R)) → slice_index_or new i None ≡ e
      → ((j : ℕ) → j ≢ i → slice_index_or new j None ≡ slice_index_or old j None)
      → PlaceTurns (rows_of old) (rows_of new) i (option_map pair_of e)
  turns old new i e changed others = record {
    changed = seen_at new i ∙ ap (option_map pair_of) changed;
    others = λ j differs. seen_at new j ∙ ap (option_map pair_of) (others j differs) ∙ sym (seen_at old j);
  }

  place_changes : (old new : Rows R) (i : ℕ) (e : Place R) → PlaceTurns old new i e → PlaceChanges old.places new.places i e
  place_changes old new i e t = record { changed = t.changed; others = t.others }

  row_changes : (old new : Rows R) (p : Point) (row : Option R) → RowChanges old.places new.places p row → Changes old new p row
  row_changes old new p row c = record { changed = c.changed; others = c.others }

  module _ (numbers : Rows ℕ) (m : Rows R) (by : IsNumbered numbers m) where
    -- no point stands at two places
    pub once : StandsOnce m.places
    once i j p a b at_i at_j = some_same i j (sym (by.number p i a at_i) ∙ by.number p j b at_j)

    -- a point without a number isn't there
    pub none_numbered : (p : Point) → at numbers p ≡ None → at m p ≡ None
    none_numbered p none = row_absent m.places p (λ r s. no_some s.0 (sym none ∙ by.number p s.0 r s.1))

    -- the points that have a number are there
    pub held : (p : Point) (o : Option ℕ) → at numbers p ≡ o → is_some o ≡ is_some (at m p)
    held p None h = sym (ap is_some (none_numbered p h))
    held p (Some i) h = let s = by.stands p i h in sym (ap is_some (row_once m.places i p s.0 once s.1))

    -- a point that isn't there has no number
    pub not_numbered : (p : Point) (o : Option ℕ) → at numbers p ≡ o → at m p ≡ None → o ≡ None
    not_numbered p None h absent = refl
    not_numbered p (Some i) h absent = let s = by.stands p i h in absurd (stands_nowhere m.places p s.0 absent (i, s.1))

    -- two points with one number are one
    one_point : (p q : Point) (i : ℕ) (r s : R) → standing m i ≡ Some (p, r) → standing m i ≡ Some (q, s) → p ≡ q
    one_point p q i r s hp hq = point_of_pair p q r s (sym hp ∙ hq)

    -- a point that isn't there comes to a vacant place, whose number it has
    module _ (given : Rows ℕ) (new : Rows R) (p : Point) (i : ℕ) (row : R) (absent : at m p ≡ None) (vacant : standing m i ≡ None)
        (numbering : Changes numbers given p (Some i)) (turn : PlaceTurns m new i (Some (p, row))) where
      elsewhere : (q : Point) (j : ℕ) (s : R) → standing m j ≡ Some (q, s) → j ≢ i
      elsewhere q j s h is = no_some (q, s) (sym vacant ∙ (ap (standing m) (sym is) ∙ h))

      stands_added : (q : Point) (j : ℕ) → at given q ≡ Some j → StandsAt new q j
      stands_added q j h = elim (point_cases q p) [
        | inl same ↦
            let is : j ≡ i = some_same j i (sym h ∙ (ap (at given) same ∙ numbering.changed)) in
            (row, rw (is, same) turn.changed)
        | inr differs ↦
            let s = by.stands q j (sym (numbering.others q differs) ∙ h) in
            (s.0, turn.others j (elsewhere q j s.0 s.1) ∙ s.1)
      ]

      number_added : (q : Point) (j : ℕ) (s : R) → standing new j ≡ Some (q, s) → at given q ≡ Some j
      number_added q j s h = elim (cases_eq j i) [
        | inl is ↦
            let same = point_of_pair p q row s (sym turn.changed ∙ (ap (standing new) (sym is) ∙ h)) in
            ap (at given) (sym same) ∙ (numbering.changed ∙ ap Some (sym is))
        | inr differs ↦
            let was = sym (turn.others j differs) ∙ h in
            numbering.others q (λ same. stands_nowhere m.places q s (ap (at m) same ∙ absent) (j, was)) ∙ by.number q j s was
      ]

      pub numbered_added : IsNumbered given new
      numbered_added = record { stands = stands_added; number = number_added }

      pub added : IsAdded m new p row
      added = record {
        place = i;
        vacant = vacant;
        turns = turn;
        changes = row_changes m new p (Some row)
            (row_inserted m.places new.places i p row once absent vacant (place_changes m new i (Some (p, row)) turn));
      }

    -- a point gets another row at its place
    module _ (new : Rows R) (p : Point) (i : ℕ) (was row : R) (there : standing m i ≡ Some (p, was))
        (turn : PlaceTurns m new i (Some (p, row))) where
      stands_rewritten : (q : Point) (j : ℕ) → at numbers q ≡ Some j → StandsAt new q j
      stands_rewritten q j h =
          let s = by.stands q j h in
          elim (cases_eq j i) [
            | inl is ↦
                let same = one_point p q i was s.0 there (ap (standing m) (sym is) ∙ s.1) in
                (row, rw (is, ← same) turn.changed)
            | inr differs ↦ (s.0, turn.others j differs ∙ s.1)
          ]

      number_rewritten : (q : Point) (j : ℕ) (s : R) → standing new j ≡ Some (q, s) → at numbers q ≡ Some j
      number_rewritten q j s h = elim (cases_eq j i) [
        | inl is ↦
            let same = point_of_pair p q row s (sym turn.changed ∙ (ap (standing new) (sym is) ∙ h)) in
            ap (at numbers) (sym same) ∙ (by.number p i was there ∙ ap Some (sym is))
        | inr differs ↦ by.number q j s (sym (turn.others j differs) ∙ h)
      ]

      pub numbered_rewritten : IsNumbered numbers new
      numbered_rewritten = record { stands = stands_rewritten; number = number_rewritten }

      pub rewritten : IsRewritten m new p row
      rewritten = record {
        place = i;
        was = was;
        there = there;
        turns = turn;
        changes = row_changes m new p (Some row)
            (row_replaced m.places new.places i p was row once there (place_changes m new i (Some (p, row)) turn));
      }

    -- a point goes, with its number
    module _ (left : Rows ℕ) (new : Rows R) (p : Point) (i : ℕ) (was : R) (there : standing m i ≡ Some (p, was))
        (numbering : Changes numbers left p None) (turn : PlaceTurns m new i None) where
      stands_removed : (q : Point) (j : ℕ) → at left q ≡ Some j → StandsAt new q j
      stands_removed q j h = elim (point_cases q p) [
        | inl same ↦ absurd (no_some j (sym numbering.changed ∙ (ap (at left) (sym same) ∙ h)))
        | inr differs ↦
            let s = by.stands q j (sym (numbering.others q differs) ∙ h) in
            (s.0, turn.others j (λ is. differs (one_point q p i s.0 was (ap (standing m) (sym is) ∙ s.1) there)) ∙ s.1)
      ]

      number_removed : (q : Point) (j : ℕ) (s : R) → standing new j ≡ Some (q, s) → at left q ≡ Some j
      number_removed q j s h = elim (cases_eq j i) [
        | inl is ↦ absurd (no_some (q, s) (sym turn.changed ∙ (ap (standing new) (sym is) ∙ h)))
        | inr differs ↦
            let stood = sym (turn.others j differs) ∙ h in
            let number = by.number q j s stood in
            numbering.others q (λ same. differs (some_same j i (sym number ∙ (ap (at numbers) same ∙ by.number p i was there)))) ∙ number
      ]

      pub numbered_removed : IsNumbered left new
      numbered_removed = record { stands = stands_removed; number = number_removed }

      pub removed : IsRemoved m new p
      removed = record {
        place = i;
        was = was;
        there = there;
        turns = turn;
        changes = row_changes m new p None
            (row_removed m.places new.places i p was once there (place_changes m new i None turn));
      }

  -- what is added stands at a place that was vacant
  pub vacant_place : (slots : List (Option (Entry R))) (i : ℕ) → slice_index_or slots i None ≡ None → standing (rows_of slots) i ≡ None
  vacant_place slots i none = seen_at slots i ∙ ap (option_map pair_of) none

  pub turn_added : (old mid new : Slab (Entry R)) (i k : ℕ) (e : Entry R) → mid.slots ≡ old.slots → k ≡ i → Updates mid new k (Some e)
      → PlaceTurns (rows_of old.slots) (rows_of new.slots) i (Some (e.point, e.row))
  turn_added old mid new i k e same key u =
      turns old.slots new.slots i (Some e) (ap (get new) (sym key) ∙ u.changed)
      (λ j differs. u.others j (λ is. differs (is ∙ key)) ∙ ap (λ x. slice_index_or x j None) same)

  -- a point's number leads to its entry, and that has its row
  module _ (numbers : Rows ℕ) (s : Slab (Entry R)) (by : IsNumbered numbers (rows_of s.slots)) (p : Point) (i : ℕ) (number : at numbers p ≡ Some i) where
    pub entry_there : (row : R) × (get s i ≡ Some (record { point = p; row = row }))
    entry_there = let t = by.stands p i number in (t.0, has_entry s.slots i p t.0 t.1)

    module _ (e : Entry R) (there : get s i ≡ Some e) where
      own_point : e.point ≡ p
      own_point = ap (λ x. x.point) (some_same e (record { point = p; row = entry_there.0 }) (sym there ∙ entry_there.1))

      pub stands_there : standing (rows_of s.slots) i ≡ Some (p, e.row)
      stands_there = seen_at s.slots i ∙ ap (option_map pair_of) there ∙ ap (λ q. Some (q, e.row)) own_point

      pub row_there : at (rows_of s.slots) p ≡ Some e.row
      row_there = row_once (rows_of s.slots).places i p e.row (once numbers (rows_of s.slots) by) stands_there

      -- the entry gets another row
      pub turn_written : (w : R) → PlaceTurns (rows_of s.slots) (rows_of (slice_set s.slots i (Some (record { point = e.point; row = w })))) i (Some (p, w))
      turn_written w =
          let written : Entry R = record { point = e.point; row = w } in
          let u = Updates-with_value s i written (subst IsSome (sym there) refl) in
          subst (λ q. PlaceTurns (rows_of s.slots) (rows_of (slice_set s.slots i (Some written))) i (Some (q, w))) own_point
          (turns s.slots (slice_set s.slots i (Some written)) i (Some written) u.changed u.others)
