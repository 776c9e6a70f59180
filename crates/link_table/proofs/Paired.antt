-- Two sides that know each other but for loose ends, and an end taken off one of them.
use Rattle.std.proofs.Common.{◌≡◌, ◌∙◌, inl, inr, ℕ, ◌-◌, length, refl, ap, sym}
use Rattle.std.specs.Prelude.{Option, None, Some, slice_get}
use Rattle.std.proofs.lemmas.Option.{slice_get_within}
use Rattle.inc_value.specs.declared.node.Point.{Point}
use Rattle.link_table.specs.declared.ends.End.{End}
use Rattle.link_table.specs.declared.ends.EndLists.{EndLists}
use Rattle.link_table.specs.Ends.{end, ends_at, end_at, ends_with, EndIsSet, EndIsTaken, IsTold, IsTwoWay, KeepsEnds, KeepsPoints}
use Rattle.link_table.proofs.Lists.{place_cases}
use Rattle.link_table.proofs.Places.{end_parts, set_here, set_elsewhere, set_keeps}
use Rattle.link_table.proofs.Taking.{taken_moved, taken_apart, taken_last, taken_before, taken_after}

-- one place of one point
abbrev pub AtPlace : Point → ℕ → Point → ℕ → Type 0
AtPlace p i x k = (x ≡ p) × (k ≡ i)

-- no place
abbrev pub Nowhere : Point → ℕ → Type 0
Nowhere x k = ⊥

-- each end of a leads to its end in b, and each of b to its end in a, but for the loose ones: those at F in a and at G in b
pub record IsPaired (a b : EndLists) (F G : Point → ℕ → Type 0) : Type 0 where
  pub there : (x y : Point) (k d : ℕ) → (F x k → ⊥) → end_at a x k ≡ Some (end y d) → (end_at b y d ≡ Some (end x k)) × (G y d → ⊥)
  pub back : (x y : Point) (k d : ℕ) → (G y d → ⊥) → end_at b y d ≡ Some (end x k) → (end_at a x k ≡ Some (end y d)) × (F x k → ⊥)

pub flipped : (a b : EndLists) (F G : Point → ℕ → Type 0) → IsPaired a b F G → IsPaired b a G F
flipped a b F G h = record { there = λ x y k d. h.back y x d k; back = λ x y k d. h.there y x d k }

-- the two ends of one link may be loose where none is
pub loosened : (a b : EndLists) (p q : Point) (i c : ℕ) → IsTwoWay a b → end_at a p i ≡ Some (end q c)
    → IsPaired a b (AtPlace p i) (AtPlace q c)
loosened a b p q i c t link =
    let link_back = t.there p q i c link in record {
      there = λ x y k d apart was. let back = t.there x y k d was in (
        back,
        λ same. let found = rw (same.0, same.1, link_back) at back in let parts = end_parts p x i k found in
            apart (sym parts.0, sym parts.1),
      );
      back = λ x y k d apart was. let back = t.back x y k d was in (
        back,
        λ same. let found = rw (same.0, same.1, link) at back in let parts = end_parts q y c d found in
            apart (sym parts.0, sym parts.1),
      );
    }

-- what an end taken off one side leaves: no end is loose there, and the other side keeps its points and its loose ends
pub record IsLeft (a' b b' : EndLists) (G : Point → ℕ → Type 0) : Type 0 where
  pub paired : IsPaired a' b' Nowhere G
  pub points : KeepsPoints b b'
  pub loose : (y : Point) (d : ℕ) → G y d → end_at b' y d ≡ end_at b y d

module _ (a a' b b' : EndLists) (p : Point) (i : ℕ) (e : End) (G : Point → ℕ → Type 0)
    (h : IsPaired a b (AtPlace p i) G) (t : EndIsTaken a a' p i e) where
  module _ (none : end_at a' p i ≡ None) (kept : KeepsEnds b b') where
    none_there : (x y : Point) (k d : ℕ) → end_at a' x k ≡ Some (end y d) → (end_at b' y d ≡ Some (end x k)) × (G y d → ⊥)
    none_there x y k d now = elim (place_cases x p k i) [
      | inl same ↦ absurd (let found = rw (same.0, same.1, none) at now in cc)
      | inr other ↦
          let led = h.there x y k d (λ s. other s.0 s.1) (taken_before a a' p i e t x k (end y d) other now) in
          (ap (λ l. slice_get l d) (kept y) ∙ led.0, led.1)
    ]

    none_back : (x y : Point) (k d : ℕ) → (G y d → ⊥) → end_at b' y d ≡ Some (end x k) → end_at a' x k ≡ Some (end y d)
    none_back x y k d tight now =
        let led = h.back x y k d tight (sym (ap (λ l. slice_get l d) (kept y)) ∙ now) in
        let last = taken_last a a' p i e t none in
        taken_after a a' p i e t x k (end y d) (λ s at_i. led.1 (s, at_i)) (λ s at_last. led.1 (s, at_last ∙ sym last)) led.0

    left_none : IsLeft a' b b' G
    left_none = record {
      paired = record {
        there = λ x y k d _ now. none_there x y k d now;
        back = λ x y k d tight now. (none_back x y k d tight now, λ no. no);
      };
      points = record { lengths = λ x. ap length (kept x); counts = λ x y. ap (λ l. ends_with l y) (kept x) };
      loose = λ y d _. ap (λ l. slice_get l d) (kept y);
    }

  module _ (moved : End) (some : end_at a' p i ≡ Some moved) (told : EndIsSet b b' moved.point moved.back (end p i)) where
    was_last : end_at a p (length (ends_at a p) - 1) ≡ Some moved
    was_last = taken_moved a a' p i e t moved some

    moved_back : (end_at b moved.point moved.back ≡ Some (end p (length (ends_at a p) - 1))) × (G moved.point moved.back → ⊥)
    moved_back = h.there p moved.point (length (ends_at a p) - 1) moved.back (λ s. taken_apart a a' p i e t i moved some (sym s.1)) was_last

    told_here : end_at b' moved.point moved.back ≡ Some (end p i)
    told_here = set_here b b' moved.point moved.back (end p i) told
        (slice_get_within (ends_at b moved.point) moved.back (end p (length (ends_at a p) - 1)) moved_back.0)

    some_there : (x y : Point) (k d : ℕ) → end_at a' x k ≡ Some (end y d) → (end_at b' y d ≡ Some (end x k)) × (G y d → ⊥)
    some_there x y k d now = elim (place_cases x p k i) [
      | inl same ↦
          let found = rw (same.0, same.1, some) at now in let parts = end_parts moved.point y moved.back d found in
          rw (← parts.0, ← parts.1, same.0, same.1) (told_here, moved_back.1)
      | inr other ↦
          let led = h.there x y k d (λ s. other s.0 s.1) (taken_before a a' p i e t x k (end y d) other now) in (
            set_elsewhere b b' moved.point moved.back (end p i) told y d (λ s back.
                let found = rw (s, back, moved_back.0) at led.0 in let parts = end_parts p x (length (ends_at a p) - 1) k found in
                taken_apart a a' p i e t k (end y d) (rw (sym parts.0) at now) (sym parts.1)) ∙ led.0,
            led.1,
          )
    ]

    some_back : (x y : Point) (k d : ℕ) → (G y d → ⊥) → end_at b' y d ≡ Some (end x k) → end_at a' x k ≡ Some (end y d)
    some_back x y k d tight now = elim (place_cases y moved.point d moved.back) [
      | inl same ↦
          let found = rw (same.0, same.1, told_here) at now in let parts = end_parts p x i k found in
          rw (← parts.0, ← parts.1, same.0, same.1) some
      | inr other ↦
          let led = h.back x y k d tight (sym (set_elsewhere b b' moved.point moved.back (end p i) told y d other) ∙ now) in
          taken_after a a' p i e t x k (end y d) (λ s at_i. led.1 (s, at_i)) (λ s at_last.
          let found = rw (s, at_last, was_last) at led.0 in let parts = end_parts moved.point y moved.back d found in
          other (sym parts.0) (sym parts.1)) led.0
    ]

    left_some : IsLeft a' b b' G
    left_some = record {
      paired = record {
        there = λ x y k d _ now. some_there x y k d now;
        back = λ x y k d tight now. (some_back x y k d tight now, λ no. no);
      };
      points = set_keeps b b' moved.point moved.back (end p i) told (end p (length (ends_at a p) - 1)) moved_back.0 refl;
      loose = λ y d at_g. set_elsewhere b b' moved.point moved.back (end p i) told y d (λ s back. moved_back.1 (rw (← s, ← back) at_g));
    }

  pub left : (o : Option End) → end_at a' p i ≡ o → IsTold o b b' p i → IsLeft a' b b' G
  left None none kept = left_none none kept
  left (Some moved) some told = left_some moved some told
