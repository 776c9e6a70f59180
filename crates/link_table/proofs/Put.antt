-- A link put on both sides.
use Rattle.std.proofs.Common.{◌≡◌, ◌∙◌, inl, inr, ℕ, length, refl, ap, sym, arith}
use Rattle.std.specs.Prelude.{Some, slice_get}
use Rattle.std.proofs.lemmas.Option.{slice_get_within}
use Rattle.inc_value.specs.declared.node.Point.{Point}
use Rattle.link_table.specs.declared.ends.End.{End}
use Rattle.link_table.specs.declared.ends.EndLists.{EndLists}
use Rattle.link_table.specs.Ends.{end, ends_at, end_at, ends_with, OneEndMore, OneEndMoreWith, IsTwoWay, KeepsEnds}
use Rattle.link_table.proofs.Lists.{place_cases, link_cases}
use Rattle.link_table.proofs.Places.{end_parts, put_here, put_elsewhere, put_with}

-- every end of the one side leads to its end on the other
abbrev pub Leads : EndLists → EndLists → Type 0
Leads a b = (x y : Point) (k d : ℕ) → end_at a x k ≡ Some (end y d) → end_at b y d ≡ Some (end x k)

-- both sides have one end more, the last at p and at q, and the two lead to each other
pub record IsPut (a more_a b more_b : EndLists) (p q : Point) (i c : ℕ) : Type 0 where
  pub this : OneEndMore a more_a p (end q c)
  pub that : OneEndMore b more_b q (end p i)
  pub this_last : i ≡ length (ends_at a p)
  pub that_last : c ≡ length (ends_at b q)

pub put_flipped : (a more_a b more_b : EndLists) (p q : Point) (i c : ℕ) → IsPut a more_a b more_b p q i c → IsPut b more_b a more_a q p c i
put_flipped a more_a b more_b p q i c h = record { this = h.that; that = h.this; this_last = h.that_last; that_last = h.this_last }

module _ (a more_a b more_b : EndLists) (p q : Point) (i c : ℕ) (h : IsPut a more_a b more_b p q i c) where
  here : end_at more_a p i ≡ Some (end q c)
  here = rw h.this_last (put_here a more_a p (end q c) h.this)

  there : end_at more_b q c ≡ Some (end p i)
  there = rw h.that_last (put_here b more_b q (end p i) h.that)

  elsewhere : (x : Point) (k : ℕ) → (x ≡ p → k ≡ i → ⊥) → end_at more_a x k ≡ end_at a x k
  elsewhere x k other = put_elsewhere a more_a p (end q c) h.this x k (λ s e. other s (e ∙ sym h.this_last))

  elsewhere_there : (x : Point) (k : ℕ) → (x ≡ q → k ≡ c → ⊥) → end_at more_b x k ≡ end_at b x k
  elsewhere_there x k other = put_elsewhere b more_b q (end p i) h.that x k (λ s e. other s (e ∙ sym h.that_last))

  none_there : (x : Point) (k : ℕ) (e : End) → x ≡ q → k ≡ c → end_at b x k ≡ Some e → ⊥
  none_there x k e same at_c was =
      let w = slice_get_within (ends_at b x) k e was in let l = rw same at w in omega (arith, l, at_c, h.that_last)

  pub leads_more : Leads a b → Leads more_a more_b
  leads_more l x y k d was = elim (place_cases x p k i) [
    | inl same ↦ let found = rw (same.0, same.1, here) at was in let parts = end_parts q y c d found in
        rw (← parts.0, ← parts.1, same.0, same.1) there
    | inr other ↦ let before = rw (elsewhere x k other) at was in let back = l x y k d before in
        elsewhere_there y d (λ s e. none_there y d (end x k) s e back) ∙ back
  ]

  this_with : OneEndMoreWith a more_a p q
  this_with = put_with a more_a p (end q c) h.this

  that_with : OneEndMoreWith b more_b q p
  that_with = put_with b more_b q (end p i) h.that

  pub counted_more : ((x y : Point) → ends_with (ends_at b y) x ≡ ends_with (ends_at a x) y)
      → (x y : Point) → ends_with (ends_at more_b y) x ≡ ends_with (ends_at more_a x) y
  counted_more counted x y = elim (link_cases x p y q) [
    | inl same ↦ let before = counted p q in let up = this_with.raised in let down = that_with.raised in
        rw (same.0, same.1) (omega (arith, before, up, down))
    | inr other ↦ that_with.others y x (λ e. other (rw (ap (λ l. l.reader) e, ap (λ l. l.kid) e) refl)) ∙ counted x y
        ∙ sym (this_with.others x y other)
  ]

-- a link more on both sides
pub two_way_more : (a more_a b more_b : EndLists) (p q : Point) (i c : ℕ) → IsPut a more_a b more_b p q i c → IsTwoWay a b → IsTwoWay more_a more_b
two_way_more a more_a b more_b p q i c h t = record {
  there = λ x y k d. leads_more a more_a b more_b p q i c h (λ x y k d. t.there x y k d) x y k d;
  back = λ x y k d. leads_more b more_b a more_a q p c i (put_flipped a more_a b more_b p q i c h) (λ y x d k. t.back x y k d) y x d k;
  counted = counted_more a more_a b more_b p q i c h t.counted;
}

-- the same ends on both sides
pub two_way_kept : (a b a' b' : EndLists) → KeepsEnds a a' → KeepsEnds b b' → IsTwoWay a b → IsTwoWay a' b'
two_way_kept a b a' b' ka kb t = record {
  there = λ x y k d was. ap (λ l. slice_get l d) (kb y) ∙ t.there x y k d (sym (ap (λ l. slice_get l k) (ka x)) ∙ was);
  back = λ x y k d was. ap (λ l. slice_get l k) (ka x) ∙ t.back x y k d (sym (ap (λ l. slice_get l d) (kb y)) ∙ was);
  counted = λ x y. ap (λ l. ends_with l x) (kb y) ∙ t.counted x y ∙ sym (ap (λ l. ends_with l y) (ka x));
}
