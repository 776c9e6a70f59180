-- Ends by place, after one is set and after one is put behind the others.
use Rattle.std.proofs.Common.{◌≡◌, ◌∙◌, inl, inr, ℕ, ◌+◌, ◌<◌, List, [], ◌∷◌, length, take, Bool, true, false, refl, ap, sym, arith}
use Rattle.std.specs.Prelude.{Some, slice_get, slice_index_or, sum_by, cond}
use Rattle.std.proofs.lemmas.Grind.{take_at_read}
use Rattle.std.proofs.lemmas.List.{length-set}
use Rattle.std.proofs.lemmas.List.Sums.{sum_by-cons, sum_by-append, sum_by-set}
use Rattle.std.proofs.lemmas.Option.{slice_get_within, slice_get-get_or, get_or_from_slice_get, same_Some}
use Rattle.inc_value.specs.declared.node.Point.{Point}
use Rattle.point_map.proofs.Places.{same_point_self, point_cases}
use Rattle.link_table.specs.declared.ends.End.{End}
use Rattle.link_table.specs.declared.ends.EndLists.{EndLists}
use Rattle.link_table.specs.Links.{is_point}
use Rattle.link_table.specs.Ends.{end, ends_at, end_at, ends_with, EndIsSet, OneEndMore, OneEndMoreWith, KeepsPoints}
use Rattle.link_table.proofs.Lists.{get_set_same, get_set_other, get_append_last, get_append_other, sum_of_map, other_point, tested, tested_is, tested_same}

-- whether the end is of a link with the point, as a number
abbrev pub hits : Point → End → ℕ
hits y e = cond (is_point y e.point) 1 0

pub ends_with_is : (ends : List End) (y : Point) → ends_with ends y ≡ sum_by (hits y) ends
ends_with_is ends y = sum_of_map (λ p. cond (is_point y p) 1 0) (λ e. e.point) ends

-- an end that passes the test leads to the point
pub end_when : (ends : List End) (q : Point) (i : ℕ) (d : End) → i < length ends → (b : Bool) → b ≡ tested (slice_index_or ends i d).point q
    → b ≡ true → slice_get ends i ≡ Some (end q (slice_index_or ends i d).back)
end_when ends q i d within b is t =
    let same = tested_same (slice_index_or ends i d).point q (sym is ∙ t) in
    slice_get-get_or ends i d within ∙ ap (λ p. Some (end p (slice_index_or ends i d).back)) same

-- and one that fails it leaves as many as before
pub none_when : (ends : List End) (q : Point) (i : ℕ) (d : End) → i < length ends → (b : Bool) → b ≡ tested (slice_index_or ends i d).point q
    → b ≡ false → ends_with (take i ends) q ≡ 0 → ends_with (take (i + 1) ends) q ≡ 0
none_when ends q i d within b is f none =
    let e = slice_index_or ends i d in
    let more = (take_at_read ends i d within).1 in
    let differs : is_point q e.point ≡ false = sym (tested_is e.point q) ∙ sym is ∙ f in
    let sum = sum_by-append (hits q) (take i ends) (e ∷ []) in
    let one = sum_by-cons (hits q) e [] in
    let miss : hits q e ≡ 0 = rw differs refl in
    let was = sym (ends_with_is (take i ends) q) ∙ none in
    rw (ends_with_is (take (i + 1) ends) q, more) (omega (arith, sum, one, miss, was))

-- the parts of an end
pub end_parts : (p x : Point) (i k : ℕ) → Some (end p i) ≡ Some (end x k) → (p ≡ x) × (i ≡ k)
end_parts p x i k h = let e = same_Some (end p i) (end x k) h in (ap (λ w. w.point) e, ap (λ w. w.back) e)

module _ (old new : EndLists) (p : Point) (i : ℕ) (e : End) (s : EndIsSet old new p i e) where
  pub set_here : i < length (ends_at old p) → end_at new p i ≡ Some e
  set_here within = ap (λ l. slice_get l i) s.changed ∙ get_set_same (ends_at old p) i e within

  pub set_elsewhere : (x : Point) (k : ℕ) → (x ≡ p → k ≡ i → ⊥) → end_at new x k ≡ end_at old x k
  set_elsewhere x k other = elim (point_cases x p) [
    | inl same ↦ rw same (ap (λ l. slice_get l k) s.changed ∙ get_set_other (ends_at old p) i k e (other same))
    | inr differs ↦ ap (λ l. slice_get l k) (s.others x differs)
  ]

  pub set_length : (x : Point) → length (ends_at new x) ≡ length (ends_at old x)
  set_length x = elim (point_cases x p) [
    | inl same ↦ rw same (ap length s.changed ∙ length-set (ends_at old p) i e)
    | inr differs ↦ ap length (s.others x differs)
  ]

  pub set_counts : (d : End) → end_at old p i ≡ Some d → (y : Point)
      → ends_with (ends_at new p) y + hits y d ≡ ends_with (ends_at old p) y + hits y e
  set_counts d was y =
      let within = slice_get_within (ends_at old p) i d was in
      let read = get_or_from_slice_get (ends_at old p) i d d was in
      let sum = rw read at (sum_by-set (hits y) (ends_at old p) i e d within) in
      rw (ends_with_is (ends_at new p) y, ends_with_is (ends_at old p) y, s.changed) sum

  -- an end that is of a link with the same point
  pub set_keeps : (d : End) → end_at old p i ≡ Some d → d.point ≡ e.point → KeepsPoints old new
  set_keeps d was same = record {
    lengths = set_length;
    counts = λ x y. elim (point_cases x p) [
      | inl at_p ↦ let sum = set_counts d was y in let hit : hits y d ≡ hits y e = ap (λ r. cond (is_point y r) 1 0) same in
          rw at_p (omega (arith, sum, hit))
      | inr differs ↦ ap (λ l. ends_with l y) (s.others x differs)
    ];
  }

module _ (fewer more : EndLists) (p : Point) (e : End) (m : OneEndMore fewer more p e) where
  pub put_here : end_at more p (length (ends_at fewer p)) ≡ Some e
  put_here = ap (λ l. slice_get l (length (ends_at fewer p))) m.last ∙ get_append_last (ends_at fewer p) e

  pub put_elsewhere : (x : Point) (k : ℕ) → (x ≡ p → k ≡ length (ends_at fewer p) → ⊥) → end_at more x k ≡ end_at fewer x k
  put_elsewhere x k other = elim (point_cases x p) [
    | inl same ↦ rw same (ap (λ l. slice_get l k) m.last ∙ get_append_other (ends_at fewer p) e k (other same))
    | inr differs ↦ ap (λ l. slice_get l k) (m.others x differs)
  ]

  put_counts : (y : Point) → ends_with (ends_at more p) y ≡ ends_with (ends_at fewer p) y + hits y e
  put_counts y =
      let sum = sum_by-append (hits y) (ends_at fewer p) (e ∷ []) in
      let one = sum_by-cons (hits y) e [] in
      rw (ends_with_is (ends_at more p) y, ends_with_is (ends_at fewer p) y, m.last) (omega (arith, sum, one))

  pub put_with : OneEndMoreWith fewer more p e.point
  put_with = record {
    raised = let sum = put_counts e.point in
        let hit : hits e.point e ≡ 1 = rw (same_point_self e.point) refl in omega (arith, sum, hit);
    others = λ a b other. elim (point_cases a p) [
      | inl same ↦ let differs = other_point b e.point (λ h. other (rw (same, h) refl)) in
          let miss : hits b e ≡ 0 = rw differs refl in let sum = put_counts b in rw same (omega (arith, sum, miss))
      | inr differs ↦ ap (λ l. ends_with l b) (m.others a differs)
    ];
  }

-- one more than what has as many
pub more_than_kept : (fewer more was : EndLists) (p q : Point) → OneEndMoreWith fewer more p q → KeepsPoints was more → OneEndMoreWith fewer was p q
more_than_kept fewer more was p q m k = record {
  raised = sym (k.counts p q) ∙ m.raised;
  others = λ a b other. sym (k.counts a b) ∙ m.others a b other;
}

-- one more than what is kept
pub kept_more : (fewer kept more : EndLists) (p q : Point) → OneEndMoreWith fewer more p q → KeepsPoints fewer kept → OneEndMoreWith kept more p q
kept_more fewer kept more p q m k = record {
  raised = let same = k.counts p q in let up = m.raised in omega (arith, same, up);
  others = λ a b other. m.others a b other ∙ sym (k.counts a b);
}
