-- A link taken off both sides, its end at the one and then its end at the other.
use Rattle.std.proofs.Common.{◌≡◌, ◌∙◌, inl, inr, ℕ, ◌-◌, ◌<◌, length, refl, ap, sym, arith}
use Rattle.std.specs.Prelude.{Option, Some, None}
use Rattle.std.proofs.lemmas.Option.{slice_get_within, slice_get_past}
use Rattle.inc_value.specs.declared.node.Point.{Point}
use Rattle.link_table.specs.declared.ends.End.{End}
use Rattle.link_table.specs.declared.ends.EndLists.{EndLists}
use Rattle.link_table.specs.Ends.{end, ends_at, end_at, ends_with, EndIsTaken, PlaceIsTaken, LastIsKnown, IsTold, OneEndMoreWith, IsTwoWay}
use Rattle.link_table.proofs.Lists.{link_cases}
use Rattle.link_table.proofs.Places.{more_than_kept, kept_more}
use Rattle.link_table.proofs.Taking.{taken_with}
use Rattle.link_table.proofs.Paired.{IsLeft, AtPlace, Nowhere, flipped, loosened, left}

-- where two sides know each other, each of them knows the last end of a point of the other
pub last_known : (a b : EndLists) (p : Point) (i : ℕ) → IsTwoWay a b → LastIsKnown a b p i
last_known a b p i t e _ was = t.there p e.point (length (ends_at a p) - 1) e.back was

-- the end of a link is off at the one side
pub record IsHalf (k0 r0 k1 r1 : EndLists) (p : Point) (i : ℕ) (e : End) (o : Option End) : Type 0 where
  pub two_way : IsTwoWay k0 r0
  pub taken : EndIsTaken k0 k1 p i e
  pub now : end_at k1 p i ≡ o
  pub told : IsTold o r0 r1 p i

module _ (k0 r0 k1 r1 : EndLists) (p : Point) (i : ℕ) (e : End) (o : Option End) (h : IsHalf k0 r0 k1 r1 p i e o) where
  half : IsLeft k1 r0 r1 (AtPlace e.point e.back)
  half = left k0 k1 r0 r1 p i e (AtPlace e.point e.back) (loosened k0 r0 p e.point i e.back h.two_way h.taken.was) h.taken o h.now h.told

  -- the end at the other side still stands at its place
  other_end : end_at r1 e.point e.back ≡ Some (end p i)
  other_end = half.loose e.point e.back (refl, refl) ∙ h.two_way.there p e.point i e.back h.taken.was

  pub other_within : e.back < length (ends_at r1 e.point)
  other_within = slice_get_within (ends_at r1 e.point) e.back (end p i) other_end

  pub other_known : LastIsKnown r1 k1 e.point e.back
  other_known d apart was =
      (half.paired.back d.point e.point d.back (length (ends_at r1 e.point) - 1) (λ s. apart (sym s.1)) was).0

  -- and goes in turn
  module _ (k2 r2 : EndLists) (gone : PlaceIsTaken r1 r2 e.point e.back) (told : IsTold (end_at r2 e.point e.back) k1 k2 e.point e.back) where
    taken : EndIsTaken r1 r2 e.point e.back (end p i)
    taken = gone (end p i) other_end

    whole : IsLeft r2 k1 k2 Nowhere
    whole = left r1 r2 k1 k2 e.point e.back (end p i) Nowhere (flipped k1 r1 Nowhere (AtPlace e.point e.back) half.paired) taken
        (end_at r2 e.point e.back) refl told

    pub removed_with : OneEndMoreWith k2 k0 p e.point
    removed_with = kept_more k1 k2 k0 p e.point (taken_with k0 k1 p i e h.taken) whole.points

    removed_there : OneEndMoreWith r2 r0 e.point p
    removed_there = more_than_kept r2 r1 r0 e.point p (taken_with r1 r2 e.point e.back (end p i) taken) half.points

    counted : (x y : Point) → ends_with (ends_at r2 y) x ≡ ends_with (ends_at k2 x) y
    counted x y = elim (link_cases x p y e.point) [
      | inl same ↦ let was = h.two_way.counted p e.point in let up = removed_with.raised in let down = removed_there.raised in
          rw (same.0, same.1) (omega (arith, was, up, down))
      | inr other ↦
          sym (removed_there.others y x (λ e. other (rw (ap (λ l. l.reader) e, ap (λ l. l.kid) e) refl))) ∙ h.two_way.counted x y
          ∙ removed_with.others x y other
    ]

    pub removed_two_way : IsTwoWay k2 r2
    removed_two_way = record {
      there = λ x y k d was. (whole.paired.back y x d k (λ no. no) was).0;
      back = λ x y k d was. (whole.paired.there y x d k (λ no. no) was).0;
      counted = counted;
    }

-- the last end of a point popped
pub popped_half : (k0 k1 r : EndLists) (p : Point) (e : End) → IsTwoWay k0 r → EndIsTaken k0 k1 p (length (ends_at k1 p)) e
    → IsHalf k0 r k1 r p (length (ends_at k1 p)) e None
popped_half k0 k1 r p e two_way taken = record {
  two_way = two_way;
  taken = taken;
  now = slice_get_past (ends_at k1 p) (length (ends_at k1 p)) (omega arith);
  told = λ x. refl;
}
