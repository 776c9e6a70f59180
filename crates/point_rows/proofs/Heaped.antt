-- Places of points and buckets, after a point is put in or taken off.
use Rattle.std.proofs.Common.{◌≡◌, ◌≢◌, ◌∙◌, ℕ, ◌+◌, ◌≤◌, List, [], ◌∷◌, Bool, true, false, refl, sym, arith}
use Rattle.std.specs.Prelude.{Option, Some, None, is_some, count_by, cond, min}
use Rattle.std.proofs.lemmas.List.Sums.{sum_by-cons}
use Rattle.inc_value.specs.declared.node.Point.{Point}
use Rattle.point_map.specs.Rows.{at, count, Changes}
use Rattle.point_map.specs.Buckets.{Kept, Buckets, kept_at, kept_count, KeptChanges, IsTaken, IsEmptyBucket}
use Rattle.recompute_heap.specs.Agree.{leveled, heights_of, Agree}
use Rattle.recompute_heap.proofs.Agreeing.{view_at, agree_put, height_put, height_new, agree_off, height_off, height_none, agree_moved, height_moved, height_gone, some_height, every_put, every_taken, every_off, agree_same, buckets_same}
use Rattle.point_rows.specs.Heap.{IsHeap, seen}

pub none_when : {A : Type 0} (o : Option A) → is_some o ≡ false → o ≡ None
none_when None h = refl
none_when (Some x) h = absurd (let e = h in cc)

pub false_when_none : {A : Type 0} (o : Option A) → o ≡ None → is_some o ≡ false
false_when_none None h = refl
false_when_none (Some x) h = absurd (let e = h in cc)

pub true_and_false : {b : Bool} → b ≡ true → b ≡ false → ⊥
true_and_false t f = let e : true ≡ false = sym t ∙ f in cc

module _ {R : Type 0} where
  counted : (xs : List (Option (Kept R))) → count_by is_some (heights_of xs) ≡ count_by is_some xs
  counted [] = refl
  counted (None ∷ rest) =
      let next = counted rest in
      rw (sum_by-cons (λ o. cond (is_some o) 1 0) None (heights_of rest), sum_by-cons (λ o. cond (is_some o) 1 0) None rest, next) refl
  counted (Some k ∷ rest) =
      let next = counted rest in
      rw (sum_by-cons (λ o. cond (is_some o) 1 0) (Some (leveled k)) (heights_of rest), sum_by-cons (λ o. cond (is_some o) 1 0) (Some k) rest, next) refl

  -- each point that is kept is seen
  pub seen_count : (b : Buckets R) → count (seen b) ≡ kept_count b
  seen_count b = counted b.kept

module _ {R : Type 0} (place new_place : Point → Option ℕ) (b new : Buckets R) (least : ℕ) (h : IsHeap place b least) where
  -- a point has a height in the heap where it has a place there
  pub in_is : (p : Point) → is_some (at (seen b) p) ≡ is_some (place p)
  in_is p = some_height b.kept place p h.agree

  -- the same places
  pub heap_same : ((p : Point) → new_place p ≡ place p) → IsHeap new_place b least
  heap_same same = record {
    agree = agree_same place new_place (kept_at b) (kept_at b) h.agree same (λ i. refl);
    below = h.below;
    above = h.above;
    wide = h.wide;
    low = h.low;
  }

  -- a point is put in
  module _ (p : Point) (j : ℕ) (k : Kept R) (absent : place p ≡ None) (vacant : kept_at b j ≡ None) (changes : KeptChanges b new j (Some k))
      (is_p : k.point ≡ p) (here : new_place p ≡ Some j) (others : (q : Point) → q ≢ p → new_place q ≡ place q) where
    agree_in : Agree new_place (kept_at new)
    agree_in = agree_put place new_place (kept_at b) (kept_at new) p j k h.agree absent vacant here others changes.changed is_p changes.others

    pub put_heap : (new_least : ℕ) → new_least ≡ min least k.bucket → k.bucket ≤ 128 → new.width ≡ b.width
        → kept_count new + new.spare ≡ kept_count b + b.spare → IsHeap new_place new new_least
    put_heap new_least m low width sum = record {
      agree = agree_in;
      below = every_put (λ x. new_least ≤ x.bucket) b new j k (λ i c at_i. let was = h.below i c at_i in grind (arith, m, was)) changes
          (grind (arith, m));
      above = every_put (λ x. x.bucket ≤ 128) b new j k h.above changes low;
      wide = buckets_same b new 129 h.wide width sum;
      low = let l = h.low in grind (arith, m, l);
    }

    pub put_changes : Changes (seen b) (seen new) p (Some k.bucket)
    put_changes = record {
      changed = view_at new.kept new_place agree_in p
          ∙ height_new place new_place (kept_at b) (kept_at new) p j k h.agree absent vacant here others changes.changed is_p changes.others;
      others = λ q differs. view_at new.kept new_place agree_in q
          ∙ height_put place new_place (kept_at b) (kept_at new) p j k h.agree absent vacant here others changes.changed is_p changes.others q differs
          ∙ sym (view_at b.kept place h.agree q);
    }

  -- a point is taken off, and its place is vacant
  module _ (p : Point) (j : ℕ) (there : place p ≡ Some j) (off : new_place p ≡ None) (others : (q : Point) → q ≢ p → new_place q ≡ place q)
      (vacant : kept_at new j ≡ None) (kept_others : (i : ℕ) → i ≢ j → kept_at new i ≡ kept_at b i) where
    pub agree_out : Agree new_place (kept_at new)
    agree_out = agree_off place new_place (kept_at b) (kept_at new) p j h.agree there off others vacant kept_others

    pub out_changes : Changes (seen b) (seen new) p None
    out_changes = record {
      changed = view_at new.kept new_place agree_out p
          ∙ height_none place new_place (kept_at b) (kept_at new) p j h.agree there off others vacant kept_others;
      others = λ q differs. view_at new.kept new_place agree_out q
          ∙ height_off place new_place (kept_at b) (kept_at new) p j h.agree there off others vacant kept_others q differs
          ∙ sym (view_at b.kept place h.agree q);
    }

    pub out_heap : new.width ≡ b.width → kept_count new + new.spare ≡ kept_count b + b.spare → IsHeap new_place new least
    out_heap width sum = record {
      agree = agree_out;
      below = every_off (λ x. least ≤ x.bucket) b new j h.below (record { changed = vacant; others = kept_others });
      above = every_off (λ x. x.bucket ≤ 128) b new j h.above (record { changed = vacant; others = kept_others });
      wide = buckets_same b new 129 h.wide width sum;
      low = h.low;
    }

  -- a point is taken off, and another comes to its place
  module _ (mid_place : Point → Option ℕ) (p q : Point) (j : ℕ) (k : Kept R) (there : place p ≡ Some j) (off : mid_place p ≡ None)
      (mid_others : (x : Point) → x ≢ p → mid_place x ≡ place x) (taken : IsTaken b new j) (at_j : kept_at new j ≡ Some k) (is_q : k.point ≡ q)
      (at_q : new_place q ≡ Some j) (others : (x : Point) → x ≢ q → new_place x ≡ mid_place x) where
    agree_over : Agree new_place (kept_at new)
    agree_over =
        agree_moved place mid_place new_place (kept_at b) (kept_at new) p q j taken.vacated k h.agree there off mid_others taken.vacant taken.moved
        taken.others at_j is_q at_q others

    pub over_heap : new.width ≡ b.width → kept_count new + new.spare ≡ kept_count b + b.spare → IsHeap new_place new least
    over_heap width sum = record {
      agree = agree_over;
      below = every_taken (λ x. least ≤ x.bucket) b new j h.below taken;
      above = every_taken (λ x. x.bucket ≤ 128) b new j h.above taken;
      wide = buckets_same b new 129 h.wide width sum;
      low = h.low;
    }

    pub over_changes : Changes (seen b) (seen new) p None
    over_changes = record {
      changed = view_at new.kept new_place agree_over p
          ∙ height_gone place mid_place new_place (kept_at b) (kept_at new) p q j taken.vacated k h.agree there off mid_others taken.vacant taken.moved
          taken.others at_j is_q at_q others;
      others = λ x differs. view_at new.kept new_place agree_over x
          ∙ height_moved place mid_place new_place (kept_at b) (kept_at new) p q j taken.vacated k h.agree there off mid_others taken.vacant taken.moved
          taken.others at_j is_q at_q others x differs
          ∙ sym (view_at b.kept place h.agree x);
    }

-- where the bucket of the least is empty, the next may be the least
pub heap_above : {R : Type 0} (place : Point → Option ℕ) (b : Buckets R) (least : ℕ) → IsHeap place b least → IsEmptyBucket b least → least ≤ 128
    → IsHeap place b (least + 1)
heap_above place b least h empty low = record {
  agree = h.agree;
  below = λ i k at_i. let was = h.below i k at_i in let apart = empty i k at_i in omega (arith, was, apart);
  above = h.above;
  wide = h.wide;
  low = omega (arith, low);
}
