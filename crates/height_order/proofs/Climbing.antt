-- A climb, step by step.
use Rattle.std.proofs.Common.{◌≡◌, ◌≢◌, ◌∙◌, ℕ, ◌+◌, ◌<◌, ◌≤◌, List, [], ◌∷◌, ap, sym, subst, inl, inr, arith}
use Rattle.std.specs.Prelude.{◌⊎◌, Option, Some, None, IsSome, min}
use Rattle.inc_value.specs.declared.node.Point.{Point}
use Rattle.point_map.specs.Rows.{Rows, at, Holds, Changes}
use Rattle.point_map.proofs.Places.{point_cases}
use Rattle.recompute_heap.specs.Agree.{IsLeast, IsEmpty}
use Rattle.link_table.specs.Links.{Links, Reads, AreReaders}
use Rattle.height_order.specs.declared.lifts.Lift.{Lift}
use Rattle.height_order.specs.Levels.{level, AreSoundHeights}
use Rattle.height_order.specs.Climbs.{lifted, IsRaised, IsAsked, AllAsked, IsDone, IsAboveSoon, IsClimbing, IsLifted, GoesAbove, ComesAbove, KeepsDone}
use Rattle.height_order.proofs.Points.{row_there, some_there, not_both, there_cases}
use Rattle.height_order.proofs.Covering.{Occurs, occurs_none, occurs_cases}
use Rattle.height_order.proofs.Levelling.{none_at}
use Rattle.height_order.proofs.Lifting.{lifted_some, lifted_none, lifted_there, lifted_other, not_under}

-- the least of a height and the greatest
pub record IsCapped (n m : ℕ) : Type 0 where
  pub same : n ≤ 128 → m ≡ n
  pub cap : 128 < n → m ≡ 128
  pub low : m ≤ 128

pub capped : (n : ℕ) → IsCapped n (min n 128)
capped n = record { same = λ h. omega (arith, h); cap = λ h. omega (arith, h); low = omega arith }

two_cases : (n : ℕ) → (n ≤ 128) ⊎ (128 < n)
two_cases n = grind arith

module _ (heights : Rows ℕ) (links : Links) (p q : Point) (sound : AreSoundHeights heights links) where
  -- nothing needs to be lifted
  pub climbing_none : (lifts : Rows Lift) (queue : Rows ℕ) → lifts.places ≡ [] → IsEmpty queue → level heights q < level heights p
      → IsClimbing heights links p q lifts queue 0 p []
  climbing_none lifts queue none empty high = record {
    there = λ y there. absurd (not_both (at lifts y) (none_at lifts y none) there);
    raised = λ y l e. absurd (not_both (at lifts y) (none_at lifts y none) (some_there (at lifts y) l e));
    asked = λ y l e. absurd (not_both (at lifts y) (none_at lifts y none) (some_there (at lifts y) l e));
    queued = λ y h e. absurd (not_both (at queue y) (empty y) (some_there (at queue y) h e));
    not_below = λ y there. absurd (not_both (at lifts y) (none_at lifts y none) there);
    unmet = none_at lifts q none;
    start = (let e = lifted_none heights lifts p (none_at lifts p none) in omega (arith, e, high));
    above = λ y r d. absurd (not_both (at lifts y) (none_at lifts y none) d.lifted);
    done = λ y d. absurd (not_both (at lifts y) (none_at lifts y none) d.lifted);
    waiting = λ y h e. omega arith;
  }

  module _ (old lifts : Rows Lift) (queue_old queue : Rows ℕ) (none : old.places ≡ []) (empty : IsEmpty queue_old) (l : Lift) (kid : l.kid ≡ q)
      (height : l.height ≡ level heights q + 1) (low : level heights p ≤ level heights q) (there_p : Holds heights p) (other : p ≢ q)
      (first : IsLifted heights old lifts queue_old queue p l) where
    queue_at : at queue p ≡ Some (level heights p)
    queue_at = (first.first (none_at old p none)).changed

    is_p_by : (y : Point) → Holds lifts y → (y ≡ p) ⊎ (y ≢ p) → y ≡ p
    is_p_by y there (inl same) = same
    is_p_by y there (inr differs) = absurd (not_both (at lifts y) (first.lifts.others y differs ∙ none_at old y none) there)

    -- the only lifted point
    is_p : (y : Point) → Holds lifts y → y ≡ p
    is_p y there = is_p_by y there (point_cases y p)

    is_l : (y : Point) (m : Lift) → at lifts y ≡ Some m → m ≡ l
    is_l y m e =
        let same = is_p y (some_there (at lifts y) m e) in
        let f : ◌≡◌ {A = Option Lift} (Some m) (Some l) = sym e ∙ ap (at lifts) same ∙ first.lifts.changed in cc

    not_done : (y : Point) → IsDone lifts queue y → ⊥
    not_done y d = not_both (at queue y) d.out (some_there (at queue y) (level heights p) (ap (at queue) (is_p y d.lifted) ∙ queue_at))

    first_queued : (y : Point) (h : ℕ) → at queue y ≡ Some h → (y ≡ p) ⊎ (y ≢ p) → (h ≡ level heights y) × (y ≡ p)
    first_queued y h e (inl same) =
        let f : ◌≡◌ {A = Option ℕ} (Some h) (Some (level heights p)) = sym e ∙ ap (at queue) same ∙ queue_at in
        let g : h ≡ level heights p = cc in (g ∙ ap (level heights) (sym same), same)
    first_queued y h e (inr differs) =
        absurd (not_both (at queue y) ((first.first (none_at old p none)).others y differs ∙ empty y) (some_there (at queue y) h e))

    unmet_q : at lifts q ≡ None
    unmet_q = first.lifts.others q (λ e. other (sym e)) ∙ none_at old q none

    is_raised : (y : Point) → y ≡ p → IsRaised heights q y l.height
    is_raised y same = let e = ap (level heights) same in let s = sound.low q in
        record { more = omega (arith, e, height, low); above_kid = omega (arith, height); low = omega (arith, height, s) }

    -- the new link's reader is lifted
    pub climbing_first : IsClimbing heights links p q lifts queue (level heights p) p []
    climbing_first = record {
      there = λ y there. subst (Holds heights) (sym (is_p y there)) there_p;
      raised = λ y m e. subst (λ k. IsRaised heights q y k.height) (sym (is_l y m e)) (is_raised y (is_p y (some_there (at lifts y) m e)));
      asked = λ y m e. inl (is_p y (some_there (at lifts y) m e), ap (λ k. k.kid) (is_l y m e) ∙ kid);
      queued = λ y h e. let w = first_queued y h e (point_cases y p) in
          (w.0, some_there (at lifts y) l (ap (at lifts) w.1 ∙ first.lifts.changed));
      not_below = λ y there. let e = ap (level heights) (is_p y there) in omega (arith, e);
      unmet = unmet_q;
      start = (let e = lifted_there heights old lifts p l first.lifts in omega (arith, e, height));
      above = λ y r d. absurd (not_done y d);
      done = λ y d. absurd (not_done y d);
      waiting = λ y h e. let w = first_queued y h e (point_cases y p) in let a = w.0 in let b = ap (level heights) w.1 in omega (arith, a, b);
    }

  module _ (lifts : Rows Lift) (queue queue_new : Rows ℕ) (b : ℕ) (so : IsClimbing heights links p q lifts queue b p []) (x : Point) (h : ℕ)
      (here : at queue x ≡ Some h) (least : IsLeast queue h) (out : Changes queue queue_new x None) where
    was_at : (y : Point) (k : ℕ) → at queue_new y ≡ Some k → (y ≡ x) ⊎ (y ≢ x) → at queue y ≡ Some k
    was_at y k e (inl same) = let f = ap (at queue_new) same in let g = out.changed in absurd (cc)
    was_at y k e (inr differs) = sym (out.others y differs) ∙ e

    -- what is taken off the queue is done
    pub popped_done : IsDone lifts queue_new x
    popped_done = record { lifted = (so.queued x h here).1; out = out.changed }

    was_done : (y : Point) → IsDone lifts queue_new y → y ≢ x → IsDone lifts queue y
    was_done y d differs = record { lifted = d.lifted; out = sym (out.others y differs) ∙ d.out }

    none_left : (y r : Point) → IsAboveSoon heights lifts p [] r y → lifted heights lifts r ≤ 128 → lifted heights lifts y < lifted heights lifts r
    none_left y r (inl left) = absurd (occurs_none r left.1)
    none_left y r (inr f) = f

    pub is_level : h ≡ level heights x
    is_level = (so.queued x h here).0

    module _ (left : List Point) (are : AreReaders links x left) where
      popped_above : (y r : Point) → IsDone lifts queue_new y → Reads links r y → (y ≡ x) ⊎ (y ≢ x) → IsAboveSoon heights lifts x left r y
      popped_above y r d reads (inl same) =
          inl (same, (let e = are r in let f = subst (Reads links r) same reads in omega (arith, e, f)))
      popped_above y r d reads (inr differs) = inr (none_left y r (so.above y r (was_done y d differs) reads))

      popped_below : (y : Point) → IsDone lifts queue_new y → (y ≡ x) ⊎ (y ≢ x) → level heights y ≤ level heights x
      popped_below y d (inl same) = let e = ap (level heights) same in omega (arith, e)
      popped_below y d (inr differs) =
          let a = so.done y (was_done y d differs) in let w = so.waiting x h here in let e = is_level in omega (arith, a, w, e)

      -- a point of least height is taken off the queue
      pub climbing_popped : IsClimbing heights links p q lifts queue_new (level heights x) x left
      climbing_popped = record {
        there = so.there;
        raised = so.raised;
        asked = so.asked;
        queued = λ y k e. so.queued y k (was_at y k e (point_cases y x));
        not_below = so.not_below;
        unmet = so.unmet;
        start = so.start;
        above = λ y r d reads. popped_above y r d reads (point_cases y x);
        done = λ y d. popped_below y d (point_cases y x);
        waiting = λ y k e. let f = least y k (was_at y k e (point_cases y x)) in let g = is_level in omega (arith, f, g);
      }

  -- the next reader is high enough
  module _ (lifts : Rows Lift) (queue : Rows ℕ) (b : ℕ) (x r : Point) (left : List Point) (so : IsClimbing heights links p q lifts queue b x (r ∷ left))
      (high : lifted heights lifts r ≤ 128 → lifted heights lifts x < lifted heights lifts r) where
    stays_soon_by : (y s : Point) → y ≡ x → (s ≡ r) ⊎ Occurs left s → IsAboveSoon heights lifts x left s y
    stays_soon_by y s same (inl e) =
        inr (subst (λ t. lifted heights lifts t ≤ 128 → lifted heights lifts y < lifted heights lifts t) (sym e)
        (subst (λ t. lifted heights lifts r ≤ 128 → lifted heights lifts t < lifted heights lifts r) (sym same) high))
    stays_soon_by y s same (inr occurs) = inl (same, occurs)

    stays_soon : (y s : Point) → IsAboveSoon heights lifts x (r ∷ left) s y → IsAboveSoon heights lifts x left s y
    stays_soon y s (inl c) = stays_soon_by y s c.0 (occurs_cases r s left c.1)
    stays_soon y s (inr f) = inr f

    pub climbing_stays : IsClimbing heights links p q lifts queue b x left
    climbing_stays = record {
      there = so.there;
      raised = so.raised;
      asked = so.asked;
      queued = so.queued;
      not_below = so.not_below;
      unmet = so.unmet;
      start = so.start;
      above = λ y s d reads. stays_soon y s (so.above y s d reads);
      done = so.done;
      waiting = so.waiting;
    }

  module _ (lifts : Rows Lift) (queue : Rows ℕ) (x r : Point) (left : List Point) (so : IsClimbing heights links p q lifts queue (level heights x) x (r ∷ left))
      (lifts_new : Rows Lift) (queue_new : Rows ℕ) (done_x : IsDone lifts queue x) (reads : Reads links r x) (other : r ≢ q)
      (goes : GoesAbove heights lifts lifts_new queue queue_new r x) where
    abbrev new_lift : Lift
    new_lift = record { height = goes.height; kid = x }

    changes : Changes lifts lifts_new r (Some new_lift)
    changes = goes.lifts.lifts

    rises_x : level heights x < level heights r
    rises_x = sound.rises r x reads

    here_now : (y : Point) → y ≡ r → lifted heights lifts_new y ≡ goes.height
    here_now y e = ap (lifted heights lifts_new) e ∙ lifted_there heights lifts lifts_new r new_lift changes

    other_now : (y : Point) → y ≢ r → lifted heights lifts_new y ≡ lifted heights lifts y
    other_now y differs = lifted_other heights lifts lifts_new r y new_lift changes differs

    grows_by : (y : Point) → (y ≡ r) ⊎ (y ≢ r) → lifted heights lifts y ≤ lifted heights lifts_new y
    grows_by y (inl e) = let a = here_now y e in let m = goes.more in let f = ap (lifted heights lifts) e in omega (arith, a, m, f)
    grows_by y (inr differs) = let s = other_now y differs in omega (arith, s)

    grows : (y : Point) → lifted heights lifts y ≤ lifted heights lifts_new y
    grows y = grows_by y (point_cases y r)

    not_r_done : IsDone lifts queue r → ⊥
    not_r_done d = let a = so.done r d in let u = rises_x in omega (arith, a, u)

    out_by : at queue_new r ≡ None → (at lifts r ≡ None) ⊎ Holds lifts r → ⊥
    out_by e (inl none) = not_both (at queue_new r) e (some_there (at queue_new r) (level heights r) (goes.lifts.first none).changed)
    out_by e (inr there) = not_r_done (record { lifted = there; out = sym (goes.lifts.again there r) ∙ e })

    not_r : (y : Point) → IsDone lifts_new queue_new y → y ≢ r
    not_r y d e = out_by (ap (at queue_new) (sym e) ∙ d.out) (there_cases lifts r)

    queue_by : (y : Point) → y ≢ r → (at lifts r ≡ None) ⊎ Holds lifts r → at queue_new y ≡ at queue y
    queue_by y differs (inl none) = (goes.lifts.first none).others y differs
    queue_by y differs (inr there) = goes.lifts.again there y

    queue_other : (y : Point) → y ≢ r → at queue_new y ≡ at queue y
    queue_other y differs = queue_by y differs (there_cases lifts r)

    done_before : (y : Point) → IsDone lifts_new queue_new y → IsDone lifts queue y
    done_before y d = let n = not_r y d in
        record { lifted = subst IsSome (changes.others y n) d.lifted; out = sym (queue_other y n) ∙ d.out }

    -- what was done is done
    pub goes_keeps : KeepsDone lifts lifts_new queue queue_new
    goes_keeps y d =
        let n : y ≢ r = λ e. not_r_done (subst (IsDone lifts queue) e d) in
        record { lifted = subst IsSome (sym (changes.others y n)) d.lifted; out = queue_other y n ∙ d.out }

    holds_by : (y : Point) → (y ≡ r) ⊎ (y ≢ r) → Holds lifts y → Holds lifts_new y
    holds_by y (inl e) there = some_there (at lifts_new y) new_lift (ap (at lifts_new) e ∙ changes.changed)
    holds_by y (inr differs) there = subst IsSome (sym (changes.others y differs)) there

    holds : (y : Point) → Holds lifts y → Holds lifts_new y
    holds y there = holds_by y (point_cases y r) there

    held_by : (y : Point) → Holds lifts_new y → (y ≡ r) ⊎ (y ≢ r) → (y ≡ r) ⊎ Holds lifts y
    held_by y there (inl e) = inl e
    held_by y there (inr differs) = inr (subst IsSome (changes.others y differs) there)

    held : (y : Point) → Holds lifts_new y → (y ≡ r) ⊎ Holds lifts y
    held y there = held_by y there (point_cases y r)

    is_new : (y : Point) (l : Lift) → at lifts_new y ≡ Some l → y ≡ r → l ≡ new_lift
    is_new y l e same = let f : ◌≡◌ {A = Option Lift} (Some l) (Some new_lift) = sym e ∙ ap (at lifts_new) same ∙ changes.changed in cc

    was : (y : Point) (l : Lift) → at lifts_new y ≡ Some l → y ≢ r → at lifts y ≡ Some l
    was y l e differs = sym (changes.others y differs) ∙ e

    cap : IsCapped (lifted heights lifts x) (min (lifted heights lifts x) 128)
    cap = capped (lifted heights lifts x)

    above_kid_by : (lifted heights lifts x ≤ 128) ⊎ (128 < lifted heights lifts x) → level heights q < goes.height
    above_kid_by (inl low) =
        let s = row_there lifts x done_x.lifted in
        let a = (so.raised x s.0 s.1).above_kid in
        let e = lifted_some heights lifts x s.0 s.1 in
        let c = cap.same low in let o = goes.one_above in omega (arith, a, e, c, o)
    above_kid_by (inr high) = let c = cap.cap high in let o = goes.one_above in let s = sound.low q in omega (arith, c, o, s)

    raised_r : (y : Point) → y ≡ r → IsRaised heights q y goes.height
    raised_r y e = record {
      more = (let f = ap (level heights) e in
          let u = not_under heights lifts r (λ z l h. (so.raised z l h).more) in
          let m = goes.more in omega (arith, f, u, m));
      above_kid = above_kid_by (two_cases (lifted heights lifts x));
      low = (let o = goes.one_above in let c = cap.low in omega (arith, o, c));
    }

    raised_by : (y : Point) (l : Lift) → at lifts_new y ≡ Some l → (y ≡ r) ⊎ (y ≢ r) → IsRaised heights q y l.height
    raised_by y l e (inl same) = subst (λ k. IsRaised heights q y k.height) (sym (is_new y l e same)) (raised_r y same)
    raised_by y l e (inr differs) = so.raised y l (was y l e differs)

    asked_kept : (y k : Point) → IsAsked links p q lifts y k → IsAsked links p q lifts_new y k
    asked_kept y k (inl new) = inl new
    asked_kept y k (inr w) = inr (w.0, holds k w.1)

    asked_by : (y : Point) (l : Lift) → at lifts_new y ≡ Some l → (y ≡ r) ⊎ (y ≢ r) → IsAsked links p q lifts_new y l.kid
    asked_by y l e (inl same) =
        subst (λ k. IsAsked links p q lifts_new y k.kid) (sym (is_new y l e same))
        (inr (subst (λ z. Reads links z x) (sym same) reads, holds x done_x.lifted))
    asked_by y l e (inr differs) = asked_kept y l.kid (so.asked y l (was y l e differs))

    queued_at : (h : ℕ) → at queue_new r ≡ Some h → (at lifts r ≡ None) ⊎ Holds lifts r → h ≡ level heights r
    queued_at h e (inl none) = let f : ◌≡◌ {A = Option ℕ} (Some h) (Some (level heights r)) = sym e ∙ (goes.lifts.first none).changed in cc
    queued_at h e (inr there) = (so.queued r h (sym (goes.lifts.again there r) ∙ e)).0

    queued_by : (y : Point) (h : ℕ) → at queue_new y ≡ Some h → (y ≡ r) ⊎ (y ≢ r) → (h ≡ level heights y) × Holds lifts_new y
    queued_by y h e (inl same) = (
      queued_at h (ap (at queue_new) (sym same) ∙ e) (there_cases lifts r) ∙ ap (level heights) (sym same),
      some_there (at lifts_new y) new_lift (ap (at lifts_new) same ∙ changes.changed),
    )
    queued_by y h e (inr differs) = let w = so.queued y h (sym (queue_other y differs) ∙ e) in (w.0, holds y w.1)

    there_by : (y : Point) → (y ≡ r) ⊎ Holds lifts y → Holds heights y
    there_by y (inl e) = subst (Holds heights) (sym e) (sound.ends r x reads).0
    there_by y (inr there) = so.there y there

    not_below_by : (y : Point) → (y ≡ r) ⊎ Holds lifts y → level heights p ≤ level heights y
    not_below_by y (inl e) = let f = ap (level heights) e in let u = rises_x in let n = so.not_below x done_x.lifted in omega (arith, f, u, n)
    not_below_by y (inr there) = so.not_below y there

    high_r : goes.height ≤ 128 → lifted heights lifts x < goes.height
    high_r low = high_r_by low (two_cases (lifted heights lifts x))
      where
        high_r_by : goes.height ≤ 128 → (lifted heights lifts x ≤ 128) ⊎ (128 < lifted heights lifts x) → lifted heights lifts x < goes.height
        high_r_by low (inl h) = let c = cap.same h in let o = goes.one_above in omega (arith, c, o)
        high_r_by low (inr h) = let c = cap.cap h in let o = goes.one_above in absurd (omega (arith, c, o, low))

    soon_by : (y s : Point) → IsDone lifts_new queue_new y → y ≡ x → (s ≡ r) ⊎ Occurs left s → IsAboveSoon heights lifts_new x left s y
    soon_by y s d same (inl e) = inr (λ low.
        let a = here_now s e in
        let f = high_r (omega (arith, a, low)) in
        let n = other_now y (not_r y d) in
        let g = ap (lifted heights lifts) same in omega (arith, a, f, n, g))
    soon_by y s d same (inr occurs) = inl (same, occurs)

    soon : (y s : Point) → IsDone lifts_new queue_new y → IsAboveSoon heights lifts x (r ∷ left) s y → IsAboveSoon heights lifts_new x left s y
    soon y s d (inl c) = soon_by y s d c.0 (occurs_cases r s left c.1)
    soon y s d (inr f) = inr (λ low.
        let g = grows s in
        let h = f (omega (arith, g, low)) in
        let n = other_now y (not_r y d) in omega (arith, g, h, n))

    waiting_by : (y : Point) (h : ℕ) → at queue_new y ≡ Some h → (y ≡ r) ⊎ (y ≢ r) → level heights x ≤ h
    waiting_by y h e (inl same) =
        let f = queued_at h (ap (at queue_new) (sym same) ∙ e) (there_cases lifts r) in let u = rises_x in omega (arith, f, u)
    waiting_by y h e (inr differs) = so.waiting y h (sym (queue_other y differs) ∙ e)

    -- the next reader is lifted
    pub climbing_goes : IsClimbing heights links p q lifts_new queue_new (level heights x) x left
    climbing_goes = record {
      there = λ y there. there_by y (held y there);
      raised = λ y l e. raised_by y l e (point_cases y r);
      asked = λ y l e. asked_by y l e (point_cases y r);
      queued = λ y h e. queued_by y h e (point_cases y r);
      not_below = λ y there. not_below_by y (held y there);
      unmet = changes.others q (λ e. other (sym e)) ∙ so.unmet;
      start = (let a = so.start in let g = grows p in omega (arith, a, g));
      above = λ y s d reads_y. soon y s d (so.above y s (done_before y d) reads_y);
      done = λ y d. so.done y (done_before y d);
      waiting = λ y h e. waiting_by y h e (point_cases y r);
    }

module _ (heights : Rows ℕ) (links : Links) (p q : Point) (sound : AreSoundHeights heights links) where
  -- the next reader comes above x, lifted or not
  pub climbing_next : (lifts : Rows Lift) (queue : Rows ℕ) (x r : Point) (left : List Point) → IsClimbing heights links p q lifts queue (level heights x) x (r ∷ left)
      → (lifts_new : Rows Lift) (queue_new : Rows ℕ) → IsDone lifts queue x → Reads links r x → r ≢ q → ComesAbove heights lifts lifts_new queue queue_new r x
      → IsClimbing heights links p q lifts_new queue_new (level heights x) x left × KeepsDone lifts lifts_new queue queue_new
  climbing_next lifts queue x r left so lifts_new queue_new done reads other (inr goes) = (
    climbing_goes heights links p q sound lifts queue x r left so lifts_new queue_new done reads other goes,
    goes_keeps heights links p q sound lifts queue x r left so lifts_new queue_new done reads other goes,
  )
  climbing_next lifts queue x r left so lifts_new queue_new done reads other (inl stays) = (
    subst (λ a. IsClimbing heights links p q a queue_new (level heights x) x left) (sym stays.lifts)
        (subst (λ b. IsClimbing heights links p q lifts b (level heights x) x left) (sym stays.queue)
        (climbing_stays heights links p q sound lifts queue (level heights x) x r left so stays.above)),
    λ y d. record {
      lifted = subst (λ a. Holds a y) (sym stays.lifts) d.lifted;
      out = subst (λ b. at b y ≡ None) (sym stays.queue) d.out;
    },
  )

  soon_later : (lifts : Rows Lift) (x r y : Point) → IsAboveSoon heights lifts x [] r y → IsAboveSoon heights lifts p [] r y
  soon_later lifts x r y (inl left) = absurd (occurs_none r left.1)
  soon_later lifts x r y (inr f) = inr f

  -- all readers of x came above it
  pub climbing_between : (lifts : Rows Lift) (queue : Rows ℕ) (b : ℕ) (x : Point) → IsClimbing heights links p q lifts queue b x [] → IsClimbing heights links p q lifts queue b p []
  climbing_between lifts queue b x so = record {
    there = so.there;
    raised = so.raised;
    asked = so.asked;
    queued = so.queued;
    not_below = so.not_below;
    unmet = so.unmet;
    start = so.start;
    above = λ y r d reads. soon_later lifts x r y (so.above y r d reads);
    done = so.done;
    waiting = so.waiting;
  }

-- a point that isn't lifted isn't in the queue
pub not_queued : (heights : Rows ℕ) (links : Links) (p q : Point) (lifts : Rows Lift) (queue : Rows ℕ) (b : ℕ) (x : Point) (left : List Point)
    → IsClimbing heights links p q lifts queue b x left → (y : Point) → at lifts y ≡ None → at queue y ≡ None
not_queued heights links p q lifts queue b x left so y none = by (there_cases queue y)
  where
    by : (at queue y ≡ None) ⊎ Holds queue y → at queue y ≡ None
    by (inl out) = out
    by (inr there) = let r = row_there queue y there in absurd (not_both (at lifts y) none (so.queued y r.0 r.1).1)

was_asked : (links : Links) (p q : Point) (lifts : Rows Lift) (x k : Point) → IsAsked links p q lifts x k → x ≢ p → Reads links x k × Holds lifts k
was_asked links p q lifts x k (inl new) other = absurd (other new.0)
was_asked links p q lifts x k (inr w) other = w

-- a lifted point other than p reads a lifted point
pub asked_step : (links : Links) (p q : Point) (lifts : Rows Lift) (x : Point) (l : Lift) → AllAsked links p q lifts → at lifts x ≡ Some l → x ≢ p
    → Reads links x l.kid × Holds lifts l.kid
asked_step links p q lifts x l asked e other = was_asked links p q lifts x l.kid (asked x l e) other
