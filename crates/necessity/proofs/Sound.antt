-- What a change keeps of a sound state.
use Rattle.std.proofs.Common.{◌≡◌, ◌≢◌, ◌∙◌, inl, inr, ℕ, ◌+◌, ◌<◌, ◌≤◌, Bool, true, false, List, Option, Some, None, IsSome, unwrap_or, [], ◌∷◌, length, refl, sym, ap, arith}
use Rattle.std.specs.Prelude.{Result, Ok, Err, OnErr}
use Rattle.std.specs.Option.{SomeIff}
use Rattle.std.proofs.lemmas.List.Sums.{count_by-le-length}
use Rattle.std.proofs.lemmas.Bool.Decides.{nat_tests}
use Rattle.std.proofs.lemmas.Option.{none-some, same_Some}
use Rattle.inc_value.specs.declared.node.Point.{Point}
use Rattle.point_map.specs.Rows.{Rows, at, Holds, KeepsRows, Changes}
use Rattle.link_table.specs.Links.{Links, KeepsLinks, OneLinkMore}
use Rattle.necessity.specs.declared.need.Need.{Need}
use Rattle.necessity.specs.Need.{KeepsRoots, OneRootMore}
use Rattle.necessity.specs.Counting.{need_at, differ, is_counted, is_above_zero, roots_of, needed_in, behind, EndsHeld, IsUnderWay, IsAtRest, AreSoundNeeds, KeepsRootCounts, due_where}
use Rattle.necessity.proofs.Turning.{same_need, row_need}
use Rattle.necessity.proofs.Starts.{rest_moves, rest_turns, root_stays, root_turns, rest_kept, length_kept, reads_split, attach_stays, attach_turns, attach_room, detach_stays, detach_turns, detach_room}
use Rattle.necessity.proofs.Reaching.{roots_seen, acyclic_kept}
use Rattle.necessity.proofs.Idle.{idle_kept}

-- a sum that fits is that sum
pub one_more : (x : Option ℕ) (P : Type 0) (v y : ℕ) → SomeIff x P v → x ≡ Some y → y ≡ v
one_more None P v y s e = absurd (none-some y e)
one_more (Some z) P v y s e = sym (same_Some z y e) ∙ s.1

pub needs_of_rows : (m new : Rows Need) → KeepsRows m new → (k : Point) → need_at new k ≡ need_at m k
needs_of_rows m new kept k = same_need m new k (kept k)

ends_of_rows : (l : Links) (m new : Rows Need) → KeepsRows m new → EndsHeld l m → EndsHeld l new
ends_of_rows l m new kept ends a b reads = let e = ends a b reads in (rw (kept a) e.0, rw (kept b) e.1)

pub rest_of_rows : (l : Links) (m new : Rows Need) → KeepsRows m new → IsAtRest l m → IsAtRest l new
rest_of_rows l m new kept r = rest_moves l m new r (needs_of_rows m new kept) (ends_of_rows l m new kept r.ends)

-- a state stays sound where links and rows keep what they say, and there is more room
pub sound_kept : (l l' : Links) (m m' : Rows Need) (n : ℕ) (waiting : List Point) (room room' : ℕ) → AreSoundNeeds l m n waiting room
    → KeepsLinks l l' → KeepsRows m m' → room ≤ room' → AreSoundNeeds l' m' n waiting room'
sound_kept l l' m m' n waiting room room' s links rows more = record {
  at_rest = rest_kept l l' links m' (rest_of_rows l m m' rows s.at_rest);
  acyclic = acyclic_kept l l' links s.acyclic;
  none_wait = s.none_wait;
  all = omega (arith, s.all, length_kept l l' links);
  fit = omega (arith, s.fit, more);
  no_idle_row = idle_kept l l' m m' links rows s.no_idle_row;
}

-- roots that are counted as before
pub roots_kept : (m new : Rows Need) → KeepsRootCounts m new → KeepsRoots (roots_of m) (roots_of new)
roots_kept m new kept a = roots_seen new a ∙ kept a ∙ sym (roots_seen m a)

pub counts_of_needs : (m new : Rows Need) → ((k : Point) → need_at new k ≡ need_at m k) → KeepsRootCounts m new
counts_of_needs m new same k = ap (λ n. n.roots) (same k)

-- a root more
pub root_more : (fewer more : Rows Need) (p : Point) → (need_at more p).roots ≡ (need_at fewer p).roots + 1
    → ((a : Point) → a ≢ p → (need_at more a).roots ≡ (need_at fewer a).roots) → OneRootMore (roots_of fewer) (roots_of more) p
root_more fewer more p raised others = record {
  raised = omega (arith, raised, roots_seen more p, roots_seen fewer p);
  others = λ a other. roots_seen more a ∙ others a other ∙ sym (roots_seen fewer a);
}

-- rows for both ends of a link that comes on
module _ (l l' : Links) (m m1 m2 : Rows Need) (p q : Point) (one : OneLinkMore l l' p q) (r : IsAtRest l m)
    (held1 : (k : Point) → Holds m k → Holds m1 k) (needs1 : (k : Point) → need_at m1 k ≡ need_at m k) (there1 : Holds m1 p)
    (held2 : (k : Point) → Holds m1 k → Holds m2 k) (needs2 : (k : Point) → need_at m2 k ≡ need_at m1 k) (there2 : Holds m2 q) where
  ends_open : EndsHeld l m2
  ends_open a b reads = let e = r.ends a b reads in (held2 a (held1 a e.0), held2 b (held1 b e.1))

  ends_new : EndsHeld l' m2
  ends_new a b reads = elim (reads_split l l' p q one a b reads) [
    | inl old ↦ ends_open a b old
    | inr new ↦ (rw new.0 (held2 p there1), rw new.1 there2)
  ]

  rest_open : IsAtRest l m2
  rest_open = rest_moves l m m2 r (λ k. needs2 k ∙ needs1 k) ends_open

  attach_by : (on : Bool) → needed_in m2 p ≡ on → IsUnderWay true l' m2 [] (due_where on q)
  attach_by true e = attach_turns l l' p q one m2 rest_open ends_new e there2
  attach_by false e = rest_turns true l' m2 (attach_stays l l' p q one m2 rest_open ends_new e)

  pub attach_due : IsUnderWay true l' m2 [] (due_where (needed_in m2 p) q)
  attach_due = attach_by (needed_in m2 p) refl

  room_by : (on : Bool) → needed_in m2 p ≡ on → length (due_where on q) + behind true l' m2 [] ≤ length l'.all
  room_by true e = attach_room l l' p q one m2 e
  room_by false e = omega (arith, count_by-le-length (λ e. differ (is_counted m2 [] e.reader) true) l'.all)

  pub attach_due_room : length (due_where (needed_in m2 p) q) + behind true l' m2 [] ≤ length l'.all
  attach_due_room = room_by (needed_in m2 p) refl

-- a link that goes
module _ (l l' : Links) (m : Rows Need) (p q : Point) (one : OneLinkMore l' l p q) (r : IsAtRest l m) where
  detach_by : (on : Bool) → needed_in m p ≡ on → IsUnderWay false l' m [] (due_where on q)
  detach_by true e = detach_turns l' l p q one m r e
  detach_by false e = rest_turns false l' m (detach_stays l' l p q one m r e)

  pub detach_due : IsUnderWay false l' m [] (due_where (needed_in m p) q)
  detach_due = detach_by (needed_in m p) refl

  less_by : (on : Bool) → length (due_where on q) + behind false l' m [] ≤ length l.all
  less_by true = detach_room l' l p q one m
  less_by false = let d = detach_room l' l p q one m in omega (arith, d)

  pub detach_due_room : length (due_where (needed_in m p) q) + behind false l' m [] ≤ length l.all
  detach_due_room = less_by (needed_in m p)

-- a point is a root once more
module _ (l : Links) (m m0 new : Rows Need) (p : Point) (was is : Need) (r : IsAtRest l m) (kept : KeepsRows m m0)
    (row : Changes m0 new p (Some is)) (here : was ≡ need_at m p) (by : is.by ≡ was.by) (raised : is.roots ≡ was.roots + 1) where
  here_kept : was ≡ need_at m0 p
  here_kept = here ∙ sym (needs_of_rows m m0 kept p)

  above : is_above_zero is ≡ true
  above = grind (arith, nat_tests)

  pub root_on_stays : is_above_zero was ≡ true → IsAtRest l new
  root_on_stays on = root_stays l m0 new p is (rest_of_rows l m m0 kept r) row (by ∙ ap (λ n. n.by) here_kept) (above ∙ sym on ∙ ap is_above_zero here_kept)

  pub root_on_turns : is_above_zero was ≡ false → IsUnderWay true l new (p ∷ []) []
  root_on_turns off = root_turns l m0 new p is (rest_of_rows l m m0 kept r) row (by ∙ ap (λ n. n.by) here_kept) true (sym (ap is_above_zero here_kept) ∙ off) above

  pub root_on : (end : Rows Need) → KeepsRootCounts new end → OneRootMore (roots_of m) (roots_of end) p
  root_on end roots = root_more m end p
      (let now = roots p ∙ ap (λ n. n.roots) (row_need new p is row.changed) in omega (arith, now, raised, ap (λ n. n.roots) here))
      (λ a other. roots a ∙ ap (λ n. n.roots) (same_need m0 new a (row.others a other) ∙ needs_of_rows m m0 kept a))

-- a point is a root once less
module _ (l : Links) (m new : Rows Need) (p : Point) (was is : Need) (r : IsAtRest l m)
    (row : Changes m new p (Some is)) (here : was ≡ need_at m p) (by : is.by ≡ was.by) (raised : was.roots ≡ is.roots + 1) where
  above_before : is_above_zero was ≡ true
  above_before = grind (arith, nat_tests)

  pub root_off_stays : is_above_zero is ≡ true → IsAtRest l new
  root_off_stays on = root_stays l m new p is r row (by ∙ ap (λ n. n.by) here) (on ∙ sym above_before ∙ ap is_above_zero here)

  pub root_off_turns : is_above_zero is ≡ false → IsUnderWay false l new (p ∷ []) []
  root_off_turns off = root_turns l m new p is r row (by ∙ ap (λ n. n.by) here) false (sym (ap is_above_zero here) ∙ above_before) off

  pub root_off : (end : Rows Need) → KeepsRootCounts new end → OneRootMore (roots_of end) (roots_of m) p
  root_off end roots = root_more end m p
      (let now = roots p ∙ ap (λ n. n.roots) (row_need new p is row.changed) in omega (arith, now, raised, ap (λ n. n.roots) here))
      (λ a other. sym (roots a ∙ ap (λ n. n.roots) (same_need m new a (row.others a other))))

-- a root has a row
held_where : (o : Option Need) → 0 < (unwrap_or o (record { roots = 0; by = 0 })).roots → IsSome o
held_where None h = absurd (omega (arith, h))
held_where (Some n) h = refl

pub root_held : (m : Rows Need) (p : Point) → 0 < (need_at m p).roots → Holds m p
root_held m p h = held_where (at m p) h

-- what holds is there with an error
pub on_err : {A E : Type 0} {P : Type 0} (r : Result A E) → P → OnErr r P
on_err (Ok x) h = tt
on_err (Err e) h = h
