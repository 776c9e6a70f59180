-- One link counted at a point, and the point put among those that wait where it turns.
use Rattle.std.proofs.Common.{◌≡◌, ◌≢◌, ◌∙◌, inl, inr, ℕ, ◌+◌, ◌<◌, ◌≤◌, ◌^◌, Bool, true, false, List, [], ◌∷◌, ◌++◌, length, length-append, refl, sym, ap, arith}
use Rattle.std.specs.Prelude.{Some, cond}
use Rattle.std.proofs.lemmas.Bool.Decides.{nat_tests}
use Rattle.std.proofs.lemmas.List.Sums.{count_by-le-length}
use Rattle.inc_value.specs.declared.node.Point.{Point}
use Rattle.point_map.specs.Rows.{Rows, same_point, Holds, Changes}
use Rattle.point_map.proofs.Places.{same_point_self, point_cases}
use Rattle.link_table.specs.Links.{Links, is_point, occurrences}
use Rattle.necessity.specs.declared.need.Need.{Need}
use Rattle.necessity.specs.Counting.{need_at, is_above_zero, needed_in, differ, waits, is_counted, leads_from, links_from, behind, Balances, IsUnderWay, recounted, waiting_after, KeepsRootCounts}
use Rattle.necessity.proofs.Counts.{other_point, sum_by_same, count_cons}
use Rattle.necessity.proofs.Turning.{row_need, same_need, occurrences_more, other_waits, last_waits, same_links_from}

-- one point more at the head
pub occurrences_cons : (k : Point) (due : List Point) (j : Point) → occurrences (k ∷ due) j ≡ cond (same_point k j) 1 0 + occurrences due j
occurrences_cons k due j = count_cons (is_point j) k due

pub first_due : (k : Point) (due : List Point) → occurrences (k ∷ due) k ≡ 1 + occurrences due k
first_due k due = rw (occurrences_cons k due k, same_point_self k) refl

pub later_due : (k : Point) (due : List Point) (j : Point) → j ≢ k → occurrences (k ∷ due) j ≡ occurrences due j
later_due k due j other = rw (occurrences_cons k due j, other_point k j (λ e. other (sym e))) (omega arith)

-- a point that is there stays
pub held_after : (old new : Rows Need) (p : Point) (n : Need) → Changes old new p (Some n) → (a : Point) → Holds old a → Holds new a
held_after old new p n c a h = elim (point_cases a p) [
  | inl here ↦ rw (here, c.changed) refl
  | inr there ↦ rw (c.others a there) h
]

-- a count that balances stays above zero, where it is so already and links come on
recount_turns : (t : Bool) (n : Need) (d links : ℕ) → Balances t n.by (1 + d) links → is_above_zero n ≡ t → is_above_zero (recounted t n) ≡ t
recount_turns true n d links b h = grind (arith, nat_tests)
recount_turns false n d links b h = absurd (let zero_by : n.by ≡ 0 = grind (arith, nat_tests) in omega (arith, b, zero_by))

recount_balances : (t : Bool) (n : Need) (d links : ℕ) → Balances t n.by (1 + d) links → Balances t (recounted t n).by d links
recount_balances true n d links b = omega (arith, b)
recount_balances false n d links b = omega (arith, b)

recount_roots : (t : Bool) (n : Need) → (recounted t n).roots ≡ n.roots
recount_roots true n = refl
recount_roots false n = refl

-- the way of a point before and after, and whether it waits
module _ (t : Bool) where
  same_way : (was is wait now : Bool) → (was ≡ t → is ≡ t) → (wait ≡ true → was ≡ t) → now ≡ cond (differ was is) true wait → differ is now ≡ differ was wait
  same_way true true wait now to so e = rw e refl
  same_way false false wait now to so e = rw e refl
  same_way true false true now to so e = absurd (let a = so refl in let b = to a in let c : true ≡ false = a ∙ sym b in cc)
  same_way true false false now to so e = rw e refl
  same_way false true true now to so e = absurd (let a = so refl in let b = to a in let c : true ≡ false = b ∙ sym a in cc)
  same_way false true false now to so e = rw e refl

  fresh : (was is wait : Bool) → (was ≡ t → is ≡ t) → (wait ≡ true → was ≡ t) → differ was is ≡ true → wait ≡ false
  fresh was is false to so d = refl
  fresh true true true to so d = absurd (let c : false ≡ true = d in cc)
  fresh false false true to so d = absurd (let c : false ≡ true = d in cc)
  fresh true false true to so d = absurd (let a = so refl in let b = to a in let c : true ≡ false = a ∙ sym b in cc)
  fresh false true true to so d = absurd (let a = so refl in let b = to a in let c : true ≡ false = b ∙ sym a in cc)

turned_way : (t was is wait : Bool) → (was ≡ t → is ≡ t) → (wait ≡ true → was ≡ t) → cond (differ was is) true wait ≡ true → is ≡ t
turned_way t true true wait to so w = to (so w)
turned_way t false false wait to so w = to (so w)
turned_way true true false wait to so w = to refl
turned_way false true false wait to so w = refl
turned_way true false true wait to so w = refl
turned_way false false true wait to so w = to refl

waits_then : (b : Bool) (waiting : List Point) (k : Point) → waits (cond b (waiting ++ k ∷ []) waiting) k ≡ cond b true (waits waiting k)
waits_then true waiting k = last_waits waiting k
waits_then false waiting k = refl

others_then : (b : Bool) (waiting : List Point) (k r : Point) → r ≢ k → waits (cond b (waiting ++ k ∷ []) waiting) r ≡ waits waiting r
others_then true waiting k r other = other_waits waiting k r other
others_then false waiting k r other = refl

pub once_then : (b : Bool) (waiting : List Point) (k r : Point) → ((x : Point) → occurrences waiting x ≤ 1) → (b ≡ true → waits waiting k ≡ false)
    → occurrences (cond b (waiting ++ k ∷ []) waiting) r ≤ 1
once_then false waiting k r once new = once r
once_then true waiting k r once new = elim (point_cases r k) [
  | inl here ↦ let none : occurrences waiting k ≡ 0 = let w = new refl in grind (arith, nat_tests) in
      rw (here, occurrences_more waiting k k, same_point_self k) (omega (arith, none))
  | inr there ↦ let o = once r in rw (occurrences_more waiting k r, other_point k r (λ e. there (sym e))) (omega (arith, o))
]

length_then : (b : Bool) (waiting : List Point) (k : Point) → length (cond b (waiting ++ k ∷ []) waiting) ≤ length waiting + 1
length_then true waiting k = omega (arith, length-append waiting (k ∷ []))
length_then false waiting k = omega arith

-- the first of the kids that are due is counted
module _ (t : Bool) (l : Links) (m new : Rows Need) (waiting then due : List Point) (k : Point) (u : IsUnderWay t l m waiting (k ∷ due))
    (row : Changes m new k (Some (recounted t (need_at m k)))) (after : then ≡ waiting_after (needed_in m k) (needed_in new k) waiting k) where
  need_here : need_at new k ≡ recounted t (need_at m k)
  need_here = row_need new k (recounted t (need_at m k)) row.changed

  need_there : (r : Point) → r ≢ k → need_at new r ≡ need_at m r
  need_there r other = same_need m new r (row.others r other)

  balance : Balances t (need_at m k).by (1 + occurrences due k) (links_from (is_counted m waiting) l k)
  balance = rw (first_due k due) at (u.counts k)

  to : needed_in m k ≡ t → needed_in new k ≡ t
  to h = rw need_here (recount_turns t (need_at m k) (occurrences due k) (links_from (is_counted m waiting) l k) balance h)

  here_waits : waits then k ≡ cond (differ (needed_in m k) (needed_in new k)) true (waits waiting k)
  here_waits = rw after (waits_then (differ (needed_in m k) (needed_in new k)) waiting k)

  there_waits : (r : Point) → r ≢ k → waits then r ≡ waits waiting r
  there_waits r other = rw after (others_then (differ (needed_in m k) (needed_in new k)) waiting k r other)

  pub counted_as_before : (r : Point) → is_counted new then r ≡ is_counted m waiting r
  counted_as_before r = elim (point_cases r k) [
    | inl here ↦ rw here (same_way t (needed_in m k) (needed_in new k) (waits waiting k) (waits then k) to (u.turned_so k) here_waits)
    | inr there ↦ rw (need_there r there, there_waits r there) refl
  ]

  pub recount_steps : IsUnderWay t l new then due
  recount_steps = record {
    counts = λ j. rw (same_links_from (is_counted m waiting) (is_counted new then) counted_as_before l j) (elim (point_cases j k) [
      | inl here ↦ rw (here, need_here) (recount_balances t (need_at m k) (occurrences due k) (links_from (is_counted m waiting) l k) balance)
      | inr there ↦ rw (need_there j there) (rw (later_due k due j there) at (u.counts j))
    ]);
    turned_so = λ r w. elim (point_cases r k) [
      | inl here ↦ let w' = rw (here, here_waits) at w in
          rw here (turned_way t (needed_in m k) (needed_in new k) (waits waiting k) to (u.turned_so k) w')
      | inr there ↦ rw (need_there r there) (u.turned_so r (sym (there_waits r there) ∙ w))
    ];
    once = λ r. rw after (once_then (differ (needed_in m k) (needed_in new k)) waiting k r u.once
        (fresh t (needed_in m k) (needed_in new k) (waits waiting k) to (u.turned_so k)));
    ends = λ a b reads. let e = u.ends a b reads in
        (held_after m new k (recounted t (need_at m k)) row a e.0, held_after m new k (recounted t (need_at m k)) row b e.1);
    due_held = λ j some. let c = occurrences_cons k due j in
        held_after m new k (recounted t (need_at m k)) row j (u.due_held j (omega (arith, c, some)));
  }

  pub behind_as_before : behind t l new then ≡ behind t l m waiting
  behind_as_before = sum_by_same (λ e. cond (differ (is_counted new then e.reader) t) 1 0) (λ e. cond (differ (is_counted m waiting e.reader) t) 1 0)
      (λ e. rw (counted_as_before e.reader) refl) l.all

  pub one_waits_more : length then ≤ length waiting + 1
  one_waits_more = rw after (length_then (differ (needed_in m k) (needed_in new k)) waiting k)

  pub roots_as_before : KeepsRootCounts m new
  roots_as_before r = elim (point_cases r k) [
    | inl here ↦ rw (here, need_here) (recount_roots t (need_at m k))
    | inr there ↦ ap (λ n. n.roots) (need_there r there)
  ]

-- a due kid may be counted
module _ (t : Bool) (l : Links) (m : Rows Need) (waiting due : List Point) (k : Point) (u : IsUnderWay t l m waiting (k ∷ due)) where
  pub due_there : Holds m k
  due_there = u.due_held k (omega (arith, first_due k due))

  fits_when : (t' : Bool) → Balances t' (need_at m k).by (1 + occurrences due k) (links_from (is_counted m waiting) l k) → t' ≡ true
      → (need_at m k).by + 1 ≤ links_from (is_counted m waiting) l k
  fits_when true b e = omega (arith, b)
  fits_when false b e = absurd (let f = e in cc)

  pub due_fits : length l.all < 2 ^ 64 → t ≡ true → (need_at m k).by + 1 < 2 ^ 64
  due_fits few e =
      let b = fits_when t (rw (first_due k due) at (u.counts k)) e in
      omega (arith, b, few, count_by-le-length (leads_from (is_counted m waiting) k) l.all)

  counted_when : (t' : Bool) → Balances t' (need_at m k).by (1 + occurrences due k) (links_from (is_counted m waiting) l k) → t' ≡ false
      → 0 < (need_at m k).by
  counted_when false b e = omega (arith, b)
  counted_when true b e = absurd (let f = e in cc)

  pub due_counted : t ≡ false → 0 < (need_at m k).by
  due_counted e = counted_when t (rw (first_due k due) at (u.counts k)) e
