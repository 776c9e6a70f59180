-- How a change begins: a root or a link more or fewer, and a row dropped.
use Rattle.std.proofs.Common.{◌≡◌, ◌≢◌, ◌∙◌, ◌⊎◌, inl, inr, ℕ, zero, suc, ◌+◌, ◌<◌, ◌≤◌, Bool, true, false, List, [], ◌∷◌, length, refl, sym, ap, arith}
use Rattle.std.specs.Prelude.{Option, Some, None, is_some, sum_by, cond, not}
use Rattle.std.specs.Iterator.{YieldsFirst}
use Rattle.std.proofs.lemmas.List.Sums.{count_by-le-length}
use Rattle.inc_value.specs.declared.node.Point.{Point}
use Rattle.point_map.specs.Rows.{Rows, same_point, Holds, Changes}
use Rattle.point_map.proofs.Places.{same_point_eq, same_point_self, point_cases}
use Rattle.link_table.specs.declared.link.Link.{Link}
use Rattle.link_table.specs.Links.{Links, link, same_link, times, occurrences, Reads, KeepsLinks, OneLinkMore, AreKids, AreReaders}
use Rattle.necessity.specs.declared.need.Need.{Need}
use Rattle.necessity.specs.Counting.{need_at, is_above_zero, needed_in, differ, is_counted, leads_from, links_from, behind, EndsHeld, Balances, IsUnderWay, IsAtRest}
use Rattle.necessity.proofs.Counts.{other_point, counted, found, link_more, length_sum, same_sums, same_link_eq, same_link_self, link_cases, both}
use Rattle.necessity.proofs.Turning.{row_need, same_need, other_waits, last_waits, same_links_from, none_waiting, differ_true, differ_false}
use Rattle.necessity.proofs.Steps.{held_after, once_then, occurrences_cons, first_due}

balance_none : (t : Bool) (by links : ℕ) → by ≡ links → Balances t by 0 links
balance_none true by links h = omega (arith, h)
balance_none false by links h = omega (arith, h)

-- counts that are at rest stay so in other rows that count the same
pub rest_moves : (l : Links) (m new : Rows Need) → IsAtRest l m → ((k : Point) → need_at new k ≡ need_at m k) → EndsHeld l new → IsAtRest l new
rest_moves l m new r same ends = record {
  counts = λ k. ap (λ n. n.by) (same k) ∙ r.counts k ∙ sym (same_links_from (needed_in m) (needed_in new) (λ x. ap is_above_zero (same x)) l k);
  ends = ends;
}

-- nothing waits and nothing is due
pub rest_turns : (t : Bool) (l : Links) (m : Rows Need) → IsAtRest l m → IsUnderWay t l m [] []
rest_turns t l m r = record {
  counts = λ k. balance_none t (need_at m k).by (links_from (is_counted m []) l k)
      (r.counts k ∙ sym (same_links_from (needed_in m) (is_counted m []) (none_waiting m) l k));
  turned_so = λ x w. absurd (let e : false ≡ true = w in cc);
  once = λ x. omega arith;
  ends = r.ends;
  due_held = λ k some. absurd (omega (arith, some));
}

-- a point is a root more or less often
module _ (l : Links) (m new : Rows Need) (p : Point) (n : Need) (r : IsAtRest l m) (row : Changes m new p (Some n)) (by : n.by ≡ (need_at m p).by) where
  here : need_at new p ≡ n
  here = row_need new p n row.changed

  there : (k : Point) → k ≢ p → need_at new k ≡ need_at m k
  there k other = same_need m new k (row.others k other)

  by_same : (k : Point) → (need_at new k).by ≡ (need_at m k).by
  by_same k = elim (point_cases k p) [
    | inl same ↦ rw (same, here) by
    | inr differs ↦ ap (λ x. x.by) (there k differs)
  ]

  ends_after : EndsHeld l new
  ends_after a b reads = let e = r.ends a b reads in (held_after m new p n row a e.0, held_after m new p n row b e.1)

  -- without a turn all is at rest
  pub root_stays : is_above_zero n ≡ needed_in m p → IsAtRest l new
  root_stays same = record {
    counts = λ k. by_same k ∙ r.counts k ∙ sym (same_links_from (needed_in m) (needed_in new) still l k);
    ends = ends_after;
  } where
    still : (x : Point) → needed_in new x ≡ needed_in m x
    still x = elim (point_cases x p) [
      | inl is ↦ rw (is, here) same
      | inr differs ↦ ap is_above_zero (there x differs)
    ]

  -- a point that turns waits
  module _ (t : Bool) (was : needed_in m p ≡ not t) (is : is_above_zero n ≡ t) where
    counted_start : (x : Point) → is_counted new (p ∷ []) x ≡ needed_in m x
    counted_start x = elim (point_cases x p) [
      | inl same ↦ rw (same, here, is, last_waits [] p, was) (differ_true t)
      | inr differs ↦ rw (there x differs, other_waits [] p x differs) (differ_false (needed_in m x))
    ]

    pub root_turns : IsUnderWay t l new (p ∷ []) []
    root_turns = record {
      counts = λ k. balance_none t (need_at new k).by (links_from (is_counted new (p ∷ [])) l k)
          (by_same k ∙ r.counts k ∙ sym (same_links_from (needed_in m) (is_counted new (p ∷ [])) counted_start l k));
      turned_so = λ x w. elim (point_cases x p) [
        | inl same ↦ rw (same, here) is
        | inr differs ↦ absurd (let e : false ≡ true = sym (other_waits [] p x differs) ∙ w in cc)
      ];
      once = λ x. once_then true [] p x (λ y. omega arith) (λ e. refl);
      ends = ends_after;
      due_held = λ k some. absurd (omega (arith, some));
    }

-- one link more
module _ (fewer more : Links) (p q : Point) (one : OneLinkMore fewer more p q) where
  pub links_more : (f : Point → Bool) (k : Point) → links_from f more k ≡ links_from f fewer k + cond (leads_from f k (link p q)) 1 0
  links_more f k = link_more (λ e. cond (leads_from f k e) 1 0) fewer more p q one

  pub length_more : length more.all ≡ length fewer.all + 1
  length_more = omega (arith, link_more (λ e. 1) fewer more p q one, length_sum more.all, length_sum fewer.all)

  pub reads_more : (a b : Point) → Reads fewer a b → Reads more a b
  reads_more a b h = elim (link_cases (link a b) (link p q)) [
    | inl same ↦ rw (ap (λ x. x.reader) same, ap (λ x. x.kid) same) (omega (arith, one.raised))
    | inr differs ↦ omega (arith, one.others a b differs, h)
  ]

  pub reads_split : (a b : Point) → Reads more a b → Reads fewer a b ⊎ ((a ≡ p) × (b ≡ q))
  reads_split a b h = elim (link_cases (link a b) (link p q)) [
    | inl same ↦ inr (ap (λ x. x.reader) same, ap (λ x. x.kid) same)
    | inr differs ↦ inl (omega (arith, one.others a b differs, h))
  ]

  module _ (m : Rows Need) where
    first_due_is : (k : Point) → occurrences (q ∷ []) k ≡ cond (same_point q k) 1 0
    first_due_is k = rw (occurrences_cons q [] k) (omega arith)

    -- the counts where the reader isn't needed
    unneeded_more : needed_in m p ≡ false → (k : Point) → links_from (needed_in m) more k ≡ links_from (needed_in m) fewer k
    unneeded_more off k = let e = links_more (needed_in m) k in let e' = rw off at e in omega (arith, e')

    -- the counts where it is
    needed_more : needed_in m p ≡ true → (k : Point) → links_from (is_counted m []) more k ≡ links_from (needed_in m) fewer k + occurrences (q ∷ []) k
    needed_more on k =
        let e = links_more (needed_in m) k in let e' = rw on at e in
        let same = same_links_from (needed_in m) (is_counted m []) (none_waiting m) more k in
        omega (arith, e', same, first_due_is k)

    needed_fewer : needed_in m p ≡ true → (k : Point) → links_from (needed_in m) more k ≡ links_from (is_counted m []) fewer k + occurrences (q ∷ []) k
    needed_fewer on k =
        let e = links_more (needed_in m) k in let e' = rw on at e in
        let same = same_links_from (needed_in m) (is_counted m []) (none_waiting m) fewer k in
        omega (arith, e', same, first_due_is k)

    due_held_for : Holds m q → (k : Point) → 0 < occurrences (q ∷ []) k → Holds m k
    due_held_for held k some = elim (point_cases q k) [
      | inl same ↦ rw (sym same) held
      | inr differs ↦ absurd (let none = first_due_is k ∙ ap (λ b. cond b 1 0) (other_point q k differs) in omega (arith, none, some))
    ]

    -- a link comes on
    pub attach_stays : IsAtRest fewer m → EndsHeld more m → needed_in m p ≡ false → IsAtRest more m
    attach_stays r ends off = record { counts = λ k. r.counts k ∙ sym (unneeded_more off k); ends = ends }

    pub attach_turns : IsAtRest fewer m → EndsHeld more m → needed_in m p ≡ true → Holds m q → IsUnderWay true more m [] (q ∷ [])
    attach_turns r ends on held = record {
      counts = λ k. omega (arith, r.counts k, needed_more on k);
      turned_so = λ x w. absurd (let e : false ≡ true = w in cc);
      once = λ x. omega arith;
      ends = ends;
      due_held = due_held_for held;
    }

    pub attach_room : needed_in m p ≡ true → 1 + behind true more m [] ≤ length more.all
    attach_room on =
        let counted : is_counted m [] p ≡ true = none_waiting m p ∙ on in
        let e = link_more (λ e. cond (differ (is_counted m [] e.reader) true) 1 0) fewer more p q one in
        let e' = rw counted at e in
        omega (arith, e', length_more, count_by-le-length (λ e. differ (is_counted m [] e.reader) true) fewer.all)

    -- a link comes off
    pub detach_ends : EndsHeld more m → EndsHeld fewer m
    detach_ends ends a b reads = ends a b (reads_more a b reads)

    pub detach_stays : IsAtRest more m → needed_in m p ≡ false → IsAtRest fewer m
    detach_stays r off = record { counts = λ k. r.counts k ∙ unneeded_more off k; ends = detach_ends r.ends }

    pub detach_turns : IsAtRest more m → needed_in m p ≡ true → IsUnderWay false fewer m [] (q ∷ [])
    detach_turns r on = record {
      counts = λ k. omega (arith, r.counts k, needed_fewer on k);
      turned_so = λ x w. absurd (let e : false ≡ true = w in cc);
      once = λ x. omega arith;
      ends = detach_ends r.ends;
      due_held = due_held_for (r.ends p q (omega (arith, one.raised))).1;
    }

    pub detach_room : 1 + behind false fewer m [] ≤ length more.all
    detach_room = omega (arith, length_more, count_by-le-length (λ e. differ (is_counted m [] e.reader) false) fewer.all)

-- links that stay
module _ (old new : Links) (kept : KeepsLinks old new) where
  sum_kept : (w : Link → ℕ) → sum_by w new.all ≡ sum_by w old.all
  sum_kept w = same_sums (λ a. same_link a.reader a.kid) (λ a b e. same_link_eq a.reader a.kid b e) (λ a. same_link_self a.reader a.kid) w
      new.all old.all (λ a. kept a.reader a.kid)

  pub rest_kept : (m : Rows Need) → IsAtRest old m → IsAtRest new m
  rest_kept m r = record {
    counts = λ k. r.counts k ∙ sym (sum_kept (λ e. cond (leads_from (needed_in m) k e) 1 0));
    ends = λ a b reads. r.ends a b (omega (arith, kept a b, reads));
  }

  pub length_kept : length new.all ≡ length old.all
  length_kept = omega (arith, sum_kept (λ e. 1), length_sum new.all, length_sum old.all)

-- a walk that gives nothing has nothing left
pub none_left : {S : Type 0} (rest : S → List Point) (s t : S) (r : Option Point) → YieldsFirst rest s r t → is_some r ≡ false → rest s ≡ []
none_left rest s t None h e = h.0
none_left rest s t (Some x) h e = absurd (let f = e in cc)

-- a row without roots and links goes
zero_need : (n : Need) → n.roots ≡ 0 → n.by ≡ 0 → n ≡ record { roots = 0; by = 0 }
zero_need n none_root none_by = ap (λ r. record { roots = r; by = n.by }) none_root ∙ ap (λ b. record { roots = 0; by = b }) none_by

pub not_false : (b : Bool) → not b ≡ false → b ≡ true
not_false true h = refl
not_false false h = absurd (let e = h in cc)

-- a walk that gives something had it left
pub some_left : {S : Type 0} (rest : S → List Point) (s t : S) (r : Option Point) → YieldsFirst rest s r t → is_some r ≡ true
    → (x : Point) × (0 < occurrences (rest s) x)
some_left rest s t None h e = absurd (let f = e in cc)
some_left rest s t (Some x) h e = (x, rw h (omega (arith, first_due x (rest t))))

pub none_read : (l : Links) (p : Point) (kids : List Point) → AreKids l p kids → kids ≡ [] → (k : Point) → times l p k ≡ 0
none_read l p kids are none k = let e = rw none at (are k) in omega (arith, e)

pub none_reads : (l : Links) (p : Point) (readers : List Point) → AreReaders l p readers → readers ≡ [] → (k : Point) → times l k p ≡ 0
none_reads l p readers are none k = let e = rw none at (are k) in omega (arith, e)

-- no links lead from needed readers where none lead at all
pub none_from : (l : Links) (m : Rows Need) (p : Point) → ((k : Point) → times l k p ≡ 0) → (n : ℕ) → links_from (needed_in m) l p ≡ n → n ≡ 0
none_from l m p no_readers zero e = refl
none_from l m p no_readers (suc n) e = absurd (
    let f = found (leads_from (needed_in m) p) l.all (omega (arith, e)) in
    let leads = both (needed_in m f.0.reader) (same_point f.0.kid p) f.2 in
    let kid = same_point_eq f.0.kid p leads.1 in
    let there = counted (same_link f.0.reader p) l.all f.0 f.1 (rw (kid, same_point_self f.0.reader, same_point_self p) refl) in
    omega (arith, there, no_readers f.0.reader))

module _ (l : Links) (m new : Rows Need) (p : Point) (r : IsAtRest l m) (no_kids : (k : Point) → times l p k ≡ 0)
    (no_readers : (k : Point) → times l k p ≡ 0) (no_root : (need_at m p).roots ≡ 0) (off : Changes m new p None) where
  pub needs_kept : (k : Point) → need_at new k ≡ need_at m k
  needs_kept k = elim (point_cases k p) [
    | inl same ↦ rw (same, off.changed) (sym (zero_need (need_at m p) no_root (r.counts p ∙ none_from l m p no_readers (links_from (needed_in m) l p) refl)))
    | inr differs ↦ same_need m new k (off.others k differs)
  ]

  pub rest_forgets : IsAtRest l new
  rest_forgets = rest_moves l m new r needs_kept (λ a b reads.
      let e = r.ends a b reads in (
        still a e.0 (λ same. let none = no_kids b in let n = rw (sym same) at none in omega (arith, n, reads)),
        still b e.1 (λ same. let none = no_readers a in let n = rw (sym same) at none in omega (arith, n, reads)),
      )) where
        still : (a : Point) → Holds m a → a ≢ p → Holds new a
        still a held other = rw (off.others a other) held
