-- Points that turn, and the links that are counted.
use Rattle.std.proofs.Common.{◌≡◌, ◌≢◌, ◌∙◌, inl, inr, ℕ, ◌+◌, Bool, true, false, List, [], ◌∷◌, ◌++◌, length, refl, sym, ap, arith}
use Rattle.std.specs.Prelude.{Some, cond, not, nat_lt}
use Rattle.std.proofs.lemmas.List.Sums.{sum_by-append}
use Rattle.std.proofs.lemmas.Bool.Decides.{nat_tests}
use Rattle.inc_value.specs.declared.node.Point.{Point}
use Rattle.point_map.specs.Rows.{Rows, at, same_point}
use Rattle.point_map.proofs.Places.{same_point_self, point_cases}
use Rattle.link_table.specs.declared.link.Link.{Link}
use Rattle.link_table.specs.Links.{Links, same_link, times, occurrences, AreKids}
use Rattle.necessity.specs.declared.need.Need.{Need}
use Rattle.necessity.specs.Counting.{need_at, needed_in, differ, waits, is_counted, leads_from, links_from, behind, Balances, IsUnderWay, IsAtRest}
use Rattle.necessity.proofs.Counts.{other_point, sum_by_parts, sum_by_same, as_many_kids}

-- what a row says
pub row_need : (m : Rows Need) (p : Point) (n : Need) → at m p ≡ Some n → need_at m p ≡ n
row_need m p n h = rw h refl

pub same_need : (old new : Rows Need) (p : Point) → at new p ≡ at old p → need_at new p ≡ need_at old p
same_need old new p h = rw h refl

-- one point more at the end of those that wait
pub occurrences_more : (waiting : List Point) (p r : Point) → occurrences (waiting ++ p ∷ []) r ≡ occurrences waiting r + cond (same_point p r) 1 0
occurrences_more waiting p r = rw (sum_by-append (λ x. cond (same_point x r) 1 0) waiting (p ∷ [])) (omega arith)

pub other_waits : (waiting : List Point) (p r : Point) → r ≢ p → waits (waiting ++ p ∷ []) r ≡ waits waiting r
other_waits waiting p r other =
    let same : occurrences (waiting ++ p ∷ []) r ≡ occurrences waiting r =
    rw (occurrences_more waiting p r, other_point p r (λ e. other (sym e))) (omega arith) in
    ap (nat_lt 0) same

pub last_waits : (waiting : List Point) (p : Point) → waits (waiting ++ p ∷ []) p ≡ true
last_waits waiting p = rw (occurrences_more waiting p p, same_point_self p) (grind (arith, nat_tests))

pub waits_more : (waiting : List Point) (p r : Point) → waits waiting r ≡ true → waits (waiting ++ p ∷ []) r ≡ true
waits_more waiting p r w = let e = occurrences_more waiting p r in grind (arith, nat_tests)

not_differs : (t : Bool) → ◌≡◌ {A = ℕ} (cond (differ (not t) t) 1 0) (cond (differ t t) 1 0 + 1)
not_differs true = refl
not_differs false = refl

-- a sum over the links of one reader more
module _ (f g : Point → Bool) (p : Point) (others : (r : Point) → r ≢ p → g r ≡ f r) (off : f p ≡ false) (on : g p ≡ true) where
  more_here : (k : Point) (e : Link) → cond (leads_from g k e) 1 0 ≡ cond (leads_from f k e) 1 0 + cond (same_link p k e) 1 0
  more_here k e = elim (point_cases e.reader p) [
    | inl here ↦ rw (here, off, on, same_point_self p) (omega arith)
    | inr there ↦ rw (others e.reader there, other_point e.reader p there) (omega arith)
  ]

  pub reader_more : (l : Links) (k : Point) → links_from g l k ≡ links_from f l k + times l p k
  reader_more l k = sum_by_parts (λ e. cond (leads_from g k e) 1 0) (λ e. cond (leads_from f k e) 1 0) (λ e. cond (same_link p k e) 1 0) (more_here k) l.all

pub same_links_from : (f g : Point → Bool) → ((r : Point) → g r ≡ f r) → (l : Links) (k : Point) → links_from g l k ≡ links_from f l k
same_links_from f g h l k = sum_by_same (λ e. cond (leads_from g k e) 1 0) (λ e. cond (leads_from f k e) 1 0) (λ e. rw (h e.reader) refl) l.all

pub differ_true : (b : Bool) → differ b true ≡ not b
differ_true true = refl
differ_true false = refl

pub differ_false : (b : Bool) → differ b false ≡ b
differ_false true = refl
differ_false false = refl

-- nothing waits
pub none_waiting : (m : Rows Need) (r : Point) → is_counted m [] r ≡ needed_in m r
none_waiting m r = differ_false (needed_in m r)

-- all has turned
pub settled : (t : Bool) (l : Links) (m : Rows Need) → IsUnderWay t l m [] [] → IsAtRest l m
settled t l m u = record {
  counts = λ k. rest_counts t (need_at m k).by (links_from (is_counted m []) l k) (u.counts k)
      ∙ same_links_from (needed_in m) (is_counted m []) (none_waiting m) l k;
  ends = u.ends;
} where
  rest_counts : (t : Bool) (by links : ℕ) → Balances t by 0 links → by ≡ links
  rest_counts true by links h = omega (arith, h)
  rest_counts false by links h = omega (arith, h)

-- the point at the end of those that wait is taken up, and its kids are due
module _ (t : Bool) (l : Links) (m : Rows Need) (waiting due : List Point) (p : Point) (u : IsUnderWay t l m (waiting ++ p ∷ []) []) (are : AreKids l p due) where
  so : needed_in m p ≡ t
  so = u.turned_so p (last_waits waiting p)

  last : waits waiting p ≡ false
  last = let o = u.once p in let e = rw (occurrences_more waiting p p, same_point_self p) at o in
      let none : occurrences waiting p ≡ 0 = omega (arith, e) in ap (nat_lt 0) none

  others_counted : (r : Point) → r ≢ p → is_counted m (waiting ++ p ∷ []) r ≡ is_counted m waiting r
  others_counted r other = rw (other_waits waiting p r other) refl

  before_counted : is_counted m (waiting ++ p ∷ []) p ≡ not t
  before_counted = rw (last_waits waiting p, so) (differ_true t)

  after_counted : is_counted m waiting p ≡ t
  after_counted = rw (last, so) (differ_false t)

  taken_counts : (t' : Bool) → t' ≡ t → (k : Point) → Balances t' (need_at m k).by 0 (links_from (is_counted m (waiting ++ p ∷ [])) l k)
      → Balances t' (need_at m k).by (occurrences due k) (links_from (is_counted m waiting) l k)
  taken_counts true e k h =
      let off : is_counted m (waiting ++ p ∷ []) p ≡ false = before_counted ∙ ap not (sym e) in
      let on : is_counted m waiting p ≡ true = after_counted ∙ sym e in
      let more = reader_more (is_counted m (waiting ++ p ∷ [])) (is_counted m waiting) p (λ r o. sym (others_counted r o)) off on l k in
      omega (arith, h, more, are k)
  taken_counts false e k h =
      let on : is_counted m (waiting ++ p ∷ []) p ≡ true = before_counted ∙ ap not (sym e) in
      let off : is_counted m waiting p ≡ false = after_counted ∙ sym e in
      let more = reader_more (is_counted m waiting) (is_counted m (waiting ++ p ∷ [])) p others_counted off on l k in
      omega (arith, h, more, are k)

  pub taken_up : IsUnderWay t l m waiting due
  taken_up = record {
    counts = λ k. taken_counts t refl k (u.counts k);
    turned_so = λ r w. u.turned_so r (waits_more waiting p r w);
    once = λ r. let o = u.once r in let e = occurrences_more waiting p r in omega (arith, o, e);
    ends = u.ends;
    due_held = λ k some. let a = are k in (u.ends p k (omega (arith, a, some))).1;
  }

  behind_here : (e : Link) → cond (differ (is_counted m (waiting ++ p ∷ []) e.reader) t) 1 0
      ≡ cond (differ (is_counted m waiting e.reader) t) 1 0 + cond (same_point e.reader p) 1 0
  behind_here e = elim (point_cases e.reader p) [
    | inl here ↦ rw (here, before_counted, after_counted, same_point_self p) (not_differs t)
    | inr there ↦ rw (others_counted e.reader there, other_point e.reader p there) (omega arith)
  ]

  pub behind_taken : behind t l m (waiting ++ p ∷ []) ≡ behind t l m waiting + length due
  behind_taken =
      let parts = sum_by_parts (λ e. cond (differ (is_counted m (waiting ++ p ∷ []) e.reader) t) 1 0)
      (λ e. cond (differ (is_counted m waiting e.reader) t) 1 0) (λ e. cond (same_point e.reader p) 1 0) behind_here l.all in
      omega (arith, parts, as_many_kids l p due are)
