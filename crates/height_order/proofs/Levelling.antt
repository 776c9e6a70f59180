-- Bounds of levels, levels that are kept one after the other, and heights that they give.
use Rattle.std.proofs.Common.{◌≡◌, ◌≢◌, ◌∙◌, ℕ, ◌+◌, ◌-◌, ◌<◌, ◌≤◌, List, [], ◌∷◌, refl, ap, sym, subst, inl, inr, arith}
use Rattle.std.specs.Prelude.{◌⊎◌, Option, Some, None, IsSome, IfNone, max}
use Rattle.inc_value.specs.declared.node.Point.{Point}
use Rattle.point_map.specs.Rows.{Rows, at, row_in, Holds, Changes}
use Rattle.point_map.proofs.Places.{point_cases}
use Rattle.link_table.specs.Links.{Links, Reads}
use Rattle.height_order.specs.Chains.{Leads, NoneLonger, IsLongest}
use Rattle.height_order.specs.Levels.{level, or_zero, Rises, AllLow, bound_by, bound, AreBounds, IsNext, HaveNext, AreLevels, AddsBelow, level_or, levelled}
use Rattle.height_order.proofs.Points.{level_other, row_there, some_there, not_both, there_cases}
use Rattle.height_order.proofs.Covering.{Occurs, occurs_first, occurs_later, occurs_cases, Covers, covers_next, covers_end}
use Rattle.height_order.proofs.Chaining.{IsNearest, none_longer_by, shorter, some_link, longest_under, longest_falls, longest_over, longest_along}
use Rattle.height_order.proofs.Chaining.{leads_self, leads_before}

pub none_at : {R : Type 0} (m : Rows R) (p : Point) → m.places ≡ [] → at m p ≡ None
none_at m p e = ap (λ ps. row_in ps p) e

-- the greater of two heights
pub record IsGreater (a b n : ℕ) : Type 0 where
  pub left : a ≤ n
  pub right : b ≤ n
  pub either : (n ≡ a) ⊎ (n ≡ b)

greater_by : (a b n : ℕ) → n ≡ max a b → (a ≤ b) ⊎ (b < a) → (n ≡ a) ⊎ (n ≡ b)
greater_by a b n e (inl less) = inr (omega (arith, e, less))
greater_by a b n e (inr more) = inl (omega (arith, e, more))

not_more_or_more : (a b : ℕ) → (a ≤ b) ⊎ (b < a)
not_more_or_more a b = grind arith

pub is_greater : (a b n : ℕ) → n ≡ max a b → IsGreater a b n
is_greater a b n e = record { left = omega (arith, e); right = omega (arith, e); either = greater_by a b n e (not_more_or_more a b) }

pub first_greater : (n : ℕ) → IsGreater 0 (n + 1) (n + 1)
first_greater n = record { left = omega arith; right = omega arith; either = inr refl }

-- the point has this height
pub level_at : (m : Rows ℕ) (p : Point) (n : ℕ) → at m p ≡ Some n → level m p ≡ n
level_at m p n e = ap or_zero e

-- what isn't there has the height 0
low_by : (m : Rows ℕ) (p : Point) → (Holds m p → level m p ≤ 128) → (at m p ≡ None) ⊎ Holds m p → level m p ≤ 128
low_by m p low (inr there) = low there
low_by m p low (inl none) = let e = ap or_zero none in omega (arith, e)

pub low_there : (m : Rows ℕ) → ((p : Point) → Holds m p → level m p ≤ 128) → (p : Point) → level m p ≤ 128
low_there m low p = low_by m p (low p) (there_cases m p)

module _ (heights levels : Rows ℕ) where
  pub levelled_none : (p : Point) → at levels p ≡ None → levelled heights levels p ≡ level heights p
  levelled_none p e = ap (level_or (level heights p)) e

  pub levelled_some : (p : Point) (n : ℕ) → at levels p ≡ Some n → levelled heights levels p ≡ n
  levelled_some p n e = ap (level_or (level heights p)) e

  -- a point that has a level gets it
  pub levelled_there : (p : Point) → Holds levels p → levelled heights levels p ≡ level levels p
  levelled_there p there = let r = row_there levels p there in levelled_some p r.0 r.1 ∙ sym (level_at levels p r.0 r.1)

module _ {R : Type 0} (heights : Rows ℕ) (free : Rows R) where
  -- a point that isn't free is bounded by its height
  pub bound_none : (p : Point) → at free p ≡ None → bound heights (Some free) p ≡ level heights p
  bound_none p e = ap (λ o. bound_by (level heights p) o) e

  pub bound_free : (p : Point) → Holds free p → bound heights (Some free) p ≡ 257
  bound_free p there = let r = row_there free p there in ap (λ o. bound_by (level heights p) o) r.1

  over_by : (p : Point) → level heights p ≤ 128 → (at free p ≡ None) ⊎ Holds free p → level heights p ≤ bound heights (Some free) p
  over_by p low (inl none) = let e = bound_none p none in omega (arith, e)
  over_by p low (inr there) = let e = bound_free p there in omega (arith, e, low)

  -- no height is above its bound
  pub height_under : AllLow (level heights) → (p : Point) → level heights p ≤ bound heights (Some free) p
  height_under low p = over_by p (low p) (there_cases free p)

  module _ (links : Links) (rank : Point → ℕ) (rises : Rises (Reads links) rank) (low : (p : Point) → rank p ≤ 257)
      (same : (p : Point) → at free p ≡ None → rank p ≡ level heights p) where
    rank_under : (p : Point) → (at free p ≡ None) ⊎ Holds free p → rank p ≤ bound heights (Some free) p
    rank_under p (inl none) = let e = bound_none p none in let s = same p none in omega (arith, e, s)
    rank_under p (inr there) = let e = bound_free p there in let l = low p in omega (arith, e, l)

    -- these are bounds where numbers rise along all links that are the heights of points that aren't free
    pub are_bounds : AreBounds links (bound heights (Some free))
    are_bounds p list chain starts =
        let h = none_longer_by (Reads links) rank rises p list chain starts in
        let u = rank_under p (there_cases free p) in omega (arith, h, u)

module _ (links : Links) where
  -- levels stay below, and more are added
  pub stays_there : (old new : Rows ℕ) (p x : Point) → AddsBelow links old new p → Holds old x → Holds new x
  stays_there old new p x adds there = let r = row_there old x there in some_there (at new x) r.0 (adds.kept x r.0 r.1)

  pub stays_level : (old new : Rows ℕ) (p x : Point) → AddsBelow links old new p → Holds old x → level new x ≡ level old x
  stays_level old new p x adds there =
      let r = row_there old x there in level_at new x r.0 (adds.kept x r.0 r.1) ∙ sym (level_at old x r.0 r.1)

  pub adds_none : (levels : Rows ℕ) (p : Point) → AddsBelow links levels levels p
  adds_none levels p = record { kept = λ x n e. e; below = λ x there. inl there }

  high_there : (levels : Rows ℕ) (p : Point) → 0 < level levels p → (at levels p ≡ None) ⊎ Holds levels p → Holds levels p
  high_there levels p high (inr there) = there
  high_there levels p high (inl none) = let e = ap or_zero none in absurd (omega (arith, e, high))

  -- a point above 0 reads one whose level is at most one lower
  pub kid_some : (levels : Rows ℕ) (p : Point) (found : Option Point) → HaveNext links levels → 0 < level levels p
      → IfNone found ((k : Point) → Reads links p k → level levels k + 1 < level levels p) → IsSome found
  kid_some levels p (Some k) so high none = refl
  kid_some levels p None so high none =
      let r = row_there levels p (high_there levels p high (there_cases levels p)) in
      let e = level_at levels p r.0 r.1 in
      let w = so p r.0 r.1 (omega (arith, e, high)) in
      let near = w.near in
      let far = none w.kid w.reads in absurd (omega (arith, e, near, far))

  -- the points of a map lead to what is levelled below them
  pub below_more : {R : Type 0} (points : Rows R) (old levels : Rows ℕ) (p x : Point) → Holds points p
      → (Holds levels x → Holds old x ⊎ ((y : Point) × Holds points y × Leads (Reads links) y x)) → Holds levels x ⊎ Leads (Reads links) p x
      → Holds old x ⊎ ((y : Point) × Holds points y × Leads (Reads links) y x)
  below_more points old levels p x there before (inl was) = before was
  below_more points old levels p x there before (inr leads) = inr (p, there, leads)

  -- a link more is needed for what a point reads
  pub kid_low : (p kid : Point) (most n : ℕ) → NoneLonger (Reads links) p most → Reads links p kid → IsLongest (Reads links) kid n → n < most
  kid_low p kid most n short reads longest =
      let a = longest_under (Reads links) kid n (most - 1) longest (shorter (Reads links) p kid most short reads) in
      let b = some_link (Reads links) p kid most short reads in omega (arith, a, b)

module _ (links : Links) (bounds : Point → ℕ) where
  -- no point has a level yet
  pub no_levels : (levels : Rows ℕ) → levels.places ≡ [] → AreLevels links bounds levels
  no_levels levels empty = record {
    longest = λ p n e. absurd (not_both (at levels p) (none_at levels p empty) (some_there (at levels p) n e));
    next = λ p n e. absurd (not_both (at levels p) (none_at levels p empty) (some_there (at levels p) n e));
    closed = λ p q n e. absurd (not_both (at levels p) (none_at levels p empty) (some_there (at levels p) n e));
  }

  -- a point's level is the length of its longest chain
  pub longest_there : (levels : Rows ℕ) (p : Point) → AreLevels links bounds levels → Holds levels p → IsLongest (Reads links) p (level levels p)
  longest_there levels p so there =
      let r = row_there levels p there in subst (IsLongest (Reads links) p) (sym (level_at levels p r.0 r.1)) (so.longest p r.0 r.1)

  module _ (levels new : Rows ℕ) (p : Point) (n : ℕ) (so : AreLevels links bounds levels) (absent : at levels p ≡ None) (added : Changes levels new p (Some n))
      (longest : IsLongest (Reads links) p n) (next : 0 < n → IsNext links levels p n) (kids : (k : Point) → Reads links p k → Holds levels k ⊎ (bounds k < n)) where
    kept_by : (x : Point) → (x ≡ p) ⊎ (x ≢ p) → Holds levels x → Holds new x
    kept_by x (inl same) there = some_there (at new x) n (ap (at new) same ∙ added.changed)
    kept_by x (inr differs) there = subst IsSome (sym (added.others x differs)) there

    kept : (x : Point) → Holds levels x → Holds new x
    kept x there = kept_by x (point_cases x p) there

    kept_level : (x : Point) → Holds levels x → level new x ≡ level levels x
    kept_level x there = level_other levels new p x (Some n) added (λ e. not_both (at levels p) absent (subst (Holds levels) e there))

    is_n : (x : Point) (m : ℕ) → at new x ≡ Some m → x ≡ p → m ≡ n
    is_n x m e same = let f : ◌≡◌ {A = Option ℕ} (Some m) (Some n) = sym e ∙ ap (at new) same ∙ added.changed in cc

    longest_by : (x : Point) (m : ℕ) → at new x ≡ Some m → (x ≡ p) ⊎ (x ≢ p) → IsLongest (Reads links) x m
    longest_by x m e (inl same) =
        subst (λ z. IsLongest (Reads links) z m) (sym same) (subst (IsLongest (Reads links) p) (sym (is_n x m e same)) longest)
    longest_by x m e (inr differs) = so.longest x m (sym (added.others x differs) ∙ e)

    next_kept : (x : Point) (m : ℕ) → IsNext links levels x m → IsNext links new x m
    next_kept x m w = record {
      kid = w.kid;
      reads = w.reads;
      there = kept w.kid w.there;
      near = (let e = kept_level w.kid w.there in let h = w.near in omega (arith, e, h));
    }

    next_by : (x : Point) (m : ℕ) → at new x ≡ Some m → 0 < m → (x ≡ p) ⊎ (x ≢ p) → IsNext links new x m
    next_by x m e some (inl same) =
        let f = is_n x m e same in
        next_kept x m (subst (λ z. IsNext links levels z m) (sym same) (subst (IsNext links levels p) (sym f) (next (omega (arith, f, some)))))
    next_by x m e some (inr differs) = next_kept x m (so.next x m (sym (added.others x differs) ∙ e) some)

    still_closed : (y : Point) (k m : ℕ) → m ≡ k → Holds levels y ⊎ (bounds y < k) → Holds new y ⊎ (bounds y < m)
    still_closed y k m e (inl there) = inl (kept y there)
    still_closed y k m e (inr under) = inr (omega (arith, e, under))

    closed_by : (x y : Point) (m : ℕ) → at new x ≡ Some m → Reads links x y → (x ≡ p) ⊎ (x ≢ p) → Holds new y ⊎ (bounds y < m)
    closed_by x y m e reads (inl same) = still_closed y n m (is_n x m e same) (kids y (subst (λ z. Reads links z y) same reads))
    closed_by x y m e reads (inr differs) = still_closed y m m refl (so.closed x y m (sym (added.others x differs) ∙ e) reads)

    -- a point gets its level once all that it reads have theirs, or are bounded below it
    pub levels_more : AreLevels links bounds new
    levels_more = record {
      longest = λ x m e. longest_by x m e (point_cases x p);
      next = λ x m e some. next_by x m e some (point_cases x p);
      closed = λ x y m e reads. closed_by x y m e reads (point_cases x p);
    }

    module _ (old : Rows ℕ) (adds : AddsBelow links old levels p) where
      same_by : (x : Point) (m : ℕ) → at levels x ≡ Some m → (x ≡ p) ⊎ (x ≢ p) → at new x ≡ Some m
      same_by x m e (inl same) = absurd (not_both (at levels x) (ap (at levels) same ∙ absent) (some_there (at levels x) m e))
      same_by x m e (inr differs) = added.others x differs ∙ e

      added_by : (x : Point) → Holds new x → (x ≡ p) ⊎ (x ≢ p) → Holds old x ⊎ Leads (Reads links) p x
      added_by x there (inl same) = inr (subst (Leads (Reads links) p) (sym same) (leads_self (Reads links) p))
      added_by x there (inr differs) = adds.below x (subst IsSome (added.others x differs) there)

      pub adds_here : AddsBelow links old new p
      adds_here = record {
        kept = λ x m e. same_by x m (adds.kept x m e) (point_cases x p);
        below = λ x there. added_by x there (point_cases x p);
      }

  -- the point has a level below the height, or is bounded below it
  abbrev pub IsUnder : Rows ℕ → ℕ → Point → Type 0
  IsUnder levels height k = (Holds levels k × (level levels k < height)) ⊎ (bounds k < height)

  -- What a point reads is levelled: all but those that are left are under the height, and one of them is next to it.
  pub record LevelsKids (old levels : Rows ℕ) (p : Point) (most height : ℕ) (left : List Point) : Type 0 where
    pub levels_so : AreLevels links bounds levels
    pub adds : AddsBelow links old levels p
    pub absent : at levels p ≡ None
    pub covers : Covers (Reads links p) (IsUnder levels height) left
    pub next : 0 < height → IsNext links levels p height
    pub low : height ≤ most

  module _ (levels : Rows ℕ) (p : Point) (most : ℕ) (so : AreLevels links bounds levels) (absent : at levels p ≡ None) where
    -- the point reads none
    pub kids_none : ((k : Point) → Reads links p k → ⊥) → LevelsKids levels levels p most 0 []
    kids_none none = record {
      levels_so = so;
      adds = adds_none links levels p;
      absent = absent;
      covers = record { among = λ k h. absurd (let e = h in omega (arith, e)); rest = λ k reads. absurd (none k reads) };
      next = λ some. absurd (omega (arith, some));
      low = omega arith;
    }

    among_by : (first k : Point) (left : List Point) → Reads links p first → (Occurs left k → Reads links p k) → (k ≡ first) ⊎ Occurs left k → Reads links p k
    among_by first k left reads are (inl e) = subst (Reads links p) (sym e) reads
    among_by first k left reads are (inr occurs) = are occurs

    -- all are left, and one of them is looked at first
    pub kids_start : (first : Point) (left : List Point) → Reads links p first → Covers (Reads links p) (IsUnder levels 0) left
        → LevelsKids levels levels p most 0 (first ∷ left)
    kids_start first left reads covers = record {
      levels_so = so;
      adds = adds_none links levels p;
      absent = absent;
      covers = record {
        among = λ k h. among_by first k left reads (covers.among k) (occurs_cases first k left h);
        rest = λ k r. start_by k (covers.rest k r);
      };
      next = λ some. absurd (omega (arith, some));
      low = omega arith;
    }
      where
        start_by : (k : Point) → Occurs left k ⊎ IsUnder levels 0 k → Occurs (first ∷ left) k ⊎ IsUnder levels 0 k
        start_by k (inl occurs) = inl (occurs_later first k left occurs)
        start_by k (inr under) = inr under

  -- a point is passed over whose bound is below the height
  pub kids_pass : (old levels : Rows ℕ) (p kid : Point) (rest : List Point) (most height : ℕ) → bounds kid < height
      → LevelsKids old levels p most height (kid ∷ rest) → LevelsKids old levels p most height rest
  kids_pass old levels p kid rest most height under so = record {
    levels_so = so.levels_so;
    adds = so.adds;
    absent = so.absent;
    covers = covers_next (Reads links p) (IsUnder levels height) (IsUnder levels height) kid rest so.covers (λ k u. u) (inr under);
    next = so.next;
    low = so.low;
  }

  module _ (old levels new : Rows ℕ) (p kid : Point) (rest : List Point) (most height n : ℕ) (so : LevelsKids old levels p most height (kid ∷ rest))
      (short : NoneLonger (Reads links) p most) (here : at new kid ≡ Some n) (new_so : AreLevels links bounds new) (adds : AddsBelow links levels new kid) where
    reads_kid : Reads links p kid
    reads_kid = so.covers.among kid (occurs_first kid rest)

    kid_longest : IsLongest (Reads links) kid n
    kid_longest = new_so.longest kid n here

    below_by : (x : Point) → Holds levels x ⊎ Leads (Reads links) kid x → Holds old x ⊎ Leads (Reads links) p x
    below_by x (inl there) = so.adds.below x there
    below_by x (inr leads) = inr (leads_before (Reads links) p kid x reads_kid leads)

    absent_by : Holds new p → Holds levels p ⊎ Leads (Reads links) kid p → ⊥
    absent_by there (inl was) = not_both (at levels p) so.absent was
    absent_by there (inr leads) =
        let of_p = longest_there new p new_so there in
        let a = longest_along (Reads links) kid p n (level new p) kid_longest of_p leads in
        let b = longest_falls (Reads links) p kid (level new p) n of_p kid_longest reads_kid in omega (arith, a, b)

    absent_cases : (at new p ≡ None) ⊎ Holds new p → at new p ≡ None
    absent_cases (inl none) = none
    absent_cases (inr there) = absurd (absent_by there (adds.below p there))

    under_kept : (next : ℕ) → height ≤ next → (k : Point) → IsUnder levels height k → IsUnder new next k
    under_kept next more k (inl d) =
        let e = stays_level links levels new kid k adds d.0 in
        let lt = d.1 in inl (stays_there links levels new kid k adds d.0, omega (arith, e, lt, more))
    under_kept next more k (inr under) = inr (omega (arith, under, more))

    next_stays : (next : ℕ) → next ≡ height → IsNext links levels p height → IsNext links new p next
    next_stays next is w = record {
      kid = w.kid;
      reads = w.reads;
      there = stays_there links levels new kid w.kid adds w.there;
      near = (let e = stays_level links levels new kid w.kid adds w.there in let h = w.near in omega (arith, e, h, is));
    }

    next_more : (next : ℕ) → (next ≡ height) ⊎ (next ≡ n + 1) → 0 < next → IsNext links new p next
    next_more next (inl e) some = next_stays next e (so.next (omega (arith, e, some)))
    next_more next (inr e) some = record {
      kid = kid;
      reads = reads_kid;
      there = some_there (at new kid) n here;
      near = (let f = level_at new kid n here in omega (arith, e, f));
    }

    most_by : (next : ℕ) → (next ≡ height) ⊎ (next ≡ n + 1) → next ≤ most
    most_by next (inl e) = let l = so.low in omega (arith, e, l)
    most_by next (inr e) = let l = kid_low links p kid most n short reads_kid kid_longest in omega (arith, e, l)

    -- one more that the point reads is levelled
    pub kids_more : (next : ℕ) → IsGreater height (n + 1) next → LevelsKids old new p most next rest
    kids_more next greater = record {
      levels_so = new_so;
      adds = record { kept = λ x m e. adds.kept x m (so.adds.kept x m e); below = λ x there. below_by x (adds.below x there) };
      absent = absent_cases (there_cases new p);
      covers = covers_next (Reads links p) (IsUnder levels height) (IsUnder new next) kid rest so.covers (under_kept next greater.left)
          (inl (some_there (at new kid) n here, (let e = level_at new kid n here in let g = greater.right in omega (arith, e, g))));
      next = next_more next greater.either;
      low = most_by next greater.either;
    }

  -- all that the point reads is levelled, or passed over
  module _ (old levels : Rows ℕ) (p : Point) (most height : ℕ) (are : AreBounds links bounds) (so : LevelsKids old levels p most height []) where
    under : (k : Point) → Reads links p k → IsUnder levels height k
    under = covers_end (Reads links p) (IsUnder levels height) so.covers

    there_by : (k : Point) → IsUnder levels height k → Holds levels k ⊎ (bounds k < height)
    there_by k (inl d) = inl d.0
    there_by k (inr less) = inr less

    pub kids_there : (k : Point) → Reads links p k → Holds levels k ⊎ (bounds k < height)
    kids_there k reads = there_by k (under k reads)

    shorter_by : (k : Point) → IsUnder levels height k → (n : ℕ) × NoneLonger (Reads links) k n × (n < height)
    shorter_by k (inl d) = (level levels k, (longest_there levels k so.levels_so d.0).none_longer, d.1)
    shorter_by k (inr less) = (bounds k, are k, less)

    nearest : 0 < height → IsNearest (Reads links) p height
    nearest some =
        let w = so.next some in
        record { kid = w.kid; reads = w.reads; level = level levels w.kid; longest = longest_there levels w.kid so.levels_so w.there; near = w.near }

    pub kids_longest : IsLongest (Reads links) p height
    kids_longest = longest_over (Reads links) p height (λ k reads. shorter_by k (under k reads)) nearest

    -- which gets its level
    pub level_more : (new : Rows ℕ) → Changes levels new p (Some height) → AreLevels links bounds new
    level_more new added = levels_more levels new p height so.levels_so so.absent added kids_longest so.next kids_there

    pub level_adds : (new : Rows ℕ) → Changes levels new p (Some height) → AddsBelow links old new p
    level_adds new added = adds_here levels new p height so.levels_so so.absent added kids_longest so.next kids_there old so.adds
