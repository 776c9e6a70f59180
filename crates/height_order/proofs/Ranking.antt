-- Heights by levels, where some numbers rise along all links.
use Rattle.std.proofs.Common.{◌≡◌, ◌≢◌, ◌∙◌, ℕ, ◌+◌, ◌<◌, ◌≤◌, [], refl, ap, sym, subst, inl, inr, arith}
use Rattle.std.specs.Prelude.{◌⊎◌, Some, None, Result, Ok, Err, OnOk, OnErr}
use Rattle.inc_value.specs.declared.node.Point.{Point}
use Rattle.point_map.specs.Rows.{Rows, at, Holds}
use Rattle.link_table.specs.Links.{Links, Reads, OneLinkMore}
use Rattle.height_order.specs.declared.lifts.Lift.{Lift}
use Rattle.height_order.specs.Chains.{ReadsWith, Leads, NoneLonger, IsLongest}
use Rattle.height_order.specs.Levels.{level, levelled, Rises, AllLow, Ends, AreSoundHeights, KeepsPoints, IsExact, bound, AreBounds, AreLevels}
use Rattle.height_order.specs.Climbs.{lifted, IsClimbed, IsRanked}
use Rattle.height_order.proofs.Points.{row_there, there_cases, not_both, some_there, still_there}
use Rattle.height_order.proofs.Chaining.{none_longer_by, longest_under, longest_falls, along}
use Rattle.height_order.proofs.Levelling.{none_at, level_at, levelled_none, levelled_there, longest_there, are_bounds}
use Rattle.height_order.proofs.Lifting.{lifted_none}
use Rattle.height_order.proofs.Sounding.{reads_from}

-- what a point that is there leads to is there
pub leads_there : (heights : Rows ℕ) (links : Links) (p x : Point) → Ends heights links → Holds heights p → Leads (Reads links) p x → Holds heights x
leads_there heights links p x ends there leads = along (Reads links) (Holds heights) (λ a b h r. (ends a b r).1) p x there leads

module _ (old levels new : Rows ℕ) (links : Links) (bounds : Point → ℕ) (so : AreLevels links bounds levels) (written : (x : Point) → level new x ≡ levelled old levels x) where
  now_there : (x : Point) → Holds levels x → level new x ≡ level levels x
  now_there x there = written x ∙ levelled_there old levels x there

  now_none : (x : Point) → at levels x ≡ None → level new x ≡ level old x
  now_none x none = written x ∙ levelled_none old levels x none

  -- the height of a point that has a level is the length of its longest chain
  pub now_longest : (x : Point) → Holds levels x → IsLongest (Reads links) x (level new x)
  now_longest x there = subst (IsLongest (Reads links) x) (sym (now_there x there)) (longest_there links bounds levels x so there)

  changed_by : (x : Point) → (at levels x ≡ None) ⊎ Holds levels x → level new x ≢ level old x → Holds levels x
  changed_by x (inr there) differs = there
  changed_by x (inl none) differs = absurd (differs (now_none x none))

  -- a point whose height changed has a level
  pub changed_there : (x : Point) → level new x ≢ level old x → Holds levels x
  changed_there x differs = changed_by x (there_cases levels x) differs

  module _ (over : (x : Point) → level old x ≤ bounds x) (rank : Point → ℕ) (rises : Rises (Reads links) rank)
      (apart : (x : Point) → at levels x ≡ None → rank x ≡ level old x) where
    -- no level is above the rank
    pub under : (x : Point) → Holds levels x → level levels x ≤ rank x
    under x there = longest_under (Reads links) x (level levels x) (rank x) (longest_there links bounds levels x so there) (none_longer_by (Reads links) rank rises x)

    -- a point that was passed over stands lower than what has a level and reads it
    passed_by : (a b : Point) (n : ℕ) → at levels a ≡ Some n → at levels b ≡ None → Holds levels b ⊎ (bounds b < n) → level new b < level new a
    passed_by a b n here none (inl there) = absurd (not_both (at levels b) none there)
    passed_by a b n here none (inr under) =
        let e = now_there a (some_there (at levels a) n here) in let f = level_at levels a n here in
        let g = now_none b none in let o = over b in omega (arith, under, e, f, g, o)

    rises_by : (a b : Point) → Reads links a b → (at levels a ≡ None) ⊎ Holds levels a → (at levels b ≡ None) ⊎ Holds levels b → level new b < level new a
    rises_by a b reads (inr there) (inr there_b) =
        longest_falls (Reads links) a b (level new a) (level new b) (now_longest a there) (now_longest b there_b) reads
    rises_by a b reads (inr there) (inl none_b) =
        let r = row_there levels a there in passed_by a b r.0 r.1 none_b (so.closed a b r.0 r.1 reads)
    rises_by a b reads (inl none) (inr there) =
        let u = under b there in let r = rises a b reads in let e = apart a none in
        let f = now_none a none in let g = now_there b there in omega (arith, u, r, e, f, g)
    rises_by a b reads (inl none) (inl none_b) =
        let r = rises a b reads in let d = apart a none in let e = apart b none_b in
        let f = now_none a none in let g = now_none b none_b in omega (arith, r, d, e, f, g)

    low_by : AllLow (level old) → ((x : Point) → Holds levels x → level levels x ≤ 128) → (x : Point) → (at levels x ≡ None) ⊎ Holds levels x → level new x ≤ 128
    low_by low fits x (inl none) = let e = now_none x none in let l = low x in omega (arith, e, l)
    low_by low fits x (inr there) = let e = now_there x there in let l = fits x there in omega (arith, e, l)

    -- heights by levels that aren't above the greatest height stand between calls
    pub sound_levels : Ends old links → KeepsPoints old new → AllLow (level old) → ((x : Point) → Holds levels x → level levels x ≤ 128) → AreSoundHeights new links
    sound_levels ends kept low fits = record {
      ends = λ a b r. let e = ends a b r in (still_there old new a kept e.0, still_there old new b kept e.1);
      rises = λ a b r. rises_by a b r (there_cases levels a) (there_cases levels b);
      low = λ x. low_by low fits x (there_cases levels x);
    }

  -- over links along which heights rise already
  pub sound_again : ((x : Point) → level old x ≤ bounds x) → AreSoundHeights old links → KeepsPoints old new → AreSoundHeights new links
  sound_again over s kept = sound_levels over (level old) s.rises (λ x none. refl) s.ends kept s.low
      (λ x there. let u = under over (level old) s.rises (λ y none. refl) x there in let l = s.low x in omega (arith, u, l))

module _ {A E : Type 0} (old levels new : Rows ℕ) (links : Links) (bounds : Point → ℕ) (so : AreLevels links bounds levels) where
  -- heights that were taken over, or kept, stand between calls
  pub sound_adopted : (r : Result A E) → ((x : Point) → level old x ≤ bounds x) → OnOk r ((x : Point) → level new x ≡ levelled old levels x) → OnErr r (new ≡ old)
      → AreSoundHeights old links → KeepsPoints old new → AreSoundHeights new links
  sound_adopted (Ok u) over written err s kept = sound_again old levels new links bounds so written over s kept
  sound_adopted (Err e) over written err s kept = subst (λ m. AreSoundHeights m links) (sym err) s

  -- where all points have levels, heights that were taken over are exact
  pub exact_adopted : (r : Result A E) → OnOk r ((x : Point) → level new x ≡ levelled old levels x) → KeepsPoints old new → ((x : Point) → Holds old x → Holds levels x)
      → OnOk r (IsExact new links)
  exact_adopted (Ok u) written kept all =
      λ x there. now_longest old levels new links bounds so written x (all x (still_there new old x (λ y. sym (kept y)) there))
  exact_adopted (Err e) written kept all = tt

-- where heights rise no chain goes over more than 128 links
pub short_by_heights : (heights : Rows ℕ) (links : Links) → AreSoundHeights heights links → (p : Point) → NoneLonger (Reads links) p 128
short_by_heights heights links s p list chain starts =
    let h = none_longer_by (Reads links) (level heights) s.rises p list chain starts in let l = s.low p in omega (arith, h, l)

-- where numbers of at most 257 rise, none goes over more
pub short_by_rank : (heights : Rows ℕ) (lifts : Rows Lift) (links : Links) → IsRanked (Reads links) heights lifts → (p : Point) → NoneLonger (Reads links) p 257
short_by_rank heights lifts links s p list chain starts =
    let h = none_longer_by (Reads links) s.rank s.rises p list chain starts in let l = s.low p in omega (arith, h, l)

-- what bounds levels where heights rise, and where some points are lifted
pub bounded_by_heights : {R : Type 0} (heights : Rows ℕ) (free : Rows R) (links : Links) → AreSoundHeights heights links → AreBounds links (bound heights (Some free))
bounded_by_heights heights free links s =
    are_bounds heights free links (level heights) s.rises (λ p. let l = s.low p in omega (arith, l)) (λ p none. refl)

pub bounded_by_rank : (heights : Rows ℕ) (lifts : Rows Lift) (links : Links) → IsRanked (Reads links) heights lifts → AreBounds links (bound heights (Some lifts))
bounded_by_rank heights lifts links s = are_bounds heights lifts links s.rank s.rises s.low s.same

-- where all points are free
pub bounded_all : (heights : Rows ℕ) (links : Links) → AreSoundHeights heights links → AreBounds links (bound {R = Lift} heights None)
bounded_all heights links s p list chain starts = let h = short_by_heights heights links s p list chain starts in omega (arith, h)

-- where all points are free, what a point that has a level reads has its own
pub all_closed : (heights levels : Rows ℕ) (links : Links) → AreSoundHeights heights links → AreLevels links (bound {R = Lift} heights None) levels
    → (a b : Point) → Holds levels a → Reads links a b → Holds levels b
all_closed heights levels links s so a b there reads = let r = row_there levels a there in by r.0 r.1 (so.closed a b r.0 r.1 reads)
  where
    by : (n : ℕ) → at levels a ≡ Some n → Holds levels b ⊎ (257 < n) → Holds levels b
    by n here (inl has) = has
    by n here (inr under) =
        let l = longest_under (Reads links) a n 128 (so.longest a n here) (short_by_heights heights links s a) in
        absurd (omega (arith, under, l))

module _ {R : Type 0} (points : Rows R) (none levels : Rows ℕ) (links : Links) (empty : none.places ≡ [])
    (below : (x : Point) → Holds levels x → Holds none x ⊎ ((y : Point) × Holds points y × Leads (Reads links) y x)) where
  only_by : (x : Point) → Holds none x ⊎ ((y : Point) × Holds points y × Leads (Reads links) y x) → (y : Point) × Holds points y × Leads (Reads links) y x
  only_by x (inl there) = absurd (not_both (at none x) (none_at none x empty) there)
  only_by x (inr from) = from

  -- a point of the map leads to each that has a level
  pub below_only : (x : Point) → Holds levels x → (y : Point) × Holds points y × Leads (Reads links) y x
  below_only x there = only_by x (below x there)

  -- which is there, where they are
  pub below_there : (heights : Rows ℕ) → Ends heights links → ((y : Point) → Holds points y → Holds heights y) → (x : Point) → Holds levels x → Holds heights x
  below_there heights ends there x has = let b = below_only x has in leads_there heights links b.0 x ends (there b.0 b.1) b.2

two_cases : (n : ℕ) → (n ≤ 128) ⊎ (128 < n)
two_cases n = grind arith

-- the lifted height, and above 128 the old one behind it
abbrev rank_by : (h l : ℕ) → (l ≤ 128) ⊎ (128 < l) → ℕ
rank_by h l (inl low) = l
rank_by h l (inr high) = 129 + h

rank_low_by : (h l : ℕ) (either : (l ≤ 128) ⊎ (128 < l)) → l ≤ 128 → rank_by h l either ≡ l
rank_low_by h l (inl low) is = refl
rank_low_by h l (inr high) is = absurd (omega (arith, high, is))

rank_high_by : (h l : ℕ) (either : (l ≤ 128) ⊎ (128 < l)) → 128 < l → rank_by h l either ≡ 129 + h
rank_high_by h l (inl low) is = absurd (omega (arith, low, is))
rank_high_by h l (inr high) is = refl

module _ (heights : Rows ℕ) (links : Links) (p q : Point) (lifts : Rows Lift) (sound : AreSoundHeights heights links) (climbed : IsClimbed heights links p q lifts) where
  abbrev rank : Point → ℕ
  rank x = rank_by (level heights x) (lifted heights lifts x) (two_cases (lifted heights lifts x))

  rank_low : (x : Point) → lifted heights lifts x ≤ 128 → rank x ≡ lifted heights lifts x
  rank_low x low = rank_low_by (level heights x) (lifted heights lifts x) (two_cases (lifted heights lifts x)) low

  rank_high : (x : Point) → 128 < lifted heights lifts x → rank x ≡ 129 + level heights x
  rank_high x high = rank_high_by (level heights x) (lifted heights lifts x) (two_cases (lifted heights lifts x)) high

  both_high : (a b : Point) → ReadsWith links p q a b → 128 < lifted heights lifts b → level heights b < level heights a
  both_high a b (inl reads) high = sound.rises a b reads
  both_high a b (inr new) high =
      let e = ap (lifted heights lifts) new.1 in
      let f = lifted_none heights lifts q climbed.unmet in
      let l = sound.low q in absurd (omega (arith, e, f, l, high))

  ranks_rise : (a b : Point) → ReadsWith links p q a b → (lifted heights lifts a ≤ 128) ⊎ (128 < lifted heights lifts a)
      → (lifted heights lifts b ≤ 128) ⊎ (128 < lifted heights lifts b) → rank b < rank a
  ranks_rise a b reads (inl low) either =
      let u = climbed.rises a b reads low in
      let e = rank_low a low in
      let f = rank_low b (omega (arith, u, low)) in omega (arith, u, e, f)
  ranks_rise a b reads (inr high) (inl low) = let e = rank_high a high in let f = rank_low b low in omega (arith, e, f, low)
  ranks_rise a b reads (inr high) (inr high_b) =
      let u = both_high a b reads high_b in let e = rank_high a high in let f = rank_high b high_b in omega (arith, u, e, f)

  most_by : (x : Point) → (lifted heights lifts x ≤ 128) ⊎ (128 < lifted heights lifts x) → rank x ≤ 257
  most_by x (inl low) = let e = rank_low x low in omega (arith, e, low)
  most_by x (inr high) = let e = rank_high x high in let l = sound.low x in omega (arith, e, l)

  same : (x : Point) → at lifts x ≡ None → rank x ≡ level heights x
  same x none =
      let e = lifted_none heights lifts x none in
      let l = sound.low x in
      rank_low x (omega (arith, e, l)) ∙ e

  -- a climb gives numbers that rise along all links with the new one
  pub ranked : (more : Links) → OneLinkMore links more p q → IsRanked (Reads more) heights lifts
  ranked more one = record {
    rank = rank;
    rises = λ a b r. ranks_rise a b (reads_from links more p q one a b r) (two_cases (lifted heights lifts a)) (two_cases (lifted heights lifts b));
    low = λ x. most_by x (two_cases (lifted heights lifts x));
    same = same;
  }
