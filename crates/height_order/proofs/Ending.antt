-- The end of a climb.
use Rattle.std.proofs.Common.{◌≡◌, ℕ, ◌<◌, ◌≤◌, List, [], ◌∷◌, ap, inl, inr, arith}
use Rattle.std.specs.Prelude.{◌⊎◌, None}
use Rattle.inc_value.specs.declared.node.Point.{Point}
use Rattle.point_map.specs.Rows.{Rows, at, Holds}
use Rattle.recompute_heap.specs.Agree.{IsEmpty}
use Rattle.link_table.specs.Links.{Links, Reads}
use Rattle.height_order.specs.declared.lifts.Lift.{Lift}
use Rattle.height_order.specs.Chains.{ReadsWith, IsChain, EndsAt, IsPath}
use Rattle.height_order.specs.Levels.{level, AreSoundHeights}
use Rattle.height_order.specs.Climbs.{lifted, IsClimbed, IsAboveSoon, IsClimbing}
use Rattle.height_order.proofs.Points.{there_cases}
use Rattle.height_order.proofs.Covering.{occurs_none}
use Rattle.height_order.proofs.Lifting.{lifted_none, not_under}

two_cases : (n : ℕ) → (n ≤ 128) ⊎ (128 < n)
two_cases n = grind arith

module _ (heights : Rows ℕ) (links : Links) (p q : Point) (sound : AreSoundHeights heights links) where
  -- the queue is empty
  module _ (lifts : Rows Lift) (queue : Rows ℕ) (b : ℕ) (x : Point) (so : IsClimbing heights links p q lifts queue b x []) (empty : IsEmpty queue) where
    above_by : (y r : Point) → IsAboveSoon heights lifts x [] r y → lifted heights lifts r ≤ 128 → lifted heights lifts y < lifted heights lifts r
    above_by y r (inl left) = absurd (occurs_none r left.1)
    above_by y r (inr f) = f

    above : (y r : Point) → Holds lifts y → Reads links r y → lifted heights lifts r ≤ 128 → lifted heights lifts y < lifted heights lifts r
    above y r there reads = above_by y r (so.above y r (record { lifted = there; out = empty y }) reads)

    no_lower : (y : Point) → level heights y ≤ lifted heights lifts y
    no_lower y = not_under heights lifts y (λ z l h. (so.raised z l h).more)

    rises_old : (a c : Point) → Reads links a c → (at lifts c ≡ None) ⊎ Holds lifts c → lifted heights lifts a ≤ 128 → lifted heights lifts c < lifted heights lifts a
    rises_old a c reads (inr there) low = above c a there reads low
    rises_old a c reads (inl none) low =
        let e = lifted_none heights lifts c none in
        let u = sound.rises a c reads in
        let n = no_lower a in omega (arith, e, u, n)

    rises_by : (a c : Point) → ReadsWith links p q a c → lifted heights lifts a ≤ 128 → lifted heights lifts c < lifted heights lifts a
    rises_by a c (inl reads) low = rises_old a c reads (there_cases lifts c) low
    rises_by a c (inr new) low =
        let e = lifted_none heights lifts q so.unmet in
        let f = ap (lifted heights lifts) new.0 in
        let g = ap (lifted heights lifts) new.1 in
        let s = so.start in omega (arith, e, f, g, s)

    step_by : (a c : Point) → Reads links a c → level heights a ≤ level heights q → level heights q < lifted heights lifts c → (at lifts c ≡ None) ⊎ Holds lifts c
        → (lifted heights lifts a ≤ 128) ⊎ (128 < lifted heights lifts a) → level heights q < lifted heights lifts a
    step_by a c reads low high (inl none) either =
        let e = lifted_none heights lifts c none in let u = sound.rises a c reads in absurd (omega (arith, e, u, low, high))
    step_by a c reads low high (inr there) (inl h) = let f = above c a there reads h in omega (arith, f, high)
    step_by a c reads low high (inr there) (inr h) = let s = sound.low q in omega (arith, h, s)

    -- the points of a path from q to p would all be lifted
    lifted_along : (a : Point) (rest : List Point) → IsChain (Reads links) (a ∷ rest) → EndsAt (a ∷ rest) p → level heights a ≤ level heights q
        → level heights q < lifted heights lifts a
    lifted_along a [] chain ends low = let e = ap (lifted heights lifts) ends in let s = so.start in omega (arith, e, s)
    lifted_along a (c ∷ rest) chain ends low =
        let u = sound.rises a c chain.0 in
        let h = lifted_along c rest chain.1 ends (omega (arith, u, low)) in
        step_by a c chain.0 low h (there_cases lifts c) (two_cases (lifted heights lifts a))

    no_path_by : (list : List Point) → IsPath (Reads links) list q p → ⊥
    no_path_by [] path = path.starts
    no_path_by (a ∷ rest) path =
        let e = ap (level heights) path.starts in
        let h = lifted_along a rest path.chain path.ends (omega (arith, e)) in
        let f = ap (lifted heights lifts) path.starts in
        let n = lifted_none heights lifts q so.unmet in omega (arith, h, f, n)

    pub climbing_ends : IsClimbed heights links p q lifts
    climbing_ends = record {
      there = so.there;
      raised = so.raised;
      asked = so.asked;
      unmet = so.unmet;
      rises = rises_by;
      no_path = λ leads. no_path_by leads.0 leads.1;
    }
