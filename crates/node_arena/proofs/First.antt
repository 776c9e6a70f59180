-- The first live node of those given since a count.
use Rattle.std.proofs.Common.{arith, Bool, true, false, ltb, ◌≡◌, ◌<◌, ◌≤◌, ℕ, List, ◌⊎◌, inl, inr, length, Option, Some, None, refl, sym, subst, ap, ◌∙◌, IsSome, IfSome, IfNone, slice_index_or}
use Rattle.std.specs.List.{AllWithin}
use Rattle.std.specs.List.Sorted.{IsPartitionPoint}
use Rattle.std.proofs.lemmas.Bool.{ltb-true, ltb-false}
use Rattle.std.proofs.lemmas.List.{get_or_default}
use Rattle.inc_value.specs.declared.node.NodeId.{NodeId}
use Rattle.node_arena.specs.Arena.{Arena, row_at, IsLive}
use Rattle.node_arena.specs.Sound.{IsOrder, IsFirstLive, IsFirstSince}

below_or_not : (k s : ℕ) → (k < s) ⊎ (s ≤ k)
below_or_not k s = go (ltb k s) refl
  where
    go : (b : Bool) → ltb k s ≡ b → (k < s) ⊎ (s ≤ k)
    go true e = inl (ltb-true k s e)
    go false e = inr (ltb-false k s e)

module _ (a : Arena) (ids : List NodeId) (order : IsOrder a ids) (count start : ℕ)
    (point : IsPartitionPoint (λ (n : NodeId). n.gen_ < count) (λ (n : NodeId). count ≤ n.gen_) ids start) where
  -- an id since the count stands from the start on
  from_start : (n : NodeId) (k : ℕ) → slice_index_or ids k n ≡ n → count ≤ n.gen_ → start ≤ k
  from_start n k is since = elim (below_or_not k start) [
    | inl before ↦ absurd (let e = point.0 k n (omega arith) before in let g = ap (λ (m : NodeId). m.gen_) is in omega (arith, e, g, since))
    | inr later ↦ later
  ]

  -- a live one stands from the first place on where one is live
  from_live : (n : NodeId) (k place : ℕ) → AllWithin (λ m. row_at a m ≡ None) ids start place → slice_index_or ids k n ≡ n → IsLive a n
      → start ≤ k → place ≤ k
  from_live n k place dead is live from = elim (below_or_not k place) [
    | inl before ↦ absurd (let e = ap (λ (m : NodeId). row_at a m) (sym is) ∙ dead k n from before in let no_row = subst IsSome e live in cc)
    | inr later ↦ later
  ]

  pub first_since : (id : NodeId) → IsFirstLive a ids start id → IsFirstSince a count id
  first_since id h = record {
    live = h.live;
    since = subst (λ (n : NodeId). count ≤ n.gen_) h.there (point.1 h.place id h.from_start h.within);
    first = λ n live since.
        let c = order.covers n live in
        let place = from_live n c.0 h.place h.dead_before c.2 live (from_start n c.0 c.2 since) in
        let rises = order.rising h.place c.0 id place c.1 in
        let e = ap (λ (m : NodeId). m.gen_) (get_or_default ids c.0 id n c.1 ∙ c.2) in
        let e' = ap (λ (m : NodeId). m.gen_) h.there in
        omega (arith, rises, e, e');
  }

  pub none_since : AllWithin (λ m. row_at a m ≡ None) ids start (length ids) → (n : NodeId) → IsLive a n → n.gen_ < count
  none_since dead n live = elim (below_or_not n.gen_ count) [
    | inl before ↦ before
    | inr since ↦ absurd (
        let c = order.covers n live in
        let end = from_live n c.0 (length ids) dead c.2 live (from_start n c.0 c.2 since) in
        let within = c.1 in
        omega (arith, end, within))
  ]

  pub some_first : (found : Option NodeId) → IfSome found (IsFirstLive a ids start) → IfSome found (IsFirstSince a count)
  some_first None h = tt
  some_first (Some id) h = first_since id h

  pub none_first : (found : Option NodeId) → IfNone found (AllWithin (λ m. row_at a m ≡ None) ids start (length ids))
      → IfNone found ((n : NodeId) → IsLive a n → n.gen_ < count)
  none_first None h = none_since h
  none_first (Some id) h = tt
