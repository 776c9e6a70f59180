-- Ids in the order in which they were given.
use Rattle.std.proofs.Common.{arith, ◌≡◌, Bool, true, List, [], ◌∷◌, inl, inr, ap, is_some}
use Rattle.std.specs.List.{Contains, filter}
use Rattle.std.proofs.lemmas.Bool.{cond_both}
use Rattle.std.proofs.lemmas.List.Elements.{All-filter}
use Rattle.std.proofs.lemmas.List.Kept.{IsNonDecreasingBy-filter}
use Rattle.slab.proofs.SlabLemmas.{Contains-cons, Contains-cons_cases}
use Rattle.inc_value.specs.declared.node.NodeId.{NodeId}
use Rattle.inc_terms.specs.Within.{Given}
use Rattle.node_arena.specs.Arena.{Arena, row_at}
use Rattle.node_arena.specs.Sound.{IsOrder}
use Rattle.node_arena.proofs.Once.{rises_filter}

-- what passes the test stays
pub Contains-filter : {X : Type 0} (p : X → Bool) (xs : List X) (x : X) → p x ≡ true → Contains xs x → Contains (filter p xs) x
Contains-filter p [] x t c = absurd (omega (arith, c.1))
Contains-filter {X} p (y ∷ ys) x t c =
    cond_both (p y) (y ∷ filter p ys) (filter p ys) (λ zs. Contains zs x)
    (λ passes. elim (Contains-cons_cases y x ys c) [
      | inl same ↦ (0, (omega arith), same)
      | inr rest ↦ Contains-cons y x (filter p ys) (Contains-filter p ys x t rest)
    ])
    (λ fails. elim (Contains-cons_cases y x ys c) [
      | inl same ↦ absurd (let e = ap p same in cc)
      | inr rest ↦ Contains-filter p ys x t rest
    ])

-- the ids of live nodes are in order too
pub order_filter : (a : Arena) (ids : List NodeId) → IsOrder a ids → IsOrder a (filter (λ n. is_some (row_at a n)) ids)
order_filter a ids h = record {
  once = rises_filter (λ n. is_some (row_at a n)) ids h.once;
  rising = IsNonDecreasingBy-filter (λ (n : NodeId). n.gen_) (λ n. is_some (row_at a n)) ids h.rising;
  given = All-filter (λ n. is_some (row_at a n)) (Given a.given) ids h.given;
  covers = λ n live. Contains-filter (λ n. is_some (row_at a n)) ids n live (h.covers n live);
}
