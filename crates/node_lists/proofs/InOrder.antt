-- Nodes in the order in which their ids were given: one more behind them, and those of before a count.
use Rattle.std.proofs.Common.{◌≡◌, ◌∙◌, ℕ, suc, zero, ◌<◌, ◌≤◌, ltb, Bool, true, false, cond, List, [], ◌∷◌, ◌++◌, ◌-◌, length, take, None, Some, slice_get, slice_index_or, refl, sym, ap, arith}
use Rattle.std.specs.List.{filter}
use Rattle.std.specs.List.Sorted.{IsPartitionPoint}
use Rattle.std.proofs.lemmas.List.Sorted.{IsNonDecreasingBy-push}
use Rattle.std.proofs.lemmas.Option.{slice_get-get_or, get_or_from_slice_get}
use Rattle.inc_value.specs.declared.node.NodeId.{NodeId}
use Rattle.node_lists.specs.Listed.{AreInOrder, given_before}

module _ (ns : List NodeId) (node : NodeId) (order : AreInOrder ns) where
  -- a node whose id was given no earlier than the last one's
  pub order_behind : (last : NodeId) → slice_get ns (length ns - 1) ≡ Some last → last.gen_ ≤ node.gen_ → AreInOrder (ns ++ node ∷ [])
  order_behind last is later = IsNonDecreasingBy-push (λ (n : NodeId). n.gen_) ns node order
      (λ d some. let e = ap (λ (n : NodeId). n.gen_) (get_or_from_slice_get ns (length ns - 1) last d is) in omega (arith, e, later))

  -- the first node
  pub order_first : slice_get ns (length ns - 1) ≡ None → AreInOrder (ns ++ node ∷ [])
  order_first none = IsNonDecreasingBy-push (λ (n : NodeId). n.gen_) ns node order
      (λ d some. absurd (let e = sym none ∙ slice_get-get_or ns (length ns - 1) d (omega (arith, some)) in cc))

-- where a test passes up to a place and fails from there on, what passes stands before the place
filter_cut : {A : Type 0} (p : A → Bool) (xs : List A) (k : ℕ) → ((i : ℕ) (d : A) → i < k → i < length xs → p (slice_index_or xs i d) ≡ true)
    → ((i : ℕ) (d : A) → k ≤ i → i < length xs → p (slice_index_or xs i d) ≡ false) → take k xs ≡ filter p xs
filter_cut p [] zero passes fails = refl
filter_cut p [] (suc k) passes fails = refl
filter_cut p (x ∷ xs) zero passes fails =
    let rest = filter_cut p xs zero (λ i d l w. absurd (omega (arith, l))) (λ i d l w. fails (suc i) d (omega arith) (omega (arith, w))) in
    let first = fails 0 x (omega arith) (omega arith) in
    rest ∙ sym (ap (λ b. cond b (x ∷ filter p xs) (filter p xs)) first)
filter_cut p (x ∷ xs) (suc k) passes fails =
    let rest = filter_cut p xs k (λ i d l w. passes (suc i) d (omega (arith, l)) (omega (arith, w)))
    (λ i d l w. fails (suc i) d (omega (arith, l)) (omega (arith, w))) in
    let first = passes 0 x (omega arith) (omega arith) in
    ap (λ l. x ∷ l) rest ∙ sym (ap (λ b. cond b (x ∷ filter p xs) (filter p xs)) first)

-- up to where the count begins are those of before
pub before_start : (ns : List NodeId) (count start : ℕ)
    → IsPartitionPoint (λ (n : NodeId). ltb n.gen_ count ≡ true) (λ (n : NodeId). ltb n.gen_ count ≡ false) ns start → take start ns ≡ given_before count ns
before_start ns count start point =
    filter_cut (λ (n : NodeId). ltb n.gen_ count) ns start (λ i d l w. point.0 i d (omega arith) l) (λ i d l w. point.1 i d l w)
