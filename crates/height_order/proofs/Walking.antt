-- Walks over the places of a map.
use Rattle.std.proofs.Common.{◌≡◌, ◌≢◌, ℕ, suc, ◌+◌, ◌<◌, ◌≤◌, List, [], ◌∷◌, ◌++◌, ap, sym, subst, inl, inr, arith, option_map}
use Rattle.std.specs.Prelude.{◌⊎◌, Option, Some, None, Contains}
use Rattle.std.proofs.lemmas.List.Elements.{Contains-push_cases}
use Rattle.inc_value.specs.declared.node.Point.{Point}
use Rattle.point_map.specs.Rows.{Rows, at, Holds, IsWalk, standing}
use Rattle.height_order.specs.Chains.{NoRepeats}
use Rattle.height_order.proofs.Points.{some_there}

less_or_last : (k i : ℕ) → k < i + 1 → (k < i) ⊎ (k ≡ i)
less_or_last k i h = grind arith

not_in_push : (xs : List Point) (x p : Point) → (Contains xs x → ⊥) → x ≢ p → Contains (xs ++ p ∷ []) x → ⊥
not_in_push xs x p absent differs has = not_in_by (Contains-push_cases xs p x has) absent differs
  where
    not_in_by : {A : Type 0} {x p : Point} → A ⊎ (p ≡ x) → (A → ⊥) → x ≢ p → ⊥
    not_in_by (inl a) absent differs = absent a
    not_in_by (inr e) absent differs = differs (sym e)

later : (x : Point) (xs : List Point) (p : Point) → Contains xs p → Contains (x ∷ xs) p
later x xs p c = (suc c.0, omega (arith, c.1), c.2)

-- a point that isn't there is pushed
pub once_push : (xs : List Point) (p : Point) → NoRepeats xs → (Contains xs p → ⊥) → NoRepeats (xs ++ p ∷ [])
once_push [] p once absent = ((λ c. let lt = c.1 in omega (arith, lt)), tt)
once_push (x ∷ xs) p once absent = (not_in_push xs x p once.0 (λ e. absent (0, omega arith, e)), once_push xs p once.1 (λ c. absent (later x xs p c)))

module _ {R : Type 0} (m : Rows R) where
  -- the point stands at the place k
  abbrev pub PointAt : ℕ → Point → Type 0
  PointAt k p = option_map (λ e. e.0) (standing m k) ≡ Some p

  row_in_pair : (o : Option (Point × R)) (p : Point) → option_map (λ e. e.0) o ≡ Some p → (row : R) × (o ≡ Some (p, row))
  row_in_pair None p h = absurd (let e = h in cc)
  row_in_pair (Some e) p h = (e.1, (let f : e.0 ≡ p = cc in ap (λ x. Some (x, e.1)) f))

  -- what stands at a place is there
  pub stands_there : (n k : ℕ) (p : Point) → IsWalk m n → PointAt k p → Holds m p
  stands_there n k p walk here =
      let r = row_in_pair (standing m k) p here in some_there (at m p) r.0 (walk.there k p r.0 r.1)

  -- a point that is there stands somewhere
  pub stands_below : (n : ℕ) (p : Point) → IsWalk m n → Holds m p → (k : ℕ) × (k < n) × PointAt k p
  stands_below n p walk there = let s = walk.every p there in (s.place, s.below, ap (option_map (λ e. e.0)) s.there)

  -- one point stands at a place
  pub same_place : (i : ℕ) (p q : Point) → PointAt i p → PointAt i q → p ≡ q
  same_place i p q a b = let f : ◌≡◌ {A = Option Point} (Some p) (Some q) = cc in let e : p ≡ q = cc in e

  -- this is so of the points at the places below i
  abbrev pub EachBelow : (Point → Type 0) → ℕ → Type 0
  EachBelow P i = (k : ℕ) (p : Point) → k < i → PointAt k p → P p

  pub each_whole : (P : Point → Type 0) (n i : ℕ) → IsWalk m n → n ≤ i → EachBelow P i → (p : Point) → Holds m p → P p
  each_whole P n i walk end each p there =
      let s = stands_below n p walk there in let lt = s.1 in each s.0 p (omega (arith, lt, end)) s.2

  each_more_by : (P : Point → Type 0) (i k : ℕ) (p : Point) → EachBelow P i → ((q : Point) → PointAt i q → P q) → (k < i) ⊎ (k ≡ i) → PointAt k p → P p
  each_more_by P i k p each here (inl less) at_k = each k p less at_k
  each_more_by P i k p each here (inr e) at_k = here p (subst (λ x. PointAt x p) e at_k)

  pub each_more : (P : Point → Type 0) (i : ℕ) → EachBelow P i → ((q : Point) → PointAt i q → P q) → EachBelow P (i + 1)
  each_more P i each here k p less at_k = each_more_by P i k p each here (less_or_last k i less) at_k

  pub each_point : (P : Point → Type 0) (i : ℕ) (p : Point) → EachBelow P i → PointAt i p → P p → EachBelow P (i + 1)
  each_point P i p each here so = each_more P i each (λ q at_q. subst P (same_place i p q here at_q) so)

  pub each_vacant : (P : Point → Type 0) (i : ℕ) → EachBelow P i → option_map (λ e. e.0) (standing m i) ≡ None → EachBelow P (i + 1)
  each_vacant P i each vacant = each_more P i each (λ q at_q. absurd (cc))
