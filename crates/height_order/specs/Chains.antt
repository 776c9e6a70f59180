-- Chains of points, each of which reads the next.
use Rattle.std.specs.Prelude.{◌≡◌, ◌⊎◌, ℕ, ◌+◌, ◌≤◌, List, [], ◌∷◌, length, Contains}
use Rattle.inc_value.specs.declared.node.Point.{Point}
use Rattle.link_table.specs.Links.{Links, Reads}

-- which points read which
abbrev pub Reading : Type 1
Reading = Point → Point → Type 0

-- the links, and one more by which p reads q
abbrev pub ReadsWith : Links → Point → Point → Reading
ReadsWith links p q a b = Reads links a b ⊎ ((a ≡ p) × (b ≡ q))

-- p reads the first of these points, if there is one
abbrev pub ReadsFirst : Reading → Point → List Point → Type 0
ReadsFirst R p [] = Unit {0}
ReadsFirst R p (q ∷ rest) = R p q

-- each point reads the next
abbrev pub IsChain : Reading → List Point → Type 0
IsChain R [] = Unit {0}
IsChain R (p ∷ rest) = ReadsFirst R p rest × IsChain R rest

-- the first of these points is p
abbrev pub StartsAt : List Point → Point → Type 0
StartsAt [] p = ⊥
StartsAt (q ∷ rest) p = q ≡ p

-- the last of these points is p
abbrev pub EndsAt : List Point → Point → Type 0
EndsAt [] p = ⊥
EndsAt (q ∷ []) p = q ≡ p
EndsAt (q ∷ r ∷ rest) p = EndsAt (r ∷ rest) p

-- a chain from p to q
pub record IsPath (R : Reading) (list : List Point) (p q : Point) : Type 0 where
  pub chain : IsChain R list
  pub starts : StartsAt list p
  pub ends : EndsAt list q

-- some chain goes from p to q
abbrev pub Leads : Reading → Point → Point → Type 0
Leads R p q = (list : List Point) × IsPath R list p q

-- some chain has n points
abbrev pub HasChain : Reading → ℕ → Type 0
HasChain R n = (list : List Point) × IsChain R list × (length list ≡ n)

-- no point stands twice in the list
abbrev pub NoRepeats : List Point → Type 0
NoRepeats [] = Unit {0}
NoRepeats (p ∷ rest) = (Contains rest p → ⊥) × NoRepeats rest

-- no chain from p goes over more than n links
abbrev pub NoneLonger : Reading → Point → ℕ → Type 0
NoneLonger R p n = (list : List Point) → IsChain R list → StartsAt list p → length list ≤ n + 1

-- the longest chain from p goes over n links
pub record IsLongest (R : Reading) (p : Point) (n : ℕ) : Type 0 where
  pub list : List Point
  pub chain : IsChain R list
  pub starts : StartsAt list p
  pub long : length list ≡ n + 1
  pub none_longer : NoneLonger R p n
