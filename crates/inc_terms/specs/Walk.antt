-- Laws of walks, of points with links of any kind.
use Rattle.std.specs.Prelude.{◌≤◌, ◌<◌, ℕ, List, ◌∷◌, length}
use Rattle.inc_value.specs.declared.node.Point.{Point}
use Rattle.inc_value.specs.Choice.{Among, NoRepeats, Reaches}
use Rattle.inc_value.specs.Walk.{IsWalk, IsDeep, Rises}

-- how often a point is linked to another
abbrev pub Links : Type 0
Links = Point → Point → ℕ

-- a point is linked to another
abbrev pub Leads : Links → Point → Point → Type 0
Leads links p q = 0 < links p q

-- what stands on a walk is reached from its first point
abbrev pub WalksReach : Type 0
WalksReach = (links : Links) (p q : Point) (rest : List Point) → IsWalk (Leads links) (p ∷ rest) → Among q (p ∷ rest) → Reaches (Leads links) p q

-- where heights rise along links a walk is no longer than its first point is high, and has no point twice
abbrev pub RisingWalksEnd : Type 0
RisingWalksEnd =
    (links : Links) (height : Point → ℕ) (p : Point) (rest : List Point) → Rises (Leads links) height → IsWalk (Leads links) (p ∷ rest)
    → (length rest ≤ height p) × NoRepeats (p ∷ rest)

-- so where heights are at most 128 no walk of 130 begins anywhere
abbrev pub LowIsNotDeep : Type 0
LowIsNotDeep =
    (links : Links) (height : Point → ℕ) → Rises (Leads links) height → ((p : Point) → height p ≤ 128) → (p : Point) → IsDeep (Leads links) p → ⊥
