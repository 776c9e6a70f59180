-- What a run of moves builds, adds and lets die.
use Rattle.std.specs.Prelude.{◌≡◌, ◌⊎◌, ◌≤◌, ◌+◌, ℕ, List, [], ◌∷◌, ◌++◌, length, Option, None, Some, IsSome}
use Rattle.inc_value.specs.declared.function.FnRef.{FnRef}
use Rattle.inc_value.specs.declared.node.NodeId.{NodeId}
use Rattle.inc_value.specs.declared.outcome.Outcome.{Outcome}
use Rattle.inc_value.specs.Choice.{Among, NoRepeats, Reaches, here, step}
use Rattle.inc_terms.specs.Term.{Functions}
use Rattle.inc_terms.specs.Graph.{Graph, Row, Built, Bind}
use Rattle.inc_terms.specs.Within.{Given}
use Rattle.inc_terms.specs.Evaluate.{NodeGives}
use Rattle.inc_terms.specs.Depend.{change, died_in}
use Rattle.inc_terms.specs.Rebuilding.{Dies}
use Rattle.stabilize_round.specs.Counts.{RoseBy, RoseAtMost}
use Rattle.stabilize_round.specs.State.{State, Start}
use Rattle.stabilize_round.specs.Invariant.{Invariant, MetNow}
use Rattle.stabilize_round.specs.Machine.{Entry, Move, rebuild, Moves, called_more, Stops}

-- ---- what is built

-- the binds that a move builds anew: one or none
abbrev pub built_by : {F : Functions} {z : Start} {s t : State} → Move F z s t → List NodeId
built_by (rebuild {b} r made count e) = b ∷ []
built_by m = []

-- the binds that a run builds anew
abbrev pub built_in : {F : Functions} {z : Start} {s t : State} → Reaches (Move F z) s t → List NodeId
built_in here = []
built_in (step m rest) = built_by m ++ built_in rest

-- a live bind whose left gives another outcome than it is built for
pub record LeftDiffers (F : Functions) (G : Graph) (b : NodeId) : Type 0 where
  pub row : Row
  pub left : NodeId
  pub function : FnRef
  pub captures : List NodeId
  pub is_row : G.row b ≡ Some row
  pub is_bind : row.def ≡ Bind left function captures
  pub outcome : Outcome
  pub gives : NodeGives F G left outcome
  pub changed : (w : Built) → G.built b ≡ Some w → w.outcome ≡ outcome → ⊥

-- no bind is built twice; one that was given before is one whose left differed; what others are built for stays; and the count of builds rose by at
-- most one for each
pub record BuildsAre (F : Functions) (s t : State) (binds : List NodeId) : Type 0 where
  pub once : NoRepeats binds
  pub due : (b : NodeId) → Among b binds → Given s.given b → LeftDiffers F s.graph b
  pub others : (b : NodeId) (r : Row) → Given s.given b → t.graph.row b ≡ Some r → (Among b binds → ⊥) → t.graph.built b ≡ s.graph.built b
  pub number : ℕ
  pub few : number ≤ length binds
  pub count : RoseBy s.builds number t.builds

-- a run builds each bind at most once, and of those given before just ones whose left gave another outcome than they were built for
abbrev pub RunBuilds : Type 0
RunBuilds = (F : Functions) (z : Start) (s t : State) (run : Moves F z s t) → BuildsAre F s t (built_in run)

-- a live bind that is built for what its left gives
pub record IsBuiltRight (F : Functions) (G : Graph) (b : NodeId) : Type 0 where
  pub row : Row
  pub left : NodeId
  pub function : FnRef
  pub captures : List NodeId
  pub built : Built
  pub is_row : G.row b ≡ Some row
  pub is_bind : row.def ≡ Bind left function captures
  pub is_built : G.built b ≡ Some built
  pub gives : NodeGives F G left built.outcome

-- a bind was built: it lives, with a root for what its left gives, or it is the one that couldn't be built, which is built for nothing though its left
-- gives an outcome. One that was given before had a left that gave another outcome than it was built for
pub record WasBuilt (F : Functions) (given : ℕ) (before after : Graph) (unbuilt : Option NodeId) (b : NodeId) : Type 0 where
  pub due : Given given b → LeftDiffers F before b
  pub now : ((right : IsBuiltRight F after b) × IsSome right.built.root)
      ⊎ ((unbuilt ≡ Some b) × (after.built b ≡ None) × LeftDiffers F after b)

-- a count rose by at most one for each of some binds, none twice, that were built
pub record BuildsFew (F : Functions) (given : ℕ) (before after : Graph) (unbuilt : Option NodeId) (builds builds' : ℕ) : Type 0 where
  pub binds : List NodeId
  pub once : NoRepeats binds
  pub built : (b : NodeId) → Among b binds → WasBuilt F given before after unbuilt b
  pub count : RoseAtMost builds (length binds) builds'

-- so does the count of builds in a run, and each of them could be built
abbrev pub RunBuildsFew : Type 0
RunBuildsFew =
    (F : Functions) (z : Start) (s t : State) → Moves F z s t → BuildsFew F s.given s.graph t.graph None s.builds t.builds

-- what a bind is built for that was given before and lives is as it was, or what its left gives; then its change is met
abbrev pub BuiltStays : Type 0
BuiltStays =
    (F : Functions) (z : Start) (s t : State) → Entry F z s → Moves F z s t → (b : NodeId) (r : Row) → Given s.given b → t.graph.row b ≡ Some r
    → (t.graph.built b ≡ s.graph.built b) ⊎ (IsBuiltRight F t.graph b × MetNow F z t.graph t.died t.root (change b))

-- ---- what is added, and what dies

-- as many nodes are added as ids are given
abbrev pub RunAdds : Type 0
RunAdds = (F : Functions) (z : Start) (s t : State) → Moves F z s t → (number : ℕ) × (t.given ≡ s.given + number) × RoseBy s.adds number t.adds

-- where all live nodes were given, nodes that weren't stand in scopes, and were given since
abbrev pub NewNodesStand : Type 0
NewNodesStand =
    (F : Functions) (z : Start) (s t : State) → Moves F z s t → ((n : NodeId) (r : Row) → s.graph.row n ≡ Some r → Given s.given n)
    → (n : NodeId) (r : Row) → t.graph.row n ≡ Some r → s.given ≤ n.gen_ → ((b : NodeId) × (r.scope ≡ Some b)) × Given t.given n

-- of the nodes that lived before just those die that stand in scopes of binds whose built outcome differs at the end, or in scopes within these
abbrev pub RunKills : Type 0
RunKills =
    (F : Functions) (z : Start) (s t : State) → Moves F z s t → (n : NodeId) (r : Row) → Given s.given n → s.graph.row n ≡ Some r
    → (t.graph.row n ≡ None → Dies s.graph t.graph n) × (Dies s.graph t.graph n → t.graph.row n ≡ None)

-- they are known with the scopes in which they stood
abbrev pub DeathsAreKnown : Type 0
DeathsAreKnown =
    (F : Functions) (z : Start) (s t : State) → Entry F z s → Moves F z s t → (n : NodeId) → Given s.given n → t.graph.row n ≡ None
    → t.died n ≡ died_in s.graph t.graph n

-- ---- a round that is refused

-- the invariant holds where a refused round stops, the count of calls apart
abbrev pub RefusedKeeps : Type 0
RefusedKeeps =
    (F : Functions) (z : Start) (s t u : State) → Entry F z s → Moves F z s t → Stops F z t u → (v : State) × Invariant F z v
    × (u ≡ called_more v u.calls)
