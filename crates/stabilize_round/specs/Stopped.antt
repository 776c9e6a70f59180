-- What a round leaves of the graph, wherever it stops.
use Rattle.std.specs.Prelude.{◌≡◌, ◌⊎◌, ◌≤◌, ◌+◌, ℕ, Bool, List, Option, None, Some}
use Rattle.inc_value.specs.declared.function.FnRef.{FnRef}
use Rattle.inc_value.specs.declared.node.NodeId.{NodeId}
use Rattle.inc_value.specs.declared.node.Point.{Point}
use Rattle.inc_terms.specs.Term.{Functions}
use Rattle.inc_terms.specs.Graph.{Row}
use Rattle.inc_terms.specs.Within.{Given}
use Rattle.inc_terms.specs.Rebuild.{Inside}
use Rattle.inc_terms.specs.Rebuilding.{outcome_of}
use Rattle.inc_terms.specs.Depend.{change, died_in}
use Rattle.stabilize_round.specs.Counts.{RoseBy}
use Rattle.stabilize_round.specs.State.{State, Start}
use Rattle.stabilize_round.specs.Ids.{IsStartOf, AllGiven}
use Rattle.stabilize_round.specs.Invariant.{MetNow, ScopesRooted}
use Rattle.stabilize_round.specs.Machine.{Entry, Moves, Stops}
use Rattle.stabilize_round.specs.Closing.{closed, Close, next_start}
use Rattle.stabilize_round.specs.Ended.{Ended}
use Rattle.stabilize_round.specs.Laws.{GraphStays}
use Rattle.stabilize_round.specs.Runs.{LeftDiffers, IsBuiltRight, BuildsFew}

-- all stays given that a round speaks of, and so it does where the round stops
abbrev pub GivenStays : Type 0
GivenStays = (F : Functions) (z : Start) (s t : State) → AllGiven F z s
    → (Moves F z s t → AllGiven F z t) × (Stops F z s t → AllGiven F z t)

-- and after a round that ended, for the next one
abbrev pub GivenAgain : Type 0
GivenAgain =
    (F : Functions) (z : Start) (t : State) (observed : List NodeId) (root' : Point → ℕ) (links' : Point → Point → ℕ) (needed' : Point → Bool)
    → Ended F z t observed → AllGiven F z t → Close t observed root' links' needed' → AllGiven F (next_start z t needed') (closed t root' links' needed')

-- what it began with stays of these functions, and says nothing of ids that are given later
abbrev pub StartStays : Type 0
StartStays =
    (F : Functions) (z : Start) (s t : State) (known : FnRef → Bool) (ids : FnRef → List NodeId) → IsStartOf known ids s.given z
    → (Moves F z s t → IsStartOf known ids t.given z) × (Stops F z s t → IsStartOf known ids t.given z)

-- a bind that was made in the round is built for nothing, or for what its left gives; then its change is met
abbrev pub NewBindsBuilt : Type 0
NewBindsBuilt =
    (F : Functions) (z : Start) (s t : State) → Entry F z s → AllGiven F z s → Moves F z s t → (b : NodeId) (r : Row) → s.given ≤ b.gen_
    → t.graph.row b ≡ Some r
    → (t.graph.built b ≡ None) ⊎ (IsBuiltRight F t.graph b × MetNow F z t.graph t.died t.root (change b))

-- a live node that is new stands in the scope, or in one within it, of a bind that was given before, and lives
pub record StandsAnew (s u : State) (n : NodeId) : Type 0 where
  pub bind : NodeId
  pub row : Row
  pub given : Given s.given bind
  pub is_row : u.graph.row bind ≡ Some row
  pub inside : Inside u.graph bind n
  pub new : Given u.given n

-- what it is built for is another outcome than before
abbrev pub IsBuiltOther : State → State → NodeId → Type 0
IsBuiltOther s u b = outcome_of (u.graph.built b) ≡ outcome_of (s.graph.built b) → ⊥

-- a new node stands where a bind is built for another outcome than before
abbrev pub NewNodesInside : Type 0
NewNodesInside =
    (F : Functions) (z : Start) (s t : State) → Entry F z s → AllGiven F z s → Moves F z s t → (n : NodeId) (r : Row) → s.given ≤ n.gen_
    → t.graph.row n ≡ Some r
    → (a : StandsAnew s t n) × IsBuiltOther s t a.bind

-- what a round leaves that stops: what is given stays, but for what dies; a node died since, by the graph before, a bind round it was built for another
-- outcome than its left gives; its scope is known; a bind that is built for the same outcome has the same root; and a new node stands where a bind is
-- built for another outcome than before, or for nothing. The count of builds rose by at most one for each of some binds that were built, but for one at
-- most that couldn't be; and as many nodes were added as ids were given. Where each scope was that of a bind with a root, each is
pub record IsLeft (F : Functions) (s u : State) : Type 0 where
  pub rest : GraphStays s.given u.given s.graph u.graph
  pub dead : (n : NodeId) (r : Row) → Given s.given n → s.graph.row n ≡ Some r → u.graph.row n ≡ None
      → (b : NodeId) × Inside s.graph b n × LeftDiffers F s.graph b
  pub scopes : (n : NodeId) → Given s.given n → u.graph.row n ≡ None → u.died n ≡ died_in s.graph u.graph n
  pub roots : (b : NodeId) (r : Row) → Given s.given b → u.graph.row b ≡ Some r → outcome_of (u.graph.built b) ≡ outcome_of (s.graph.built b)
      → u.graph.built b ≡ s.graph.built b
  pub new : (n : NodeId) (r : Row) → s.given ≤ n.gen_ → u.graph.row n ≡ Some r
      → (a : StandsAnew s u n) × ((u.graph.built a.bind ≡ None) ⊎ IsBuiltOther s u a.bind)
  pub builds : (unbuilt : Option NodeId) × BuildsFew F s.given s.graph u.graph unbuilt s.builds u.builds
  pub adds : (number : ℕ) × (u.given ≡ s.given + number) × RoseBy s.adds number u.adds
  pub inside : ScopesRooted s.graph → ScopesRooted u.graph

-- wherever a round stops
abbrev pub StopsLeave : Type 0
StopsLeave = (F : Functions) (z : Start) (s t u : State) → Entry F z s → AllGiven F z s → Moves F z s t → Stops F z t u → IsLeft F s u
