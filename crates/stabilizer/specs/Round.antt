-- What stands between rounds, and what a round leaves.
use Rattle.std.specs.Prelude.{◌≡◌, ◌⊎◌, ◌+◌, ◌++◌, ◌<◌, ◌≤◌, ℕ, true, List, [], map, Option, None, Some}
use Rattle.inc_value.specs.declared.node.NodeId.{NodeId}
use Rattle.inc_value.specs.declared.node.Point.{Point}
use Rattle.inc_value.specs.Choice.{Among}
use Rattle.inc_terms.specs.Depend.{main, died_in}
use Rattle.inc_terms.specs.Graph.{Graph}
use Rattle.inc_terms.specs.Need.{left_by_call}
use Rattle.inc_terms.specs.Term.{Functions}
use Rattle.inc_terms.specs.Within.{FunctionLaws}
use Rattle.necessary_graph.specs.Part.{Needed}
use Rattle.necessity.specs.Need.{Roots, root_times}
use Rattle.node_arena.specs.Arena.{Arena}
use Rattle.node_arena.specs.Graph.{AllCallFit}
use Rattle.point_map.specs.Rows.{Holds}
use Rattle.stabilize_round.specs.Laws.{GraphStays}
use Rattle.stabilize_round.specs.Invariant.{Rooted, ScopesRooted}
use Rattle.stabilize_round.specs.Runs.{BuildsFew}
use Rattle.stabilize_round.specs.Machine.{Entry, Moves, Stops, called_more}
use Rattle.stabilize_round.specs.State.{State, Start, count}
use Rattle.stabilizer.specs.Building.{LeavesNoRoom, StopsBuilding}
use Rattle.stabilizer.specs.Kept.{graph_in, PartsKept}
use Rattle.stabilizer.specs.Left.{IsUpToDateIn, IsLawfulIn, HasCalledMetIn, ShowsStillIn, BuildsRightIn, RefusesBuild, LeavesNodes}
use Rattle.stabilizer.specs.Look.{freeze_roots, look_between, look_refused}
use Rattle.stabilizer.specs.declared.parts.Parts.{Parts}
use Rattle.wiring.specs.declared.refused.Refused.{Refused}
use Rattle.wiring.specs.declared.refused.Refused.TheVariants.{Full}
use Rattle.node_outcomes.specs.Meaning.{Meaning}
use Rattle.wiring.specs.Began.{IsRoundOf}
use Rattle.wiring.specs.Graph.{graph_at}
use Rattle.wiring.specs.Refusing.{TellsWhy}
use Rattle.wiring.specs.Stands.{MatchesState, Counts, counts_of, PointInHand, owes}
use Rattle.wiring.specs.declared.work.Work.{Work}

-- a round of these functions may begin: they promise what the laws of graphs ask, and those of nodes are known and list given nodes; the parts
-- stand for a state in which rounds begin; a needed expert that is owed links is in the heap; each scope is that of a bind with a root; and its number isn't
-- that of what was never settled
pub record IsReady (M : Meaning) (parts : Parts) : Type 0 where
  pub kept : PartsKept parts
  pub laws : FunctionLaws M.functions M.known M.ids
  pub fit : AllCallFit M.known M.ids parts.arena
  pub start : Start
  pub state : State
  pub stands : MatchesState parts.arena parts.work (counts_of state) None state
  pub entry : Entry M.functions start state
  pub linked : (p : Point) → Needed parts.work.graph p → Holds parts.work.graph.heap p ⊎ (owes parts.work true p ≡ [])
  pub inside : ScopesRooted (graph_in parts)
  pub numbered : 0 < parts.work.round
  pub ran : parts.work.ran.items ≡ []

-- the roots are the mains of these nodes, each as often as it is listed, and those of freezes that were given before the count and keep no value
abbrev pub AreRooted : Arena → Work → ℕ → List NodeId → Type 0
AreRooted arena work since nodes = (p : Point) → root_times work.graph.roots p ≡ count p (map main nodes) + freeze_roots (graph_at arena work) since p

-- these are the freezes that keep no value and were given since the count, each once
abbrev pub AreNewFreezes : Arena → Work → ℕ → List NodeId → Type 0
AreNewFreezes arena work since freezes =
    (p : Point) → count p (map main freezes) + freeze_roots (graph_at arena work) since p ≡ freeze_roots (graph_at arena work) arena.given p

-- the roots that a round puts on are mains of these nodes, and of the freezes that were given since the count; those that stood before it are mains of the
-- observed ones, and of earlier freezes
pub record BeginsAt (old : Parts) (since : ℕ) (roots nodes freezes observed : List NodeId) : Type 0 where
  pub all : roots ≡ nodes ++ freezes
  pub fresh : AreNewFreezes old.arena old.work since freezes
  pub rooted : AreRooted old.arena old.work since observed

-- so it is for some nodes, freezes and observers
abbrev pub MayBegin : Parts → List NodeId → Type 0
MayBegin old roots =
    (since : ℕ) × (nodes : List NodeId) × (freezes : List NodeId) × (observed : List NodeId) × BeginsAt old since roots nodes freezes observed

-- ---- what a round did to the parts, over the graph that it left and those who died in it

-- the graph that a call leaves, as its round read it: a freeze that got its value still follows its child
abbrev pub left_by : Parts → Parts → Graph
left_by old new = left_by_call (graph_in old) (graph_in new)

-- the scope in which a node stood that died in a call
abbrev pub died_by : Parts → Parts → NodeId → Option NodeId
died_by old new = died_in (graph_in old) (graph_in new)

-- a round stops as full only where a build in it found no room for a further node
abbrev pub IsFullBy : Arena → Arena → Refused → Type 0
IsFullBy old new Full = (count : ℕ) × (old.given ≤ count) × LeavesNoRoom count new
IsFullBy old new e = Unit {0}

module _ (F : Functions) (old new : Parts) where
  -- it was accepted, with these nodes observed
  abbrev pub IsUpToDate : List NodeId → Type 0
  IsUpToDate observed = IsUpToDateIn F (left_by old new) (died_by old new) (graph_in new) (look_between old) (look_between new) observed new.ran.items

  -- it was refused, and what it says is so
  abbrev pub IsLawful : List NodeId → Refused → Type 0
  IsLawful observed e = IsLawfulIn F (left_by old new) (died_by old new) (look_between old) observed e × IsFullBy old.arena new.arena e

  abbrev pub HasCalledMet : List NodeId → ℕ → ℕ → Type 0
  HasCalledMet observed before after =
      HasCalledMetIn F (left_by old new) (died_by old new) (look_between old) (look_refused new) observed before after

  abbrev pub ShowsStill : NodeId → Type 0
  ShowsStill n = ShowsStillIn F (left_by old new) (died_by old new) (look_between old) (look_refused new) n

  abbrev pub BuildsRight : List NodeId → Option NodeId → Type 0
  BuildsRight observed unbuilt = BuildsRightIn F (left_by old new) (died_by old new) (look_between old) observed unbuilt

  -- each bind could be built
  abbrev pub BuildsAll : List NodeId → Type 0
  BuildsAll observed = BuildsRight observed None

  -- all but one could be built, or all
  abbrev pub BuildsAllBut : List NodeId → Refused → Type 0
  BuildsAllBut observed e = (unbuilt : Option NodeId) × BuildsRight observed unbuilt × ((b : NodeId) → unbuilt ≡ Some b → RefusesBuild e)

  -- the count of builds rose by at most one for each of some binds that were built, of which this one couldn't be, or none
  abbrev pub BuiltFew : Option NodeId → Counts → Counts → Type 0
  BuiltFew unbuilt before after = BuildsFew F old.arena.given (graph_in old) (left_by old new) unbuilt before.builds after.builds

-- what a round leaves wherever it stops: of what was given all stays, but for what died, and of nodes what it may. Each live bind that is built has a
-- root that reads back as its function's term at that, or none for Invalid; and where each scope was that of a bind with a root, each is
pub record IsLeftBy (F : Functions) (old new : Parts) (before after : Counts) : Type 0 where
  pub rest : GraphStays old.arena.given new.arena.given (graph_in old) (left_by old new)
  pub nodes : LeavesNodes F old.arena.given new.arena.given (graph_in old) (left_by old new) before after
  pub rooted : Rooted F (graph_in new)
  pub inside : ScopesRooted (graph_in old) → ScopesRooted (graph_in new)

-- ---- the parts of a round

-- these points are roots, each as often more as it is listed
abbrev pub RootsMore : Roots → Roots → List Point → Type 0
RootsMore old new points = (p : Point) → root_times new p ≡ root_times old p + count p points

-- what is a root was one, or is one of these points
abbrev pub OnlyRoots : Roots → Roots → List Point → Type 0
OnlyRoots old new points = (p : Point) → 0 < root_times new p → (0 < root_times old p) ⊎ Among p points

-- the parts stand for a state of a round of these functions, with the count of calls
pub record IsInRound (M : Meaning) (parts : Parts) (counts : Counts) : Type 0 where
  pub start : Start
  pub state : State
  pub round : IsRoundOf M start state
  pub stands : MatchesState parts.arena parts.work counts None state

-- from each state that the parts stand for, with the count of calls, moves lead to one that they stand for then
abbrev pub Settles : Meaning → Parts → Parts → Counts → Counts → Type 0
Settles M old new before after =
    (z : Start) (s : State) → IsRoundOf M z s → MatchesState old.arena old.work before None s
    → (t : State) × Moves M.functions z s t × MatchesState new.arena new.work after None t

-- where a round stops, as the machine says: it is told why, or a build found no room for a further node
pub record Pauses (F : Functions) (z : Start) (s : State) (new : Parts) (after : Counts) (e : Refused) : Type 0 where
  pub before : State
  pub state : State
  pub left : Option PointInHand
  pub moves : Moves F z s before
  pub stops : Stops F z before state
  pub stands : MatchesState new.arena new.work after left state
  pub told : ((state ≡ called_more before after.calls) × TellsWhy F state new.work left e)
      ⊎ ((count : ℕ) × (s.given ≤ count) × StopsBuilding count new.arena e)

-- from each state that the parts stood for, with the count of calls, steps stop so
abbrev pub SettleRefused : Meaning → Parts → Parts → Counts → Counts → Refused → Type 0
SettleRefused M old new before after e =
    (z : Start) (s : State) → IsRoundOf M z s → MatchesState old.arena old.work before None s → Pauses M.functions z s new after e
