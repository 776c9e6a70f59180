-- Binds built anew, one after the other, and what dies.
use Rattle.std.specs.Prelude.{◌≡◌, ◌≤◌, ℕ, List, Bool, Option, None, Some}
use Rattle.inc_value.specs.declared.function.FnRef.{FnRef}
use Rattle.inc_value.specs.declared.node.NodeId.{NodeId}
use Rattle.inc_value.specs.declared.outcome.Outcome.{Outcome}
use Rattle.inc_value.specs.Choice.{Reaches}
use Rattle.inc_terms.specs.Term.{Functions}
use Rattle.inc_terms.specs.Graph.{Graph, Row, Built}
use Rattle.inc_terms.specs.Within.{Given}
use Rattle.inc_terms.specs.Rebuild.{Inside, Rebuilds}
use Rattle.inc_terms.specs.Local.{IsRooted}
use Rattle.inc_terms.specs.Evaluate.{NodeGives}

-- a graph, and how many ids were given so far
pub record Moment : Type 0 where
  pub graph : Graph
  pub given : ℕ

-- a bind that is due is built anew; nothing is said yet of what is built
pub record RebuildStep (F : Functions) (known : FnRef → Bool) (ids : FnRef → List NodeId) (m next : Moment) : Type 0 where
  pub bind : NodeId
  pub outcome : Outcome
  pub rebuilds : Rebuilds F known ids m.given m.graph next.graph bind outcome
  pub later : m.given ≤ next.given

-- moreover the bind is built for its left's outcome, with a root that reads back where this is a value, and new nodes stand in its scope
pub record BuildStep (F : Functions) (known : FnRef → Bool) (ids : FnRef → List NodeId) (m next : Moment) : Type 0 where
  pub step : RebuildStep F known ids m next
  pub built : Built
  pub is_built : next.graph.built step.bind ≡ Some built
  pub for_outcome : built.outcome ≡ step.outcome
  pub rooted : IsRooted F next.graph step.bind step.rebuilds.due.function step.rebuilds.due.captures built
  pub fresh : (n : NodeId) (r : Row) → next.graph.row n ≡ Some r → (Given m.given n → ⊥) → (r.scope ≡ Some step.bind) × Given next.given n

-- any number of binds built anew change what no node gives that was given before
abbrev pub RebuildingKeeps : Type 0
RebuildingKeeps =
    (F : Functions) (known : FnRef → Bool) (ids : FnRef → List NodeId) (m end : Moment) → Reaches (RebuildStep F known ids) m end
    → (n : NodeId) → Given m.given n → (o : Outcome)
    → (NodeGives F m.graph n o → NodeGives F end.graph n o) × (NodeGives F end.graph n o → NodeGives F m.graph n o)

-- ---- what dies

-- what a bind was built for
abbrev pub outcome_of : Option Built → Option Outcome
outcome_of None = None
outcome_of (Some w) = Some w.outcome

-- a node of the scope, or of one within it, of a bind that is built for another outcome than it was
abbrev pub Dies : Graph → Graph → NodeId → Type 0
Dies G G' n = (b : NodeId) × (outcome_of (G.built b) ≡ outcome_of (G'.built b) → ⊥) × Inside G b n

-- over any number of builds just those live nodes die that stand in scopes of binds whose built outcome differs at the end
abbrev pub BuildingKills : Type 0
BuildingKills =
    (F : Functions) (known : FnRef → Bool) (ids : FnRef → List NodeId) (m end : Moment) → Reaches (BuildStep F known ids) m end
    → (n : NodeId) (r : Row) → Given m.given n → m.graph.row n ≡ Some r
    → (end.graph.row n ≡ None → Dies m.graph end.graph n) × (Dies m.graph end.graph n → end.graph.row n ≡ None)
