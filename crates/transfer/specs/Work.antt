-- Calls of functions over a graph.
use Rattle.std.specs.Prelude.{◌≡◌, ℕ, ◌+◌, List, [], ◌∷◌, map, length, Option, None, Some}
use Rattle.inc_value.specs.declared.node.NodeId.{NodeId}
use Rattle.inc_value.specs.declared.value.Value.{Value as GraphValue}
use Rattle.inc_terms.specs.Depend.{main, unfrozen}
use Rattle.inc_terms.specs.Evaluate as engine
use Rattle.inc_terms.specs.Evaluate.{answer, Stands}
use Rattle.inc_terms.specs.Graph as graph
use Rattle.inc_terms.specs.Graph.{Graph, Row, Def}
use Rattle.inc_terms.specs.Term.{refs}
use Rattle.script_model.specs.Formula.{State}
use Rattle.script_model.specs.Need.{Visit, IsVisit, Needed, Met, stamp_of}
use Rattle.transfer.specs.Both.{Both, graph_value}
use Rattle.transfer.specs.Items.{node_of, CoveredBy}

-- the list, if it isn't empty
abbrev pub some_unless_empty : List NodeId → Option (List NodeId)
some_unless_empty [] = None
some_unless_empty (n ∷ ns) = Some (n ∷ ns)

-- the nodes whose values a node's function is called on; none where it has no function to call
abbrev pub call_of : Graph → NodeId → Def → Option (List NodeId)
call_of G n (graph.Map f kids) = Some kids
call_of G n (graph.Fold f v kids) = Some kids
call_of G n (graph.Freeze kid f) = some_unless_empty (unfrozen kid (G.frozen n))
call_of G n (graph.Expert f v kids) = Some (G.lists n)
call_of G n def = None

-- how many calls it makes on so many values
abbrev pub cost_of : Def → List GraphValue → ℕ
cost_of (graph.Map f kids) vs = 1
cost_of (graph.Freeze kid f) vs = 1
cost_of def vs = length vs

-- a live node that stands, whose function has values to be called on
pub record Calls (x : Both) (n : NodeId) : Type 0 where
  pub row : Row
  pub is_row : x.graph.row n ≡ Some row
  pub stands : Stands x.functions x.graph row.scope
  pub kids : List NodeId
  pub is_call : call_of x.graph n row.def ≡ Some kids
  pub given : List GraphValue
  pub depth : ℕ
  pub gives : engine.gathered (answer x.functions x.graph depth) (refs kids) ≡ engine.Values given

-- a met node whose function was called anew: no visit of what was needed before has its node, its values and its
-- count
pub record Ran (x : Both) (before : State) (n : NodeId) : Type 0 where
  pub calls : Calls x n
  pub met : CoveredBy x (Met x.meanings before x.state) (main n)
  pub fresh : (v : Visit) → IsVisit x.meanings before v → Needed x.meanings before v.item → node_of x v.item ≡ Some n
      → v.stamp ≡ stamp_of x.state v.item → calls.given ≡ map (graph_value x.nodes) v.values → ⊥

-- each of the nodes ran
abbrev pub AllRan : Both → State → List NodeId → Type 0
AllRan x before [] = Unit {0}
AllRan x before (n ∷ ns) = Ran x before n × AllRan x before ns

-- with so many calls in all
abbrev pub calls_in : (x : Both) (before : State) (ns : List NodeId) → AllRan x before ns → ℕ
calls_in x before [] ran = 0
calls_in x before (n ∷ ns) ran = cost_of ran.0.calls.row.def ran.0.calls.given + calls_in x before ns ran.1
