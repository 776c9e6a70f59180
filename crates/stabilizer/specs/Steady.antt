-- Rounds for which all room was made beforehand.
use Rattle.std.specs.Prelude.{◌≡◌, ◌≢◌, ◌<◌, ◌≤◌, true, length, List, [], Some}
use Rattle.inc_value.specs.Choice.{Among}
use Rattle.inc_value.specs.Value.{type_of}
use Rattle.inc_value.specs.declared.node.NodeId.{NodeId}
use Rattle.inc_value.specs.declared.outcome.Outcome.{Outcome}
use Rattle.inc_value.specs.declared.ty.Ty.TheVariants.{Text}
use Rattle.inc_terms.specs.Depend.{main, change, subject_of}
use Rattle.inc_terms.specs.Evaluate.{NodeGives}
use Rattle.inc_terms.specs.Graph.{Row}
use Rattle.inc_terms.specs.Term.{Functions}
use Rattle.expert_nodes.specs.Experts.{kids_at}
use Rattle.necessary_graph.specs.Part.{Needed}
use Rattle.node_arena.specs.Arena.{row_at}
use Rattle.node_outcomes.specs.Computing.{last_in, seen}
use Rattle.node_outcomes.specs.Row.{outcome_in}
use Rattle.observers.specs.Observers.{in_use, IsToldNoText}
use Rattle.observers.specs.declared.observer.Observer.{Observer}
use Rattle.point_map.specs.Rows.{at}
use Rattle.stabilize_round.specs.Counts.{last_count}
use Rattle.stabilize_round.specs.State.{Call}
use Rattle.stabilizer.specs.Kept.{graph_in}
use Rattle.stabilizer.specs.declared.parts.Parts.{Parts}

-- the left, test or child of a node doesn't change: it shows the outcome on which the node's change was settled last, and gives that still
pub record StaysChosen (F : Functions) (parts : Parts) (n subject : NodeId) : Type 0 where
  pub outcome : Outcome
  pub chose : outcome_in (at parts.work.rows (change n)) ≡ Some outcome
  pub shows : seen parts.work.rows (main subject) ≡ Some outcome
  pub gives : NodeGives F (graph_in parts) subject outcome

-- a round that puts on these roots, and tells these observers, takes no memory of its own: it has a number; no point waits for links, as an expert does
-- that was linked to a node since the last round; need begins where it began; no needed left, test or child of a join changes; what is needed is of another
-- type than texts, and its function gave no text last; each observer in use looks at what is needed already, and wasn't told of a text last; and no
-- needed expert lists more than two nodes
pub record IsSteady (F : Functions) (parts : Parts) (roots : List NodeId) (made : List Observer) : Type 0 where
  pub numbered : parts.work.round < last_count
  pub unlinked : parts.work.todo.items ≡ []
  pub unrooted : roots ≡ []
  pub chosen : (n subject : NodeId) (r : Row) → row_at parts.arena n ≡ Some r → subject_of r.def ≡ Some subject → Needed parts.work.graph (change n)
      → StaysChosen F parts n subject
  pub textless : (n : NodeId) (r : Row) → row_at parts.arena n ≡ Some r → Needed parts.work.graph (main n) → r.ty ≢ Text
  pub observed : (n : NodeId) → Among n (in_use made) → Needed parts.work.graph (main n)
  pub recalled : (n : NodeId) (c : Call) → Needed parts.work.graph (main n) → last_in parts.work.rows n ≡ Some c → type_of c.result ≢ Text
  pub told : (o : Observer) → Among o made → o.in_use ≡ true → IsToldNoText o.watch
  pub few : (n : NodeId) → Needed parts.work.graph (main n) → length (kids_at parts.work.experts n) ≤ 2
