-- What is done to a main that is settled.
use Rattle.std.specs.Prelude.{◌≡◌, ◌≢◌, ◌⊎◌, ℕ, true, false, Option, Some}
use Rattle.inc_value.specs.declared.node.NodeId.{NodeId}
use Rattle.inc_value.specs.declared.node.Point.{Point}
use Rattle.inc_value.specs.declared.outcome.Outcome.{Outcome}
use Rattle.inc_terms.specs.Depend.{main}
use Rattle.point_map.specs.Rows.{at, Holds}
use Rattle.link_table.specs.Links.{Reads}
use Rattle.map_nodes.specs.Cutoff.{IsStopped}
use Rattle.stabilize_round.specs.State.{Call}
use Rattle.node_outcomes.specs.Computing.{ran_then}
use Rattle.node_outcomes.specs.Row.{settled_in}
use Rattle.wiring.specs.Wiring.{KeepsGraph}
use Rattle.node_outcomes.specs.Progress.{Progress}
use Rattle.wiring.specs.declared.work.Work.{Work}

-- a main of the heap was settled on an outcome, with this last call, for which so many calls were made. It left the heap, and where its cutoff doesn't stop
-- the outcome, the points that read it and weren't settled came in. Where it does, none came in. All binds keep their roots, and none died
pub record IsSettled (old new : Work) (n : NodeId) (o : Outcome) (last : Option Call) (calls : ℕ) : Type 0 where
  pub row : Progress
  pub was : at old.rows (main n) ≡ Some row
  pub now : at new.rows (main n) ≡ Some (record { stage = row.stage; settled = old.round; outcome = Some o; last = last; cutoff = row.cutoff; frozen = row.frozen; room = row.room })
  pub others : (p : Point) → p ≢ main n → at new.rows p ≡ at old.rows p
  pub graph : KeepsGraph old.graph new.graph
  pub kept : (p : Point) → p ≢ main n → Holds old.graph.heap p → Holds new.graph.heap p
  pub out : Holds new.graph.heap (main n) → Reads old.graph.links (main n) (main n)
  pub told : (IsStopped row.cutoff row.outcome o → ⊥) → (p : Point) → Reads old.graph.links p (main n)
      → Holds new.graph.heap p ⊎ (settled_in old.round (at old.rows p) ≡ true)
  pub only : (p : Point) → p ≢ main n → Holds new.graph.heap p
      → Holds old.graph.heap p ⊎ (Reads old.graph.links p (main n) × (settled_in old.round (at old.rows p) ≡ false))
  pub stops : IsStopped row.cutoff row.outcome o → (p : Point) → p ≢ main n → Holds new.graph.heap p → Holds old.graph.heap p
  pub roots : new.roots ≡ old.roots
  pub deaths : new.deaths ≡ old.deaths
  pub ran : new.ran.items ≡ ran_then calls old.ran.items n
  pub todo : new.todo.items ≡ old.todo.items
  pub retries : new.retries ≡ old.retries
  pub round : new.round ≡ old.round
