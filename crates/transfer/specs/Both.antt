-- A script and a graph side by side, and the values of the one as those of the other.
use Rattle.std.specs.Prelude.{ℕ, Option}
use Rattle.inc_value.specs.declared.node.NodeId.{NodeId}
use Rattle.inc_value.specs.declared.outcome.Outcome.{Outcome as GraphOutcome}
use Rattle.inc_value.specs.declared.outcome.Outcome.TheVariants as outcome
use Rattle.inc_value.specs.declared.value.Value.{Value as GraphValue}
use Rattle.inc_value.specs.declared.value.Value.TheVariants as held
use Rattle.inc_terms.specs.Graph.{Graph}
use Rattle.inc_terms.specs.Term.{Functions}
use Rattle.script_model.specs.Formula.{State, Meanings}
use Rattle.script_model.specs.Values.{Value, Int, Bool, Text, Reference, Outcome, Val, Invalid}

-- a script's value as the graph has it: a reference to a declaration is one to its node
abbrev pub graph_value : (ℕ → NodeId) → Value → GraphValue
graph_value nodes (Int z) = held.Int z
graph_value nodes (Bool b) = held.Bool b
graph_value nodes (Text bytes) = held.Text bytes
graph_value nodes (Reference target base) = held.Node (nodes target) base

-- so with an outcome
abbrev pub graph_outcome : (ℕ → NodeId) → Outcome → GraphOutcome
graph_outcome nodes (Val v) = outcome.Val (graph_value nodes v)
graph_outcome nodes Invalid = outcome.Invalid

-- what the functions of a script mean, and its state; what those of a graph mean, and the graph; the node of each
-- name;
-- and the scopes in which nodes stood that died in the call
pub record Both : Type 0 where
  pub meanings : Meanings
  pub state : State
  pub functions : Functions
  pub graph : Graph
  pub nodes : ℕ → NodeId
  pub died : NodeId → Option NodeId
