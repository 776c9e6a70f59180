-- What an observer shows, by the state of a script.
use Rattle.std.specs.Prelude.{◌≡◌, ℕ, List, None, Some}
use Rattle.inc_value.specs.declared.outcome.Outcome as engine
use Rattle.inc_value.specs.declared.node.NodeId.{NodeId}
use Rattle.script_model.specs.Formula.{State}
use Rattle.script_model.specs.Step.{shown_by}
use Rattle.script_model.specs.Values.{Outcome}
use Rattle.script_graph.specs.Today.{IsDeclaredTarget, RefersTo}
use Rattle.transfer.specs.Both.{graph_outcome}

-- the observer of the name shows the outcome, over the nodes of names; what it refers to is declared, and no other name
pub record ShowsIt (nodes : ℕ → NodeId) (s : State) (name : List ℕ) (o : engine.Outcome) : Type 0 where
  pub outcome : Outcome
  pub is_shown : shown_by s name ≡ Some outcome
  pub refers : RefersTo (IsDeclaredTarget s) outcome
  pub same : graph_outcome nodes outcome ≡ o

-- it shows nothing yet
abbrev pub ShowsNothing : State → List ℕ → Type 0
ShowsNothing s name = shown_by s name ≡ None
