-- What an observer shows to whoever asks.
use Rattle.std.specs.Prelude as std
use Rattle.std.specs.Prelude.{◌≡◌, ℕ, ℤ, List, Option, None, Some}
use Rattle.inc_value.specs.declared.node.NodeId.{NodeId}
use Rattle.inc_value.specs.declared.node.ObsId.{ObsId}
use Rattle.inc_value.specs.declared.outcome.Outcome.{Outcome}
use Rattle.inc_value.specs.declared.outcome.Outcome.TheVariants.{Val}
use Rattle.inc_value.specs.declared.value.Value.TheVariants.{Int, Bool, Text}
use Rattle.observers.specs.Observers.{shown_at}
use Rattle.graph.specs.Standing.{GraphView, node_at, shown_of}

-- nothing where there is something else
abbrev pub unless : {R A : Type 0} → Option R → Option A → Option A
unless None x = x
unless (Some r) x = None

-- the outcome that an observer shows; none where a stabilize was refused
abbrev pub outcome_at : {F : Type 0} → GraphView F → ObsId → Option Outcome
outcome_at s o = unless s.refused (shown_at s.observers o)

-- the observer is in use, and its node shows the outcome
pub record Looks {F : Type 0} (s : GraphView F) (o : ObsId) (x : Outcome) : Type 0 where
  pub node : NodeId
  pub looks : node_at s.observers o ≡ Some node
  pub shows : shown_of s node ≡ Some x

-- an outcome as a value of one type
abbrev pub int_in : Outcome → Option ℤ
int_in (Val (Int z)) = Some z
int_in x = None

abbrev pub bool_in : Outcome → Option std.Bool
bool_in (Val (Bool b)) = Some b
bool_in x = None

abbrev pub text_in : Outcome → Option (List ℕ)
text_in (Val (Text bytes)) = Some bytes
text_in x = None
