-- Stabilizes that take no memory beside what functions take.
use Rattle.std.specs.Prelude.{◌≡◌, ◌≢◌, ◌<◌, ◌≤◌, ℕ, true, length, [], Some, Result, Ok, Err}
use Rattle.inc_value.specs.Choice.{Among}
use Rattle.inc_value.specs.Counts.{raised}
use Rattle.inc_value.specs.Value.{type_of}
use Rattle.inc_value.specs.declared.node.NodeId.{NodeId}
use Rattle.inc_value.specs.declared.outcome.Outcome.{Outcome}
use Rattle.inc_value.specs.declared.ty.Ty.TheVariants.{Text}
use Rattle.inc_terms.specs.Depend.{main, change, subject_of}
use Rattle.inc_terms.specs.Evaluate.{NodeGives}
use Rattle.inc_terms.specs.Graph.{Row}
use Rattle.inc_terms.specs.Term.{Functions}
use Rattle.node_arena.specs.Arena.{row_at}
use Rattle.observers.specs.Observers.{IsToldNoText}
use Rattle.observers.specs.declared.observer.Observer.{Observer}
use Rattle.stabilize_round.specs.Counts.{last_count}
use Rattle.stabilize_round.specs.State.{Call}
use Rattle.graph.specs.Standing.{GraphView, IsNeeded, IsUnbroken, called_last, chosen_by, graph, listed_by, newly_linked, next_number, shown_of}
use Rattle.graph.specs.declared.fault.Kept.TheVariants as kept
use Rattle.graph.specs.declared.fault.StabilizeFault.{StabilizeFault}
use Rattle.graph.specs.declared.fault.StabilizeFault.TheVariants as fault

-- it is accepted, or refused for want of memory of a function, which was counted
abbrev pub FindsMemory : {T : Type 0} → Result T StabilizeFault → ℕ → ℕ → Type 0
FindsMemory (Ok v) old new = Unit {0}
FindsMemory (Err e) old new = (new ≡ raised old) × (old < last_count → e ≡ fault.Refused kept.Memory)

module _ {F : Type 0} (M : Functions) (s : GraphView F) where
  -- the left, test or child of a node doesn't change: it shows the outcome by which the node chose its right side last, and gives that still
  pub record StaysChosen (n subject : NodeId) : Type 0 where
    pub outcome : Outcome
    pub chose : chosen_by s n ≡ Some outcome
    pub shows : shown_of s subject ≡ Some outcome
    pub gives : NodeGives M (graph s) subject outcome

  -- a graph whose next stabilize takes no memory of its own: it isn't broken; the number of that stabilize isn't the last; since the last accepted one
  -- no observer and no node was made, and none linked to an expert; of what is needed no left, test or child of a join changes, nothing is a text by its
  -- type, no function gave a text last, and no expert lists more than two nodes; and no observer in use was told of a text last
  pub record IsSteady : Type 0 where
    pub unbroken : IsUnbroken s
    pub numbered : next_number s < last_count
    pub no_observer : s.rooted ≡ length s.observers
    pub no_node : s.since ≡ s.nodes.given
    pub no_link : newly_linked s ≡ []
    pub chosen : (n subject : NodeId) (r : Row) → row_at s.nodes n ≡ Some r → subject_of r.def ≡ Some subject → IsNeeded s (change n)
        → StaysChosen n subject
    pub textless : (n : NodeId) (r : Row) → row_at s.nodes n ≡ Some r → IsNeeded s (main n) → r.ty ≢ Text
    pub recalled : (n : NodeId) (c : Call) → IsNeeded s (main n) → called_last s n ≡ Some c → type_of c.result ≢ Text
    pub told : (o : Observer) → Among o s.observers → o.in_use ≡ true → IsToldNoText o.watch
    pub few : (n : NodeId) → IsNeeded s (main n) → length (listed_by s n) ≤ 2
