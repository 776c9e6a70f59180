-- What a round does to its state, move by move.
use Rattle.std.specs.Prelude.{◌≡◌, ◌⊎◌, ◌≤◌, ℕ, zero, suc, true, false, Bool, List, ◌∷◌, Option, Some}
use Rattle.inc_value.specs.declared.node.NodeId.{NodeId}
use Rattle.inc_value.specs.declared.node.Point.{Point}
use Rattle.inc_value.specs.declared.outcome.Outcome.{Outcome}
use Rattle.inc_value.specs.declared.value.Value.{Value}
use Rattle.map_nodes.specs.Cutoff.{IsStopped}
use Rattle.inc_terms.specs.Term.{Functions, refs}
use Rattle.inc_terms.specs.Graph.{Row, Def}
use Rattle.inc_terms.specs.Evaluate.{gathered, Values}
use Rattle.inc_terms.specs.Depend.{main, change, subject_of}
use Rattle.inc_terms.specs.Local.{shown, by_sight, own, IsBuilt}
use Rattle.inc_terms.specs.Work.{taken_by}
use Rattle.stabilize_round.specs.Calling.{Reason, IsAnswer, cost_at}
use Rattle.stabilize_round.specs.Counts.{RoseBy}
use Rattle.stabilize_round.specs.State.{State, Call, Static, Gated, Full, Linked, at_point, at_node}

-- the worklist is empty
abbrev pub Quiet : State → Type 0
Quiet s = (p : Point) → s.todo p ≡ false

-- the point is in the heap, and none there is lower
pub record IsLeast (s : State) (p : Point) : Type 0 where
  pub heap : s.heap p ≡ true
  pub least : (q : Point) → s.heap q ≡ true → s.height p ≤ s.height q

-- the heap with more of the points that may be told and aren't settled, among them all that must be
pub record Enqueues (s : State) (heap heap' : Point → Bool) (May Must : Point → Type 0) : Type 0 where
  pub kept : (q : Point) → heap q ≡ true → heap' q ≡ true
  pub new : (q : Point) → heap' q ≡ true → (heap q ≡ true) ⊎ (May q × (s.settled q ≡ false))
  pub told : (q : Point) → Must q → (heap' q ≡ true) ⊎ (s.settled q ≡ true)

-- a node's function is due: its children show these values, and there is a reason to call it on them
pub record CallIsDue (s : State) (n : NodeId) (def : Def) : Type 0 where
  pub kids : List NodeId
  pub values : List Value
  pub takes : taken_by s.graph n def ≡ Some kids
  pub shows : gathered (by_sight (shown s.graph s.out)) (refs kids) ≡ Values values
  pub reason : Reason s.last s.cutoff s.settled s.stale n kids values

-- what a node's function was last called on, after its main was computed anew: it was called, with a reason, or that stays
abbrev pub Calls : Functions → State → NodeId → Def → Option Call → Bool → Type 0
Calls F s n def last' false = (last' ≡ s.last n)
    × ((kids : List NodeId) (values : List Value) → taken_by s.graph n def ≡ Some kids
    → gathered (by_sight (shown s.graph s.out)) (refs kids) ≡ Values values → (c : Call) × (s.last n ≡ Some c) × (c.arguments ≡ values)
    × (Reason s.last s.cutoff s.settled s.stale n kids values → ⊥))
Calls F s n def last' true =
    (kids : List NodeId) × (values : List Value) × (result : Value) × (taken_by s.graph n def ≡ Some kids)
    × (gathered (by_sight (shown s.graph s.out)) (refs kids) ≡ Values values)
    × Reason s.last s.cutoff s.settled s.stale n kids values
    × (last' ≡ Some (record { arguments = values; result = result }))
    × IsAnswer F def values result

-- a main calls its function as often as it takes, or not at all
abbrev pub calls_of : Bool → ℕ → ℕ
calls_of true cost = cost
calls_of false cost = 0

-- the nodes whose functions were called, with this one where so many calls are one at least
abbrev pub ran_more : NodeId → ℕ → List NodeId → List NodeId
ran_more n zero ns = ns
ran_more n (suc k) ns = n ∷ ns

-- a main was computed; where its node was made stale it isn't any more
abbrev pub computed : State → NodeId → Outcome → (Point → Bool) → Option Call → Bool → ℕ → State
computed s n o heap' last' called calls' = record s {
  out = at_point (main n) (Some o) s.out;
  settled = at_point (main n) true s.settled;
  heap = heap';
  last = at_node n last' s.last;
  ran = ran_more n (calls_of called (cost_at s.graph n)) s.ran;
  calls = calls';
  taken = Some (main n);
  stale = at_node n false s.stale;
}

-- the main that is taken gets its own function of what it sees; its readers are told of an outcome that its cutoff doesn't stop
pub record StepMain (F : Functions) (s : State) (n : NodeId) (o : Outcome) (heap' : Point → Bool) (last' : Option Call) (called : Bool)
    (calls' : ℕ) : Type 0 where
  pub row : Row
  pub is_row : s.graph.row n ≡ Some row
  pub taken : IsLeast s (main n)
  pub own : own F s.graph (shown s.graph s.out) n row.def ≡ Some o
  pub calls : Calls F s n row.def last' called
  pub count : RoseBy s.calls (calls_of called (cost_at s.graph n)) calls'
  pub heap : Enqueues s (at_point (main n) false s.heap) heap' (λ (q : Point). Linked s q (main n))
      (λ (q : Point). Linked s q (main n) × (IsStopped (s.cutoff n) (s.out (main n)) o → ⊥))

-- ---- a change

-- a point that waits for the node's change
abbrev pub Awaits : State → NodeId → Point → Type 0
Awaits s n a = (s.needed a ≡ true)
    × (((a ≡ main n) × (s.stage a ≡ Static)) ⊎ ((r : Row) × (s.graph.row a.node ≡ Some r) × (r.scope ≡ Some n) × (s.stage a ≡ Gated)))

-- a change was settled
abbrev pub changed : State → NodeId → Outcome → (Point → Bool) → State
changed s n o todo' = record s {
  out = at_point (change n) (Some o) s.out;
  settled = at_point (change n) true s.settled;
  heap = at_point (change n) false s.heap;
  todo = todo';
  taken = Some (change n);
}

-- the change that is taken gets its subject's outcome, for which a bind is built; where that is another, its main has no right side.
-- What waits for it goes to the worklist
pub record StepChange (F : Functions) (s : State) (n : NodeId) (o : Outcome) (todo' : Point → Bool) : Type 0 where
  pub row : Row
  pub subject : NodeId
  pub is_row : s.graph.row n ≡ Some row
  pub is_subject : subject_of row.def ≡ Some subject
  pub taken : IsLeast s (change n)
  pub seen : shown s.graph s.out (main subject) ≡ Some o
  pub built : IsBuilt F s.graph n row.def o
  pub right : (s.out (change n) ≡ Some o) ⊎ (s.needed (main n) ≡ true → s.stage (main n) ≡ Full → ⊥)
  pub woken : (a : Point) → todo' a ≡ true → Awaits s n a
  pub wakes : (a : Point) → Awaits s n a → todo' a ≡ true
