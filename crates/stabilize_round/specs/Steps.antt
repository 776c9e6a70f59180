-- Steps, and rounds of them.
use Rattle.std.specs.Prelude.{◌≡◌, ◌⊎◌, ◌<◌, true}
use Rattle.inc_value.specs.declared.node.NodeId.{NodeId}
use Rattle.inc_value.specs.declared.node.Point.{Point}
use Rattle.inc_value.specs.Choice.{Reaches}
use Rattle.inc_terms.specs.Term.{Functions}
use Rattle.inc_terms.specs.Depend.{main, change}
use Rattle.stabilize_round.specs.State.{State, Start, Static, Full}
use Rattle.stabilize_round.specs.Moves.{Quiet, IsLeast}
use Rattle.stabilize_round.specs.Machine.{Entry, Move, step_main, step_change, link, link_new, root, root_new, raise, finish, schedule, cut, rebuild}
use Rattle.stabilize_round.specs.Machine.{level, spend}

-- a move that comes before the point is settled that was taken: more is put into the heap, a point goes back to a lower stage, or the bind is built
-- anew whose change was taken
abbrev pub Prepares : {F : Functions} {z : Start} {s t : State} → Point → Move F z s t → Type 0
Prepares p (schedule m e) = Unit {0}
Prepares p (cut d w e) = Unit {0}
Prepares p (rebuild {b} r made count e) = p ≡ change b
Prepares p m = ⊥

-- the move that settles it
abbrev pub Settles : {F : Functions} {z : Start} {s t : State} → Point → Move F z s t → Type 0
Settles p (step_main {n} quiet m e) = p ≡ main n
Settles p (step_change {n} quiet m e) = p ≡ change n
Settles p m = ⊥

-- a move that gives points of the worklist their links
abbrev pub Wires : {F : Functions} {z : Start} {s t : State} → Move F z s t → Type 0
Wires (link m need e) = Unit {0}
Wires (link_new m need h e) = Unit {0}
Wires (raise m e) = Unit {0}
Wires (finish m e) = Unit {0}
Wires (schedule m e) = Unit {0}
Wires (level m e) = Unit {0}
Wires m = ⊥

-- a move that takes links off
abbrev pub TakesOff : {F : Functions} {z : Start} {s t : State} → Move F z s t → Type 0
TakesOff (schedule m e) = Unit {0}
TakesOff (cut d w e) = Unit {0}
TakesOff m = ⊥

-- the move after which fewer links may be tried again
abbrev pub Spends : {F : Functions} {z : Start} {s t : State} → Move F z s t → Type 0
Spends (spend u k e) = Unit {0}
Spends m = ⊥

-- a move that puts a root on
abbrev pub Roots : {F : Functions} {z : Start} {s t : State} → Move F z s t → Type 0
Roots (root need e) = Unit {0}
Roots (root_new given need h e) = Unit {0}
Roots m = ⊥

-- a move that prepares, between states
abbrev pub Preparing : Functions → Start → Point → State → State → Type 0
Preparing F z p s t = (m : Move F z s t) × Prepares p m

-- a move that wires, between states
abbrev pub Wiring : Functions → Start → State → State → Type 0
Wiring F z s t = (m : Move F z s t) × Wires m

-- a move that takes links off, between states
abbrev pub TakingOff : Functions → Start → State → State → Type 0
TakingOff F z s t = (m : Move F z s t) × TakesOff m

-- points get their links; where a link is refused, some of the links are taken off whose gates or changes didn't run, or all, and points go on getting
-- theirs, while fewer links may be tried again
pub data Wired (F : Functions) (z : Start) : State → State → Type 0 where
  plainly : {s t : State} → Reaches (Wiring F z) s t → Wired F z s t
  after_refusal : {s u v w t : State} → Reaches (Wiring F z) s u → Reaches (TakingOff F z) u v → (m : Move F z v w) → Spends m
      → Wired F z w t → Wired F z s t

-- one step: a least point of the heap is taken, settled, and what follows from it gets its links. Before it is settled for the first time links are
-- taken off and its bind is built anew, where it is the change of one. Where it is taken again its main, if it waits, gets its right side
pub record Step (F : Functions) (z : Start) (s t : State) : Type 0 where
  pub point : Point
  pub begins : Quiet s
  pub least : IsLeast s point
  pub ready : State
  pub prepared : Reaches (Preparing F z point) s ready
  pub next : State
  pub settles : Move F z ready next
  pub it : Settles point settles
  pub wired : Wired F z next t
  pub ends : Quiet t
  pub again : s.settled point ≡ true → ready ≡ s
  pub attaches : (n : NodeId) → point ≡ change n → s.settled point ≡ true → s.needed (main n) ≡ true → s.stage (main n) ≡ Static
      → ((t.needed (main n) ≡ true) × (t.stage (main n) ≡ Full)) ⊎ (t.retries < s.retries)

-- a root is put on, and points get their links
pub record Rooting (F : Functions) (z : Start) (s t : State) : Type 0 where
  pub next : State
  pub puts : Move F z s next
  pub it : Roots puts
  pub wired : Wired F z next t

-- a round opens: a root is put on, or points get links that they are owed from the start
pub data Opening (F : Functions) (z : Start) (s t : State) : Type 0 where
  by_root : Rooting F z s t → Opening F z s t
  by_links : Wired F z s t → Opening F z s t

-- a round: from the state in which it begins roots are put on, and links that were owed, and then steps are made
pub record Round (F : Functions) (z : Start) (s t : State) : Type 0 where
  pub entry : Entry F z s
  pub begun : State
  pub opened : Reaches (Opening F z) s begun
  pub idle : Quiet begun
  pub steps : Reaches (Step F z) begun t
