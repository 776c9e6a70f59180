-- Laws of steps and of the states between them.
use Rattle.std.specs.Prelude.{◌≡◌, ◌⊎◌, ◌<◌, ◌≤◌, ◌&&◌, ℕ, Bool, true, false, cond, List, ◌∷◌, length, Some}
use Rattle.inc_value.specs.declared.function.FnRef.{FnRef}
use Rattle.inc_value.specs.declared.node.NodeId.{NodeId}
use Rattle.inc_value.specs.declared.node.Point.{Point}
use Rattle.inc_value.specs.declared.outcome.Outcome.{Outcome}
use Rattle.inc_value.specs.Choice.{Among, NoRepeats, Reaches}
use Rattle.inc_value.specs.Walk.{IsWalk}
use Rattle.inc_terms.specs.Term.{Functions}
use Rattle.inc_terms.specs.Graph.{Row, Built, Bind}
use Rattle.inc_terms.specs.Within.{Given}
use Rattle.inc_terms.specs.Rebuild.{Inside, IsDue}
use Rattle.inc_terms.specs.Depend.{Depends, main, change}
use Rattle.inc_terms.specs.Local.{shown, Agrees, Exact}
use Rattle.stabilize_round.specs.Counts.{RoseBy, number_of}
use Rattle.stabilize_round.specs.State.{State, Start, Stage, Gated, Static, Full, Linked}
use Rattle.stabilize_round.specs.Invariant.{MetNow}
use Rattle.stabilize_round.specs.Moves.{Quiet, IsLeast}
use Rattle.stabilize_round.specs.Wire.{IsConfirmed}
use Rattle.stabilize_round.specs.Rebuilding.{Remade, Rebuild}
use Rattle.stabilize_round.specs.Machine.{Entry, Move, Moves}
use Rattle.stabilize_round.specs.Ended.{RootsAre, Ended, unsettled}
use Rattle.stabilize_round.specs.Steps.{Wiring, Step, Round}

-- a round is a run of moves, and between steps the worklist is empty
abbrev pub RoundIsMoves : Type 0
RoundIsMoves = (F : Functions) (z : Start) (s t : State) → Round F z s t → Moves F z s t × Quiet t

-- a round that has emptied its heap is right
abbrev pub RoundEnds : Type 0
RoundEnds =
    (F : Functions) (z : Start) (s t : State) (observed : List NodeId) → Round F z s t → RootsAre t observed → ((p : Point) → t.heap p ≡ true → ⊥)
    → Ended F z t observed

-- ---- between steps

-- a needed live point waits: with its gate's link alone for its gate, which is in the heap and didn't run, or as a main without its right side for
-- its own change, which is in the heap
pub data Waiting (s : State) (p : Point) : Type 0 where
  for_gate : {r : Row} {b : NodeId} → s.stage p ≡ Gated → s.graph.row p.node ≡ Some r → r.scope ≡ Some b → s.settled (change b) ≡ false
      → s.heap (change b) ≡ true → Waiting s p
  for_change : s.stage p ≡ Static → s.heap (change p.node) ≡ true → Waiting s p

-- a needed live point is in the heap, agrees with the points that it is linked to, or waits
abbrev pub NeededAreFresh : Type 0
NeededAreFresh =
    (F : Functions) (z : Start) (s t : State) → Entry F z s → Moves F z s t → Quiet t → (p : Point) (r : Row) → t.graph.row p.node ≡ Some r
    → t.needed p ≡ true
    → (t.heap p ≡ true) ⊎ ((t.stage p ≡ Full) × Agrees F t.graph t.out p) ⊎ Waiting t p

-- what is needed and lower than all of the heap has all its links and is exact
abbrev pub LowAreFinal : Type 0
LowAreFinal =
    (F : Functions) (z : Start) (s t : State) → Entry F z s → Moves F z s t → Quiet t → (p : Point) → t.needed p ≡ true
    → ((q : Point) → t.heap q ≡ true → t.height p < t.height q) → ((r : Row) → t.graph.row p.node ≡ Some r → t.stage p ≡ Full)
    × Exact F t.graph t.out p

-- a bind's change that is taken, and isn't built for what its left shows, is due
abbrev pub TakenIsDue : Type 0
TakenIsDue =
    (F : Functions) (z : Start) (s t : State) → Entry F z s → Moves F z s t → Quiet t → (b : NodeId) → IsLeast t (change b)
    → (r : Row) (l : NodeId) (f : FnRef) (captures : List NodeId) → t.graph.row b ≡ Some r → r.def ≡ Bind l f captures
    → (now : Outcome) → shown t.graph t.out (main l) ≡ Some now → ((w : Built) → t.graph.built b ≡ Some w → w.outcome ≡ now → ⊥)
    → IsDue F t.graph b now

-- what a settled point is linked to doesn't die
abbrev pub SettledReadsLive : Type 0
SettledReadsLive =
    (F : Functions) (z : Start) (s t u : State) → Entry F z s → Moves F z s t → (p q : Point) → t.settled p ≡ true → Linked t p q → Moves F z t u
    → (b : NodeId) (now : Outcome) (m : Remade) → Rebuild F z u b now m → Inside u.graph b q.node → ⊥

-- a link that is new is its gate's, or put on after its gate ran, and a right link in a step of its own change
abbrev pub NewLinksConfirmed : Type 0
NewLinksConfirmed =
    (F : Functions) (z : Start) (s t : State) → Move F z s t → (p q : Point) → Linked t p q → (Linked s p q → ⊥) → IsConfirmed s p q

-- ---- what a step does

-- a step builds at most once, and of the binds that were given before for no other than the one whose change it takes
abbrev pub StepBuilds : Type 0
StepBuilds =
    (F : Functions) (z : Start) (s t : State) (k : Step F z s t)
    → ((number : ℕ) × (number ≤ 1) × RoseBy s.builds number t.builds)
    × ((b : NodeId) (r : Row) → Given s.given b → t.graph.row b ≡ Some r → (k.point ≡ change b → ⊥) → t.graph.built b ≡ s.graph.built b)

-- a stage with all links
abbrev pub is_full : Stage → Bool
is_full Full = true
is_full stage = false

-- the node's change is settled, and its main isn't needed with all its links
abbrev pub is_loose : State → NodeId → Bool
is_loose s n = s.settled (change n) && cond (s.needed (main n) && is_full (s.stage (main n))) false true

-- how many of the nodes are so
abbrev pub loose : State → List NodeId → ℕ
loose s nodes = number_of (is_loose s) nodes

-- how many of the points are settled and in the heap again
abbrev pub again : State → List Point → ℕ
again s points = number_of (λ (p : Point). s.settled p && s.heap p) points

-- fewer of the first, or as many of it and fewer of the second, and so on: links that may be tried again; points that aren't settled; changes that are,
-- with mains that lack links; settled points in the heap
abbrev pub Falls : State → State → List Point → List NodeId → Type 0
Falls s t points nodes =
    (t.retries < s.retries)
    ⊎ ((t.retries ≡ s.retries) × (unsettled t.settled points < unsettled s.settled points))
    ⊎ ((t.retries ≡ s.retries) × (unsettled t.settled points ≡ unsettled s.settled points) × (loose t nodes < loose s nodes))
    ⊎ ((t.retries ≡ s.retries) × (unsettled t.settled points ≡ unsettled s.settled points) × (loose t nodes ≤ loose s nodes)
    × (again t points < again s points))

-- each step makes this less, over any points and nodes among which the one is that it takes
abbrev pub StepsFall : Type 0
StepsFall =
    (F : Functions) (z : Start) (begun s t : State) → Entry F z begun → Moves F z begun s → (k : Step F z s t)
    → (points : List Point) (nodes : List NodeId) → Among k.point points → Among k.point.node nodes → Falls s t points nodes

-- how many of the points aren't needed
abbrev pub unneeded : State → List Point → ℕ
unneeded s points = number_of (λ (p : Point). cond (s.needed p) false true) points

-- how many of the points are in the worklist
abbrev pub listed : State → List Point → ℕ
listed s points = number_of s.todo points

-- moves that wire, and after which a point of the worklist isn't in it any more, leave fewer points that aren't needed, or as many and fewer in the
-- worklist, over any points among which those are that these moves made needed
abbrev pub WiringFalls : Type 0
WiringFalls =
    (F : Functions) (z : Start) (s t : State) → Reaches (Wiring F z) s t → (points : List Point) (p : Point) → Among p points → s.todo p ≡ true
    → t.todo p ≡ false
    → ((q : Point) → t.needed q ≡ true → s.needed q ≡ false → Among q points)
    → (unneeded t points < unneeded s points) ⊎ ((unneeded t points ≡ unneeded s points) × (listed t points < listed s points))

-- ---- what refusals list

-- linked, or the one link more that is tried
abbrev pub LinkedOr : State → Point → Point → Point → Point → Type 0
LinkedOr s p q a b = Linked s a b ⊎ ((p ≡ a) × (q ≡ b))

-- once refusals are final a walk over links, and over the one more that is tried, is a walk of what points depend on, whose points are met where the
-- first is needed
abbrev pub ListedAreMet : Type 0
ListedAreMet =
    (F : Functions) (z : Start) (s t : State) → Entry F z s → Moves F z s t → t.retries ≡ 0 → (p q : Point) → Depends F t.graph t.died p q
    → (x : Point) (rest : List Point) → t.needed x ≡ true → IsWalk (LinkedOr t p q) (x ∷ rest)
    → IsWalk (Depends F t.graph t.died) (x ∷ rest) × ((y : Point) → Among y (x ∷ rest) → MetNow F z t.graph t.died t.root y)

-- a walk over links has no point twice, and at most 129 points. So where the link of p to q closes a cycle, what is listed after p has no point twice
abbrev pub ListedOnce : Type 0
ListedOnce =
    (F : Functions) (z : Start) (s t : State) → Entry F z s → Moves F z s t → (x : Point) (rest : List Point) → IsWalk (Linked t) (x ∷ rest)
    → NoRepeats (x ∷ rest) × (length rest ≤ 128)
