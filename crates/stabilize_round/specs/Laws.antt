-- Laws of a round.
use Rattle.std.specs.Prelude.{◌≡◌, ◌⊎◌, ◌<◌, ◌≤◌, ℕ, true, false, Bool, List, None, Some}
use Rattle.inc_value.specs.declared.node.NodeId.{NodeId}
use Rattle.inc_value.specs.declared.node.Point.{Point}
use Rattle.inc_value.specs.Choice.{Among}
use Rattle.inc_terms.specs.Term.{Functions}
use Rattle.inc_terms.specs.Depend.{Depends, main, change}
use Rattle.stabilize_round.specs.State.{State, Start, Static, Full, Linked}
use Rattle.stabilize_round.specs.Invariant.{Invariant, MetNow}
use Rattle.stabilize_round.specs.Moves.{Quiet}
use Rattle.stabilize_round.specs.Ended.{RootsAre, Ended, unsettled}
use Rattle.stabilize_round.specs.Moves.{IsLeast}
use Rattle.stabilize_round.specs.Moves.{changed, StepChange}
use Rattle.stabilize_round.specs.Machine.{Entry, Move, cut, Moves}
use Rattle.stabilize_round.specs.Closing.{closed, Close, next_start}
use Rattle.inc_value.specs.declared.function.FnRef.{FnRef}
use Rattle.inc_terms.specs.Graph.{Graph, Row, Built, Bind}
use Rattle.inc_terms.specs.Rebuild.{Inside, IsDue}
use Rattle.stabilize_round.specs.Rebuilding.{Remade, Rebuild}
use Rattle.inc_terms.specs.Evaluate.{NodeGives, Stands}
use Rattle.inc_terms.specs.Within.{Given}
use Rattle.inc_terms.specs.Local.{Exact}
use Rattle.inc_value.specs.declared.outcome.Outcome.{Outcome}

-- each state of a round has the invariant
abbrev pub RoundKeeps : Type 0
RoundKeeps = (F : Functions) (z : Start) (s t : State) → Entry F z s → Moves F z s t → Invariant F z t

-- a round that has emptied its heap and its worklist is right
abbrev pub RoundIsRight : Type 0
RoundIsRight = (F : Functions) (z : Start) (s t : State) (observed : List NodeId) → Entry F z s → Moves F z s t → RootsAre t observed → Quiet t
    → ((p : Point) → t.heap p ≡ true → ⊥) → Ended F z t observed

-- once strict, each link is in Depends, and what is needed is met
abbrev pub StrictIsMet : Type 0
StrictIsMet = (F : Functions) (z : Start) (s t : State) → Entry F z s → Moves F z s t → t.retries ≡ 0
    → ((p q : Point) → Linked t p q → Depends F t.graph t.died p q) × ((p : Point) → t.needed p ≡ true → MetNow F z t.graph t.died t.root p)

-- what dies wasn't settled
abbrev pub DeadWereUnsettled : Type 0
DeadWereUnsettled =
    (F : Functions) (z : Start) (s t : State) → Entry F z s → Moves F z s t → (b : NodeId) (now : Outcome) (m : Remade) → Rebuild F z t b now m
    → (p : Point) → t.settled p ≡ true → Inside t.graph b p.node → ⊥

-- moves that settle one more of the points leave fewer that aren't
abbrev pub SettlingFalls : Type 0
SettlingFalls =
    (F : Functions) (z : Start) (s t : State) → Moves F z s t → (points : List Point) (p : Point) → Among p points → s.settled p ≡ false
    → t.settled p ≡ true
    → unsettled t.settled points < unsettled s.settled points

-- a main that is taken wasn't settled
abbrev pub MainsOnce : Type 0
MainsOnce = (F : Functions) (z : Start) (s t : State) → Entry F z s → Moves F z s t → (n : NodeId) → t.heap (main n) ≡ true
    → t.settled (main n) ≡ false

-- no point is unsettled by a move
abbrev pub SettledStays : Type 0
SettledStays = (F : Functions) (z : Start) (s t : State) → Moves F z s t → (p : Point) → s.settled p ≡ true → t.settled p ≡ true

-- what nodes gave that were given before
abbrev pub GivesAs : Functions → State → State → Type 0
GivesAs F s t = (s.given ≤ t.given)
    × ((n : NodeId) → Given s.given n → (o : Outcome) → (NodeGives F s.graph n o → NodeGives F t.graph n o)
    × (NodeGives F t.graph n o → NodeGives F s.graph n o))

-- a round changes what no node gives
abbrev pub GivesStay : Type 0
GivesStay = (F : Functions) (z : Start) (s t : State) → Moves F z s t → GivesAs F s t

-- a live point with all its links, which are what it depends on; it stands, and they are exact
pub record IsReady (F : Functions) (s : State) (p : Point) : Type 0 where
  pub row : Row
  pub is_row : s.graph.row p.node ≡ Some row
  pub full : s.stage p ≡ Full
  pub exact : (q : Point) → Linked s p q → Exact F s.graph s.out q
  pub stands : Stands F s.graph row.scope
  pub links : (q : Point) → (Linked s p q → Depends F s.graph s.died p q) × (Depends F s.graph s.died p q → Linked s p q)

-- what is taken is ready
abbrev pub TakenIsReady : Type 0
TakenIsReady = (F : Functions) (z : Start) (s t : State) → Entry F z s → Moves F z s t → Quiet t → (p : Point) → IsLeast t p → IsReady F t p

-- a round that ended is right without its dead, and another one may begin
abbrev pub RoundAgain : Type 0
RoundAgain =
    (F : Functions) (z : Start) (s t : State) (observed : List NodeId) → Entry F z s → Moves F z s t → RootsAre t observed → Quiet t
    → ((p : Point) → t.heap p ≡ true → ⊥)
    → (root' : Point → ℕ) (links' : Point → Point → ℕ) (needed' : Point → Bool) → Close t observed root' links' needed'
    → Entry F (next_start z t needed') (closed t root' links' needed') × Ended F (next_start z t needed') (closed t root' links' needed') observed

-- what a round doesn't touch of a given node: its row, unless it dies, and what the graph keeps beside
pub record GraphStays (count later : ℕ) (G G' : Graph) : Type 0 where
  pub given : count ≤ later
  pub clock : G'.now ≡ G.now
  pub frozen : (n : NodeId) → Given count n → G'.frozen n ≡ G.frozen n
  pub lists : (n : NodeId) → Given count n → G'.lists n ≡ G.lists n
  pub rows : (n : NodeId) → Given count n → (G'.row n ≡ G.row n) ⊎ (G'.row n ≡ None)

-- a round leaves all that of the nodes that were given
abbrev pub RestStays : Type 0
RestStays = (F : Functions) (z : Start) (s t : State) → Moves F z s t → GraphStays s.given t.given s.graph t.graph

-- the main of a live node is needed and has all its links
abbrev pub Attached : State → NodeId → Type 0
Attached s n = (s.needed (main n) ≡ true) × (s.stage (main n) ≡ Full) × (r : Row) × (s.graph.row n ≡ Some r)

-- the move is a cut
abbrev pub IsCut : {F : Functions} {z : Start} {s t : State} → Move F z s t → Type 0
IsCut (cut d w e) = Unit {0}
IsCut m = ⊥

-- only a cut takes a main's links
abbrev pub AttachedStays : Type 0
AttachedStays = (F : Functions) (z : Start) (s t : State) (m : Move F z s t) → (IsCut m → ⊥) → (n : NodeId) → Attached s n → Attached t n

-- a change that is taken though it was settled wakes its own main alone, and only where that has no right side yet
abbrev pub AgainWakesMain : Type 0
AgainWakesMain =
    (F : Functions) (z : Start) (s t : State) → Entry F z s → Moves F z s t → Quiet t → (n : NodeId) (o : Outcome) (todo' : Point → Bool)
    → StepChange F t n o todo' → t.settled (change n) ≡ true
    → (a : Point) → todo' a ≡ true → (a ≡ main n) × (t.stage a ≡ Static)

-- a bind that died, or is built for what its left gives
abbrev pub BuiltRight : Functions → Graph → NodeId → Type 0
BuiltRight F G b = (G.row b ≡ None)
    ⊎ ((r : Row) × (l : NodeId) × (f : FnRef) × (caps : List NodeId) × (w : Built) × (G.row b ≡ Some r) × (r.def ≡ Bind l f caps)
    × (G.built b ≡ Some w) × NodeGives F G l w.outcome)

-- a bind whose change was taken is so, it stays so, and it isn't due again
abbrev pub BuildsOnce : Type 0
BuildsOnce =
    (F : Functions) (z : Start) (s t u : State) (b : NodeId) (o : Outcome) (todo' : Point → Bool) (r : Row) (l : NodeId) (f : FnRef)
    (caps : List NodeId) → Entry F z s → Moves F z s t → Quiet t
    → StepChange F t b o todo' → t.graph.row b ≡ Some r → r.def ≡ Bind l f caps → Given t.given b → Moves F z (changed t b o todo') u
    → (now : Outcome) → IsDue F u.graph b now → ⊥
