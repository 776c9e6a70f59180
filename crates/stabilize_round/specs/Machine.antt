-- A round: what it begins with, its moves, and runs of them.
use Rattle.std.specs.Prelude.{◌≡◌, ◌⊎◌, ◌<◌, ◌+◌, ℕ, true, false, Bool, List, [], Option, None, Some}
use Rattle.inc_value.specs.declared.node.NodeId.{NodeId}
use Rattle.inc_value.specs.declared.node.Point.{Point}
use Rattle.inc_value.specs.declared.outcome.Outcome.{Outcome}
use Rattle.inc_value.specs.Choice.{Reaches}
use Rattle.inc_terms.specs.Term.{Functions}
use Rattle.inc_terms.specs.Graph.{Row}
use Rattle.inc_terms.specs.Within.{Given}
use Rattle.inc_terms.specs.Depend.{main}
use Rattle.inc_terms.specs.Local.{shown, Agrees, Scoped}
use Rattle.inc_terms.specs.Work.{taken_by}
use Rattle.stabilize_round.specs.Calling.{IsAnswer, cost_at}
use Rattle.stabilize_round.specs.Freezing.{fires_at}
use Rattle.stabilize_round.specs.Counts.{RoseBy, RoseAtMost}
use Rattle.stabilize_round.specs.State.{State, Start, Call, Stage, Bare, Full, all_retries, count, planned}
use Rattle.stabilize_round.specs.Invariant.{Recalls, IsUnmarked, Web, Alive, Rooted, BuiltFor, Strict}
use Rattle.stabilize_round.specs.Moves.{Quiet, IsLeast, Enqueues, CallIsDue, computed, StepMain, changed, StepChange}
use Rattle.stabilize_round.specs.Rebuilding.{Remade, remade, builds_of, Rebuild, IsBuiltAnew}
use Rattle.stabilize_round.specs.Wire.{linked, newly, rooted, IsIt, Link, levelled, Level, raised, Raise, finished, Finish, heaped, Schedule}
use Rattle.stabilize_round.specs.Wire.{spent, dropped, Drop, swept, Sweep}

-- a round begins: all that is needed has the links of the last stage, but for those of the worklist, which are owed some (a list of children that grew
-- since); and it is in the heap or agrees
pub record Entry (F : Functions) (z : Start) (s : State) : Type 0 where
  pub web : Web s
  pub alive : Alive s
  pub links : (p q : Point) → s.needed p ≡ true → s.links p q + count q (s.owed p) ≡ count q (planned s p)
  pub full : (p : Point) (r : Row) → s.graph.row p.node ≡ Some r → s.needed p ≡ true → s.stage p ≡ Full
  pub bare : (p : Point) → s.needed p ≡ true → s.stage p ≡ Bare → ⊥
  pub scoped : Scoped s.graph
  pub rooted : Rooted F s.graph
  pub built : BuiltFor F s
  pub fresh : (p : Point) (r : Row) → s.graph.row p.node ≡ Some r → s.needed p ≡ true → (s.heap p ≡ true)
      ⊎ (Agrees F s.graph s.out p × Recalls s.graph (shown s.graph s.out) s.last p × IsUnmarked s.stale p)
  pub settled : (p : Point) → s.settled p ≡ false
  pub owed : (p : Point) → s.todo p ≡ false → s.owed p ≡ []
  pub todo : (p : Point) → s.needed p ≡ true → s.todo p ≡ true → (r : Row) × (s.graph.row p.node ≡ Some r) × (r.scope ≡ None)
  pub retries : s.retries ≡ all_retries
  pub ran : s.ran ≡ []
  pub taken : s.taken ≡ None
  pub died : (n : NodeId) → s.died n ≡ None
  pub held : (p : Point) → z.held p ≡ s.needed p
  pub last : (n : NodeId) → z.last n ≡ s.last n
  pub calls : z.calls ≡ s.calls
  pub cutoff : (n : NodeId) → z.cutoff n ≡ s.cutoff n
  pub stale : (n : NodeId) → z.stale n ≡ s.stale n
  pub answers : (n : NodeId) (r : Row) (kids : List NodeId) (c : Call) → s.graph.row n ≡ Some r → taken_by s.graph n r.def ≡ Some kids
      → s.last n ≡ Some c
      → IsAnswer F r.def c.arguments c.result
  pub unfired : (n : NodeId) → fires_at s n ≡ None

-- a move: a main is computed, a change is settled, a link or a root is put on, a point of the worklist goes up a stage or leaves it, more is put into
-- the heap, a point goes back to a lower stage, a bind is built anew, heights change, or fewer links may be tried again from then on
pub data Move (F : Functions) (z : Start) (s t : State) : Type 0 where
  step_main : {n : NodeId} {o : Outcome} {heap' : Point → Bool} {last' : Option Call} {called : Bool} {calls' : ℕ} → Quiet s
      → StepMain F s n o heap' last' called calls' → t ≡ computed s n o heap' last' called calls' → Move F z s t
  step_change : {n : NodeId} {o : Outcome} {todo' : Point → Bool} → Quiet s → StepChange F s n o todo' → t ≡ changed s n o todo' → Move F z s t
  link : {p q : Point} {rest : List Point} {height' : Point → ℕ} → Link F s p q rest height' → s.needed q ≡ true → t ≡ linked s p q rest height'
      → Move F z s t
  link_new : {p q : Point} {rest : List Point} {height' : Point → ℕ} {heap' : Point → Bool} → Link F s p q rest height' → s.needed q ≡ false
      → Enqueues s s.heap heap' (IsIt s q) (IsIt s q)
      → t ≡ newly (linked s p q rest height') q heap' → Move F z s t
  root : {p : Point} → s.needed p ≡ true → t ≡ rooted s p → Move F z s t
  root_new : {p : Point} {heap' : Point → Bool} → Given s.given p.node → s.needed p ≡ false → Enqueues s s.heap heap' (IsIt s p) (IsIt s p) → t ≡ newly (rooted s p) p heap'
      → Move F z s t
  raise : {p : Point} {st : Stage} {extra : List Point} → Raise s p st extra → t ≡ raised s p st extra → Move F z s t
  finish : {p : Point} → Finish s p → t ≡ finished s p → Move F z s t
  schedule : {heap' : Point → Bool} → Schedule s heap' → t ≡ heaped s heap' → Move F z s t
  cut : {p : Point} {r : Row} {st : Stage} {row' : Point → ℕ} {needed' : Point → Bool} {links' : Point → Point → ℕ} {heap' : Point
      → Bool} {owed' : Point → List Point}
      → Drop s p r st row' → Sweep (dropped s p st row') needed' links' heap' owed' → t ≡ swept (dropped s p st row') needed' links' heap' owed'
      → Move F z s t
  rebuild : {b : NodeId} {now : Outcome} {m : Remade} → (r : Rebuild F z s b now m)
      → IsBuiltAnew F m.graph b r.due.function r.due.captures now → RoseBy s.builds (builds_of now) m.builds → t ≡ remade s m
      → Move F z s t
  level : {height' : Point → ℕ} → Level s height' → t ≡ levelled s height' → Move F z s t
  spend : {left : ℕ} → left < s.retries → Strict (spent s left) → t ≡ spent s left → Move F z s t

-- the count of calls is another
abbrev pub called_more : State → ℕ → State
called_more s calls' = record s { calls = calls' }

-- how a round stops that is refused: as it is; with a bind whose scope died and that couldn't be built, where nobody stands in its scope; or with calls
-- of a least point's function, which was due, whose result couldn't be kept
pub data Stops (F : Functions) (z : Start) (s t : State) : Type 0 where
  as_it_is : t ≡ s → Stops F z s t
  unbuilt : {b : NodeId} {now : Outcome} {m : Remade} → Rebuild F z s b now m → m.graph.built b ≡ None
      → ((n : NodeId) (r : Row) → m.graph.row n ≡ Some r → r.scope ≡ Some b → ⊥) → RoseAtMost s.builds (builds_of now) m.builds → t ≡ remade s m → Stops F z s t
  unkept : {n : NodeId} {r : Row} {calls' : ℕ} → Quiet s → IsLeast s (main n) → s.graph.row n ≡ Some r
      → CallIsDue s n r.def → RoseAtMost s.calls (cost_at s.graph n) calls' → t ≡ called_more s calls' → Stops F z s t

-- any number of moves
abbrev pub Moves : Functions → Start → State → State → Type 0
Moves F z s t = Reaches (Move F z) s t
