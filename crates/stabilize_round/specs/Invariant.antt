-- What holds before and after each step of a round.
use Rattle.std.specs.Prelude.{◌≡◌, ◌⊎◌, Bool, ◌<◌, ◌≤◌, ◌+◌, ℕ, true, false, List, [], Option, None, Some, IsSome}
use Rattle.inc_value.specs.declared.function.FnRef.{FnRef}
use Rattle.inc_value.specs.declared.node.NodeId.{NodeId}
use Rattle.inc_value.specs.declared.node.Part.TheVariants.{Change, Main}
use Rattle.inc_value.specs.declared.node.Point.{Point}
use Rattle.inc_value.specs.declared.outcome.Outcome.{Outcome}
use Rattle.inc_value.specs.declared.value.Value.{Value}
use Rattle.inc_value.specs.Choice.{Among, NoRepeats, Reaches}
use Rattle.map_nodes.specs.declared.cutoff.Cutoff.{Cutoff}
use Rattle.inc_terms.specs.Term.{Functions, refs}
use Rattle.inc_terms.specs.Graph.{Graph, Row, Built, Bind}
use Rattle.inc_terms.specs.Evaluate.{Values, gathered, GiveAll, Stands}
use Rattle.inc_terms.specs.Depend.{Depends, main, change, subject_of}
use Rattle.inc_terms.specs.Local.{shown, by_sight, Agrees, Exact, Scoped, IsRooted, IsBuilt}
use Rattle.inc_terms.specs.Plan.{targets}
use Rattle.inc_terms.specs.Work.{taken_by}
use Rattle.stabilize_round.specs.Calling.{Reason, IsAnswer, cost_at, costs_of}
use Rattle.stabilize_round.specs.Freezing.{fires}
use Rattle.stabilize_round.specs.Counts.{RoseBy}
use Rattle.stabilize_round.specs.State.{State, Start, Call, Stage, Bare, Gated, Static, Full, count, plan_at}

-- ---- links and need

-- need is what the roots reach; heights rise along links, and are at most 128; what is in the heap is needed
pub record WebOf (links : Point → Point → ℕ) (root : Point → ℕ) (needed : Point → Bool) (height : Point → ℕ) (queue : Point → Bool) : Type 0 where
  pub from : (p q : Point) → 0 < links p q → needed p ≡ true
  pub onto : (p q : Point) → 0 < links p q → needed q ≡ true
  pub rooted : (p : Point) → 0 < root p → needed p ≡ true
  pub reached : (p : Point) → needed p ≡ true → (r : Point) × (0 < root r) × Reaches (λ (a b : Point). 0 < links a b) r p
  pub rises : (p q : Point) → 0 < links p q → height q < height p
  pub low : (p : Point) → height p ≤ 128
  pub heap : (p : Point) → queue p ≡ true → needed p ≡ true

-- those of a state
abbrev pub Web : State → Type 0
Web s = WebOf s.links s.root s.needed s.height s.heap

-- what is in the heap is live
abbrev pub Alive : State → Type 0
Alive s = (p : Point) → s.heap p ≡ true → (r : Row) × (s.graph.row p.node ≡ Some r)

-- a needed point's links, with those that are owed, are its stage's
pub record RowsOf (G : Graph) (out : Point → Option Outcome) (died : NodeId → Option NodeId) (linked : Point → Point → ℕ) (needed : Point → Bool)
    (stage : Point → Stage) (debts : Point → List Point) (todo : Point → Bool) : Type 0 where
  pub links : (p q : Point) → needed p ≡ true
      → linked p q + count q (debts p) ≡ count q (plan_at G out died p (G.row p.node) (stage p))
  pub bare : (p : Point) → needed p ≡ true → stage p ≡ Bare → todo p ≡ true
  pub owed : (p : Point) → todo p ≡ false → debts p ≡ []

-- those of a state
abbrev pub Rows : State → Type 0
Rows s = RowsOf s.graph s.out s.died s.links s.needed s.stage s.owed s.todo

-- each built bind has a root that reads back as its function's term, or none for Invalid
abbrev pub Rooted : Functions → Graph → Type 0
Rooted F G =
    (n : NodeId) (r : Row) (l : NodeId) (f : FnRef) (captures : List NodeId) (w : Built) → G.row n ≡ Some r → r.def ≡ Bind l f captures
    → G.built n ≡ Some w
    → IsRooted F G n f captures w

-- a node that stands in a scope stands in that of a bind that is built, and has a root
abbrev pub ScopesRooted : Graph → Type 0
ScopesRooted G = (n : NodeId) (r : Row) (b : NodeId) → G.row n ≡ Some r → r.scope ≡ Some b → (w : Built) × (G.built b ≡ Some w) × IsSome w.root

-- a bind whose change has run is built for that outcome
abbrev pub BuiltFor : Functions → State → Type 0
BuiltFor F s = (n : NodeId) (r : Row) (o : Outcome) → s.graph.row n ≡ Some r → s.out (change n) ≡ Some o → IsBuilt F s.graph n r.def o

-- ---- waiting

-- what waits outside the worklist waits for a change that is in the heap
pub record WaitsOf (G : Graph) (needed heap settled : Point → Bool) (stage : Point → Stage) (todo : Point → Bool) : Type 0 where
  pub gated : (p : Point) (r : Row) → G.row p.node ≡ Some r → needed p ≡ true → todo p ≡ false → stage p ≡ Gated
      → (b : NodeId) × (r.scope ≡ Some b) × (settled (change b) ≡ false) × (heap (change b) ≡ true)
  pub static : (p : Point) (r : Row) → G.row p.node ≡ Some r → needed p ≡ true → todo p ≡ false → stage p ≡ Static
      → (p.part ≡ Main) × (m : NodeId) × (subject_of r.def ≡ Some m) × (heap (change p.node) ≡ true)

-- those of a state
abbrev pub Waits : State → Type 0
Waits s = WaitsOf s.graph s.needed s.heap s.settled s.stage s.todo

-- ---- outcomes

-- the main of a node that calls its function, whose kids show values, was last called on these
abbrev pub Recalls : Graph → (Point → Option Outcome) → (NodeId → Option Call) → Point → Type 0
Recalls G see last p =
    (r : Row) (kids : List NodeId) (values : List Value) → G.row p.node ≡ Some r → p.part ≡ Main → taken_by G p.node r.def ≡ Some kids
    → gathered (by_sight see) (refs kids) ≡ Values values
    → (c : Call) × (last p.node ≡ Some c) × (c.arguments ≡ values)

-- the main isn't that of a node that was made stale
abbrev pub IsUnmarked : (NodeId → Bool) → Point → Type 0
IsUnmarked stale p = p.part ≡ Main → stale p.node ≡ false

-- a point has all its links and agrees with them, its function was last called on what they show, and it wasn't made stale
abbrev pub IsRight : Functions → State → Point → Type 0
IsRight F s p = (s.stage p ≡ Full) × Agrees F s.graph s.out p × Recalls s.graph (shown s.graph s.out) s.last p × IsUnmarked s.stale p

-- a needed live point is in the heap, or settled, or agrees
abbrev pub Fresh : Functions → State → Type 0
Fresh F s = (p : Point) (r : Row) → s.graph.row p.node ≡ Some r → s.needed p ≡ true → (s.heap p ≡ true) ⊎ (s.settled p ≡ true) ⊎ IsRight F s p

-- a settled point is live, agrees and is exact, and so is all that it depends on
pub record IsDone (F : Functions) (G : Graph) (out : Point → Option Outcome) (died : NodeId → Option NodeId) (last : NodeId → Option Call)
    (p : Point) : Type 0 where
  pub row : Row
  pub is_row : G.row p.node ≡ Some row
  pub agrees : Agrees F G out p
  pub recalls : Recalls G (shown G out) last p
  pub exact : Exact F G out p
  pub below : (q : Point) → Depends F G died p q → Exact F G out q

-- settled points are so, and only changes are settled and in the heap again
pub record SettledOf (F : Functions) (G : Graph) (out : Point → Option Outcome) (died : NodeId → Option NodeId) (last : NodeId → Option Call)
    (settled heap : Point → Bool) : Type 0 where
  pub done : (p : Point) → settled p ≡ true → IsDone F G out died last p
  pub twice : (p : Point) → settled p ≡ true → heap p ≡ true → p.part ≡ Change

-- those of a state
abbrev pub Settled : Functions → State → Type 0
Settled F s = SettledOf F s.graph s.out s.died s.last s.settled s.heap

-- ---- what was tried

-- once strict, where no link may be tried again, what is linked beyond a gate has a settled gate, and a right link a settled change
pub record StrictOf (G : Graph) (out : Point → Option Outcome) (needed settled : Point → Bool) (stage : Point → Stage) (retries : ℕ) : Type 0 where
  pub gates : retries ≡ 0 → (p : Point) (r : Row) (b : NodeId) → G.row p.node ≡ Some r → needed p ≡ true → r.scope ≡ Some b
      → (stage p ≡ Static) ⊎ (stage p ≡ Full) → settled (change b) ≡ true
  pub rights : retries ≡ 0 → (n : NodeId) (r : Row) (q : Point) → G.row n ≡ Some r → needed (main n) ≡ true → stage (main n) ≡ Full
      → Among q (targets G n r.def (out (change n))) → settled (change n) ≡ true

-- those of a state
abbrev pub Strict : State → Type 0
Strict s = StrictOf s.graph s.out s.needed s.settled s.stage s.retries

-- what was settled last is settled
abbrev pub LastSettled : State → Type 0
LastSettled s = (p : Point) → s.taken ≡ Some p → s.settled p ≡ true

-- reached over Depends from the roots, or from what was held, lives and stands
pub data MetNow (F : Functions) (z : Start) (G : Graph) (died : NodeId → Option NodeId) (root : Point → ℕ) (p : Point) : Type 0 where
  from_root : {r : Point} → 0 < root r → Reaches (Depends F G died) r p → MetNow F z G died root p
  from_held : {h : Point} {r : Row} → z.held h ≡ true → G.row h.node ≡ Some r → Stands F G r.scope → Reaches (Depends F G died) h p
      → MetNow F z G died root p

-- what is needed is met, or was held; in the worklist it is met
pub record MeetsOf (F : Functions) (z : Start) (G : Graph) (died : NodeId → Option NodeId) (root : Point → ℕ) (need work : Point → Bool) : Type 0 where
  pub needed : (p : Point) → need p ≡ true → MetNow F z G died root p ⊎ (z.held p ≡ true)
  pub todo : (p : Point) → need p ≡ true → work p ≡ true → MetNow F z G died root p

-- those of a state
abbrev pub Meets : Functions → Start → State → Type 0
Meets F z s = MeetsOf F z s.graph s.died s.root s.needed s.todo

-- ---- calls

-- a node whose function was called: on what its kids give, with a reason by what the round began with
pub record HasCalled (F : Functions) (z : Start) (G : Graph) (died : NodeId → Option NodeId) (root : Point → ℕ) (settled : Point → Bool)
    (last : NodeId → Option Call) (n : NodeId) : Type 0 where
  pub row : Row
  pub kids : List NodeId
  pub values : List Value
  pub result : Value
  pub is_row : G.row n ≡ Some row
  pub takes : taken_by G n row.def ≡ Some kids
  pub is_settled : settled (main n) ≡ true
  pub met : MetNow F z G died root (main n)
  pub gives : GiveAll F G kids values
  pub is_last : last n ≡ Some (record { arguments = values; result = result })
  pub answers : IsAnswer F row.def values result
  pub reason : Reason z.last z.cutoff settled z.stale n kids values

-- each function was called for a node once at most, with one call at least; for others their last calls stay, but for a node that takes no call: a fold
-- of no nodes keeps that it was computed on none. What calls gave is what the function gives; cutoffs stay; a node is marked stale until its main is
-- settled, and then its function was called where its children give values and it takes a call; no freeze fires by what it was last called on when the
-- round began
pub record AccountsOf (F : Functions) (z : Start) (G : Graph) (died : NodeId → Option NodeId) (root : Point → ℕ) (settled : Point → Bool)
    (last : NodeId → Option Call) (cutoff : NodeId → Cutoff) (stale : NodeId → Bool) (ran : List NodeId) (calls : ℕ) : Type 0 where
  pub once : NoRepeats ran
  pub called : (n : NodeId) → Among n ran → HasCalled F z G died root settled last n
  pub costs : (n : NodeId) → Among n ran → 0 < cost_at G n
  pub kept : (n : NodeId) (r : Row) → G.row n ≡ Some r → (Among n ran → ⊥)
      → (last n ≡ z.last n) ⊎ (HasCalled F z G died root settled last n × (cost_at G n ≡ 0))
  pub count : RoseBy z.calls (costs_of G ran) calls
  pub answers : (n : NodeId) (r : Row) (kids : List NodeId) (c : Call) → G.row n ≡ Some r → taken_by G n r.def ≡ Some kids → last n ≡ Some c
      → IsAnswer F r.def c.arguments c.result
  pub cutoffs : (n : NodeId) → cutoff n ≡ z.cutoff n
  pub marked : (n : NodeId) → settled (main n) ≡ false → stale n ≡ z.stale n
  pub unmarked : (n : NodeId) → settled (main n) ≡ true → stale n ≡ false
  pub renewed : (n : NodeId) (r : Row) (kids : List NodeId) (values : List Value) → z.stale n ≡ true → settled (main n) ≡ true
      → G.row n ≡ Some r → taken_by G n r.def ≡ Some kids → GiveAll F G kids values → 0 < cost_at G n → Among n ran
  pub unfired : (n : NodeId) (r : Row) → G.row n ≡ Some r → fires r.def (G.frozen n) (z.last n) ≡ None

-- those of a state
abbrev pub Accounts : Functions → Start → State → Type 0
Accounts F z s = AccountsOf F z s.graph s.died s.root s.settled s.last s.cutoff s.stale s.ran s.calls

-- ---- all

-- what holds before and after each move
pub record Invariant (F : Functions) (z : Start) (s : State) : Type 0 where
  pub web : Web s
  pub alive : Alive s
  pub rows : Rows s
  pub scoped : Scoped s.graph
  pub rooted : Rooted F s.graph
  pub built : BuiltFor F s
  pub waits : Waits s
  pub fresh : Fresh F s
  pub settled : Settled F s
  pub strict : Strict s
  pub last_settled : LastSettled s
  pub met : Meets F z s
  pub accounts : Accounts F z s
