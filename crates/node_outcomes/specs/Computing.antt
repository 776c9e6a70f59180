-- What a node gives by what its children show, and what its function was called on.
use Rattle.std.specs.Prelude.{◌≡◌, ◌≢◌, ◌||◌, ◌⊎◌, ◌++◌, ℕ, zero, suc, Bool, true, false, List, [], ◌∷◌}
use Rattle.std.specs.Prelude.{Option, None, Some, IsSome, option_and_then, is_some, Result, Ok, Err}
use Rattle.std.specs.List.{AllZip}
use Rattle.inc_value.specs.Choice.{Every}
use Rattle.inc_value.specs.declared.ty.Ty.{Ty}
use Rattle.inc_value.specs.declared.ty.Ty.TheVariants as ty
use Rattle.inc_value.specs.declared.function.FnRef.{FnRef}
use Rattle.inc_value.specs.declared.node.NodeId.{NodeId}
use Rattle.inc_value.specs.declared.node.Part.{Part}
use Rattle.inc_value.specs.declared.node.Part.TheVariants.{Main, Change}
use Rattle.inc_value.specs.declared.node.Point.{Point}
use Rattle.inc_value.specs.declared.outcome.Outcome.{Outcome}
use Rattle.inc_value.specs.declared.outcome.Outcome.TheVariants.{Invalid}
use Rattle.inc_value.specs.declared.value.Value.{Value}
use Rattle.inc_terms.specs.Depend.{kids_of, main, change, subject_of, right_of}
use Rattle.inc_terms.specs.Evaluate.{Gathered, Unknown, Values, gathered, given}
use Rattle.inc_terms.specs.Graph.{Graph, Row, Built, Def, Freeze, Expert}
use Rattle.inc_terms.specs.Local.{by_sight, own}
use Rattle.inc_terms.specs.Term.{Functions, refs}
use Rattle.inc_terms.specs.Within.{Given, ValueWithin}
use Rattle.expert_nodes.specs.Experts.{ExpertPlace, SameExperts, Unmarks, expert_at}
use Rattle.point_map.specs.Rows.{Rows, at}
use Rattle.node_arena.specs.Arena.{Arena, row_at}
use Rattle.node_arena.specs.Graph.{Holdings, graph_of}
use Rattle.node_arena.specs.Typing.{Fits, FoldTakes, HasType}
use Rattle.inc_terms.specs.Work.{taken_by}
use Rattle.stabilize_round.specs.Calling.{Reason, IsAnswer, cost_at}
use Rattle.stabilize_round.specs.Counts.{RoseBy, RoseAtMost}
use Rattle.stabilize_round.specs.Moves.{calls_of}
use Rattle.stabilize_round.specs.State.{Call}
use Rattle.inc_value.specs.Value.{type_of}
use Rattle.inc_value.specs.declared.outcome.Outcome.TheVariants.{Val}
use Rattle.point_map.specs.Rows.{KeepsRows}
use Rattle.node_outcomes.specs.Row.{IsRewritten, with_call, with_last, value_in, cutoff_in, settled_in, passes_in, outcome_in}
use Rattle.node_outcomes.specs.LastCall.{Last}
use Rattle.node_outcomes.specs.Progress.{Progress}

-- what is seen of a point by its row: Invalid without one
abbrev pub seen_of : Option Progress → Option Outcome
seen_of None = Some Invalid
seen_of (Some k) = k.outcome

-- what is seen of a point
abbrev pub seen : Rows Progress → Point → Option Outcome
seen rows p = seen_of (at rows p)

-- the value that a node shows, if it shows one
abbrev pub value_shown : Rows Progress → NodeId → Option Value
value_shown rows n = value_in (at rows (main n))

-- the node shows the value
abbrev pub ShowsValue : Rows Progress → NodeId → Value → Type 0
ShowsValue rows n v = value_shown rows n ≡ Some v

-- what is seen of the children of a definition, put together
abbrev pub seen_together : Rows Progress → List NodeId → Gathered
seen_together rows nodes = gathered (by_sight (seen rows)) (refs nodes)

-- what is kept of calls is what the functions give
abbrev pub KeepsAnswers : Functions → Graph → Rows Progress → Type 0
KeepsAnswers F G rows =
    (n : NodeId) (r : Row) (nodes : List NodeId) (k : Progress) (c : Call) → G.row n ≡ Some r → taken_by G n r.def ≡ Some nodes
    → at rows (main n) ≡ Some k → k.last ≡ Some c → IsAnswer F r.def c.arguments c.result

-- one of the nodes was settled in the round that tells even of an outcome that stays, as a test
abbrev pub forced_by : ℕ → Rows Progress → List NodeId → Bool
forced_by round rows [] = false
forced_by round rows (n ∷ ns) = passes_in round (at rows (main n)) || forced_by round rows ns

-- so it is
abbrev pub IsForcedBy : ℕ → Rows Progress → List NodeId → Type 0
IsForcedBy round rows nodes = forced_by round rows nodes ≡ true

-- the last call of a node's function
abbrev pub last_in : Rows Progress → NodeId → Option Call
last_in rows n = option_and_then (λ (k : Progress). k.last) (at rows (main n))

-- why a node's function is called, by which nodes are stale and by what is kept of points in a round
abbrev pub ReasonIn : (NodeId → Bool) → ℕ → Rows Progress → NodeId → List NodeId → List Value → Type 0
ReasonIn stale round rows n nodes values =
    Reason (last_in rows) (λ (m : NodeId). cutoff_in (at rows (main m))) (λ (p : Point). settled_in round (at rows p)) stale n nodes values

-- a node's function is due: its children are seen to show these values, and there is a reason to call it on them
pub record IsSeenDue (G : Graph) (stale : NodeId → Bool) (n : NodeId) (round : ℕ) (rows : Rows Progress) (def : Def) : Type 0 where
  pub nodes : List NodeId
  pub values : List Value
  pub takes : taken_by G n def ≡ Some nodes
  pub shows : seen_together rows nodes ≡ Values values
  pub reason : ReasonIn stale round rows n nodes values

-- what a node's function was last called on after the node was computed: it was due and was called, or that stays
abbrev pub CallsSeen : Functions → Graph → (NodeId → Bool) → NodeId → ℕ → Rows Progress → Def → Option Call → Option Call → Bool → Type 0
CallsSeen F G stale n round rows def last last' false = (last' ≡ last)
    × ((nodes : List NodeId) (values : List Value) → taken_by G n def ≡ Some nodes → seen_together rows nodes ≡ Values values
    → (c : Call) × (last ≡ Some c) × (c.arguments ≡ values) × (ReasonIn stale round rows n nodes values → ⊥))
CallsSeen F G stale n round rows def last last' true =
    (due : IsSeenDue G stale n round rows def) × (result : Value) × (last' ≡ Some (record { arguments = due.values; result = result }))
    × IsAnswer F def due.values result

-- something is seen of all that a main's own function looks at: its children, or its own change and the right side that this chose
pub record LooksAtSeen (rows : Rows Progress) (G : Graph) (n : NodeId) (def : Def) : Type 0 where
  pub kids : seen_together rows (kids_of G n def) ≡ Unknown → ⊥
  pub choice : IsSome (subject_of def) → IsSome (outcome_in (at rows (change n)))
  pub right : (m : NodeId) (o : Outcome) → outcome_in (at rows (change n)) ≡ Some o → right_of G n def o ≡ Some m → IsSome (seen rows (main m))

-- a live node was computed: its outcome is its own function of what is seen, where something is seen of all that it looks at
pub record IsComputed (F : Functions) (G : Graph) (stale : NodeId → Bool) (round : ℕ) (rows : Rows Progress) (n : NodeId) (o : Outcome)
    (last' : Option Call) (called : Bool) : Type 0 where
  pub row : Row
  pub is_row : G.row n ≡ Some row
  pub kept : Progress
  pub is_kept : at rows (main n) ≡ Some kept
  pub calls : CallsSeen F G stale n round rows row.def kept.last last' called
  pub own : KeepsAnswers F G rows → LooksAtSeen rows G n row.def → own F G (seen rows) n row.def ≡ Some o

-- a live node whose function is called on its children's values
pub record IsCallerAt (G : Graph) (n : NodeId) : Type 0 where
  pub row : Row
  pub nodes : List NodeId
  pub is_row : G.row n ≡ Some row
  pub takes : taken_by G n row.def ≡ Some nodes

-- what computing a node may change: what is kept of points, the nodes whose functions were called in the round, and the count of calls
pub record Noted : Type 0 where
  pub rows : Rows Progress
  pub ran : List NodeId
  pub calls : ℕ

abbrev pub noted : Rows Progress → List NodeId → ℕ → Noted
noted rows ran calls = record { rows = rows; ran = ran; calls = calls }

-- whether a node has the point: a live one has a main, and one of two points a change too
abbrev pub has_part : Option Row → Part → Bool
has_part None part = false
has_part (Some r) Main = true
has_part (Some r) Change = is_some (subject_of r.def)

-- a value of the type that names given nodes alone
pub record IsOfType (a : Arena) (v : Value) (t : Ty) : Type 0 where
  pub type : HasType a v t
  pub within : ValueWithin (Given a.given) v

-- a call's result has its node's type; a freeze's predicate gives a truth value, and was called on values of the type
abbrev pub CallFits : Arena → Def → Ty → Call → Type 0
CallFits a (Freeze kid f) t c = Every (λ v. IsOfType a v t) c.arguments
CallFits a def t c = IsOfType a c.result t

-- the points of live nodes are what has rows; outcomes and calls fit their nodes' types, and so do right sides; a bind that is built for Invalid has no
-- root; what an expert reads is of the type that its function takes
pub record KeepsTypes (arena : Arena) (held : Holdings) (kept : Rows Progress) : Type 0 where
  pub rows : (p : Point) → is_some (at kept p) ≡ has_part (row_at arena p.node) p.part
  pub outcomes : (n : NodeId) (r : Row) (k : Progress) (v : Value) → row_at arena n ≡ Some r → at kept (main n) ≡ Some k
      → k.outcome ≡ Some (Val v) → IsOfType arena v r.ty
  pub rights : (n m : NodeId) (r : Row) (k : Progress) (o : Outcome) → row_at arena n ≡ Some r → at kept (change n) ≡ Some k
      → k.outcome ≡ Some o → right_of (graph_of arena held) n r.def o ≡ Some m → Given arena.given m × Fits arena m r.ty
  pub rootless : (n : NodeId) (w : Built) → held.built n ≡ Some w → w.outcome ≡ Invalid → w.root ≡ None
  pub calls : (n : NodeId) (r : Row) (k : Progress) (c : Call) → row_at arena n ≡ Some r → at kept (main n) ≡ Some k
      → k.last ≡ Some c → CallFits arena r.def r.ty c
  pub lists : (n : NodeId) (r : Row) (f : FnRef) (v : Value) (ns : List NodeId) → row_at arena n ≡ Some r → r.def ≡ Expert f v ns
      → FoldTakes arena r.ty (held.lists n) f.sig.takes

-- a node is an expert
abbrev pub is_expert_def : Def → Bool
is_expert_def (Expert f v ns) = true
is_expert_def def = false

abbrev pub is_expert : Option Row → Bool
is_expert None = false
is_expert (Some r) = is_expert_def r.def

-- the experts of an arena are those that were created
abbrev pub AreExperts : Arena → List ExpertPlace → Type 0
AreExperts arena experts = (n : NodeId) → is_some (expert_at experts n) ≡ is_expert (row_at arena n)

-- the nodes whose functions were called, with this one where so many calls are one at least
abbrev pub ran_then : ℕ → List NodeId → NodeId → List NodeId
ran_then zero ran n = ran
ran_then (suc k) ran n = ran ++ n ∷ []

-- a live node was computed: what its function was last called on is kept, the node is listed where a call was made, and the count of calls rose so
pub record Computes (F : Functions) (arena : Arena) (held : Holdings) (stale : NodeId → Bool) (round : ℕ) (old new : Noted) (n : NodeId) (o : Outcome)
    : Type 0 where
  pub last : Option Call
  pub called : Bool
  pub computed : IsComputed F (graph_of arena held) stale round old.rows n o last called
  pub row : IsRewritten old.rows new.rows (main n) (with_last last)
  pub ran : new.ran ≡ ran_then (calls_of called (cost_at (graph_of arena held) n)) old.ran n
  pub count : RoseBy old.calls (calls_of called (cost_at (graph_of arena held) n)) new.calls
  pub typed : (r : Row) (v : Value) → row_at arena n ≡ Some r → o ≡ Val v → IsOfType arena v r.ty
  pub answer_typed : (r : Row) (c : Call) → row_at arena n ≡ Some r → last ≡ Some c → CallFits arena r.def r.ty c

-- calls of a node's function, which was due: some of those that it takes
pub record HasCalledSome (G : Graph) (stale : NodeId → Bool) (n : NodeId) (round : ℕ) (rows : Rows Progress) (before after : ℕ) : Type 0 where
  pub row : Row
  pub is_row : G.row n ≡ Some row
  pub kept : Progress
  pub is_kept : at rows (main n) ≡ Some kept
  pub due : IsSeenDue G stale n round rows row.def
  pub count : RoseAtMost before (cost_at G n) after

-- without memory nothing is kept of it; where its function was due, some of the calls that it takes may have been made
pub record NotComputed (G : Graph) (stale : NodeId → Bool) (round : ℕ) (old new : Noted) (n : NodeId) : Type 0 where
  pub rows : KeepsRows old.rows new.rows
  pub ran : new.ran ≡ old.ran
  pub count : (new.calls ≡ old.calls) ⊎ HasCalledSome G stale n round old.rows old.calls new.calls

-- how computing a node ends: it is computed, or there was no memory
abbrev pub Ends : Functions → Arena → Holdings → (NodeId → Bool) → ℕ → Noted → Noted → NodeId → {E : Type 0} → Result Outcome E → Type 0
Ends F arena held stale round old new n (Ok o) = Computes F arena held stale round old new n o
Ends F arena held stale round old new n (Err e) = NotComputed (graph_of arena held) stale round old new n

-- ---- the parts of it

-- without memory nothing is kept of calls, of which so many at most were made
pub record KeepsAllButCount (old new : Noted) (most : ℕ) : Type 0 where
  pub rows : KeepsRows old.rows new.rows
  pub ran : new.ran ≡ old.ran
  pub count : RoseAtMost old.calls most new.calls

-- a node's function was last called so
abbrev pub LastWas : Rows Progress → NodeId → Call → Type 0
LastWas rows n c = last_in rows n ≡ Some c

-- the nodes all show a value
abbrev pub AllShow : Rows Progress → List NodeId → Type 0
AllShow rows nodes = Every (λ (m : NodeId). IsSome (value_shown rows m)) nodes

-- no Text is among the values
abbrev pub HasNoText : List Value → Type 0
HasNoText = Every (λ v. type_of v ≢ ty.Text)

-- a node's function was called on these values, so often: what the calls gave is kept, and the node listed where that is once at least
pub record IsCalled (answer : List Value → Value) (t : Ty) (old new : Noted) (n : NodeId) (values : List Value) (o : Outcome) (cost : ℕ) : Type 0 where
  pub outcome : o ≡ Val (answer values)
  pub type : type_of (answer values) ≡ t
  pub row : IsRewritten old.rows new.rows (main n) (with_call (record { arguments = values; result = answer values }))
  pub ran : new.ran ≡ ran_then cost old.ran n
  pub count : RoseBy old.calls cost new.calls

-- how calls of a node's function on these values end: it was called so often, or there was no memory
abbrev pub Calls : (List Value → Value) → Ty → Noted → Noted → NodeId → List Value → ℕ → {E : Type 0} → Result Outcome E → Type 0
Calls answer t old new n values cost (Ok o) = IsCalled answer t old new n values o cost
Calls answer t old new n values cost (Err e) = KeepsAllButCount old new cost

-- a function was called on these values, so often: what the calls gave is kept, with the room that there was, and the node listed where that is once at least
pub record MakesCall (answer : List Value → Value) (t : Ty) (old new : Last) (before after : List NodeId) (calls calls' : ℕ) (n : NodeId)
    (values : List Value) (o : Outcome) (cost : ℕ) : Type 0 where
  pub outcome : o ≡ Val (answer values)
  pub type : type_of (answer values) ≡ t
  pub last : new ≡ record { call = Some (record { arguments = values; result = answer values }); room = old.room }
  pub ran : after ≡ ran_then cost before n
  pub count : RoseBy calls cost calls'

-- without memory all stays but the count
pub record MakesNone (old new : Last) (before after : List NodeId) (calls calls' : ℕ) (most : ℕ) : Type 0 where
  pub last : new ≡ old
  pub ran : after ≡ before
  pub count : RoseAtMost calls most calls'

-- how calls of a function end whose last call was lent
abbrev pub IsMade : (List Value → Value) → Ty → Last → Last → List NodeId → List NodeId → ℕ → ℕ → NodeId → List Value → ℕ → {E : Type 0} → Result Outcome E
    → Type 0
IsMade answer t old new before after calls calls' n values cost (Ok o) = MakesCall answer t old new before after calls calls' n values o cost
IsMade answer t old new before after calls calls' n values cost (Err e) = MakesNone old new before after calls calls' cost

-- the types of values that a function folds from a value on: it takes the type that it gives and the type of each of them
pub record FoldFits (f : FnRef) (from : Value) (values : List Value) : Type 0 where
  pub element : Ty
  pub takes : f.sig.takes ≡ f.sig.gives ∷ element ∷ []
  pub first : type_of from ≡ f.sig.gives
  pub types : Every (λ v. type_of v ≡ element) values

-- a node's function is called on the values of these nodes whatever it was last called on: it is stale, or one of the nodes forces it
abbrev pub MustCall : Bool → ℕ → Rows Progress → List NodeId → Type 0
MustCall stale round rows nodes = (stale ≡ true) ⊎ IsForcedBy round rows nodes

-- what is known of a node's outcome before its function is called: it is Invalid where a child shows no value, and what the last calls gave where the
-- children show what these were made on and nothing asks for a call; else the function is to be called
abbrev pub IsKnown : Bool → ℕ → Rows Progress → NodeId → List NodeId → Option Outcome → Type 0
IsKnown stale round rows n nodes (Some Invalid) = AllShow rows nodes → ⊥
IsKnown stale round rows n nodes (Some (Val v)) =
    (c : Call) × LastWas rows n c × AllZip (ShowsValue rows) nodes c.arguments × (v ≡ c.result) × (MustCall stale round rows nodes → ⊥)
IsKnown stale round rows n nodes None =
    AllShow rows nodes × (((c : Call) → LastWas rows n c → AllZip (ShowsValue rows) nodes c.arguments → ⊥) ⊎ MustCall stale round rows nodes)

-- a node's function is due on the values that these nodes are seen to show
pub record IsDueOn (stale : Bool) (n : NodeId) (round : ℕ) (rows : Rows Progress) (nodes : List NodeId) : Type 0 where
  pub values : List Value
  pub shows : seen_together rows nodes ≡ Values values
  pub reason : ReasonIn (λ (m : NodeId). stale) round rows n nodes values

-- what a node's function was last called on after the node was computed of what these nodes show: it was due and was called, or that stays
abbrev pub CallsOn : (List Value → Value) → Bool → NodeId → ℕ → Rows Progress → List NodeId → Option Call → Option Call → Bool → Type 0
CallsOn answer stale n round rows nodes last last' false = (last' ≡ last)
    × ((values : List Value) → seen_together rows nodes ≡ Values values
    → (c : Call) × (last ≡ Some c) × (c.arguments ≡ values) × (ReasonIn (λ (m : NodeId). stale) round rows n nodes values → ⊥))
CallsOn answer stale n round rows nodes last last' true =
    (due : IsDueOn stale n round rows nodes) × (last' ≡ Some (record { arguments = due.values; result = answer due.values }))

-- a node was computed of what is seen of its children: a value that it gives is what its function gave when it was last called, then or now
pub record ComputesCall (answer : List Value → Value) (t : Ty) (stale : Bool) (round : ℕ) (old new : Noted) (n : NodeId) (nodes : List NodeId) (o : Outcome)
    (cost : ℕ) : Type 0 where
  pub kept : Progress
  pub is_kept : at old.rows (main n) ≡ Some kept
  pub last : Option Call
  pub called : Bool
  pub calls : CallsOn answer stale n round old.rows nodes kept.last last called
  pub gives : ((c : Call) → kept.last ≡ Some c → c.result ≡ answer c.arguments) → (seen_together old.rows nodes ≡ Unknown → ⊥)
      → given answer (seen_together old.rows nodes) ≡ Some o
  pub row : IsRewritten old.rows new.rows (main n) (with_last last)
  pub ran : new.ran ≡ ran_then (calls_of called cost) old.ran n
  pub count : RoseBy old.calls (calls_of called cost) new.calls
  pub shows : (v : Value) → o ≡ Val v → (c : Call) × (last ≡ Some c) × (c.result ≡ v)
  pub answer_typed : (c : Call) → last ≡ Some c
      → (kept.last ≡ Some c) ⊎ ((type_of c.result ≡ t) × AllZip (ShowsValue old.rows) nodes c.arguments)

-- without memory nothing is kept of calls; where some were made, and no more than it takes, the node's function was due
pub record NotCalled (stale : Bool) (round : ℕ) (old new : Noted) (n : NodeId) (nodes : List NodeId) (cost : ℕ) : Type 0 where
  pub rows : KeepsRows old.rows new.rows
  pub ran : new.ran ≡ old.ran
  pub count : (new.calls ≡ old.calls) ⊎ (IsDueOn stale n round old.rows nodes × RoseAtMost old.calls cost new.calls)

-- how computing a node of what is seen of its children ends: it is computed, or there was no memory
abbrev pub CallComputes : (List Value → Value) → Ty → Bool → ℕ → Noted → Noted → NodeId → List NodeId → ℕ → {E : Type 0} → Result Outcome E → Type 0
CallComputes answer t stale round old new n nodes cost (Ok o) = ComputesCall answer t stale round old new n nodes o cost
CallComputes answer t stale round old new n nodes cost (Err e) = NotCalled stale round old new n nodes cost

-- what a node shows, or Invalid where nothing is seen of it
abbrev pub IsShown : Rows Progress → NodeId → Outcome → Type 0
IsShown rows n o = (seen rows (main n) ≡ Some o) ⊎ ((seen rows (main n) ≡ None) × (o ≡ Invalid))

-- how computing a freeze that keeps no value ends: it gives what its child shows, and its predicate was called on that where it had to be; or there was no
-- memory
abbrev pub FreezeComputes : (List Value → Value) → Ty → ℕ → Noted → Noted → NodeId → NodeId → {E : Type 0} → Result Outcome E → Type 0
FreezeComputes answer t round old new n kid (Ok o) =
    (found : Outcome) × IsShown old.rows kid o × ComputesCall answer t false round old new n (kid ∷ []) found 1
FreezeComputes answer t round old new n kid (Err e) = NotCalled false round old new n (kid ∷ []) 1

-- how computing a freeze that keeps a value ends: it gives that, or there was no memory; nothing is called
abbrev pub KeepsOn : Value → Noted → Noted → {E : Type 0} → Result Outcome E → Type 0
KeepsOn v old new (Ok o) = (o ≡ Val v) × (new ≡ old)
KeepsOn v old new (Err e) = new ≡ old

-- ---- experts

-- once a node was computed, the same links are seen of each expert, and the node isn't stale any more; without memory those are stale that were
abbrev pub ExpertsFollow : List ExpertPlace → List ExpertPlace → NodeId → {E : Type 0} → Result Outcome E → Type 0
ExpertsFollow old new n (Ok o) = Unmarks old new n
ExpertsFollow old new n (Err e) = SameExperts old new
