-- What is done to a point that is newly needed, and to one that is linked.
use Rattle.std.specs.Prelude.{◌≡◌, ◌≢◌, ◌⊎◌, ◌↔◌, ◌<◌, ◌≤◌, Bool, true, false, cond, not, ◌&&◌, List, ◌∷◌, Option, None, Some, IsSome, is_some, option_map, ◌++◌, []}
use Rattle.inc_value.specs.declared.node.NodeId.{NodeId}
use Rattle.inc_value.specs.declared.node.Point.{Point}
use Rattle.inc_value.specs.declared.outcome.Outcome.{Outcome}
use Rattle.inc_value.specs.declared.node.Part.TheVariants.{Main}
use Rattle.inc_value.specs.Choice.{Among, Reaches}
use Rattle.inc_terms.specs.Depend.{Depends, main, change, subject_of}
use Rattle.inc_terms.specs.Graph.{Row}
use Rattle.inc_terms.specs.Plan.{targets}
use Rattle.inc_terms.specs.Within.{Given}
use Rattle.inc_terms.specs.Term.{Functions}
use Rattle.inc_terms.specs.Evaluate.{Stands as ScopeStands}
use Rattle.point_map.specs.Rows.{at, Holds, KeepsRows}
use Rattle.link_table.specs.Links.{KeepsLinks, Reads, times}
use Rattle.necessity.specs.Need.{KeepsRoots}
use Rattle.height_order.specs.Levels.{level, KeepsPoints}
use Rattle.necessary_graph.specs.Part.{NecessaryPart, Needed, IsInStep, AlsoNeeded}
use Rattle.node_arena.specs.Arena.{Arena, row_at}
use Rattle.stabilize_round.specs.Invariant.{Invariant}
use Rattle.stabilize_round.specs.Machine.{Move, Moves}
use Rattle.stabilize_round.specs.Steps.{TakingOff, Spends, Wiring, Wired}
use Rattle.stabilize_round.specs.State as machine
use Rattle.stabilize_round.specs.State.{State, Start}
use Rattle.stabilize_round.specs.Wire.{IsConfirmed}
use Rattle.wiring.specs.Graph.{graph_at, HasLinks, died_at}
use Rattle.wiring.specs.Kept.{IsGhostLink}
use Rattle.wiring.specs.Stands.{MatchesState, Counts, PointInHand, hand, IsInHand, owes}
use Rattle.wiring.specs.Deciding.{is_needed}
use Rattle.wiring.specs.Refusing.{TellsWhy}
use Rattle.map_nodes.specs.Cutoff.{IsStopped}
use Rattle.wiring.specs.Experts.{ReadSame}
use Rattle.node_outcomes.specs.Row.{IsRewritten, with_stage, stage_in, settled_in, outcome_in}
use Rattle.wiring.specs.declared.refused.Refused.{Refused}
use Rattle.node_outcomes.specs.Progress.{Progress}
use Rattle.node_outcomes.specs.declared.row.Stage.{Stage}
use Rattle.node_outcomes.specs.declared.row.Stage.TheVariants.{Bare, Gated, Static, Full}
use Rattle.wiring.specs.declared.work.Work.{Work}

-- of the round itself nothing changed, nor did a bind's root, or an expert
pub record KeepsRound (old new : Work) : Type 0 where
  pub roots : new.roots ≡ old.roots
  pub deaths : new.deaths ≡ old.deaths
  pub ran : new.ran ≡ old.ran
  pub retries : new.retries ≡ old.retries
  pub round : new.round ≡ old.round
  pub experts : new.experts ≡ old.experts

-- which nodes are of two points, and which stand in scopes, is listed as before
pub record KeepsLists (old new : Work) : Type 0 where
  pub pairs : new.pairs ≡ old.pairs
  pub scoped : new.scoped ≡ old.scoped

-- points come or go, and experts: links, roots, the heap, the worklist and what belongs to the round stay
pub record GraphStays (old new : Work) : Type 0 where
  pub links : new.graph.links ≡ old.graph.links
  pub roots : new.graph.roots ≡ old.graph.roots
  pub heap : KeepsRows old.graph.heap new.graph.heap
  pub step : IsInStep new.graph
  pub todo : new.todo ≡ old.todo
  pub round : KeepsRound (record old { experts = new.experts }) new

-- links, roots and heights stay
pub record KeepsGraph (old new : NecessaryPart) : Type 0 where
  pub links : new.links ≡ old.links
  pub roots : new.roots ≡ old.roots
  pub heights : new.heights ≡ old.heights

-- a point is in the heap, unless it was settled
pub record IsEnqueued (old new : Work) (q : Point) : Type 0 where
  pub graph : KeepsGraph old.graph new.graph
  pub others : (p : Point) → p ≢ q → at new.graph.heap p ≡ at old.graph.heap p
  pub kept : Holds old.graph.heap q → Holds new.graph.heap q
  pub told : Holds new.graph.heap q ⊎ (settled_in old.round (at old.rows q) ≡ true)
  pub only : Holds new.graph.heap q → Holds old.graph.heap q ⊎ (settled_in old.round (at old.rows q) ≡ false)
  pub step : IsInStep new.graph

-- a needed point is in the heap, and all else stays
pub record IsMarked (old new : NecessaryPart) (p : Point) : Type 0 where
  pub graph : KeepsGraph old new
  pub others : (q : Point) → q ≢ p → at new.heap q ≡ at old.heap q
  pub told : Needed old p → Holds new.heap p
  pub only : Holds new.heap p → Holds old.heap p ⊎ Needed old p

-- so are all points that read this one, and no others are that weren't
pub record AreEnqueued (old new : Work) (q : Point) : Type 0 where
  pub graph : KeepsGraph old.graph new.graph
  pub kept : (r : Point) → Holds old.graph.heap r → Holds new.graph.heap r
  pub told : (r : Point) → Reads old.graph.links r q → Holds new.graph.heap r ⊎ (settled_in old.round (at old.rows r) ≡ true)
  pub only : (r : Point) → Holds new.graph.heap r → Holds old.graph.heap r ⊎ (Reads old.graph.links r q × (settled_in old.round (at old.rows r) ≡ false))

-- readers of a point needn't be told of the outcome, by its cutoff and what it shows
abbrev pub Stops : Work → Point → Outcome → Type 0
Stops work p o = (k : Progress) × (at work.rows p ≡ Some k) × IsStopped k.cutoff k.outcome o

-- where a point's cutoff doesn't stop an outcome, the points that read it are in the heap, unless they were settled; but the point itself was settled now.
-- Where it stops there none comes in
pub record TellsReaders (old new : Work) (p : Point) (o : Outcome) : Type 0 where
  pub kept : (r : Point) → Holds old.graph.heap r → Holds new.graph.heap r
  pub told : (Stops old p o → ⊥) → (r : Point) → Reads old.graph.links r p → Holds new.graph.heap r ⊎ (settled_in new.round (at new.rows r) ≡ true)
  pub only : (r : Point) → Holds new.graph.heap r
      → Holds old.graph.heap r ⊎ (Reads old.graph.links r p × (settled_in new.round (at new.rows r) ≡ false))
  pub stops : Stops old p o → (r : Point) → Holds new.graph.heap r → Holds old.graph.heap r

-- a point that wasn't needed before: one of a live node has no links yet, is in the worklist, and in the heap unless it was settled; one of a node that
-- died in this round is in the worklist
pub record IsNewlyNeeded (old new : Work) (q : Point) : Type 0 where
  pub graph : KeepsGraph old.graph new.graph
  pub others : (p : Point) → p ≢ q → at new.graph.heap p ≡ at old.graph.heap p
  pub kept : Holds old.graph.heap q → Holds new.graph.heap q
  pub told : Holds old.rows q → Holds new.graph.heap q ⊎ (settled_in old.round (at old.rows q) ≡ true)
  pub only : Holds new.graph.heap q → Holds old.graph.heap q ⊎ (Holds old.rows q × (settled_in old.round (at old.rows q) ≡ false))
  pub rows : IsRewritten old.rows new.rows q (with_stage Bare)
  pub listed : HasLinks old q → Among q new.todo.items
  pub pushed : HasLinks old q → new.todo.items ≡ old.todo.items ++ q ∷ []
  pub leaf : at old.rows q ≡ None → died_at old q.node ≡ None → new.todo.items ≡ old.todo.items
  pub todo : (p : Point) → Among p old.todo.items → Among p new.todo.items
  pub lists : KeepsLists old new
  pub round : KeepsRound old new
  pub step : IsInStep new.graph

-- one link more, or one root more: what is reached by it is needed too
pub record IsReached (old new : NecessaryPart) (q : Point) : Type 0 where
  pub needed : AlsoNeeded old new q
  pub points : KeepsPoints old.heap new.heap
  pub step : IsInStep new

-- what a state can tell stays
pub record ShowsSame (old new : Work) : Type 0 where
  pub rows : KeepsRows old.rows new.rows
  pub links : KeepsLinks old.graph.links new.graph.links
  pub roots : KeepsRoots old.graph.roots new.graph.roots
  pub needed : (p : Point) → Needed new.graph p ↔ Needed old.graph p
  pub levels : (p : Point) → level new.graph.heights p ≡ level old.graph.heights p
  pub heap : KeepsPoints old.graph.heap new.graph.heap
  pub todo : new.todo.items ≡ old.todo.items
  pub lists : KeepsLists old new
  pub round : KeepsRound old new

-- a point is one that a link may lead to: it has a row, or is of a dead node that was given
pub record IsTarget (arena : Arena) (work : Work) (q : Point) : Type 0 where
  pub given : Given arena.given q.node
  pub there : Holds work.rows q ⊎ (row_at arena q.node ≡ None)

-- a point has its gate's link alone, if it stands in a scope, and else none yet
abbrev pub LacksLinks : Arena → Work → Point → Type 0
LacksLinks arena work p =
    (r : Row) → row_at arena p.node ≡ Some r
    → (stage_in (at work.rows p) ≡ Some Gated) ⊎ ((stage_in (at work.rows p) ≡ Some Bare) × (r.scope ≡ None))

-- the links of a point are more than that to its gate
abbrev pub HasMore : Option Stage → Type 0
HasMore stage = (stage ≡ Some Static) ⊎ (stage ≡ Some Full)

-- a point of a node in a scope has more than its gate's link only where its gate was settled
abbrev pub IsBehindGate : Arena → Work → Point → Type 0
IsBehindGate arena work p =
    (r : Row) (b : NodeId) → row_at arena p.node ≡ Some r → r.scope ≡ Some b → Needed work.graph p → HasMore (stage_in (at work.rows p))
    → settled_in work.round (at work.rows (change b)) ≡ true

-- a point has no more links than its gate's, where it is needed
abbrev pub IsAtGate : Work → Point → Type 0
IsAtGate work p = Needed work.graph p → HasMore (stage_in (at work.rows p)) → ⊥

-- links come off, and what is needed still stays in the heap
pub record OnlyLoses (old new : NecessaryPart) : Type 0 where
  pub less : (p : Point) → Needed new p → Needed old p
  pub links : (p q : Point) → times new.links p q ≤ times old.links p q
  pub heap : (p : Point) → Holds old.heap p → Needed new p → Holds new.heap p

-- a needed point in the scope of the bind that had more links than its gate's has that alone, and while it is needed the gate that it reads is in the heap
pub record GoesBack (arena : Arena) (old new : Work) (p : Point) (bind : NodeId) : Type 0 where
  pub row : Row
  pub is_row : row_at arena p.node ≡ Some row
  pub is_scope : row.scope ≡ Some bind
  pub more : HasMore (stage_in (at old.rows p))
  pub now : at new.rows p ≡ option_map (with_stage Gated) (at old.rows p)
  pub waits : Needed new.graph p → Reads new.graph.links p (change bind) → Holds new.graph.heap (change bind)

-- so a point was put back whose gate wasn't settled
pub record IsPutBack (arena : Arena) (old new : Work) (p : Point) : Type 0 where
  pub bind : NodeId
  pub back : GoesBack arena old new p bind
  pub unsettled : settled_in old.round (at old.rows (change bind)) ≡ false

-- a point has the link to its gate alone, for which it waits
pub record WaitsFor (work : Work) (p gate : Point) : Type 0 where
  pub reads : Reads work.graph.links p gate
  pub stage : stage_in (at work.rows p) ≡ Some Gated

-- a point isn't a main that a take-off puts back for its own change: one with all its links whose own change wasn't settled
abbrev pub IsSpared : Arena → Work → Point → Type 0
IsSpared arena work p =
    p.part ≡ Main → stage_in (at work.rows p) ≡ Some Full → (r : Row) → row_at arena p.node ≡ Some r → IsSome (subject_of r.def)
    → settled_in work.round (at work.rows (change p.node)) ≡ true

-- the gate's link alone
abbrev pub is_gated : Option Stage → Bool
is_gated (Some Gated) = true
is_gated stage = false

-- a point is needed still, and wasn't put back for its gate, as a test
abbrev pub is_still : Work → Work → Point → Bool
is_still old new p = is_needed new.graph p && not (is_gated (stage_in (at new.rows p)) && not (is_gated (stage_in (at old.rows p))))

-- what is in hand, where a point in hand that isn't needed any more, or was put back, is owed nothing
abbrev pub hand_now : Work → Work → Option PointInHand → Option PointInHand
hand_now old new None = None
hand_now old new (Some h) = cond (is_still old new h.point) (Some h) (Some (hand h.point []))

-- a point in hand isn't put back for its own change; it is needed or owed nothing; and it isn't owed its gate's link behind others, unless the gate ran
pub record IsSparedHand (arena : Arena) (work : Work) (h : PointInHand) : Type 0 where
  pub spared : IsSpared arena work h.point
  pub needed : (h.owed ≡ []) ⊎ Needed work.graph h.point
  pub gate : (r : Row) (b : NodeId) → row_at arena h.point.node ≡ Some r → r.scope ≡ Some b → Among (change b) h.owed
      → HasMore (stage_in (at work.rows h.point)) → settled_in work.round (at work.rows (change b)) ≡ true

-- so it is of what is in hand
abbrev pub HandIsSpared : Arena → Work → Option PointInHand → Type 0
HandIsSpared arena work None = Unit {0}
HandIsSpared arena work (Some h) = IsSparedHand arena work h

-- links of a point were taken off, where they had to be
abbrev pub TakesOne : Arena → Work → Work → Type 0
TakesOne arena old new =
    (F : Functions) (z : Start) (s : State) (counts : Counts) (held : Option PointInHand) → Invariant F z s → HandIsSpared arena old held
    → MatchesState arena old counts held s
    → (t : State) × Reaches (TakingOff F z) s t × MatchesState arena new counts (hand_now old new held) t

-- a node's main that has its right side has it by a change that was settled
abbrev pub IsConfirmedAt : Arena → Work → NodeId → Type 0
IsConfirmedAt arena work n =
    (r : Row) (p : Point) → row_at arena n ≡ Some r → Needed work.graph (main n) → stage_in (at work.rows (main n)) ≡ Some Full
    → Among p (targets (graph_at arena work) n r.def (outcome_in (at work.rows (change n)))) → settled_in work.round (at work.rows (change n)) ≡ true

-- some of what wasn't confirmed, or all, was taken off as moves, and fewer links may be tried again
abbrev pub TakesOff : Arena → Work → Work → Type 0
TakesOff arena old new =
    (F : Functions) (z : Start) (s : State) (counts : Counts) (held : Option PointInHand) → Invariant F z s → 0 < s.retries → HandIsSpared arena old held
    → MatchesState arena old counts held s
    → (t u : State) × Reaches (TakingOff F z) s t × ((m : Move F z t u) × Spends m) × MatchesState arena new counts (hand_now old new held) u

-- a point is owed links that its node was given while it had all others: that node stands in no scope, and is of one point
abbrev pub IsOwing : State → Point → Type 0
IsOwing s a = (s.owed a ≡ [] → ⊥) × ((r : Row) → s.graph.row a.node ≡ Some r → (r.scope ≡ None) × (subject_of r.def ≡ None))

-- each needed point of the worklist, but for the one in hand, has no link yet, or its gate's alone, or is owed some
abbrev pub AreUnlinked : Option PointInHand → State → Type 0
AreUnlinked held s =
    (a : Point) → s.todo a ≡ true → s.needed a ≡ true → (s.stage a ≡ machine.Bare) ⊎ (s.stage a ≡ machine.Gated) ⊎ IsInHand held a ⊎ IsOwing s a

-- the gate of a point ran in this round, if it has one
abbrev pub GateRan : Arena → Work → Point → Type 0
GateRan arena work p =
    (r : Row) (b : NodeId) → row_at arena p.node ≡ Some r → r.scope ≡ Some b → settled_in work.round (at work.rows (change b)) ≡ true

-- a point may be linked to another: it is of a live node, or of one that died in this round, and the other is its gate
abbrev pub MayRead : Work → Point → Point → Type 0
MayRead work p q = Holds work.rows p ⊎ IsGhostLink work p q

-- a point in hand is owed a link first, which it depends on and may have now; it isn't owed its gate's behind others, unless the gate ran
pub record IsDue (F : Functions) (z : Start) (s : State) (arena : Arena) (work : Work) (counts : Counts) (p q : Point) (rest : List Point) : Type 0 where
  pub holds : Invariant F z s
  pub stands : MatchesState arena work counts (Some (hand p (q ∷ rest))) s
  pub depends : Depends F s.graph s.died p q
  pub confirmed : IsConfirmed s p q
  pub gate : (r : Row) (b : NodeId) → row_at arena p.node ≡ Some r → r.scope ≡ Some b → Among (change b) (q ∷ rest)
      → HasMore (stage_in (at work.rows p)) → settled_in work.round (at work.rows (change b)) ≡ true
  pub unlinked : AreUnlinked (Some (hand p [])) s

-- the link was put on at once
abbrev pub Links : Arena → Work → Work → Point → Point → Type 0
Links arena old new p q =
    (F : Functions) (z : Start) (s : State) (counts : Counts) (rest : List Point) → IsDue F z s arena old counts p q rest
    → (t : State) × Reaches (Wiring F z) s t × MatchesState arena new counts (Some (hand p rest)) t × AreUnlinked (Some (hand p [])) t

-- the link was put on
abbrev pub Connects : Arena → Work → Work → Point → Point → Type 0
Connects arena old new p q =
    (F : Functions) (z : Start) (s : State) (counts : Counts) (rest : List Point) → IsDue F z s arena old counts p q rest
    → (t : State) × Wired F z s t × MatchesState arena new counts (Some (hand p rest)) t × AreUnlinked (Some (hand p [])) t

-- the point in hand isn't needed any more, or waits for its gate, and leaves the worklist
abbrev pub LosesNeed : Arena → Work → Work → Point → Point → Type 0
LosesNeed arena old new p q =
    (F : Functions) (z : Start) (s : State) (counts : Counts) (rest : List Point) → IsDue F z s arena old counts p q rest
    → (t : State) × Wired F z s t × MatchesState arena new counts None t × AreUnlinked None t

-- the link was refused: the point in hand is owed it still
abbrev pub ConnectRefused : Arena → Work → Work → Point → Point → Refused → Type 0
ConnectRefused arena old new p q e =
    (F : Functions) (z : Start) (s : State) (counts : Counts) (rest : List Point) → IsDue F z s arena old counts p q rest
    → (t : State) × Wired F z s t × MatchesState arena new counts (Some (hand p (q ∷ rest))) t × TellsWhy F t new (Some (hand p (q ∷ rest))) e

-- the points in the worklist, and the one in hand, were given their links, or wait
abbrev pub Wires : Arena → Work → Work → Option PointInHand → Type 0
Wires arena old new held =
    (F : Functions) (z : Start) (s : State) (counts : Counts) → Invariant F z s → MatchesState arena old counts held s → AreUnlinked held s
    → (t : State) × Wired F z s t × MatchesState arena new counts None t × AreUnlinked None t

-- a point that was taken from the worklist was given its links, or what it was owed, or waits
abbrev pub WiresTaken : Arena → Work → Work → Point → Type 0
WiresTaken arena old new p =
    (F : Functions) (z : Start) (s : State) (counts : Counts) → Invariant F z s → MatchesState arena old counts (Some (hand p (owes old true p))) s
    → AreUnlinked None s
    → (t : State) × Wired F z s t × MatchesState arena new counts None t × AreUnlinked None t

-- the point in hand is still in hand, and is owed nothing
abbrev pub StaysInHand : Arena → Work → Work → Point → Type 0
StaysInHand arena old new p =
    (F : Functions) (z : Start) (s : State) (counts : Counts) → Invariant F z s → MatchesState arena old counts (Some (hand p [])) s
    → AreUnlinked (Some (hand p [])) s
    → (t : State) × Wired F z s t × MatchesState arena new counts (Some (hand p [])) t × AreUnlinked (Some (hand p [])) t

-- some were, and one may be in hand whose link was refused
abbrev pub WireRefused : Arena → Work → Work → Option PointInHand → Refused → Type 0
WireRefused arena old new held e =
    (F : Functions) (z : Start) (s : State) (counts : Counts) → Invariant F z s → MatchesState arena old counts held s → AreUnlinked held s
    → (t : State) × (left : Option PointInHand) × Wired F z s t × MatchesState arena new counts left t × TellsWhy F t new left e

-- the same points are settled
abbrev pub SettlesNone : State → State → Type 0
SettlesNone s t = (q : Point) → t.settled q ≡ s.settled q

-- roots were put on, and what is newly needed was given its links, or it was refused; no point is settled by it
abbrev pub PutsRoots : Arena → Work → Work → Type 0
PutsRoots arena old new =
    (F : Functions) (z : Start) (s : State) (counts : Counts) → Invariant F z s → MatchesState arena old counts None s
    → (t : State) × Moves F z s t × MatchesState arena new counts None t × SettlesNone s t

abbrev pub RootRefused : Arena → Work → Work → Refused → Type 0
RootRefused arena old new e =
    (F : Functions) (z : Start) (s : State) (counts : Counts) → Invariant F z s → MatchesState arena old counts None s
    → (t : State) × (left : Option PointInHand) × Moves F z s t × MatchesState arena new counts left t × TellsWhy F t new left e

-- rows stay where they are, and so do roots, the nodes that died in the round, and its number; experts read what they read
pub record KeepsPlaces (old new : Work) : Type 0 where
  pub rows : (p : Point) → is_some (at new.rows p) ≡ is_some (at old.rows p)
  pub roots : KeepsRoots old.graph.roots new.graph.roots
  pub deaths : new.deaths ≡ old.deaths
  pub round : new.round ≡ old.round
  pub experts : ReadSame old.experts new.experts

-- only heights may be others than before
pub record IsLevelled (old new : Work) : Type 0 where
  pub rows : KeepsRows old.rows new.rows
  pub links : KeepsLinks old.graph.links new.graph.links
  pub roots : KeepsRoots old.graph.roots new.graph.roots
  pub heights : KeepsPoints old.graph.heights new.graph.heights
  pub heap : KeepsPoints old.graph.heap new.graph.heap
  pub step : IsInStep new.graph
  pub todo : new.todo.items ≡ old.todo.items
  pub lists : KeepsLists old new
  pub round : KeepsRound old new

-- in a state in which a change was just settled, a main that waits for it is in the worklist: it is taken in hand, raised, and linked to its right side.
-- The scope of its node stands
pub record IsTurnedIn (F : Functions) (z : Start) (s : State) (arena : Arena) (work : Work) (counts : Counts) (n : NodeId) : Type 0 where
  pub holds : Invariant F z s
  pub taken : s.taken ≡ Some (change n)
  pub scope : (r : Row) → row_at arena n ≡ Some r → ScopeStands F s.graph r.scope
  pub stands : MatchesState arena work counts (Some (hand (main n) [])) s
  pub only : s.todo (main n) ≡ true → (s.needed (main n) ≡ true) × (s.stage (main n) ≡ machine.Static)
  pub wakes : s.needed (main n) ≡ true → s.stage (main n) ≡ machine.Static → s.todo (main n) ≡ true
  pub unlinked : AreUnlinked (Some (hand (main n) [])) s

abbrev pub Attaches : Arena → Work → Work → NodeId → Type 0
Attaches arena old new n =
    (F : Functions) (z : Start) (s : State) (counts : Counts) → IsTurnedIn F z s arena old counts n
    → (t : State) × Wired F z s t × MatchesState arena new counts None t × AreUnlinked None t

abbrev pub AttachRefused : Arena → Work → Work → NodeId → Refused → Type 0
AttachRefused arena old new n e =
    (F : Functions) (z : Start) (s : State) (counts : Counts) → IsTurnedIn F z s arena old counts n
    → (t : State) × (left : Option PointInHand) × Wired F z s t × MatchesState arena new counts left t × TellsWhy F t new left e
