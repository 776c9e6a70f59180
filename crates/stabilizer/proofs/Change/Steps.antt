-- A step of the stabilizer that settles a change is a step of the machine.
use Rattle.std.proofs.Common.{◌≡◌, ◌⊎◌, inl, inr, ◌<◌, true, List, [], Option, None, Some, refl, sym, ap, subst, ◌∙◌, arith}
use Rattle.std.specs.Prelude.{is_some, IsSome}
use Rattle.std.proofs.lemmas.Option.{none-some, same_Some}
use Rattle.inc_value.specs.declared.function.FnRef.{FnRef}
use Rattle.inc_value.specs.declared.node.NodeId.{NodeId}
use Rattle.inc_value.specs.declared.node.Part.TheVariants.{Main}
use Rattle.inc_value.specs.declared.node.Point.{Point}
use Rattle.inc_value.specs.declared.outcome.Outcome.{Outcome}
use Rattle.inc_value.specs.Choice.{Reaches, here, step}
use Rattle.inc_terms.specs.Depend.{main, change, subject_of}
use Rattle.inc_terms.specs.Graph.{Row}
use Rattle.inc_terms.specs.Local.{shown, IsBuilt}
use Rattle.inc_terms.specs.Term.{Functions}
use Rattle.point_map.specs.Rows.{Rows, at, Holds, Changes}
use Rattle.recompute_heap.specs.Agree.{IsLeast as IsLowest}
use Rattle.height_order.specs.Levels.{level}
use Rattle.necessary_graph.specs.Part.{NecessaryPart}
use Rattle.node_arena.specs.Arena.{Arena}
use Rattle.node_arena.specs.RightSide.{RightSide}
use Rattle.stabilize_round.specs.Invariant.{Invariant}
use Rattle.stabilize_round.specs.Machine.{Move, Moves}
use Rattle.stabilize_round.specs.Moves.{Quiet, IsLeast}
use Rattle.stabilize_round.specs.State as machine
use Rattle.stabilize_round.specs.State.{State, Start}
use Rattle.stabilize_round.specs.Steps.{Settles, Preparing, Wiring, Wired, Step}
use Rattle.stabilize_round.proofs.Machine.{moves_keep}
use Rattle.stabilize_round.proofs.Steps.{joined, wired_moves}
use Rattle.stabilize_round.proofs.Falling.{moves_retries, wiring_kept}
use Rattle.node_outcomes.specs.Computing.{has_part, seen}
use Rattle.node_outcomes.specs.Meaning.{Meaning}
use Rattle.node_outcomes.specs.Row.{with_stage, with_outcome, stage_in, stage_of, outcome_in}
use Rattle.node_outcomes.specs.Progress.{Progress}
use Rattle.node_outcomes.specs.declared.row.Stage.{Stage}
use Rattle.node_outcomes.specs.declared.row.Stage.TheVariants as code
use Rattle.wiring.specs.Began.{IsRoundOf}
use Rattle.wiring.specs.Kept.{IsKept}
use Rattle.wiring.specs.Refusing.{RefusedBy, TellsWhy, no_memory, by_link}
use Rattle.wiring.specs.Stands.{MatchesState, Counts, PointInHand}
use Rattle.wiring.specs.Turning.{IsWaiting}
use Rattle.wiring.specs.Wiring.{IsTurnedIn}
use Rattle.wiring.specs.declared.refused.Refused.{Refused}
use Rattle.wiring.specs.declared.refused.Refused.TheVariants as cause
use Rattle.wiring.specs.declared.work.Work.{Work}
use Rattle.wiring.proofs.Raising.{wired_then, wiring_retries}
use Rattle.wiring.proofs.Sight.{row_is, sees, change_is}
use Rattle.wiring.proofs.Staying.{rewritten_there}
use Rattle.stabilizer.specs.Dying.{TakesLeast, StandsBefore}
use Rattle.stabilizer.specs.Giving.{StopsFull}
use Rattle.stabilizer.specs.Kept.{PartsKept}
use Rattle.stabilizer.specs.Rebuilding.{IsToBuild}
use Rattle.stabilizer.specs.Stepping as stepping
use Rattle.stabilizer.specs.Stepping.{ChangeIsTurned, IsTurned, ChangeIsSettled, ChangeIsLeft, as_it_was, unbuilt, unattached, unwired}
use Rattle.stabilizer.specs.Stepping.{StepsAt, StepRefused, StepStopsFull, wiring}
use Rattle.stabilizer.specs.declared.parts.Parts.{Parts}
use Rattle.stabilizer.proofs.Step.Carrying.{taken_kept}
use Rattle.stabilizer.proofs.Step.Falling.{wired_cases, SettlesChange, change_settled}
use Rattle.stabilizer.proofs.Step.Stepping.{is_least, takes_least}
use Rattle.stabilizer.proofs.Change.Moves.{turned_moves}
use Rattle.stabilizer.proofs.Step.Making.{quiet_of}

-- ---- moves

-- what prepares is moves
preparing_moves : (F : Functions) (z : Start) (p : Point) (s t : State) → Reaches (Preparing F z p) s t → Moves F z s t
preparing_moves F z p s t here = here
preparing_moves F z p s t (step {b = u} m rest) = step {b = u} m.0 (preparing_moves F z p u t rest)

-- twice points get their links: without a refusal, or fewer links may be tried again
both_wired : (F : Functions) (z : Start) (s t u : State) → Wired F z s t → Wired F z t u
    → (Reaches (Wiring F z) s t × Reaches (Wiring F z) t u) ⊎ (u.retries < s.retries)
both_wired F z s t u a b = elim (wired_cases F z s t a) [
  | inl one ↦ elim (wired_cases F z t u b) [
    | inl two ↦ inl (one, two)
    | inr fewer ↦ inr (let e = wiring_retries F z s t one in omega (arith, e, fewer))
  ]
  | inr fewer ↦ inr (let at_most = moves_retries F z t u (wired_moves F z t u b) in omega (arith, fewer, at_most))
]

-- ---- a change that turns

-- from the state moves prepare the change, and one settles it; where it was settled before none prepares it, and its node's main has a row
pub record Turns (M : Meaning) (turned : Parts) (n : NodeId) (after : Counts) (z : Start) (s : State) : Type 0 where
  pub ready : State
  pub next : State
  pub prepared : Reaches (Preparing M.functions z (change n)) s ready
  pub move : Move M.functions z ready next
  pub settles : Settles (change n) move
  pub in_turn : IsTurnedIn M.functions z next turned.arena turned.work after n
  pub again : s.settled (change n) ≡ true → ready ≡ s
  pub rowed : s.settled (change n) ≡ true → Holds turned.work.rows (main n)

-- a node's main keeps its row while its change turns
turned_rowed : (arena : Arena) (old new : Work) (n : NodeId) → IsKept arena old → ChangeIsTurned arena old new n → Holds new.rows (main n)
turned_rowed arena old new n kept m =
    rewritten_there m.turned.mid.rows new.rows (change n) (with_outcome m.given m.woken.round) m.turned.rows (main n)
    ∙ (mid_rowed ∙ (ap (λ (r : Rows Progress). is_some (at r (main n))) woken_rows
    ∙ (kept.rows (main n) ∙ ap (λ (x : Option Row). has_part x Main) m.is_row)))
  where
    woken_rows : m.woken.rows ≡ old.rows
    woken_rows = ap (λ (w : Work). w.rows) m.wakes.rest

    mid_rowed : is_some (at m.turned.mid.rows (main n)) ≡ is_some (at m.woken.rows (main n))
    mid_rowed = elim m.turned.turned [
      | inl same ↦ ap (λ (w : Work). is_some (at w.rows (main n))) same.0
      | inr k ↦ rewritten_there m.woken.rows m.turned.mid.rows (main n) (with_stage code.Static) k.0.rows (main n)
    ]

-- a bind that is to be built anew has a change that wasn't settled: what is settled agrees with what is shown of its left
due_unsettled : (F : Functions) (z : Start) (s : State) (parts : Parts) (work : Work) (counts : Counts) (n : NodeId) (f : FnRef) (captures : List NodeId)
    (given : Outcome) → Invariant F z s → IsKept parts.arena work → MatchesState parts.arena work counts None s → parts.work.rows ≡ work.rows
    → IsToBuild parts n f captures given → s.settled (change n) ≡ true → ⊥
due_unsettled F z s parts work counts n f captures given inv kept st same due settled = elim due.sees [
  | inl e ↦ due.differs (ap (λ (r : Rows Progress). outcome_in (at r (change n))) same
      ∙ (sym (change_is s parts.arena work counts kept st n due.row due.is_row two)
      ∙ (a.1 ∙ (sym a.2 ∙ (shows ∙ (sym (ap (λ (r : Rows Progress). seen r (main due.left)) same) ∙ e))))))
  | inr k ↦ none-some a.0 (sym k.0 ∙ (ap (λ (r : Rows Progress). seen r (main due.left)) same ∙ (sym shows ∙ a.2)))
]
  where
    subject : subject_of due.row.def ≡ Some due.left
    subject = ap subject_of due.is_bind

    two : IsSome (subject_of due.row.def)
    two = ap is_some subject

    a : (o : Outcome) × (s.out (change n) ≡ Some o) × (shown s.graph s.out (main due.left) ≡ Some o) × IsBuilt F s.graph n due.row.def o
    a = (inv.settled.done (change n) settled).agrees due.row (row_is s parts.arena work counts kept st n ∙ due.is_row) due.left subject

    shows : shown s.graph s.out (main due.left) ≡ seen work.rows (main due.left)
    shows = sees s parts.arena work counts kept st due.left

-- calls are counted as before
calls_stay : (M : Meaning) (old turned : Parts) (n : NodeId) (before after : Counts) → IsTurned M old turned n before after → after.calls ≡ before.calls
calls_stay M old turned n before after (stepping.turned m only same) = ap (λ (c : Counts). c.calls) same
calls_stay M old turned n before after (stepping.built due anew calls gives) = calls

-- ---- stages

static_of : (y : Stage) → stage_of y ≡ machine.Static → y ≡ code.Static
static_of code.Bare q = absurd (cc)
static_of code.Gated q = absurd (cc)
static_of code.Static q = refl
static_of code.Full q = absurd (cc)

-- a row at Static stands for that stage
static_in : (s : State) (arena : Arena) (work : Work) (counts : Counts) (hand : Option PointInHand) (p : Point) → MatchesState arena work counts hand s
    → (x : Option Progress) → at work.rows p ≡ x → is_some x ≡ true → s.stage p ≡ machine.Static → stage_in x ≡ Some code.Static
static_in s arena work counts hand p st None e there f = absurd (cc)
static_in s arena work counts hand p st (Some k) e there f = ap (λ (y : Stage). Some y) (static_of k.stage (sym (st.stage p k e) ∙ f))

-- and so one at Full
full_in : (s : State) (arena : Arena) (work : Work) (counts : Counts) (hand : Option PointInHand) (p : Point) → MatchesState arena work counts hand s
    → (x : Option Progress) → at work.rows p ≡ x → stage_in x ≡ Some code.Full → s.stage p ≡ machine.Full
full_in s arena work counts hand p st None e f = absurd (none-some code.Full f)
full_in s arena work counts hand p st (Some k) e f = st.stage p k e ∙ ap stage_of (same_Some k.stage code.Full f)

-- no link is refused as full
link_full : (work : Work) (p q : Point) (e : Refused) → RefusedBy work p q e → (right : FnRef → RightSide) (a : Arena)
    (before after : Counts) → StopsFull right a before after e
link_full work p q (cause.Height points) why right a before after = tt
link_full work p q (cause.Cycle points) why right a before after = tt
link_full work p q cause.Full why right a before after = absurd why
link_full work p q cause.Memory why right a before after = tt

pub why_full : (F : Functions) (s : State) (work : Work) (held : Option PointInHand) (e : Refused) → TellsWhy F s work held e → (right : FnRef → RightSide)
    (a : Arena) (before after : Counts) → StopsFull right a before after e
why_full F s work held e no_memory right a before after = tt
why_full F s work held e (by_link {p} {q} need tried confirmed why) right a before after = link_full work p q e why right a before after

-- ---- a step

module _ (M : Meaning) (old : Parts) (g : NecessaryPart) (p : Point) (n : NodeId) (same : p ≡ change n) (before : Counts)
    (all : PartsKept old) (idle : old.work.todo.items ≡ []) (was : Holds old.work.graph.heap p)
    (low : IsLowest old.work.graph.heap (level old.work.graph.heights p))
    (rest : g ≡ record old.work.graph { heap = g.heap }) (c : Changes old.work.graph.heap g.heap p None) where
  abbrev F : Functions
  F = M.functions

  abbrev taken : Work
  taken = record old.work { graph = g }

  abbrev popped : Parts
  popped = record old { work = taken }

  takes : TakesLeast old.work taken (change n)
  takes = takes_least old.work g p (change n) same was low rest c

  kept : IsKept old.arena old.work
  kept = all.work

  popped_kept : PartsKept popped
  popped_kept = record {
    work = taken_kept old.arena old.work g rest p kept c;
    scopes = all.scopes;
    dying = all.dying;
    clock = all.clock;
    listing = all.listing;
  }

  stands_before : (s : State) → MatchesState old.arena old.work before None s → StandsBefore popped before s n
  stands_before s st = record { work = old.work; taken = takes; stands = st }

  module _ (turned : Parts) (after : Counts) (z : Start) (s : State) (begun : IsRoundOf M z s) (quiet : Quiet s)
      (st : MatchesState old.arena old.work before None s) where
    least : IsLeast s (change n)
    least = subst (IsLeast s) same (is_least s old.arena old.work before kept st p was low)

    pub turns : IsTurned M popped turned n before after → Turns M turned n after z s
    turns (stepping.turned m only counts) =
        let x = turned_moves M popped turned n before popped_kept idle only m z s begun quiet (stands_before s st) in record {
          ready = x.0;
          next = x.1;
          prepared = x.2;
          move = x.3;
          settles = x.4;
          in_turn = subst (λ (k : Counts). IsTurnedIn F z x.1 turned.arena turned.work k n) (sym counts) x.5;
          again = x.6;
          rowed = λ settled. turned_rowed old.arena taken turned.work n popped_kept.work m;
        }
    turns (stepping.built {f} {captures} {given} due anew calls gives) =
        let x = anew z s begun quiet (stands_before s st) in record {
          ready = x.0;
          next = x.1;
          prepared = x.2;
          move = x.3;
          settles = x.4;
          in_turn = x.5;
          again = λ settled. absurd (due_unsettled F z s popped old.work before n f captures given begun.holds kept st refl due settled);
          rowed = λ settled. absurd (due_unsettled F z s popped old.work before n f captures given begun.holds kept st refl due settled);
        }

    module _ (k : Turns M turned n after z s) where
      to_next : Moves F z s k.next
      to_next = joined (Move F z) s k.ready k.next (preparing_moves F z (change n) s k.ready k.prepared) (step {b = k.next} k.move here)

      -- ---- and got its right side

      module _ (attached new : Work) (arena : Arena)
          (full : IsWaiting turned.work n → (stage_in (at attached.rows (main n)) ≡ Some code.Full) ⊎ (attached.retries < turned.work.retries))
          (u v : State) (attaches : Wired F z k.next u) (on_u : MatchesState turned.arena attached after None u) (wires : Wired F z u v)
          (on_v : MatchesState arena new after None v) (ends : new.todo.items ≡ []) where
        settles_own : s.settled (change n) ≡ true → SettlesChange F s k.next n
        settles_own settled = subst (λ (y : State). SettlesChange F y k.next n) (k.again settled) (change_settled F z k.ready k.next n k.move k.settles)

        -- without a refusal
        gets_right : Reaches (Wiring F z) k.next u → Reaches (Wiring F z) u v → s.settled (change n) ≡ true → s.needed (main n) ≡ true
            → s.stage (main n) ≡ machine.Static → (v.needed (main n) ≡ true) × (v.stage (main n) ≡ machine.Full)
        gets_right one more settled need stage =
            let back = (settles_own settled).now in
            let need' : k.next.needed (main n) ≡ true = subst (λ (x : State). x.needed (main n) ≡ true) (sym back) need in
            let stage' : k.next.stage (main n) ≡ machine.Static = subst (λ (x : State). x.stage (main n) ≡ machine.Static) (sym back) stage in
            let waits : IsWaiting turned.work n = record {
              needed = (k.in_turn.stands.needed (main n)).0 need';
              stage = static_in k.next turned.arena turned.work after _ (main n) k.in_turn.stands (at turned.work.rows (main n)) refl (k.rowed settled) stage';
            } in
            let first = wiring_kept F z k.next u one in
            let last = wiring_kept F z u v more in
            let n_u = first.needed (main n) need' in (
              last.needed (main n) n_u,
              last.full (main n) n_u (elim (full waits) [
                | inl f ↦ full_in u turned.arena attached after None (main n) on_u (at attached.rows (main n)) refl f
                | inr fewer ↦ absurd (
                    let a = k.in_turn.stands.retries in
                    let b = on_u.retries in
                    let d = wiring_retries F z k.next u one in
                    omega (arith, fewer, a, b, d))
              ]),
            )

        pub step_made : Step F z s v
        step_made = record {
          point = change n;
          begins = quiet;
          least = least;
          ready = k.ready;
          prepared = k.prepared;
          next = k.next;
          settles = k.move;
          it = k.settles;
          wired = wired_then F z k.next u v attaches wires;
          ends = quiet_of arena new after v on_v ends;
          again = k.again;
          attaches = λ b e settled need stage.
              let is : n ≡ b = ap (λ (x : Point). x.node) e in
              subst (λ (x : NodeId). ((v.needed (main x) ≡ true) × (v.stage (main x) ≡ machine.Full)) ⊎ (v.retries < s.retries)) is
              (elim (both_wired F z k.next u v attaches wires) [
                | inl runs ↦ inl (gets_right runs.0 runs.1 settled (subst (λ (x : NodeId). s.needed (main x) ≡ true) (sym is) need)
                    (subst (λ (x : NodeId). s.stage (main x) ≡ machine.Static) (sym is) stage))
                | inr fewer ↦ inr (
                    let e : k.next.retries ≡ s.retries = ap (λ (x : State). x.retries) (settles_own settled).now in
                    omega (arith, e, fewer))
              ]);
        }

  -- so it is from each state that the parts stand for
  pub change_steps : (new : Parts) (after : Counts) → ChangeIsSettled M popped new n before after → new.work.todo.items ≡ []
      → StepsAt M old new before after p
  unfolding step_made
  change_steps new after k ends z s begun quiet st =
      let x = turns k.turned after z s begun quiet st k.turns in
      let u = k.attaches F z x.next after x.in_turn in
      let u_holds = moves_keep F z x.next u.0 (wired_moves F z x.next u.0 u.1) x.in_turn.holds in
      let v = k.wires F z u.0 after u_holds u.2 u.3 in (
        v.0,
        step_made k.turned after z s begun quiet st x k.attached new.work k.turned.arena k.full u.0 v.0 u.1 u.2 v.1 v.2 ends,
        subst (λ (a : Arena). MatchesState a new.work after None v.0) (sym (ap (λ (y : Parts). y.arena) k.rest)) v.2,
        sym same,
      )

  -- ---- a step that is refused

  -- points were getting their links
  wiring_stops : (turned new : Parts) (after : Counts) (e : Refused) (z : Start) (s : State) → IsRoundOf M z s → Quiet s
      → MatchesState old.arena old.work before None s → IsTurned M popped turned n before after → new ≡ record turned { work = new.work }
      → ((x : State) → IsTurnedIn F z x turned.arena turned.work after n
      → (t : State) × (left : Option PointInHand) × Wired F z x t × MatchesState turned.arena new.work after left t × TellsWhy F t new.work left e)
      → stepping.StepStops F z s new before after e
  wiring_stops turned new after e z s begun quiet st k only refused =
      let x = turns turned after z s begun quiet st k in
      let a = refused x.next x.in_turn in
      wiring {t = a.0} {left = a.1} (joined (Move F z) s x.next a.0 (to_next turned after z s begun quiet st x) (wired_moves F z x.next a.0 a.2))
      (subst (λ (y : Arena). MatchesState y new.work after a.1 a.0) (sym (ap (λ (y : Parts). y.arena) only)) a.3)
      (calls_stay M popped turned n before after k) a.4

  pub change_stops : (right : FnRef → RightSide) (new : Parts) (after : Counts) (e : Refused) → ChangeIsLeft M right popped new n before after e
      → StepRefused M old new before after e
  change_stops right new after e (as_it_was stands nodes counts memory) z s begun quiet st =
      as_it_was (subst (λ (k : Counts). MatchesState new.arena new.work k None s) counts (stands s (stands_before s st))) (inl counts) memory
  change_stops right new after e (unbuilt {count} stops calls later told few full) z s begun quiet st =
      let x = stops z s begun quiet (stands_before s st) in
      unbuilt {r = x.0} {t = x.1} {count = count} (preparing_moves F z (change n) s x.0 x.2) x.3 x.4 calls
      (let g = st.given in omega (arith, g, later)) told
  change_stops right new after e (unattached {turned} k refused only) z s begun quiet st =
      wiring_stops turned new after e z s begun quiet st k only (λ x in_turn. refused F z x after in_turn)
  change_stops right new after e (unwired {turned} {attached} k attaches refused only) z s begun quiet st =
      wiring_stops turned new after e z s begun quiet st k only (λ x in_turn.
      let u = attaches F z x after in_turn in
      let a = refused F z u.0 after (moves_keep F z x u.0 (wired_moves F z x u.0 u.1) in_turn.holds) u.2 u.3 in
      (a.0, a.1, wired_then F z x u.0 a.0 u.1 a.2, a.3, a.4))

  -- where it stops as full a build was made, and lacked room
  pub change_full : (right : FnRef → RightSide) (new : Parts) (after : Counts) (e : Refused) → ChangeIsLeft M right popped new n before after e
      → StepStopsFull M right old new before after e
  change_full right new after e (as_it_was stands nodes counts memory) z s begun quiet st =
      subst (StopsFull right new.arena before after) (sym memory) tt
  change_full right new after e (unbuilt stops calls later told few full) z s begun quiet st = full
  change_full right new after e (unattached {turned} k refused only) z s begun quiet st =
      let x = turns turned after z s begun quiet st k in
      let a = refused F z x.next after x.in_turn in why_full F a.0 new.work a.1 e a.4 right new.arena before after
  change_full right new after e (unwired {turned} {attached} k attaches refused only) z s begun quiet st =
      let x = turns turned after z s begun quiet st k in
      let u = attaches F z x.next after x.in_turn in
      let a = refused F z u.0 after (moves_keep F z x.next u.0 (wired_moves F z x.next u.0 u.1) x.in_turn.holds) u.2 u.3 in
      why_full F a.0 new.work a.1 e a.4 right new.arena before after
