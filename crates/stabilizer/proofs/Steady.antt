-- What a steady round leaves as it was, step by step.
use Rattle.std.proofs.Common.{◌≡◌, ◌⊎◌, inl, inr, ◌∙◌, ℕ, Option, None, Some, true, List, [], ◌∷◌, refl, sym, ap, subst, Vec, Global}
use Rattle.std.specs.Prelude.{is_some}
use Rattle.std.proofs.lemmas.Option.{none-some, same_Some}
use Rattle.inc_value.specs.Choice.{Among}
use Rattle.inc_value.specs.declared.node.NodeId.{NodeId}
use Rattle.inc_value.specs.declared.node.Point.{Point}
use Rattle.inc_value.specs.declared.outcome.Outcome.{Outcome}
use Rattle.inc_terms.specs.Depend.{main, change, subject_of}
use Rattle.inc_terms.specs.Graph.{Graph, Row}
use Rattle.inc_terms.specs.Evaluate.{NodeGives}
use Rattle.inc_terms.specs.Term.{Functions}
use Rattle.inc_terms.proofs.Evaluation.{one_outcome}
use Rattle.inc_terms.proofs.Local.{main_sees}
use Rattle.necessary_graph.specs.Part.{NecessaryPart, Needed}
use Rattle.node_arena.specs.Arena.{Arena, row_at}
use Rattle.node_outcomes.specs.Computing.{has_part, seen, seen_of}
use Rattle.node_outcomes.specs.Meaning.{Meaning}
use Rattle.node_outcomes.specs.Row.{IsRewritten, outcome_in, kept_in, settled_in, stage_in, stage_of, with_outcome}
use Rattle.node_outcomes.specs.Progress.{Progress}
use Rattle.node_outcomes.specs.declared.row.Stage.{Stage}
use Rattle.node_outcomes.specs.declared.row.Stage.TheVariants as stage
use Rattle.observers.specs.declared.observer.Observer.{Observer}
use Rattle.point_map.specs.Rows.{Rows, at, Holds}
use Rattle.stabilize_round.specs.Invariant.{Invariant}
use Rattle.stabilize_round.specs.State.{State, Start}
use Rattle.stabilize_round.specs.State as machine
use Rattle.stabilize_round.proofs.Main.{main_change}
use Rattle.stabilize_round.proofs.Points.{same_or_other}
use Rattle.wiring.specs.Kept.{IsKept}
use Rattle.wiring.specs.Graph.{graph_at}
use Rattle.wiring.specs.Stands.{MatchesState, Counts}
use Rattle.wiring.specs.declared.work.Work.{Work}
use Rattle.wiring.proofs.Deciding.{need_same}
use Rattle.wiring.proofs.Sight.{sees}
use Rattle.wiring.proofs.Staying.{row_of_state}
use Rattle.stabilizer.specs.Kept.{PartsKept, graph_in}
use Rattle.stabilizer.specs.Lacking.{HasBegun}
use Rattle.stabilizer.specs.Rebuilding.{IsSeenOf}
use Rattle.stabilizer.specs.Round.{IsReady}
use Rattle.stabilizer.specs.Dying.{TakesLeast}
use Rattle.stabilizer.specs.Settling.{IsSettled}
use Rattle.stabilizer.specs.Steady.{IsSteady, StaysChosen}
use Rattle.stabilizer.specs.Stepping.{ChangeIsSettled, ChangeIsTurned, IsTurned, MainIsSettled, SettlesLeast, StepsMade}
use Rattle.stabilizer.specs.Stepping.{turned, built, of_main, of_change, none_made, one_made}
use Rattle.wiring.specs.Began.{IsRoundOf}
use Rattle.wiring.specs.Turning.{IsWaiting}
use Rattle.wiring.specs.Wiring.{WaitsFor}
use Rattle.stabilizer.proofs.Round.Began.{round_on}
use Rattle.stabilizer.proofs.Change.Turned.{run_outcome, run_stage}
use Rattle.stabilizer.proofs.Step.Experts.{flag_same, frozen_rests, graph_seen, linked_alike}
use Rattle.stabilizer.proofs.Step.Mains.{same_number}
use Rattle.stabilize_round.specs.Calling.{cost_at}
use Rattle.stabilize_round.specs.Moves.{calls_of}
use Rattle.stabilizer.specs.declared.parts.Parts.{Parts}

-- nodes, links, roots, what binds are built for, freezes keep and experts list, the stages of points and what changes ran with are as they were; and so are
-- mains but those that were settled in the round
pub record StaysSteady (old new : Parts) : Type 0 where
  pub arena : new.arena ≡ old.arena
  pub links : new.work.graph.links ≡ old.work.graph.links
  pub roots : new.work.graph.roots ≡ old.work.graph.roots
  pub graph : graph_in new ≡ graph_in old
  pub stages : (p : Point) → stage_in (at new.work.rows p) ≡ stage_in (at old.work.rows p)
  pub changes : (n : NodeId) → outcome_in (at new.work.rows (change n)) ≡ outcome_in (at old.work.rows (change n))
  pub mains : (n : NodeId) → (settled_in new.work.round (at new.work.rows (main n)) ≡ true)
      ⊎ (at new.work.rows (main n) ≡ at old.work.rows (main n))
  pub settled : (n : NodeId) → settled_in old.work.round (at old.work.rows (main n)) ≡ true
      → settled_in new.work.round (at new.work.rows (main n)) ≡ true

pub steady_then : (old mid new : Parts) → StaysSteady old mid → StaysSteady mid new → StaysSteady old new
steady_then old mid new first next = record {
  arena = next.arena ∙ first.arena;
  links = next.links ∙ first.links;
  roots = next.roots ∙ first.roots;
  graph = next.graph ∙ first.graph;
  stages = λ p. next.stages p ∙ first.stages p;
  changes = λ n. next.changes n ∙ first.changes n;
  mains = λ n. elim (next.mains n) [
    | inl settled ↦ inl settled
    | inr same ↦ elim (first.mains n) [ inl settled ↦ inl (next.settled n settled) | inr before ↦ inr (same ∙ before) ]
  ];
  settled = λ n is. next.settled n (first.settled n is);
}

-- what is needed stays
pub need_stays : (old new : Parts) → StaysSteady old new → (p : Point) → Needed new.work.graph p → Needed old.work.graph p
need_stays old new k p = need_same new.work.graph old.work.graph (sym k.links) (sym k.roots) p

-- ---- stages

-- only the last stage is told as the machine's last
full_is : (s : Stage) → stage_of s ≡ machine.Full → s ≡ stage.Full
full_is stage.Bare e = absurd (cc)
full_is stage.Gated e = absurd (cc)
full_is stage.Static e = absurd (cc)
full_is stage.Full e = refl

-- a row with a point is of a live node
pub row_there : (arena : Arena) (work : Work) → IsKept arena work → (p : Point) → Holds work.rows p → (r : Row) × (row_at arena p.node ≡ Some r)
row_there arena work kept p there = by (row_at arena p.node) refl
  where
    by : (x : Option Row) → row_at arena p.node ≡ x → (r : Row) × (row_at arena p.node ≡ Some r)
    by None e = absurd (let k = kept.rows p in let f = ap (λ (x : Option Row). has_part x p.part) e in cc)
    by (Some r) e = (r, e)

-- where a round may begin what is needed has all its links
module _ (M : Meaning) (parts : Parts) (ready : IsReady M parts) where
  pub all_full : (p : Point) (k : Progress) → at parts.work.rows p ≡ Some k → Needed parts.work.graph p → k.stage ≡ stage.Full
  all_full p k is need =
      let r = row_there parts.arena parts.work ready.kept.work p (ap is_some is) in
      let s = ready.state in
      full_is k.stage (sym (ready.stands.stage p k is)
      ∙ ready.entry.full p r.0 (row_of_state ready.stands p.node ∙ r.1) ((ready.stands.needed p).1 need))

  -- so none waits
  pub none_waits : (p : Point) (x : Option Progress) (st : Stage) → at parts.work.rows p ≡ x → stage_in x ≡ Some st → Needed parts.work.graph p
      → st ≡ stage.Full
  none_waits p None st is e need = absurd (none-some st e)
  none_waits p (Some k) st is e need = sym (same_Some k.stage st e) ∙ all_full p k is need

-- ---- what is seen of subjects

-- what is seen stays where the row has the stage and the outcome that it had
seen_same : (x y : Option Progress) → stage_in x ≡ stage_in y → outcome_in x ≡ outcome_in y → seen_of x ≡ seen_of y
seen_same None None s o = refl
seen_same (Some k) (Some l) s o = o
seen_same None (Some l) s o = absurd (none-some l.stage s)
seen_same (Some k) None s o = absurd (none-some k.stage (sym s))

-- in a state of the round that the parts stand for
module _ (F : Functions) (old now : Parts) (stays : StaysSteady old now) (kept : IsKept now.arena now.work) (z : Start) (s : State) (counts : Counts)
    (holds : Invariant F z s) (stands : MatchesState now.arena now.work counts None s) where
  -- a subject shows what it showed
  pub subject_shows : (n m : NodeId) → (c : StaysChosen F old n m) → seen now.work.rows (main m) ≡ Some c.outcome
  subject_shows n m c = elim (stays.mains m) [
    | inr same ↦ seen_same (at now.work.rows (main m)) (at old.work.rows (main m)) (stays.stages (main m)) (ap outcome_in same) ∙ c.shows
    | inl settled ↦
        let done = main_sees F s.graph s.out m (holds.settled.done (main m) (stands.settled (main m) ∙ settled)).exact in
        let gives : NodeGives F (graph_in old) m done.0 = subst (λ (G : Graph). NodeGives F G m done.0) (stands.graph ∙ stays.graph) done.2 in
        sym (sees s now.arena now.work counts kept stands m) ∙ (done.1 ∙ ap Some (one_outcome F (graph_in old) _ done.0 c.outcome gives c.gives))
  ]

  -- its change ran with that
  pub ran_with_it : (n m : NodeId) → (c : StaysChosen F old n m) → outcome_in (at now.work.rows (change n)) ≡ Some c.outcome
  ran_with_it n m c = stays.changes n ∙ c.chose

  -- so what is seen of it is what its change ran with
  pub seen_is_run : (n m : NodeId) (given : Outcome) → StaysChosen F old n m → IsSeenOf now m given
      → outcome_in (at now.work.rows (change n)) ≡ Some given
  seen_is_run n m given c seen_so = elim seen_so [
    | inl is ↦ ran_with_it n m c ∙ (sym (subject_shows n m c) ∙ is)
    | inr none ↦ absurd (none-some c.outcome (sym none.0 ∙ subject_shows n m c))
  ]

-- ---- a main is settled

-- the work without some points of the heap
abbrev pub with_heap : Work → Rows ℕ → Work
with_heap work heap = record work { graph = record work.graph { heap = heap } }

pub taken_is : (work taken : Work) (p : Point) → TakesLeast work taken p → taken ≡ with_heap work taken.graph.heap
taken_is work taken p t = t.rest ∙ ap (λ (g : NecessaryPart). record work { graph = g }) t.graph

module _ (F : Functions) (mid : Parts) (kept : IsKept mid.arena mid.work) (heap : Rows ℕ) (new : Work) (n : NodeId) (before after : Counts)
    (m : MainIsSettled F mid.arena (with_heap mid.work heap) new n before after) where
  abbrev rows : Rows Progress
  rows = mid.work.rows

  abbrev k : IsSettled (with_heap mid.work heap) new n m.outcome m.last (calls_of m.called (cost_at (graph_at mid.arena (with_heap mid.work heap)) n))
  k = m.settled

  -- of each row this is told as before, if it is of the one that was settled
  told_same : {A : Type 0} (tell : Option Progress → A) → tell (at new.rows (main n)) ≡ tell (at rows (main n)) → (p : Point)
      → tell (at new.rows p) ≡ tell (at rows p)
  told_same tell own p = elim (same_or_other p (main n)) [
    | inl e ↦ subst (λ (q : Point). tell (at new.rows q) ≡ tell (at rows q)) (sym e) own
    | inr ne ↦ ap tell (k.others p ne)
  ]

  same_row : m.computed.kept ≡ k.row
  same_row = same_Some m.computed.kept k.row (sym m.computed.is_kept ∙ k.was)

  last_rests : k.row.frozen ≡ true → m.last ≡ k.row.last
  last_rests flag = frozen_rests F mid.arena mid.work kept _ n m.computed.row m.computed.kept m.last m.called m.computed.is_row m.computed.is_kept
      m.computed.calls (ap (λ (x : Progress). x.frozen) same_row ∙ flag) ∙ ap (λ (x : Progress). x.last) same_row

  keeps_same : kept_in (at new.rows (main n)) ≡ kept_in (at rows (main n))
  keeps_same = ap kept_in k.now ∙ (flag_same k.row.frozen k.row.last m.last last_rests ∙ sym (ap kept_in k.was))

  now_settled : settled_in new.round (at new.rows (main n)) ≡ true
  now_settled = subst (λ (r : ℕ). settled_in r (at new.rows (main n)) ≡ true) (sym k.round) (ap (settled_in mid.work.round) k.now
      ∙ same_number mid.work.round)

  changes_same : (c : NodeId) → outcome_in (at new.rows (change c)) ≡ outcome_in (at rows (change c))
  changes_same c = ap outcome_in (k.others (change c) (λ e. main_change n c (sym e)))

  pub main_stays : StaysSteady mid (record mid { work = new })
  main_stays = record {
    arena = refl;
    links = k.graph.links;
    roots = k.graph.roots;
    graph = graph_seen mid.arena mid.work new changes_same k.roots (λ c. told_same kept_in keeps_same (main c)) m.marks.links;
    stages = told_same stage_in (ap stage_in k.now ∙ sym (ap stage_in k.was));
    changes = changes_same;
    mains = λ c. elim (same_or_other (main c) (main n)) [
      | inl e ↦ inl (subst (λ (q : Point). settled_in new.round (at new.rows q) ≡ true) (sym e) now_settled)
      | inr ne ↦ inr (k.others (main c) ne)
    ];
    settled = λ c is. elim (same_or_other (main c) (main n)) [
      | inl e ↦ subst (λ (q : Point). settled_in new.round (at new.rows q) ≡ true) (sym e) now_settled
      | inr ne ↦ subst (λ (r : ℕ). settled_in r (at new.rows (main c)) ≡ true) (sym k.round) (ap (settled_in mid.work.round) (k.others (main c) ne) ∙ is)
    ];
  }

-- ---- a change is settled on what it ran with

-- the work with another heap, other rows and another worklist
abbrev pub run_again : Work → Rows ℕ → Rows Progress → Vec Point Global → Work
run_again work heap rows todo = record work { graph = record work.graph { heap = heap }; rows = rows; todo = todo }

module _ (mid : Parts) (heap : Rows ℕ) (rows' : Rows Progress) (todo : Vec Point Global) (n : NodeId) (given : Outcome)
    (rewritten : IsRewritten mid.work.rows rows' (change n) (with_outcome given mid.work.round))
    (ran : outcome_in (at mid.work.rows (change n)) ≡ Some given) where
  abbrev new : Work
  new = run_again mid.work heap rows' todo

  told_as : {A : Type 0} (tell : Option Progress → A) → tell (at rows' (change n)) ≡ tell (at mid.work.rows (change n)) → (p : Point)
      → tell (at rows' p) ≡ tell (at mid.work.rows p)
  told_as tell own p = elim (same_or_other p (change n)) [
    | inl e ↦ subst (λ (q : Point). tell (at rows' q) ≡ tell (at mid.work.rows q)) (sym e) own
    | inr ne ↦ ap tell (rewritten.others p ne)
  ]

  others_main : (c : NodeId) → at rows' (main c) ≡ at mid.work.rows (main c)
  others_main c = rewritten.others (main c) (main_change c n)

  changes_as : (c : NodeId) → outcome_in (at rows' (change c)) ≡ outcome_in (at mid.work.rows (change c))
  changes_as c = told_as outcome_in (ap outcome_in rewritten.changed ∙ run_outcome given mid.work.round (at mid.work.rows (change n)) ran) (change c)

  pub change_stays : StaysSteady mid (record mid { work = new })
  change_stays = record {
    arena = refl;
    links = refl;
    roots = refl;
    graph = graph_seen mid.arena mid.work new changes_as refl (λ c. ap kept_in (others_main c)) (linked_alike mid.work.experts);
    stages = told_as stage_in (ap stage_in rewritten.changed ∙ run_stage given mid.work.round (at mid.work.rows (change n)));
    changes = changes_as;
    mains = λ c. inr (others_main c);
    settled = λ c is. ap (settled_in mid.work.round) (others_main c) ∙ is;
  }

-- ---- a step

none_among : (ps : List Point) → ((p : Point) → Among p ps → ⊥) → ps ≡ []
none_among [] none = refl
none_among (p ∷ ps) none = absurd (none p (inl refl))

module _ (M : Meaning) (old : Parts) (roots : List NodeId) (made : List Observer) (ready : IsReady M old) (steady : IsSteady M.functions old roots made) where
  abbrev F : Functions
  F = M.functions

  -- in a state of the round that the parts stand for
  module _ (mid : Parts) (kept : PartsKept mid) (stays : StaysSteady old mid) (z : Start) (s : State) (counts : Counts) (holds : Invariant F z s)
      (stands : MatchesState mid.arena mid.work counts None s) where
    -- what is in the heap is needed
    pub heap_needed : (p : Point) (x : Option ℕ) → at mid.work.graph.heap p ≡ x → Holds mid.work.graph.heap p → Needed mid.work.graph p
    heap_needed p None e held = absurd (let h = ap is_some e in cc)
    heap_needed p (Some h) e held = (kept.work.step.heap p h e).1

    chosen_at : (n m : NodeId) (r : Row) → row_at mid.arena n ≡ Some r → subject_of r.def ≡ Some m → Needed mid.work.graph (change n)
        → StaysChosen F old n m
    chosen_at n m r row sub need = steady.chosen n m r (ap (λ (a : Arena). row_at a n) (sym stays.arena) ∙ row) sub
        (need_stays old mid stays (change n) need)

    -- a needed change runs with what it ran with
    pub runs_again : (n m : NodeId) (r : Row) (given : Outcome) → row_at mid.arena n ≡ Some r → subject_of r.def ≡ Some m
        → Needed mid.work.graph (change n) → IsSeenOf mid m given → outcome_in (at mid.work.rows (change n)) ≡ Some given
    runs_again n m r given row sub need seen_so =
        seen_is_run F old mid stays kept.work z s counts holds stands n m given (chosen_at n m r row sub need) seen_so

    -- what is needed has all its links
    pub no_wait : (p : Point) (st : Stage) → stage_in (at mid.work.rows p) ≡ Some st → Needed mid.work.graph p → st ≡ stage.Full
    no_wait p st is need = none_waits M old ready p (at old.work.rows p) st refl (sym (stays.stages p) ∙ is) (need_stays old mid stays p need)

    pub none_gated : (p q : Point) → WaitsFor mid.work p q → ⊥
    none_gated p q w = let e = no_wait p stage.Gated w.stage (kept.work.step.readers p q w.reads) in cc

    pub none_waiting : (n : NodeId) → IsWaiting mid.work n → ⊥
    none_waiting n w = let e = no_wait (main n) stage.Static w.stage w.needed in cc

    -- a change that was taken from the heap turns nothing
    module _ (heap : Rows ℕ) (tw : Work) (n : NodeId) (need : Needed mid.work.graph (change n))
        (t : ChangeIsTurned mid.arena (with_heap mid.work heap) tw n) where
      ran : outcome_in (at mid.work.rows (change n)) ≡ Some t.given
      ran = runs_again n t.subject t.row t.given t.is_row t.is_subject need t.sees

      not_loose : t.turned.mid ≡ t.woken
      not_loose = elim t.turned.turned [
        | inl same ↦ same.0
        | inr loose ↦ absurd (loose.2 (ap (λ (w : Work). outcome_in (at w.rows (change n))) t.wakes.rest ∙ ran))
      ]

      wakes_none : t.woken.todo.items ≡ []
      wakes_none = none_among t.woken.todo.items (λ p a. let w = (t.wakes.listed p).0 a in
          none_gated p (change n) (record { reads = w.reads; stage = w.stage }))

      turned_work : tw ≡ run_again mid.work heap tw.rows t.woken.todo
      turned_work = t.turned.rest ∙ ap (λ (w : Work). record w { rows = tw.rows }) (not_loose ∙ t.wakes.rest)

      rewritten : IsRewritten mid.work.rows tw.rows (change n) (with_outcome t.given mid.work.round)
      rewritten = subst (λ (w : Work). IsRewritten w.rows tw.rows (change n) (with_outcome t.given mid.work.round)) (not_loose ∙ t.wakes.rest)
          (subst (λ (w : Work). IsRewritten t.turned.mid.rows tw.rows (change n) (with_outcome t.given w.round)) t.wakes.rest t.turned.rows)

      turned_waits : IsWaiting tw n → ⊥
      turned_waits w =
          let needed : Needed (run_again mid.work heap tw.rows t.woken.todo).graph (main n) = subst (λ (x : Work). Needed x.graph (main n)) turned_work w.needed in
          none_waiting n (record {
            needed = need_same (run_again mid.work heap tw.rows t.woken.todo).graph mid.work.graph refl refl (main n) needed;
            stage = ap stage_in (sym (rewritten.others (main n) (main_change n n))) ∙ w.stage;
          })

      -- so nothing gets a link
      module _ (new : Parts) (attached : Work) (still : IsWaiting tw n ⊎ (attached ≡ tw))
          (idle : attached.todo.items ≡ [] → new.work ≡ record attached { todo = new.work.todo }) (rest : new ≡ record mid { work = new.work }) where
        attached_is : attached ≡ run_again mid.work heap tw.rows t.woken.todo
        attached_is = elim still [ inl waits ↦ absurd (turned_waits waits) | inr same ↦ same ∙ turned_work ]

        new_work : new.work ≡ run_again mid.work heap tw.rows new.work.todo
        new_work = idle (ap (λ (w : Work). w.todo.items) attached_is ∙ wakes_none)
            ∙ ap (λ (w : Work). record w { todo = new.work.todo }) attached_is

        pub turned_stays : StaysSteady mid new
        turned_stays = subst (StaysSteady mid) (sym (rest ∙ ap (λ (w : Work). record mid { work = w }) new_work))
            (change_stays mid heap tw.rows new.work.todo n t.given rewritten ran)

    change_steady : (heap : Rows ℕ) (n : NodeId) (new : Parts) (before after : Counts) → Needed mid.work.graph (change n)
        → ChangeIsSettled M (record mid { work = with_heap mid.work heap }) new n before after → StaysSteady mid new
    change_steady heap n new before after need k = by k.turns
      where
        by : IsTurned M (record mid { work = with_heap mid.work heap }) k.turned n before after → StaysSteady mid new
        by (turned t rest same) = turned_stays heap k.turned.work n need t new k.attached k.still k.idle
            (k.rest ∙ ap (λ (p : Parts). record p { work = new.work }) rest)
        by (built {f} {captures} {given} due anew calls gives) = absurd (due.differs (runs_again n due.left due.row given due.is_row
            (ap subject_of due.is_bind) need due.sees))

    -- each step leaves it so
    pub step_steady : (new : Parts) (before after : Counts) → SettlesLeast M mid new before after → StaysSteady mid new
    step_steady new before after (of_main {n} {taken} takes m rest) =
        let is = taken_is mid.work taken (main n) takes in
        subst (StaysSteady mid) (sym rest) (main_stays F mid kept.work taken.graph.heap new.work n before after
        (subst (λ (w : Work). MainIsSettled F mid.arena w new.work n before after) is m))
    step_steady new before after (of_change {n} {taken} takes k) =
        let is = taken_is mid.work taken (change n) takes in
        change_steady taken.graph.heap n new before after (heap_needed (change n) (at mid.work.graph.heap (change n)) refl takes.held)
        (subst (λ (w : Work). ChangeIsSettled M (record mid { work = w }) new n before after) is k)

  -- and so do all steps
  pub steps_steady : (start : Parts) (z : Start) (s : State) (before : Counts) → StaysSteady old start → IsRoundOf M z s
      → MatchesState start.arena start.work before None s → (now : Parts) (after : Counts) → StepsMade M start before now after → StaysSteady old now
  steps_steady start z s before stays round stands now after none_made = stays
  steps_steady start z s before stays round stands now last (one_made {mid} {new} {between} {after} steps kept settles least) =
      let first = steps_steady start z s before stays round stands mid between steps in
      let m = settles z s round stands in
      steady_then old mid new first (step_steady mid kept first z m.0 between (round_on M z s m.0 m.1 round).holds m.2 new between after least)

-- ---- a round begins

pub begins_steady : (F : Functions) (old : Parts) (roots : List NodeId) (made : List Observer) → IsSteady F old roots made → (wired rooted : Work)
    → HasBegun old roots wired rooted → StaysSteady old (record old { work = rooted })
begins_steady F old roots made steady wired rooted begun =
    subst (λ (w : Work). StaysSteady old (record old { work = w })) (sym (begun.still steady.unrooted ∙ begun.idle steady.unlinked)) (record {
      arena = refl;
      links = refl;
      roots = refl;
      graph = refl;
      stages = λ p. refl;
      changes = λ n. refl;
      mains = λ n. inr refl;
      settled = λ n is. is;
    })
