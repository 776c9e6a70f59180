-- A bind is built anew and its change is settled: the machine's moves, and the parts that stand for the state after them.
use Rattle.std.proofs.Common.{◌≡◌, ◌≢◌, inl, inr, ℕ, ◌-◌, ◌<◌, Bool, true, false, ◌&&◌, List, [], Option, None, Some, refl, sym, ap, subst, ◌∙◌, IsSome}
use Rattle.std.proofs.Common.{arith}
use Rattle.std.specs.Prelude.{is_some}
use Rattle.std.proofs.lemmas.Bool.{and_from, and_parts}
use Rattle.std.proofs.lemmas.Option.{none-some, same_Some}
use Rattle.inc_value.specs.declared.function.FnRef.{FnRef}
use Rattle.inc_value.specs.declared.node.NodeId.{NodeId}
use Rattle.inc_value.specs.declared.node.Point.{Point}
use Rattle.inc_value.specs.declared.outcome.Outcome.{Outcome}
use Rattle.inc_terms.specs.Depend.{main, change, subject_of, fixed}
use Rattle.inc_terms.specs.Evaluate.{NodeGives}
use Rattle.inc_terms.specs.Evaluate.{Stands as ScopeStands}
use Rattle.inc_terms.specs.Graph as graph
use Rattle.inc_terms.specs.Graph.{Graph, Row, Built}
use Rattle.inc_terms.specs.Local.{shown, IsRooted, Sees}
use Rattle.inc_terms.specs.Rebuild.{Inside, direct, nested, IsDue}
use Rattle.inc_terms.specs.Term.{Functions}
use Rattle.inc_terms.specs.Within.{Given, Fit}
use Rattle.inc_terms.proofs.Depending.{subject_given}
use Rattle.inc_terms.proofs.Evaluation.{one_outcome}
use Rattle.inc_terms.proofs.Local.{main_sees}
use Rattle.inc_terms.proofs.Rebuild.{same_after}
use Rattle.inc_terms.proofs.Within.{functions_within}
use Rattle.point_map.specs.Rows.{at, Holds, Changes}
use Rattle.node_arena.specs.Arena.{Arena, row_at}
use Rattle.node_arena.specs.Graph.{Holdings, graph_of}
use Rattle.stabilize_round.specs.Counts.{RoseBy}
use Rattle.stabilize_round.specs.Invariant.{Invariant}
use Rattle.stabilize_round.specs.Machine as move
use Rattle.stabilize_round.specs.Machine.{Move}
use Rattle.stabilize_round.specs.Moves.{Quiet, IsLeast, changed, StepChange}
use Rattle.stabilize_round.specs.Rebuilding.{remade, builds_of, Rebuild, IsBuiltAnew}
use Rattle.stabilize_round.specs.State as machine
use Rattle.stabilize_round.specs.State.{State, Start, at_point}
use Rattle.stabilize_round.proofs.Low.{among_gate, plan_links}
use Rattle.stabilize_round.proofs.Machine.{move_keeps}
use Rattle.stabilize_round.proofs.Main.{main_change}
use Rattle.stabilize_round.proofs.Points.{same_or_other, at_same, at_other}
use Rattle.stabilize_round.proofs.Ready.{ready}
use Rattle.node_outcomes.specs.Choosing.{built_by, built_in}
use Rattle.expert_nodes.specs.Experts.{ExpertPlace, kids_at}
use Rattle.node_outcomes.specs.Row.{IsRewritten, kept_in, with_outcome, outcome_in}
use Rattle.node_outcomes.specs.Progress.{Progress}
use Rattle.wiring.specs.Graph.{held_at, graph_at}
use Rattle.wiring.specs.Stands.{MatchesState, Counts, hand}
use Rattle.wiring.specs.Wiring.{KeepsGraph, IsTurnedIn}
use Rattle.wiring.specs.declared.work.Work.{Work}
use Rattle.stabilizer.specs.declared.parts.Parts.{Parts}
use Rattle.stabilizer.proofs.Building.Remade.{IsAnew, rows_after, bind_given, bind_outside, made, anew, anew_due, stage_old, bare_state, bare_stands}
use Rattle.stabilizer.proofs.Change.Turned.{LeavesSettled, settled_stands, outcome_run}

-- ---- a change that was settled, where its bind is built for the outcome

-- of the parts a bind's root is this one now, and its change's row and place in the heap are others: it was settled on this outcome, and left it
pub record IsRebuilt (old new : Work) (n : NodeId) (now : Outcome) (root : Option NodeId) : Type 0 where
  pub rows : IsRewritten old.rows new.rows (change n) (with_outcome now old.round)
  pub graph : KeepsGraph old.graph new.graph
  pub heap : Changes old.graph.heap new.graph.heap (change n) None
  pub roots : Changes old.roots new.roots (change n) root
  pub todo : new.todo.items ≡ old.todo.items
  pub deaths : new.deaths ≡ old.deaths
  pub ran : new.ran ≡ old.ran
  pub retries : new.retries ≡ old.retries
  pub round : new.round ≡ old.round
  pub experts : new.experts ≡ old.experts

abbrev pub nowhere : Point → Bool
nowhere p = false

-- a main without its right side, as a test
abbrev is_static : machine.Stage → Bool
is_static machine.Static = true
is_static stage = false

static_is : (st : machine.Stage) → is_static st ≡ true → st ≡ machine.Static
static_is machine.Static e = refl
static_is machine.Bare e = absurd (cc)
static_is machine.Gated e = absurd (cc)
static_is machine.Full e = absurd (cc)

-- ---- what binds are built for

-- the bind is built for the outcome, with the root
pub built_now : (arena : Arena) (old new : Work) (n : NodeId) (given : Outcome) (root : Option NodeId) → Holds old.rows (change n)
    → IsRebuilt old new n given root → (r : Row) (l : NodeId) (f : FnRef) (captures : List NodeId) → row_at arena n ≡ Some r
    → r.def ≡ graph.Bind l f captures → (held_at arena new).built n ≡ Some (record { outcome = given; root = root })
built_now arena old new n given root there run r l f captures row def =
    ap (λ (x : Option Row). built_in x (outcome_in (at new.rows (change n))) (at new.roots (change n))) row
    ∙ (ap (λ (d : graph.Def). built_by d (outcome_in (at new.rows (change n))) (at new.roots (change n))) def
    ∙ (ap (λ (x : Option Outcome). built_by (graph.Bind l f captures) x (at new.roots (change n)))
    (ap outcome_in run.rows.changed ∙ outcome_run given old.round (at old.rows (change n)) there)
    ∙ ap (λ (x : Option NodeId). built_by (graph.Bind l f captures) (Some given) x) run.roots.changed))

-- all other binds are built as they were
pub built_alike : (arena : Arena) (old new : Work) (n : NodeId) (given : Outcome) (root : Option NodeId) → IsRebuilt old new n given root
    → (c : NodeId) → (c ≡ n → ⊥) → (held_at arena new).built c ≡ (held_at arena old).built c
built_alike arena old new n given root run c ne =
    let apart : change c ≢ change n = λ e. ne (ap (λ (p : Point). p.node) e) in
    ap (λ (x : Option Progress). built_in (row_at arena c) (outcome_in x) (at new.roots (change c))) (run.rows.others (change c) apart)
    ∙ ap (λ (x : Option NodeId). built_in (row_at arena c) (outcome_in (at old.rows (change c))) x) (run.roots.others (change c) apart)

-- ---- the state after it

module _ (s : State) (arena : Arena) (old new : Work) (counts : Counts) (st : MatchesState arena old counts None s) (n : NodeId) (given : Outcome)
    (root : Option NodeId) (there : Holds old.rows (change n)) (run : IsRebuilt old new n given root) where
  -- the main goes to the worklist where it waits
  abbrev pub todo' : Point → Bool
  todo' = at_point (main n) (s.needed (main n) && is_static (s.stage (main n))) nowhere

  -- the state in which the change is settled, in the graph that the parts have then
  abbrev pub next : State
  next = changed (record s { graph = graph_at arena new }) n given todo'

  -- the parts stand for it, with the main in hand
  pub run_stands : s.owed (main n) ≡ [] → MatchesState arena new counts (Some (hand (main n) [])) next
  run_stands idle =
      let settles : LeavesSettled old new n given =
      let others : (a : Point) → a ≢ change n → is_some (at new.graph.heap a) ≡ is_some (at old.graph.heap a) = (λ a ne. ap is_some (run.heap.others a ne)) in
      assumption (others, run) in
      settled_stands s arena old new counts st n given idle there settles (graph_at arena new) refl todo' (λ a t. elim (same_or_other (main n) a) [
        | inl h ↦ inr (sym h)
        | inr ne ↦ absurd (let f = at_other (main n) (s.needed (main n) && is_static (s.stage (main n))) nowhere a ne in cc)
      ])

  -- what is woken waits for it
  pub only_main : (a : Point) → todo' a ≡ true → (a ≡ main n) × (s.needed (main n) ≡ true) × (s.stage (main n) ≡ machine.Static)
  only_main a t = elim (same_or_other (main n) a) [
    | inl h ↦
        let b : (s.needed (main n) && is_static (s.stage (main n))) ≡ true =
        sym (at_same (main n) (s.needed (main n) && is_static (s.stage (main n))) nowhere) ∙ subst (λ (x : Point). todo' x ≡ true) (sym h) t in
        let k = and_parts (s.needed (main n)) (is_static (s.stage (main n))) b in
        (sym h, k.0, static_is (s.stage (main n)) k.1)
    | inr ne ↦ absurd (let f = at_other (main n) (s.needed (main n) && is_static (s.stage (main n))) nowhere a ne in cc)
  ]

  -- and who waits is woken
  pub main_woken : s.needed (main n) ≡ true → s.stage (main n) ≡ machine.Static → todo' (main n) ≡ true
  main_woken need stage = at_same (main n) (s.needed (main n) && is_static (s.stage (main n))) nowhere
      ∙ and_from (s.needed (main n)) (is_static (s.stage (main n))) need (ap is_static stage)

-- ---- the moves

-- a root that was given and reads back as the bind's function's term for the outcome, or none for Invalid, and then nobody stands in the scope
pub record HasRoot (F : Functions) (arena : Arena) (b : NodeId) (f : FnRef) (captures : List NodeId) (now : Outcome)
    (root : Option NodeId) : Type 0 where
  pub given : (m : NodeId) → root ≡ Some m → Given arena.given m
  pub rooted : (G : Graph) → ((n : NodeId) → G.row n ≡ row_at arena n) → IsRooted F G b f captures (record { outcome = now; root = root })
  pub inside : (n : NodeId) (r : Row) → row_at arena n ≡ Some r → r.scope ≡ Some b → IsSome root

module _ (F : Functions) (z : Start) (t : State) (b : NodeId) (now : Outcome) (cut died grown : Parts) (counts : Counts)
    (a : IsAnew F z t b now cut died grown counts) (after : Counts) (calls : after.calls ≡ counts.calls)
    (adds : RoseBy counts.adds (grown.arena.given - died.arena.given) after.adds) (builds : RoseBy counts.builds (builds_of now) after.builds)
    (new : Work) (root : Option NodeId) (there : Holds grown.work.rows (change b)) (run : IsRebuilt grown.work new b now root)
    (has_root : HasRoot F grown.arena b a.due.function a.due.captures now root) where
  -- the state in which the bind is built for nothing
  abbrev pub low : State
  low = bare_state F z t b now cut died grown counts a after calls adds

  pub low_stands : MatchesState grown.arena grown.work after None low
  low_stands = bare_stands F z t b now cut died grown counts a after calls adds

  -- what binds are built for once the change is settled
  abbrev pub held : Holdings
  held = held_at grown.arena new

  -- the bind keeps its row
  pub bind_row : row_at grown.arena b ≡ Some a.due.row
  bind_row = elim (rows_after F z t b now cut died grown counts a b (bind_given F z t b now cut died grown counts a)) [
    | inl h ↦ absurd (bind_outside F z t b now cut died grown counts a h.0)
    | inr h ↦ h.1 ∙ a.due.is_row
  ]

  -- and is built for the outcome
  pub is_built : held.built b ≡ Some (record { outcome = now; root = root })
  is_built = built_now grown.arena grown.work new b now root there run a.due.row a.due.left a.due.function a.due.captures bind_row a.due.is_bind

  -- all others are built as they were
  pub others : (c : NodeId) → (c ≡ b → ⊥) → held.built c ≡ (held_at grown.arena grown.work).built c
  others c ne = built_alike grown.arena grown.work new b now root run c ne

  -- freezes keep what they kept, and experts list what they listed
  pub keeps_frozen : (n : NodeId) → held.frozen n ≡ kept_in (at grown.work.rows (main n))
  keeps_frozen n = ap kept_in (run.rows.others (main n) (main_change n b))

  pub keeps_lists : (n : NodeId) → held.lists n ≡ kids_at grown.work.experts n
  keeps_lists n = ap (λ (e : List ExpertPlace). kids_at e n) run.experts

  -- its root was given
  pub root_given : (w : Built) (m : NodeId) → held.built b ≡ Some w → w.root ≡ Some m → Given grown.arena.given m
  root_given w m is of =
      let same : record { outcome = now; root = root } ≡ w = same_Some _ w (sym is_built ∙ is) in
      has_root.given m (ap (λ (x : Built). x.root) same ∙ of)

  -- so it is a rebuild of the machine
  abbrev pub rebuilt : Rebuild F z t b now (made F z t b now cut died grown counts a held others keeps_frozen keeps_lists root_given after adds)
  rebuilt = anew F z t b now cut died grown counts a held others keeps_frozen keeps_lists root_given after adds

  -- the state after it
  abbrev pub prepared : State
  prepared = remade t (made F z t b now cut died grown counts a held others keeps_frozen keeps_lists root_given after adds)

  -- its root reads back as its term
  pub built_anew : IsBuiltAnew F (graph_of grown.arena held) b a.due.function a.due.captures now
  built_anew = record {
    built = record { outcome = now; root = root };
    is_built = is_built;
    for_outcome = refl;
    rooted = has_root.rooted (graph_of grown.arena held) (λ n. refl);
    inside = has_root.inside;
  }

  -- the count of builds rose by it
  pub builds_as : RoseBy t.builds (builds_of now) after.builds
  builds_as = subst (λ (k : ℕ). RoseBy k (builds_of now) after.builds) (sym (ap (λ (c : Counts). c.builds) a.stands.counts)) builds

  pub result : IsBuiltAnew F (graph_of grown.arena held) b rebuilt.due.function rebuilt.due.captures now
  result = subst (λ (d : IsDue F t.graph b now). IsBuiltAnew F (graph_of grown.arena held) b d.function d.captures now)
      (sym (anew_due F z t b now cut died grown counts a held others keeps_frozen keeps_lists root_given after adds)) built_anew

  -- the move
  abbrev pub rebuilds : Move F z t prepared
  rebuilds = move.rebuild rebuilt result builds_as refl

  pub inv : Invariant F z prepared
  inv = move_keeps F z t prepared rebuilds a.holds

  pub quiet : Quiet prepared
  quiet = a.quiet

  -- ---- the change is least still

  -- what stands inside is higher than the change
  higher : (n : NodeId) → Inside t.graph b n → (p : Point) → p.node ≡ n → t.needed p ≡ true → t.height (change b) < t.height p
  higher n (direct {r} row scope) p is need =
      let row_p : t.graph.row p.node ≡ Some r = subst (λ (m : NodeId). t.graph.row m ≡ Some r) (sym is) row in
      let i : Inside t.graph b p.node = subst (λ (m : NodeId). Inside t.graph b m) (sym is) (direct row scope) in
      let l = plan_links F z t a.holds a.quiet p (change b) r machine.Gated row_p (rebuilt.gated p i need) need (among_gate r.scope b scope) in
      a.holds.web.rises p (change b) l
  higher n (nested {r} {c} row scope inner) p is need =
      let row_p : t.graph.row p.node ≡ Some r = subst (λ (m : NodeId). t.graph.row m ≡ Some r) (sym is) row in
      let i : Inside t.graph b p.node = subst (λ (m : NodeId). Inside t.graph b m) (sym is) (nested row scope inner) in
      let l = plan_links F z t a.holds a.quiet p (change c) r machine.Gated row_p (rebuilt.gated p i need) need (among_gate r.scope c scope) in
      let first = a.holds.web.rises p (change c) l in
      let rest = higher c inner (change c) refl (a.holds.web.onto p (change c) l) in
      omega (arith, first, rest)

  pub least : IsLeast prepared (change b)
  least = record {
    heap = rebuilt.heap.kept (change b) (bind_outside F z t b now cut died grown counts a) a.least.heap;
    least = λ q h. elim (rebuilt.heap.new q h) [
      | inl k ↦ a.least.least q k.0
      | inr k ↦
          let x = k.5 in
          let up = a.holds.web.rises q x k.7 in
          let low = higher x.node k.6 x refl (a.holds.web.onto q x k.7) in
          omega (arith, up, low)
    ];
  }

  -- ---- what the left shows

  bind_row' : prepared.graph.row b ≡ Some a.due.row
  bind_row' = bind_row

  left_gives : NodeGives F prepared.graph a.due.left now
  left_gives =
      let P : NodeId → Type 0 = Given t.given in
      let Q = Fit t.given z.known z.ids in
      let fine = functions_within F z.known z.ids P a.given.laws in
      let given = subject_given F P Q fine t.graph prepared.graph a.given.names b now a.due rebuilt.rebuilt b a.due.row a.due.left a.due.is_row
      (ap subject_of a.due.is_bind) in
      same_after F P Q fine t.graph prepared.graph a.given.names b now a.due rebuilt.rebuilt a.due.left given now a.due.gives

  left_sees : Sees F prepared.graph prepared.out a.due.left
  left_sees =
      let k = ready F z prepared inv quiet (change b) least in
      let def = a.due.is_bind in
      let same : k.row ≡ a.due.row = (let x = k.is_row in let y = bind_row' in cc) in
      let l = (k.links (main a.due.left)).1 (fixed k.is_row k.stands (rw (same, def) (inl refl))) in
      main_sees F prepared.graph prepared.out a.due.left (k.exact (main a.due.left) l)

  left_seen : shown prepared.graph prepared.out (main a.due.left) ≡ Some now
  left_seen = left_sees.1 ∙ ap (λ (o : Outcome). Some o) (one_outcome F prepared.graph _ left_sees.0 now left_sees.2 left_gives)

  -- the scope of the bind's node stands
  pub scope_stands : (r : Row) → row_at grown.arena b ≡ Some r → ScopeStands F prepared.graph r.scope
  scope_stands r row =
      let k = ready F z prepared inv quiet (change b) least in
      let same : k.row ≡ r = (let x = k.is_row in let y : prepared.graph.row b ≡ Some r = row in cc) in
      subst (λ (x : Row). ScopeStands F prepared.graph x.scope) same k.stands

  -- ---- the change is settled

  main_stage : prepared.stage (main b) ≡ t.stage (main b)
  main_stage = stage_old t (main b) (bind_given F z t b now cut died grown counts a)

  -- the main is woken, if it waits
  abbrev pub woken : Point → Bool
  woken = todo' low grown.arena grown.work new after low_stands b now root there run

  none_waits : (p : Point) (r : Row) → prepared.needed p ≡ true → prepared.graph.row p.node ≡ Some r → r.scope ≡ Some b → ⊥
  none_waits p r need row scope = elim (rows_after F z t b now cut died grown counts a p.node (a.given.needed p need)) [
    | inl h ↦ none-some r (sym h.1 ∙ row)
    | inr h ↦ h.0 (direct (sym h.1 ∙ row) scope)
  ]

  pub change_step : StepChange F prepared b now woken
  change_step = record {
    row = a.due.row;
    subject = a.due.left;
    is_row = bind_row';
    is_subject = ap subject_of a.due.is_bind;
    taken = least;
    seen = left_seen;
    built = rw a.due.is_bind (
      record { outcome = now; root = root },
      is_built,
      refl,
      has_root.rooted (graph_of grown.arena held) (λ n. refl),
    );
    right = inr (λ need full. rebuilt.right need (sym main_stage ∙ full));
    woken = λ p w. let k = only_main low grown.arena grown.work new after low_stands b now root there run p w in
        (subst (λ (x : Point). low.needed x ≡ true) (sym k.0) k.1, inl (k.0, subst (λ (x : Point). low.stage x ≡ machine.Static) (sym k.0) k.2));
    wakes = λ p w. elim w.1 [
      | inl k ↦ subst (λ (x : Point). woken x ≡ true) (sym k.0)
          (main_woken low grown.arena grown.work new after low_stands b now root there run
          (subst (λ (x : Point). low.needed x ≡ true) k.0 w.0) (subst (λ (x : Point). low.stage x ≡ machine.Static) k.0 k.1))
      | inr k ↦ absurd (none_waits p k.0 w.0 k.1 k.2)
    ];
  }

  -- the state after that
  abbrev pub turned : State
  turned = changed prepared b now woken

  -- the move that settles the change
  abbrev pub settles : Move F z prepared turned
  settles = move.step_change quiet change_step refl

  -- the parts stand for it, with the main in hand
  pub turned_in : IsTurnedIn F z turned grown.arena new after b
  turned_in = record {
    holds = move_keeps F z prepared turned settles inv;
    taken = refl;
    scope = scope_stands;
    stands = run_stands low grown.arena grown.work new after low_stands b now root there run (a.holds.rows.owed (main b) (a.quiet (main b)));
    only = λ w. let k = only_main low grown.arena grown.work new after low_stands b now root there run (main b) w in (k.1, k.2);
    wakes = λ need stage. main_woken low grown.arena grown.work new after low_stands b now root there run need stage;
    unlinked = λ p w need. inr (inr (inl (only_main low grown.arena grown.work new after low_stands b now root there run p w).0));
  }
