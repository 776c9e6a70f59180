-- A change is settled: the parts stand for the state then, and what is kept where it is turned.
use Rattle.std.proofs.Common.{◌≡◌, ◌⊎◌, inl, inr, ℕ, ◌≤◌, true, false, List, Option, None, Some, refl, sym, ap, subst, ◌∙◌, arith, length, Vec, Global, Bool, [], ◌≢◌}
use Rattle.std.specs.Prelude.{◌↔◌, is_some, option_map, reverse, vec_capacity}
use Rattle.std.proofs.lemmas.Option.{none-some, same_Some}
use Rattle.inc_value.specs.declared.function.FnRef.{FnRef}
use Rattle.inc_value.specs.declared.node.NodeId.{NodeId}
use Rattle.inc_value.specs.declared.node.Part.TheVariants.{Main}
use Rattle.inc_value.specs.declared.node.Point.{Point}
use Rattle.inc_value.specs.declared.outcome.Outcome.{Outcome}
use Rattle.inc_value.specs.declared.outcome.Outcome.TheVariants.{Val, Invalid}
use Rattle.inc_value.specs.declared.value.Value.{Value}
use Rattle.inc_value.specs.Choice.{Among}
use Rattle.inc_terms.specs.Depend.{main, change, subject_of, right_of}
use Rattle.inc_terms.specs.Graph as graph
use Rattle.inc_terms.specs.Graph.{Graph, Row, Def, Built, kids}
use Rattle.inc_terms.specs.Within.{Given}
use Rattle.point_map.specs.Rows.{Rows, at, Holds}
use Rattle.link_table.specs.Links.{times, Links}
use Rattle.necessity.specs.Need.{root_times, KeepsRoots, Roots}
use Rattle.necessary_graph.specs.Part.{Needed}
use Rattle.node_arena.specs.Arena as nodes
use Rattle.node_arena.specs.Arena.{Arena, row_at}
use Rattle.node_arena.specs.Typing.{Fits}
use Rattle.expert_nodes.specs.Experts.{ExpertPlace, SameLinks, fresh_at, is_stale_at, kids_at}
use Rattle.node_outcomes.specs.Choosing.{built_by, right_in, built_in}
use Rattle.node_outcomes.specs.Computing.{seen, seen_of, has_part}
use Rattle.node_outcomes.specs.Row.{IsRewritten, with_outcome, with_stage, kept_in, outcome_in, settled_in, stage_in, stage_of}
use Rattle.node_outcomes.specs.Progress.{Progress}
use Rattle.node_outcomes.specs.declared.row.Stage.TheVariants as code
use Rattle.node_outcomes.proofs.Held.{built_live}
use Rattle.node_outcomes.proofs.Rights.{right_fits}
use Rattle.stabilize_round.proofs.Main.{main_change}
use Rattle.stabilize_round.proofs.Parts.{bool_cases}
use Rattle.stabilize_round.proofs.Points.{same_or_other, at_same, at_other}
use Rattle.wiring.specs.Graph.{held_at, graph_at}
use Rattle.wiring.specs.Kept.{IsKept, IsBind}
use Rattle.wiring.specs.Turning.{IsAttached, IsDetached, HasTurned}
use Rattle.wiring.specs.Wiring.{KeepsLists, WaitsFor, KeepsGraph}
use Rattle.wiring.specs.declared.work.Work.{Work}
use Rattle.wiring.proofs.Holding.{died_same, graph_staged, links_same, pairs_same, root_same, scoped_same}
use Rattle.wiring.proofs.Leaving.{todo_kept}
use Rattle.wiring.proofs.Staying.{row_before, rewritten_there}
use Rattle.stabilizer.specs.Stepping.{ChangeIsTurned}
use Rattle.stabilizer.proofs.Change.Waiting.{loose_in_step, loose_fewer, loose_roots, loose_heights, loose_leaves, loose_heap}
use Rattle.stabilizer.proofs.Step.Mains.{types_kept, same_number}
use Rattle.std.proofs.Math.Path.{fun_ext}
use Rattle.node_arena.specs.Graph.{graph_of}
use Rattle.stabilize_round.specs.Moves.{changed}
use Rattle.height_order.specs.Levels.{level}
use Rattle.stabilize_round.specs.State.{State, at_point}
use Rattle.stabilizer.proofs.Step.Carrying.{needed_now, needed_before}
use Rattle.wiring.specs.Stands.{MatchesState, hand, Counts, debts}
use Rattle.stabilizer.proofs.Step.Experts.{linked_as, still_experts, still_listed, still_lists, fired_still, owes_staged}

-- ---- the graph that is told

-- a row that was settled so keeps the outcome
pub outcome_run : (given : Outcome) (round : ℕ) (x : Option Progress) → is_some x ≡ true
    → outcome_in (option_map (with_outcome given round) x) ≡ Some given
outcome_run given round None e = absurd (cc)
outcome_run given round (Some row) e = refl

pub run_outcome : (given : Outcome) (round : ℕ) (x : Option Progress) → outcome_in x ≡ Some given
    → outcome_in (option_map (with_outcome given round) x) ≡ outcome_in x
run_outcome given round None e = absurd (none-some given e)
run_outcome given round (Some k) e = sym e

-- it stays, where a bind was built for the outcome already
module _ (arena : Arena) (old new : Work) (n : NodeId) (given : Outcome) (round : ℕ)
    (rows : IsRewritten old.rows new.rows (change n) (with_outcome given round)) (roots : new.roots ≡ old.roots)
    (experts : new.experts ≡ old.experts)
    (ran : (r : Row) (l : NodeId) (f : FnRef) (captures : List NodeId) → row_at arena n ≡ Some r → r.def ≡ graph.Bind l f captures
    → outcome_in (at old.rows (change n)) ≡ Some given) where
  outcome_now : outcome_in (at old.rows (change n)) ≡ Some given → outcome_in (at new.rows (change n)) ≡ outcome_in (at old.rows (change n))
  outcome_now e = ap outcome_in rows.changed ∙ run_outcome given round (at old.rows (change n)) e

  by_def : (d : Def) (root : Option NodeId) → ((l : NodeId) (f : FnRef) (captures : List NodeId) → d ≡ graph.Bind l f captures
      → outcome_in (at old.rows (change n)) ≡ Some given)
      → built_by d (outcome_in (at new.rows (change n))) root ≡ built_by d (outcome_in (at old.rows (change n))) root
  by_def (graph.Bind l f captures) root is = ap (λ (o : Option Outcome). built_by (graph.Bind l f captures) o root) (outcome_now (is l f captures refl))
  by_def d root is = refl

  by_row : (x : Option Row) (root : Option NodeId) → row_at arena n ≡ x
      → built_in x (outcome_in (at new.rows (change n))) root ≡ built_in x (outcome_in (at old.rows (change n))) root
  by_row None root e = refl
  by_row (Some r) root e = by_def r.def root (λ l f captures is. ran r l f captures e is)

  built_as : (m : NodeId) → (held_at arena new).built m ≡ (held_at arena old).built m
  built_as m = ap (λ (x : Rows NodeId). built_in (row_at arena m) (outcome_in (at new.rows (change m))) (at x (change m))) roots
      ∙ elim (same_or_other (change n) (change m)) [
        | inr ne ↦ ap (λ (x : Option Progress). built_in (row_at arena m) (outcome_in x) (at old.roots (change m)))
            (rows.others (change m) (λ e. ne (sym e)))
        | inl e ↦ subst (λ (i : NodeId). built_in (row_at arena i) (outcome_in (at new.rows (change i))) (at old.roots (change i))
            ≡ built_in (row_at arena i) (outcome_in (at old.rows (change i))) (at old.roots (change i)))
            (ap (λ (x : Point). x.node) e) (by_row (row_at arena n) (at old.roots (change n)) refl)
      ]

  pub graph_run : graph_at arena new ≡ graph_at arena old
  graph_run =
      ap (λ (b : NodeId → Option Built). graph_of arena (record { built = b; frozen = λ m. kept_in (at new.rows (main m)); lists = kids_at new.experts }))
      (fun_ext built_as)
      ∙ (ap (λ (k : NodeId → Option Value). graph_of arena (record { built = (held_at arena old).built; frozen = k; lists = kids_at new.experts }))
      (fun_ext (λ m. ap kept_in (rows.others (main m) (main_change m n))))
      ∙ ap (λ (e : List ExpertPlace). graph_of arena (record { built = (held_at arena old).built; frozen = λ m. kept_in (at old.rows (main m)); lists = kids_at e }))
      experts)

-- ---- rows

pub run_settled : (given : Outcome) (round : ℕ) (x : Option Progress) → is_some x ≡ true
    → settled_in round (option_map (with_outcome given round) x) ≡ true
run_settled given round None e = absurd (cc)
run_settled given round (Some row) e = same_number round

-- ---- the parts stand for the state in which a change is settled

-- a change's row and its place in the heap are others: it was settled on this outcome, and left the heap. Links, roots and heights stay, and so does what is
-- kept of the round
pub record LeavesSettled (old new : Work) (n : NodeId) (given : Outcome) : Type 0 where
  pub rows : IsRewritten old.rows new.rows (change n) (with_outcome given old.round)
  pub graph : KeepsGraph old.graph new.graph
  pub gone : at new.graph.heap (change n) ≡ None
  pub heap : (a : Point) → a ≢ change n → is_some (at new.graph.heap a) ≡ is_some (at old.graph.heap a)
  pub deaths : new.deaths ≡ old.deaths
  pub ran : new.ran ≡ old.ran
  pub retries : new.retries ≡ old.retries
  pub round : new.round ≡ old.round
  pub experts : new.experts ≡ old.experts

pub run_stage : (given : Outcome) (round : ℕ) (x : Option Progress) → stage_in (option_map (with_outcome given round) x) ≡ stage_in x
run_stage given round None = refl
run_stage given round (Some k) = refl

-- a row that was settled so keeps all but its outcome and its round
run_row : (given : Outcome) (round : ℕ) (x : Option Progress) (k : Progress) → option_map (with_outcome given round) x ≡ Some k
    → (j : Progress) × (x ≡ Some j) × (k ≡ with_outcome given round j)
run_row given round None k e = absurd (none-some k e)
run_row given round (Some j) k e = (j, refl, sym (same_Some _ k e))

module _ (s : State) (arena : Arena) (old new : Work) (counts : Counts) (st : MatchesState arena old counts None s) (n : NodeId) (given : Outcome)
    (idle : s.owed (main n) ≡ []) (there : Holds old.rows (change n)) (run : LeavesSettled old new n given) (G : Graph) (told : G ≡ graph_at arena new) (woken : Point → Bool)
    (listed : (a : Point) → woken a ≡ true → Among a new.todo.items ⊎ (a ≡ main n)) where
  other_row : (a : Point) (k : Progress) → (change n ≡ a → ⊥) → at new.rows a ≡ Some k → at old.rows a ≡ Some k
  other_row a k ne e = sym (run.rows.others a (λ h. ne (sym h))) ∙ e

  main_row_still : (m : NodeId) (k : Progress) → at new.rows (main m) ≡ Some k → at old.rows (main m) ≡ Some k
  main_row_still m k e = sym (run.rows.others (main m) (main_change m n)) ∙ e

  before : (k : Progress) → at new.rows (change n) ≡ Some k
      → (j : Progress) × (at old.rows (change n) ≡ Some j) × (k ≡ with_outcome given old.round j)
  before k e = run_row given old.round (at old.rows (change n)) k (sym run.rows.changed ∙ e)

  stage_stays : (a : Point) → stage_in (at new.rows a) ≡ stage_in (at old.rows a)
  stage_stays a = elim (same_or_other (change n) a) [
    | inl h ↦ subst (λ (x : Point). stage_in (at new.rows x) ≡ stage_in (at old.rows x)) h
        (ap stage_in run.rows.changed ∙ run_stage given old.round (at old.rows (change n)))
    | inr ne ↦ ap stage_in (run.rows.others a (λ h. ne (sym h)))
  ]

  owes_still : (a : Point) → debts new s.needed a ≡ debts old s.needed a
  owes_still a = owes_staged old new (s.needed a) a (stage_stays a) (ap (λ (e : List ExpertPlace). fresh_at e a.node) run.experts)

  pub settled_stands : MatchesState arena new counts (Some (hand (main n) [])) (changed (record s { graph = G }) n given woken)
  settled_stands = record {
    graph = told;
    out = λ a k e. elim (same_or_other (change n) a) [
      | inl h ↦ subst (λ (x : Point). at_point (change n) (Some given) s.out x ≡ k.outcome) h
          (at_same (change n) (Some given) s.out ∙ sym (ap (λ (y : Progress). y.outcome) (before k (subst (λ (x : Point). at new.rows x ≡ Some k) (sym h) e)).2))
      | inr ne ↦ at_other (change n) (Some given) s.out a ne ∙ st.out a k (other_row a k ne e)
    ];
    last = λ m k e. st.last m k (main_row_still m k e);
    cutoff = λ m k e. st.cutoff m k (main_row_still m k e);
    stale = λ m. st.stale m ∙ ap (λ (e : List ExpertPlace). is_stale_at e m) (sym run.experts);
    links = λ a b. st.links a b ∙ ap (λ (l : Links). times l a b) (sym run.graph.links);
    root = λ a. st.root a ∙ ap (λ (r : Roots). root_times r a) (sym run.graph.roots);
    needed = λ a. (
      λ t. needed_now old.graph new.graph run.graph a ((st.needed a).0 t),
      λ h. (st.needed a).1 (needed_before old.graph new.graph run.graph a h),
    );
    height = λ a h. st.height a (needed_before old.graph new.graph run.graph a h) ∙ ap (λ (x : Rows ℕ). level x a) (sym run.graph.heights);
    heap = λ a. elim (same_or_other (change n) a) [
      | inl h ↦ subst (λ (x : Point). at_point (change n) false s.heap x ≡ is_some (at new.graph.heap x)) h
          (at_same (change n) false s.heap ∙ sym (ap is_some run.gone))
      | inr ne ↦ at_other (change n) false s.heap a ne ∙ (st.heap a ∙ sym (run.heap a (λ h. ne (sym h))))
    ];
    settled = λ a. elim (same_or_other (change n) a) [
      | inl h ↦ subst (λ (x : Point). at_point (change n) true s.settled x ≡ settled_in new.round (at new.rows x)) h
          (at_same (change n) true s.settled ∙ sym (ap (settled_in new.round) run.rows.changed
          ∙ (ap (λ (i : ℕ). settled_in i (option_map (with_outcome given old.round) (at old.rows (change n)))) run.round
          ∙ run_settled given old.round (at old.rows (change n)) there)))
      | inr ne ↦ at_other (change n) true s.settled a ne ∙ (st.settled a ∙ sym (ap (λ (i : ℕ). settled_in i (at new.rows a)) run.round
          ∙ ap (settled_in old.round) (run.rows.others a (λ h. ne (sym h)))))
    ];
    stage = λ a k e. elim (same_or_other (change n) a) [
      | inl h ↦ subst (λ (x : Point). s.stage x ≡ stage_of k.stage) h
          (let b = before k (subst (λ (x : Point). at new.rows x ≡ Some k) (sym h) e) in st.stage (change n) b.0 b.1 ∙ sym (ap (λ (y : Progress). stage_of y.stage) b.2))
      | inr ne ↦ st.stage a k (other_row a k ne e)
    ];
    owed = λ a. elim (same_or_other (main n) a) [
      | inl h ↦ subst (λ (x : Point). s.owed x ≡ at_point (main n) [] (debts new s.needed) x) h (idle ∙ sym (at_same (main n) [] (debts new s.needed)))
      | inr ne ↦ st.owed a ∙ (sym (owes_still a) ∙ sym (at_other (main n) [] (debts new s.needed) a ne))
    ];
    todo = listed;
    retries = st.retries ∙ sym run.retries;
    died = λ m. st.died m ∙ sym (died_same old new run.deaths m);
    ran = st.ran ∙ ap (λ (l : Vec NodeId Global). reverse l.items) (sym run.ran);
    counts = st.counts;
    given = st.given;
  }

-- what is seen of nodes stays, and so do outcomes, the roots of binds, those of the graph, and the round
pub record KeepsSight (old new : Work) : Type 0 where
  pub there : (a : Point) → is_some (at new.rows a) ≡ is_some (at old.rows a)
  pub out : (a : Point) → outcome_in (at new.rows a) ≡ outcome_in (at old.rows a)
  pub sees : (a : Point) → seen new.rows a ≡ seen old.rows a
  pub roots : new.roots ≡ old.roots
  pub graph_roots : KeepsRoots old.graph.roots new.graph.roots
  pub round : new.round ≡ old.round

outcome_mapped : (x : Option Progress) → outcome_in (option_map (with_stage code.Static) x) ≡ outcome_in x
outcome_mapped None = refl
outcome_mapped (Some y) = refl

seen_mapped : (x : Option Progress) → seen_of (option_map (with_stage code.Static) x) ≡ seen_of x
seen_mapped None = refl
seen_mapped (Some y) = refl

-- ---- a main lost its right side

module _ (arena : Arena) (taken mid : Work) (todo : Vec Point Global) (n : NodeId) (r : Row) (k : NodeId) (kept : IsKept arena taken)
    (live : row_at arena n ≡ Some r) (sub : subject_of r.def ≡ Some k) (own_row : Holds taken.rows (change n)) (own_need : Needed taken.graph (change n))
    (attached : IsAttached (record taken { todo = todo }) n)
    (loose : IsDetached (record taken { todo = todo }) mid n (right_in taken.rows taken.roots n r.def)) where
  round_is : mid.round ≡ taken.round
  round_is = ap (λ (w : Work). w.round) loose.last ∙ ap (λ (w : Work). w.round) loose.rest

  roots_are : mid.roots ≡ taken.roots
  roots_are = ap (λ (w : Work). w.roots) loose.last ∙ ap (λ (w : Work). w.roots) loose.rest

  deaths_are : mid.deaths ≡ taken.deaths
  deaths_are = ap (λ (w : Work). w.deaths) loose.last ∙ ap (λ (w : Work). w.deaths) loose.rest

  experts_are : mid.experts ≡ taken.experts
  experts_are = ap (λ (w : Work). w.experts) loose.last ∙ ap (λ (w : Work). w.experts) loose.rest

  links_are : SameLinks taken.experts mid.experts
  links_are = linked_as taken.experts mid.experts experts_are

  lists_are : KeepsLists taken mid
  lists_are = record {
    pairs = ap (λ (w : Work). w.pairs) loose.last ∙ ap (λ (w : Work). w.pairs) loose.rest;
    scoped = ap (λ (w : Work). w.scoped) loose.last ∙ ap (λ (w : Work). w.scoped) loose.rest;
  }

  rows_are : IsRewritten taken.rows mid.rows (main n) (with_stage code.Static)
  rows_are = loose.rows

  held : (a : Point) → is_some (at mid.rows a) ≡ is_some (at taken.rows a)
  held = rewritten_there taken.rows mid.rows (main n) (with_stage code.Static) rows_are

  outcome_same : (a : Point) → outcome_in (at mid.rows a) ≡ outcome_in (at taken.rows a)
  outcome_same a = elim (same_or_other (main n) a) [
    | inl e ↦ subst (λ (x : Point). outcome_in (at mid.rows x) ≡ outcome_in (at taken.rows x)) e
        (ap outcome_in rows_are.changed ∙ outcome_mapped (at taken.rows (main n)))
    | inr ne ↦ ap outcome_in (rows_are.others a (λ e. ne (sym e)))
  ]

  graph_same : graph_at arena mid ≡ graph_at arena taken
  graph_same = graph_staged arena taken mid (main n) code.Static rows_are roots_are (λ m. ap (λ (e : List ExpertPlace). kids_at e m) experts_are)

  heights_now : (a : Point) → (at mid.graph.heights a ≡ at taken.graph.heights a)
      ⊎ ((is_some (at mid.rows a) ≡ false) × (at mid.graph.heights a ≡ None))
  heights_now = loose_heights arena taken mid todo n r k kept live sub own_row own_need attached loose

  there_before : (a : Point) → Holds mid.graph.heights a → Holds taken.graph.heights a
  there_before a h = elim (heights_now a) [
    | inl e ↦ sym (ap is_some e) ∙ h
    | inr x ↦ absurd (let e : false ≡ true = sym (ap is_some x.1) ∙ h in cc)
  ]

  there_still : (a : Point) → Holds mid.rows a → Holds taken.graph.heights a → Holds mid.graph.heights a
  there_still a row h = elim (heights_now a) [
    | inl e ↦ ap is_some e ∙ h
    | inr x ↦ absurd (let e : false ≡ true = sym x.0 ∙ row in cc)
  ]

  leaf_or_row : (a : Point) → Holds mid.graph.heights a → Holds mid.rows a ⊎ ((row_at arena a.node ≡ None) × Needed mid.graph a)
  leaf_or_row a h = elim (bool_cases (is_some (at mid.rows a))) [
    | inl row ↦ inl row
    | inr none ↦ elim (kept.leaves a (there_before a h)) [
      | inl row ↦ absurd (let e : false ≡ true = sym none ∙ (held a ∙ row) in cc)
      | inr leaf ↦ elim (loose_leaves arena taken mid todo n r k kept live sub own_row own_need attached loose a none leaf.1) [
        | inl is ↦ inr (leaf.0, is)
        | inr gone ↦ absurd (let e : false ≡ true = sym (ap is_some gone) ∙ h in cc)
      ]
    ]
  ]

  fewer : (a b : Point) → times mid.graph.links a b ≤ times taken.graph.links a b
  fewer = loose_fewer arena taken mid todo n r k kept live sub own_row own_need attached loose

  mine : Holds taken.rows (main n)
  mine = kept.rows (main n) ∙ ap (λ (x : Option Row). has_part x Main) live

  pub loose_sight : KeepsSight taken mid
  loose_sight = record {
    there = held;
    out = outcome_same;
    sees = λ a. elim (same_or_other (main n) a) [
      | inl e ↦ subst (λ (x : Point). seen mid.rows x ≡ seen taken.rows x) e
          (ap seen_of rows_are.changed ∙ seen_mapped (at taken.rows (main n)))
      | inr ne ↦ ap seen_of (rows_are.others a (λ e. ne (sym e)))
    ];
    roots = roots_are;
    graph_roots = loose_roots arena taken mid todo n r k kept live sub own_row own_need attached loose;
    round = round_is;
  }

  pub loose_kept : IsKept arena mid
  loose_kept = record {
    step = loose_in_step arena taken mid todo n r k kept live sub own_row own_need attached loose;
    rows = λ a. held a ∙ kept.rows a;
    leaves = leaf_or_row;
    there = λ a h. there_still a h (kept.there a (sym (held a) ∙ h));
    given = λ a h. kept.given a (there_before a h);
    links = λ a b reads. links_same taken mid held deaths_are a b (kept.links a b (let f = fewer a b in omega (arith, reads, f)));
    heap = λ a h. held a ∙ elim (loose_heap arena taken mid todo n r k kept live sub own_row own_need attached loose a h) [
      | inl was ↦ kept.heap a was
      | inr e ↦ subst (λ (x : Point). Holds taken.rows x) (sym e) mine
    ];
    dead = λ m b e. kept.dead m b (sym (died_same taken mid deaths_are m) ∙ e);
    sound = kept.sound;
    scopes = kept.scopes;
    older = kept.older;
    outcomes = λ m x y v row e o. let b = row_before taken.rows mid.rows (main n) code.Static rows_are (main m) y e in
        kept.outcomes m x b.row v row b.was (sym b.outcome ∙ o);
    rights = λ m i x y o row e out right. let b = row_before taken.rows mid.rows (main n) code.Static rows_are (change m) y e in
        kept.rights m i x b.row o row b.was (sym b.outcome ∙ out) (subst (λ (G : Graph). right_of G m x.def o ≡ Some i) graph_same right);
    roots = λ a h. let v = kept.roots a (root_same taken mid roots_are (change a) h) in (v.0, outcome_same (change a) ∙ v.1);
    binds = λ m x row h. kept.binds m x row (root_same taken mid roots_are (change m) h);
    calls = λ m x y c row e l. let b = row_before taken.rows mid.rows (main n) code.Static rows_are (main m) y e in
        kept.calls m x b.row c row b.was (sym b.last ∙ l);
    rounds = λ a y e. let b = row_before taken.rows mid.rows (main n) code.Static rows_are a y e in let x = kept.rounds a b.row b.was in
        let s = b.settled in let q = round_is in omega (arith, x, s, q);
    pairs = λ m x row some. pairs_same taken mid lists_are m (kept.pairs m x row some);
    scoped = λ m x row some. scoped_same taken mid lists_are m (kept.scoped m x row some);
    experts = still_experts arena taken mid links_are kept;
    listed = still_listed arena taken mid links_are kept;
    lists = still_lists arena taken mid links_are kept;
    tops = kept.tops;
    frozen = λ m y e flag. let b = row_before taken.rows mid.rows (main n) code.Static rows_are (main m) y e in
        fired_still arena m b.row y b.last (kept.frozen m b.row b.was (sym b.frozen ∙ flag));
    rooms = record {
      calls = λ m x y row e. let b = row_before taken.rows mid.rows (main n) code.Static rows_are (main m) y e in
          subst (λ (l : ℕ). length (kids x.def) ≤ l) (sym b.room) (kept.rooms.calls m x b.row row b.was);
      ran = subst (λ (l : Vec NodeId Global). nodes.live arena ≤ vec_capacity l) (sym (ap (λ (w : Work). w.ran) loose.last ∙ ap (λ (w : Work). w.ran) loose.rest)) kept.rooms.ran;
    };
  }

-- ---- the change is settled

bind_or_not : (d : Def) → IsBind d ⊎ (IsBind d → ⊥)
bind_or_not (graph.Bind l f captures) = inl (l, f, captures, refl)
bind_or_not d = inr (λ h. let e = h.3 in cc)

not_built : (d : Def) (o : Option Outcome) (root : Option NodeId) → (IsBind d → ⊥) → built_by d o root ≡ None
not_built (graph.Bind l f captures) o root not = absurd (not (l, f, captures, refl))
not_built d o root not = refl

settled_of : (given : Outcome) (round : ℕ) (x : Option Progress) (y : Progress) → option_map (with_outcome given round) x ≡ Some y
    → (y.settled ≡ round) × (y.outcome ≡ Some given)
settled_of given round None y e = absurd (none-some y e)
settled_of given round (Some w) y e =
    let same = same_Some (with_outcome given round w) y e in
    (ap (λ (p : Progress). p.settled) (sym same), ap (λ (p : Progress). p.outcome) (sym same))

module _ (arena : Arena) (mid : Work) (rows : Rows Progress) (n s : NodeId) (r : Row) (given : Outcome) (kept : IsKept arena mid)
    (live : row_at arena n ≡ Some r) (sub : subject_of r.def ≡ Some s) (own_row : Holds mid.rows (change n))
    (run : IsRewritten mid.rows rows (change n) (with_outcome given mid.round))
    (ran : (l : NodeId) (f : FnRef) (captures : List NodeId) → r.def ≡ graph.Bind l f captures → outcome_in (at mid.rows (change n)) ≡ Some given)
    (shows : (seen mid.rows (main s) ≡ Some given) ⊎ ((seen mid.rows (main s) ≡ None) × (given ≡ Invalid))) where
  abbrev new : Work
  new = record mid { rows = rows }

  still : (a : Point) → is_some (at rows a) ≡ is_some (at mid.rows a)
  still = rewritten_there mid.rows rows (change n) (with_outcome given mid.round) run

  main_row : (m : NodeId) → at rows (main m) ≡ at mid.rows (main m)
  main_row m = run.others (main m) (main_change m n)

  ran_live : (x : Row) (l : NodeId) (f : FnRef) (captures : List NodeId) → row_at arena n ≡ Some x → x.def ≡ graph.Bind l f captures
      → outcome_in (at mid.rows (change n)) ≡ Some given
  ran_live x l f captures row is = ran l f captures (ap (λ (y : Row). y.def) (same_Some r x (sym live ∙ row)) ∙ is)

  graph_run_same : graph_at arena new ≡ graph_at arena mid
  graph_run_same = graph_run arena mid new n given mid.round run refl refl ran_live

  row_of : (x : Option Progress) → at mid.rows (change n) ≡ x → is_some x ≡ true → (y : Progress) × (at mid.rows (change n) ≡ Some y)
  row_of None e h = absurd (cc)
  row_of (Some y) e h = (y, e)

  -- what is chosen fits
  chosen_fits : (i : NodeId) → right_of (graph_at arena mid) n r.def given ≡ Some i → Given arena.given i × Fits arena i r.ty
  chosen_fits i right = elim (bind_or_not r.def) [
    | inl b ↦
        let y = row_of (at mid.rows (change n)) refl own_row in
        kept.rights n i r y.0 given live y.1 (ap outcome_in (sym y.1) ∙ ran b.0 b.1 b.2 b.3) right
    | inr not ↦ right_fits arena (held_at arena mid) (held_at arena mid) mid.rows (types_kept arena mid kept) kept.sound n s i r given live sub shows
        (λ w built. absurd (none-some w (sym (built_live mid.rows mid.roots n arena mid.experts r live
        ∙ not_built r.def (outcome_in (at mid.rows (change n))) (at mid.roots (change n)) not) ∙ built))) right
  ]

  own_outcome : outcome_in (at rows (change n)) ≡ Some given
  own_outcome = ap outcome_in run.changed ∙ outcome_run given mid.round (at mid.rows (change n)) own_row

  own_of : (y : Progress) → at rows (change n) ≡ Some y → (y.settled ≡ mid.round) × (y.outcome ≡ Some given)
  own_of y e = settled_of given mid.round (at mid.rows (change n)) y (sym run.changed ∙ e)

  rights_now : (m i : NodeId) (x : Row) (y : Progress) (o : Outcome) → row_at arena m ≡ Some x → at rows (change m) ≡ Some y → y.outcome ≡ Some o
      → right_of (graph_at arena new) m x.def o ≡ Some i → Given arena.given i × Fits arena i x.ty
  rights_now m i x y o row e out right = elim (same_or_other (change n) (change m)) [
    | inr ne ↦ kept.rights m i x y o row (sym (run.others (change m) (λ h. ne (sym h))) ∙ e) out
        (subst (λ (G : Graph). right_of G m x.def o ≡ Some i) graph_run_same right)
    | inl h ↦
        let is : n ≡ m = ap (λ (p : Point). p.node) h in
        let own : at rows (change n) ≡ Some y = subst (λ (q : NodeId). at rows (change q) ≡ Some y) (sym is) e in
        let same : r ≡ x = same_Some r x (sym live ∙ subst (λ (q : NodeId). row_at arena q ≡ Some x) (sym is) row) in
        let o_is : o ≡ given = same_Some o given (sym out ∙ (own_of y own).1) in
        let chosen : right_of (graph_at arena mid) n x.def o ≡ Some i =
        subst (λ (q : NodeId). right_of (graph_at arena mid) q x.def o ≡ Some i) (sym is) (subst (λ (G : Graph). right_of G m x.def o ≡ Some i) graph_run_same right) in
        subst (λ (z : Row). Given arena.given i × Fits arena i z.ty) same (chosen_fits i
        (subst (λ (z : Row). right_of (graph_at arena mid) n z.def given ≡ Some i) (sym same)
        (subst (λ (z : Outcome). right_of (graph_at arena mid) n x.def z ≡ Some i) o_is chosen)))
  ]

  root_now : (m : NodeId) → Holds mid.roots (change m) → (v : Value) × (outcome_in (at rows (change m)) ≡ Some (Val v))
  root_now m h =
      let v = kept.roots m h in
      elim (same_or_other (change n) (change m)) [
        | inr ne ↦ (v.0, ap outcome_in (run.others (change m) (λ e. ne (sym e))) ∙ v.1)
        | inl e ↦
            let own : Holds mid.roots (change n) = subst (λ (x : Point). Holds mid.roots x) (sym e) h in
            let b = kept.binds n r live own in
            let was : Some (Val v.0) ≡ Some given = sym v.1 ∙ subst (λ (x : Point). outcome_in (at mid.rows x) ≡ Some given) e (ran b.0 b.1 b.2 b.3) in
            (v.0, subst (λ (x : Point). outcome_in (at rows x) ≡ Some (Val v.0)) e (own_outcome ∙ sym was))
      ]

  pub run_kept : IsKept arena new
  run_kept = record {
    step = kept.step;
    rows = λ a. still a ∙ kept.rows a;
    leaves = λ a h. elim (kept.leaves a h) [ inl row ↦ inl (still a ∙ row) | inr dead ↦ inr dead ];
    there = λ a h. kept.there a (sym (still a) ∙ h);
    given = kept.given;
    links = λ a b reads. links_same mid new still refl a b (kept.links a b reads);
    heap = λ a h. still a ∙ kept.heap a h;
    dead = kept.dead;
    sound = kept.sound;
    scopes = kept.scopes;
    older = kept.older;
    outcomes = λ m x y v row e o. kept.outcomes m x y v row (sym (main_row m) ∙ e) o;
    rights = rights_now;
    roots = root_now;
    binds = kept.binds;
    calls = λ m x y c row e l. kept.calls m x y c row (sym (main_row m) ∙ e) l;
    rounds = λ a y e. elim (same_or_other (change n) a) [
      | inr ne ↦ kept.rounds a y (sym (run.others a (λ h. ne (sym h))) ∙ e)
      | inl h ↦ let s = (own_of y (subst (λ (x : Point). at rows x ≡ Some y) (sym h) e)).0 in omega (arith, s)
    ];
    pairs = kept.pairs;
    scoped = kept.scoped;
    experts = kept.experts;
    listed = kept.listed;
    lists = kept.lists;
    tops = kept.tops;
    frozen = λ m y e flag. kept.frozen m y (sym (main_row m) ∙ e) flag;
    rooms = record { calls = λ m x y row e. kept.rooms.calls m x y row (sym (main_row m) ∙ e); ran = kept.rooms.ran };
  }

-- ---- the whole turn

-- the points that wait for the change are in the worklist, and then it was turned
module _ (arena : Arena) (taken woken turned : Work) (n k : NodeId) (r : Row) (given : Outcome) (kept : IsKept arena taken)
    (row_own : Holds taken.rows (change n)) (need_own : Needed taken.graph (change n)) (live : row_at arena n ≡ Some r) (sub : subject_of r.def ≡ Some k)
    (wakes : woken ≡ record taken { todo = woken.todo }) (has : HasTurned woken turned n (right_in woken.rows woken.roots n r.def) given) where
  right_as : right_in woken.rows woken.roots n r.def ≡ right_in taken.rows taken.roots n r.def
  right_as = ap (λ (w : Work). right_in w.rows w.roots n r.def) wakes

  has_turned : HasTurned woken turned n (right_in taken.rows taken.roots n r.def) given
  has_turned = subst (λ (x : Option NodeId). HasTurned woken turned n x given) right_as has

  t : HasTurned (record taken { todo = woken.todo }) turned n (right_in taken.rows taken.roots n r.def) given
  t = subst (λ (w : Work). HasTurned w turned n (right_in taken.rows taken.roots n r.def) given) wakes has_turned

  woken_sight : KeepsSight taken (record taken { todo = woken.todo })
  woken_sight = record { there = λ a. refl; out = λ a. refl; sees = λ a. refl; roots = refl; graph_roots = λ a. refl; round = refl }

  sight : KeepsSight taken t.mid
  sight = elim t.turned [
    | inl x ↦ subst (KeepsSight taken) (sym x.0) woken_sight
    | inr x ↦ loose_sight arena taken t.mid woken.todo n r k kept live sub row_own need_own x.1 x.0
  ]

  mid_kept : IsKept arena t.mid
  mid_kept = elim t.turned [
    | inl x ↦ subst (IsKept arena) (sym x.0) (todo_kept arena taken woken.todo kept)
    | inr x ↦ loose_kept arena taken t.mid woken.todo n r k kept live sub row_own need_own x.1 x.0
  ]

  mid_own : Holds t.mid.rows (change n)
  mid_own = sight.there (change n) ∙ row_own

  pub turned_own : Holds turned.rows (change n)
  turned_own = rewritten_there t.mid.rows turned.rows (change n) (with_outcome given taken.round) t.rows (change n) ∙ mid_own

  pub turned_round : turned.round ≡ taken.round
  turned_round = ap (λ (w : Work). w.round) t.rest ∙ sight.round

  pub turned_settled : settled_in turned.round (at turned.rows (change n)) ≡ true
  turned_settled = ap (λ (i : ℕ). settled_in i (at turned.rows (change n))) turned_round
      ∙ (ap (settled_in taken.round) t.rows.changed ∙ run_settled given taken.round (at t.mid.rows (change n)) mid_own)

  pub turned_roots : KeepsRoots taken.graph.roots turned.graph.roots
  turned_roots a = ap (λ (w : Work). root_times w.graph.roots a) t.rest ∙ sight.graph_roots a

  module _ (shows : (seen taken.rows (main k) ≡ Some given) ⊎ ((seen taken.rows (main k) ≡ None) × (given ≡ Invalid)))
      (ran : (l : NodeId) (f : FnRef) (captures : List NodeId) → r.def ≡ graph.Bind l f captures → outcome_in (at taken.rows (change n)) ≡ Some given) where
    shows_mid : (seen t.mid.rows (main k) ≡ Some given) ⊎ ((seen t.mid.rows (main k) ≡ None) × (given ≡ Invalid))
    shows_mid = elim shows [
      | inl e ↦ inl (sight.sees (main k) ∙ e)
      | inr x ↦ inr (sight.sees (main k) ∙ x.0, x.1)
    ]

    run : IsRewritten t.mid.rows turned.rows (change n) (with_outcome given t.mid.round)
    run = subst (λ (i : ℕ). IsRewritten t.mid.rows turned.rows (change n) (with_outcome given i)) (sym sight.round) t.rows

    pub turned_kept : IsKept arena turned
    turned_kept = subst (IsKept arena) (sym t.rest) (run_kept arena t.mid turned.rows n k r given mid_kept live sub mid_own run
        (λ l f captures is. sight.out (change n) ∙ ran l f captures is) shows_mid)

    pub is_turned : ((p : Point) → Among p woken.todo.items ↔ WaitsFor taken p (change n)) → ChangeIsTurned arena taken turned n
    is_turned listed = record {
      row = r;
      subject = k;
      given = given;
      is_row = live;
      is_subject = sub;
      sees = shows;
      built = ran;
      woken = woken;
      wakes = record { listed = listed; rest = wakes };
      turned = has_turned;
    }
