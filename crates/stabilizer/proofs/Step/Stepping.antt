-- A step of the stabilizer is a step of the machine.
use Rattle.std.proofs.Common.{◌≡◌, ◌≢◌, ◌⊎◌, inl, inr, ℕ, ◌<◌, ◌≤◌, true, false, List, Option, None, Some, refl, sym, ap, subst, ◌∙◌, arith}
use Rattle.std.specs.Prelude.{is_some, reverse}
use Rattle.inc_value.specs.declared.node.NodeId.{NodeId}
use Rattle.inc_value.specs.declared.node.Point.{Point}
use Rattle.inc_value.specs.declared.outcome.Outcome.{Outcome}
use Rattle.inc_value.specs.Choice.{here, Among}
use Rattle.inc_terms.specs.Depend.{main, change}
use Rattle.inc_terms.specs.Term.{Functions}
use Rattle.point_map.specs.Rows.{Rows, at, Holds, Changes}
use Rattle.point_map.proofs.Places.{point_cases}
use Rattle.link_table.specs.Links.{Links, times, Reads}
use Rattle.recompute_heap.specs.Agree.{IsLeast as IsLowest, IsEmpty}
use Rattle.height_order.specs.Levels.{level, or_zero, KeepsPoints}
use Rattle.necessity.specs.Need.{Roots, root_times, KeepsRoots}
use Rattle.necessary_graph.specs.Part.{NecessaryPart, Needed}
use Rattle.node_arena.specs.Arena.{Arena}
use Rattle.inc_terms.specs.Graph.{Graph}
use Rattle.wiring.specs.Graph.{graph_at}
use Rattle.expert_nodes.specs.Experts.{is_stale_at}
use Rattle.node_outcomes.specs.Computing.{CallsSeen, IsSeenDue}
use Rattle.stabilize_round.specs.Calling.{cost_at}
use Rattle.stabilize_round.specs.Counts.{RoseBy, RoseAtMost}
use Rattle.stabilize_round.specs.Invariant.{Invariant}
use Rattle.stabilize_round.specs.Moves.{IsLeast, StepMain, computed, calls_of}
use Rattle.stabilize_round.specs.Machine.{step_main}
use Rattle.stabilize_round.specs.State.{State, Call}
use Rattle.stabilize_round.specs.Steps.{Step, plainly}
use Rattle.wiring.specs.Kept.{IsKept}
use Rattle.node_outcomes.specs.Meaning.{Meaning}
use Rattle.node_outcomes.specs.Row.{kept_in, outcome_in, settled_in}
use Rattle.node_outcomes.specs.Progress.{Progress}
use Rattle.std.proofs.lemmas.Option.{same_Some}
use Rattle.stabilizer.specs.Settling.{IsSettled}
use Rattle.wiring.specs.Stands.{MatchesState, Counts}
use Rattle.stabilizer.specs.Dying.{TakesLeast}
use Rattle.stabilizer.specs.Stepping.{IsOfBuilds, MainIsSettled, MainIsLeft, HasCalledDue, StepsAt, StepRefused, as_it_was}
use Rattle.stabilizer.specs.declared.parts.Parts.{Parts}
use Rattle.wiring.specs.declared.refused.Refused.{Refused}
use Rattle.wiring.specs.declared.refused.Refused.TheVariants.{Memory}
use Rattle.wiring.specs.Wiring.{KeepsGraph}
use Rattle.wiring.specs.declared.work.Work.{Work}
use Rattle.stabilizer.proofs.Step.Carrying.{needed_now, needed_before, heap_graph, back_kept, settled_flags}
use Rattle.stabilizer.proofs.Step.Experts.{frozen_rests, graph_seen}
use Rattle.stabilizer.proofs.Step.Mains.{settled_stands, settled_enqueues, counted}
use Rattle.wiring.proofs.Sight.{row_is, own_sees, keeps_answers, looks, calls_are, due_is}
use Rattle.wiring.proofs.Holding.{died_same}
use Rattle.wiring.proofs.Staying.{owed_still}
use Rattle.stabilizer.proofs.Step.Making.{zero_or_more}

-- a main that was settled after it left the heap was settled
module _ (old new : Work) (g : NecessaryPart) (p : Point) (n : NodeId) (o : Outcome) (last : Option Call) (made : ℕ)
    (same : p ≡ main n) (graph : KeepsGraph old.graph g) (c : Changes old.graph.heap g.heap p None)
    (w : IsSettled (record old { graph = g }) new n o last made) where
  heap_as : (a : Point) → a ≢ main n → at g.heap a ≡ at old.graph.heap a
  heap_as a ne = c.others a (λ e. ne (e ∙ same))

  pub settled_before : IsSettled old new n o last made
  settled_before = record {
    row = w.row;
    was = w.was;
    now = w.now;
    others = w.others;
    graph = record { links = w.graph.links ∙ graph.links; roots = w.graph.roots ∙ graph.roots; heights = w.graph.heights ∙ graph.heights };
    kept = λ a ne h. w.kept a ne (ap is_some (heap_as a ne) ∙ h);
    out = λ h. subst (λ (l : Links). Reads l (main n) (main n)) graph.links (w.out h);
    told = λ ne a r. w.told ne a (subst (λ (l : Links). Reads l a (main n)) (sym graph.links) r);
    only = λ a ne h. elim (w.only a ne h) [
      | inl k ↦ inl (sym (ap is_some (heap_as a ne)) ∙ k)
      | inr k ↦ inr (subst (λ (l : Links). Reads l a (main n)) graph.links k.0, k.1)
    ];
    stops = λ stopped a ne h. sym (ap is_some (heap_as a ne)) ∙ w.stops stopped a ne h;
    roots = w.roots;
    deaths = w.deaths;
    ran = w.ran;
    todo = w.todo;
    retries = w.retries;
    round = w.round;
  }

-- a heap that holds a point isn't empty
pub not_empty : (heap : Rows ℕ) (p : Point) → Holds heap p → IsEmpty heap → ⊥
not_empty heap p held empty = absurd (let e : true ≡ false = sym held ∙ ap is_some (empty p) in cc)

-- the parts without the point that was taken
pub takes_least : (old : Work) (g : NecessaryPart) (p q : Point) → p ≡ q → Holds old.graph.heap p → IsLowest old.graph.heap (level old.graph.heights p)
    → g ≡ record old.graph { heap = g.heap } → Changes old.graph.heap g.heap p None → TakesLeast old (record old { graph = g }) q
takes_least old g p q same held low rest c =
    subst (TakesLeast old (record old { graph = g })) same (record { held = held; least = low; heap = c; graph = rest; rest = refl })

-- what is lowest in the heap is least
module _ (s : State) (arena : Arena) (old : Work) (counts : Counts) (kept : IsKept arena old) (st : MatchesState arena old counts None s) (p : Point)
    (was : Holds old.graph.heap p) (low : IsLowest old.graph.heap (level old.graph.heights p)) where
  above : (q : Point) (x : Option ℕ) → at old.graph.heap q ≡ x → is_some x ≡ true → level old.graph.heights p ≤ level old.graph.heights q
  above q None e h = absurd (cc)
  above q (Some k) e h = subst (λ (m : ℕ). level old.graph.heights p ≤ m) (sym (ap or_zero (kept.step.heap q k e).0)) (low q k e)

  need_in : (q : Point) (x : Option ℕ) → at old.graph.heap q ≡ x → is_some x ≡ true → Needed old.graph q
  need_in q None e h = absurd (cc)
  need_in q (Some k) e h = (kept.step.heap q k e).1

  -- what is in the heap is needed, so its height is the state's
  level_is : (q : Point) → Holds old.graph.heap q → s.height q ≡ level old.graph.heights q
  level_is q h = st.height q (need_in q (at old.graph.heap q) refl h)

  pub is_least : IsLeast s p
  is_least = record {
    heap = st.heap p ∙ was;
    least = λ q h.
        let there : Holds old.graph.heap q = sym (st.heap q) ∙ h in
        let l = above q (at old.graph.heap q) refl there in let a = level_is p was in let b = level_is q there in omega (arith, l, a, b);
  }

-- ---- a main is settled

module _ (M : Meaning) (old new : Parts) (g : NecessaryPart) (p : Point) (n : NodeId) (same : p ≡ main n)
    (before after : Counts) (kept : IsKept old.arena old.work) (was : Holds old.work.graph.heap p)
    (low : IsLowest old.work.graph.heap (level old.work.graph.heights p))
    (rest : g ≡ record old.work.graph { heap = g.heap }) (c : Changes old.work.graph.heap g.heap p None)
    (m : MainIsSettled M.functions old.arena (record old.work { graph = g }) new.work n before after) (nodes : new.arena ≡ old.arena) where
  abbrev F : Functions
  F = M.functions

  abbrev arena : Arena
  arena = old.arena

  pub w : IsSettled old.work new.work n m.outcome m.last (calls_of m.called (cost_at (graph_at arena old.work) n))
  w = settled_before old.work new.work g p n m.outcome m.last (calls_of m.called (cost_at (graph_at arena old.work) n)) same
      (heap_graph arena old.work g rest) c m.settled

  needs : (a : Point) → (Needed new.work.graph a → Needed old.work.graph a) × (Needed old.work.graph a → Needed new.work.graph a)
  needs a = (needed_before old.work.graph new.work.graph w.graph a, needed_now old.work.graph new.work.graph w.graph a)

  -- its flag stays, and what freezes keep
  flags : (a : NodeId) → kept_in (at new.work.rows (main a)) ≡ kept_in (at old.work.rows (main a))
  flags = settled_flags old.work new.work n m.outcome m.last (calls_of m.called (cost_at (graph_at arena old.work) n)) w
      (λ flag. frozen_rests F arena old.work kept (is_stale_at old.work.experts) n m.computed.row m.computed.kept m.last m.called m.computed.is_row
      m.computed.is_kept m.computed.calls (same_row ∙ flag) ∙ ap (λ (k : Progress). k.last) its_row)
    where
      its_row : m.computed.kept ≡ w.row
      its_row = same_Some m.computed.kept w.row (sym m.computed.is_kept ∙ w.was)

      same_row : m.computed.kept.frozen ≡ w.row.frozen
      same_row = ap (λ (k : Progress). k.frozen) its_row

  pub steps : StepsAt M old new before after p
  steps z s begun quiet st = (
    t,
    made,
    subst (λ (x : Arena). MatchesState x new.work after None t) (sym nodes)
        (settled_stands s arena old.work new.work before after n m.outcome m.last m.called st m.rest w needs m.marks flags),
    sym same,
  )
    where
      inv : Invariant F z s
      inv = begun.holds

      least : IsLeast s (main n)
      least = subst (IsLeast s) same (is_least s arena old.work before kept st p was low)

      no_loop : s.links (main n) (main n) ≡ 0
      no_loop = elim (zero_or_more (s.links (main n) (main n))) [
        | inl e ↦ e
        | inr l ↦ absurd (let r = kept.step.rises (main n) (main n) (subst (λ (k : ℕ). 0 < k) (st.links (main n) (main n)) l) in omega (arith, r))
      ]

      calls_as : s.calls ≡ before.calls
      calls_as = ap (λ (x : Counts). x.calls) st.counts

      main_step : StepMain F s n m.outcome (λ (a : Point). is_some (at new.work.graph.heap a)) m.last m.called after.calls
      main_step = record {
        row = m.computed.row;
        is_row = row_is s arena old.work before kept st n ∙ m.computed.is_row;
        taken = least;
        own = own_sees s arena old.work before kept st F n m.computed.row m.computed.is_row
            ∙ m.computed.own (keeps_answers s arena old.work before kept st F z inv)
            (looks s arena old.work before kept st F z inv quiet n least m.computed.row m.computed.is_row);
        calls = calls_are s arena old.work before kept st n m.computed.kept m.computed.is_kept F m.computed.row.def m.last m.called
            (subst (λ (G : Graph). CallsSeen F G (is_stale_at old.work.experts) n old.work.round old.work.rows m.computed.row.def m.computed.kept.last
            m.last m.called) (sym st.graph)
            m.computed.calls);
        count = subst (λ (H : Graph). RoseBy s.calls (calls_of m.called (cost_at H n)) after.calls) (sym st.graph)
            (subst (λ (k : ℕ). RoseBy k (calls_of m.called (cost_at (graph_at arena old.work) n)) after.calls) (sym calls_as) m.count);
        heap = settled_enqueues s arena old.work new.work before after n m.outcome m.last m.called st m.rest w needs m.marks flags no_loop;
      }

      t : State
      t = computed s n m.outcome (λ (a : Point). is_some (at new.work.graph.heap a)) m.last m.called after.calls

      made : Step F z s t
      made = record {
        point = main n;
        begins = quiet;
        least = least;
        ready = s;
        prepared = here;
        next = t;
        settles = step_main quiet main_step refl;
        it = refl;
        wired = plainly here;
        ends = quiet;
        again = λ e. refl;
        attaches = λ b e. absurd (let parts = ap (λ (x : Point). x.part) e in cc);
      }

-- ---- a step that is refused

-- counts that rose by nothing stayed
counts_same : (before after : Counts) → after.calls ≡ before.calls → IsOfBuilds before after → after ≡ before
counts_same before after calls rest =
    ap (λ (x : ℕ). counted x after.builds after.adds) calls
    ∙ (ap (λ (x : ℕ). counted before.calls x after.adds) rest.builds
    ∙ ap (λ (x : ℕ). counted before.calls before.builds x) rest.adds)

module _ (arena : Arena) (old mid : Work) (g g' : NecessaryPart) (p : Point) (n : NodeId) (before after : Counts)
    (kept : IsKept arena old) (was : Holds old.graph.heap p) (rest : g ≡ record old.graph { heap = g.heap }) (c : Changes old.graph.heap g.heap p None)
    (left : MainIsLeft arena (record old { graph = g }) mid n before after)
    (rest' : g' ≡ record mid.graph { heap = g'.heap }) (put : Changes mid.graph.heap g'.heap p (at mid.graph.heights p)) where
  abbrev back : Work
  back = record mid { graph = g' }

  same_graph : KeepsGraph old.graph g'
  same_graph =
      let first = heap_graph arena old g rest in
      let last = heap_graph arena mid g' rest' in record {
        links = last.links ∙ (ap (λ (x : NecessaryPart). x.links) left.graph ∙ first.links);
        roots = last.roots ∙ (ap (λ (x : NecessaryPart). x.roots) left.graph ∙ first.roots);
        heights = last.heights ∙ (ap (λ (x : NecessaryPart). x.heights) left.graph ∙ first.heights);
      }

  height_as : at mid.graph.heights p ≡ at old.graph.heights p
  height_as = ap (λ (x : NecessaryPart). at x.heights p) left.graph ∙ ap (λ (x : NecessaryPart). at x.heights p) rest

  in_heap : (x : Option ℕ) → at old.graph.heap p ≡ x → is_some x ≡ true → at old.graph.heights p ≡ x
  in_heap None e h = absurd (cc)
  in_heap (Some k) e h = (kept.step.heap p k e).0

  heap_stays : KeepsPoints old.graph.heap g'.heap
  heap_stays a = elim (point_cases a p) [
    | inl e ↦ subst (λ (x : Point). is_some (at g'.heap x) ≡ is_some (at old.graph.heap x)) (sym e)
        (ap is_some (put.changed ∙ (height_as ∙ in_heap (at old.graph.heap p) refl was)))
    | inr ne ↦ ap is_some (put.others a ne ∙ (ap (λ (x : NecessaryPart). at x.heap a) left.graph ∙ c.others a ne))
  ]

  -- the state can't tell
  pub refused_stands : (s : State) → MatchesState arena old before None s → MatchesState arena back before None s
  refused_stands s st = record {
    graph = st.graph ∙ sym (graph_seen arena old back (λ m. ap outcome_in (left.rows (change m))) left.roots (λ m. ap kept_in (left.rows (main m)))
        left.experts.links);
    out = λ a k e. st.out a k (sym (left.rows a) ∙ e);
    last = λ m k e. st.last m k (sym (left.rows (main m)) ∙ e);
    cutoff = λ m k e. st.cutoff m k (sym (left.rows (main m)) ∙ e);
    stale = λ m. st.stale m ∙ sym (left.experts.stale m);
    links = λ a b. st.links a b ∙ ap (λ (l : Links). times l a b) (sym same_graph.links);
    root = λ a. st.root a ∙ ap (λ (r : Roots). root_times r a) (sym same_graph.roots);
    needed = λ a. (λ t. needed_now old.graph g' same_graph a ((st.needed a).0 t), λ h. (st.needed a).1 (needed_before old.graph g' same_graph a h));
    height = λ a need. st.height a (needed_before old.graph g' same_graph a need) ∙ ap (λ (h : Rows ℕ). level h a) (sym same_graph.heights);
    heap = λ a. st.heap a ∙ sym (heap_stays a);
    settled = λ a. st.settled a ∙ (ap (settled_in old.round) (sym (left.rows a)) ∙ ap (λ (k : ℕ). settled_in k (at mid.rows a)) (sym left.round));
    stage = λ a k e. st.stage a k (sym (left.rows a) ∙ e);
    owed = λ a. st.owed a ∙ sym (owed_still old back s None left.rows left.experts.links.fresh a);
    todo = λ a t. subst (λ (xs : List Point). Among a xs ⊎ ⊥) (sym left.todo) (st.todo a t);
    retries = st.retries ∙ sym left.retries;
    died = λ m. st.died m ∙ sym (died_same old back left.deaths m);
    ran = st.ran ∙ ap reverse (sym left.ran);
    counts = st.counts;
    given = st.given;
  }

  -- the counts stayed, or some calls of the main's function were made
  left_count : (s : State) → MatchesState arena old before None s → IsLeast s (main n)
      → (after ≡ before) ⊎ HasCalledDue s before after
  left_count s st least = elim left.count [
    | inl same_count ↦ inl (counts_same before after same_count left.rest)
    | inr k ↦ inr (record {
      node = n;
      row = k.row;
      least = least;
      is_row = ap (λ (G : Graph). G.row n) st.graph ∙ k.is_row;
      due = due_is s arena old before kept st n k.kept k.is_kept k.row.def
          (subst (λ (G : Graph). IsSeenDue G (is_stale_at old.experts) n old.round old.rows k.row.def) (sym st.graph) k.due);
      count = subst (λ (G : Graph). RoseAtMost before.calls (cost_at G n) after.calls) (sym st.graph) k.count;
      rest = left.rest;
    })
  ]

  need_then : (x : Option ℕ) → at old.graph.heap p ≡ x → is_some x ≡ true → Needed old.graph p
  need_then None e h = absurd (cc)
  need_then (Some k) e h = (kept.step.heap p k e).1

  pub refused_kept : IsKept arena mid → IsKept arena back
  refused_kept mid_kept = back_kept arena mid g' rest' p mid_kept
      (subst (λ (x : NecessaryPart). Needed x p) (sym left.graph)
      (needed_now old.graph g (heap_graph arena old g rest) p (need_then (at old.graph.heap p) refl was)))
      (ap is_some (left.rows p) ∙ kept.heap p was) put

-- so it is of the parts
module _ (M : Meaning) (old mid new : Parts) (g g' : NecessaryPart) (p : Point) (n : NodeId) (before after : Counts)
    (kept : IsKept old.arena old.work) (was : Holds old.work.graph.heap p) (low : IsLowest old.work.graph.heap (level old.work.graph.heights p))
    (rest : g ≡ record old.work.graph { heap = g.heap }) (c : Changes old.work.graph.heap g.heap p None)
    (left : MainIsLeft old.arena (record old.work { graph = g }) mid.work n before after) (nodes : mid.arena ≡ old.arena)
    (rest' : g' ≡ record mid.work.graph { heap = g'.heap }) (put : Changes mid.work.graph.heap g'.heap p (at mid.work.graph.heights p))
    (last : new ≡ record mid { work = record mid.work { graph = g' } }) where
  abbrev put_back : Work
  put_back = record mid.work { graph = g' }

  arena_is : new.arena ≡ old.arena
  arena_is = ap (λ (x : Parts). x.arena) last ∙ nodes

  work_is : new.work ≡ put_back
  work_is = ap (λ (x : Parts). x.work) last

  pub step_refused : p ≡ main n → (e : Refused) → e ≡ Memory → StepRefused M old new before after e
  step_refused same e memory z s begun quiet st =
      let least = subst (IsLeast s) same (is_least s old.arena old.work before kept st p was low) in
      as_it_was
      (subst (λ (a : Arena). MatchesState a new.work before None s) (sym arena_is) (subst (λ (w : Work). MatchesState old.arena w before None s) (sym work_is)
      (refused_stands old.arena old.work mid.work g g' p n before after kept was rest c left rest' put s st)))
      (left_count old.arena old.work mid.work g g' p n before after kept was rest c left rest' put s st least)
      memory

-- the nodes stay where only what is kept beside them may be other
pub arena_kept : (old new : Parts) → new ≡ record old { work = new.work } → new.arena ≡ old.arena
arena_kept old new rest = ap (λ (x : Parts). x.arena) rest

-- what is kept stays so where the main is put back
pub main_back : (old mid : Parts) (g g' : NecessaryPart) (p : Point) (n : NodeId) (before after : Counts) → IsKept old.arena old.work
    → Holds old.work.graph.heap p → g ≡ record old.work.graph { heap = g.heap } → Changes old.work.graph.heap g.heap p None
    → MainIsLeft old.arena (record old.work { graph = g }) mid.work n before after
    → g' ≡ record mid.work.graph { heap = g'.heap } → Changes mid.work.graph.heap g'.heap p (at mid.work.graph.heights p)
    → mid.arena ≡ old.arena → IsKept mid.arena mid.work → IsKept mid.arena (record mid.work { graph = g' })
main_back old mid g g' p n before after kept was rest c left rest' put nodes mid_kept =
    subst (λ (a : Arena). IsKept a (record mid.work { graph = g' })) (sym nodes)
    (refused_kept old.arena old.work mid.work g g' p n before after kept was rest c left rest' put
    (subst (λ (a : Arena). IsKept a mid.work) nodes mid_kept))

-- ---- a point that was taken

module _ (arena : Arena) (old : Work) (g : NecessaryPart) (p q : Point) (same : p ≡ q) (kept : IsKept arena old) (was : Holds old.graph.heap p)
    (rest : g ≡ record old.graph { heap = g.heap }) (c : Changes old.graph.heap g.heap p None) where
  -- it has a row
  pub popped_row : Holds old.rows q
  popped_row = subst (λ (x : Point). Holds old.rows x) same (kept.heap p was)

  in_heap_needed : (x : Option ℕ) → at old.graph.heap p ≡ x → is_some x ≡ true → Needed old.graph p
  in_heap_needed None e h = absurd (cc)
  in_heap_needed (Some k) e h = (kept.step.heap p k e).1

  -- it is needed
  pub popped_needed : Needed g q
  popped_needed = subst (λ (x : Point). Needed g x) same (needed_now old.graph g (heap_graph arena old g rest) p (in_heap_needed (at old.graph.heap p) refl was))

  -- and isn't in the heap
  pub popped_taken : at g.heap q ≡ None
  popped_taken = subst (λ (x : Point). at g.heap x ≡ None) same c.changed

-- roots stay in what differs in the heap alone
pub same_roots : (old g new : NecessaryPart) → g ≡ record old { heap = g.heap } → new.roots ≡ g.roots → KeepsRoots old.roots new.roots
same_roots old g new rest same a = ap (λ (r : Roots). root_times r a) (same ∙ ap (λ (x : NecessaryPart). x.roots) rest)
