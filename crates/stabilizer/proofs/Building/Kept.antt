-- What the parts keep, they keep where room is made, and where the change of a bind is settled that was built anew.
use Rattle.std.proofs.Common.{◌≡◌, ◌≢◌, ◌⊎◌, inl, inr, ℕ, ◌-◌, ◌≤◌, true, false, List, Option, None, Some, refl, sym, ap, subst, ◌∙◌, arith, Vec, Global}
use Rattle.std.proofs.Common.{Global}
use Rattle.std.specs.Prelude.{is_some, IsSome, option_map, vec_capacity}
use Rattle.std.proofs.lemmas.Option.{none-some, same_Some}
use Rattle.inc_value.specs.Choice.{Among}
use Rattle.inc_value.specs.declared.function.FnRef.{FnRef}
use Rattle.inc_value.specs.declared.node.NodeId.{NodeId}
use Rattle.inc_value.specs.declared.node.Point.{Point}
use Rattle.inc_value.specs.declared.outcome.Outcome.{Outcome}
use Rattle.inc_value.specs.declared.outcome.Outcome.TheVariants.{Val}
use Rattle.inc_value.specs.declared.value.Value.{Value}
use Rattle.inc_terms.specs.Depend.{main, change, right_of}
use Rattle.inc_terms.specs.Graph as graph
use Rattle.inc_terms.specs.Graph.{Graph, Row, Built}
use Rattle.inc_terms.specs.Within.{Given}
use Rattle.inc_terms.proofs.Depending.{built_for}
use Rattle.expert_nodes.specs.Experts.{SameLinks}
use Rattle.point_map.specs.Rows.{Rows, at, Holds, KeepsRows}
use Rattle.link_table.specs.Links.{Links, Reads}
use Rattle.necessary_graph.specs.Part.{IsInStep}
use Rattle.node_arena.specs.Arena as nodes
use Rattle.node_arena.specs.Arena.{Arena, row_at}
use Rattle.node_arena.specs.Graph.{graph_of}
use Rattle.node_arena.specs.Typing.{Fits}
use Rattle.node_lists.specs.Deaths.{Deaths}
use Rattle.node_lists.specs.Listed.{Listed}
use Rattle.stabilize_round.specs.Counts.{RoseBy, RoseAtMost}
use Rattle.stabilize_round.specs.Rebuilding.{builds_of}
use Rattle.stabilize_round.specs.State.{State}
use Rattle.stabilize_round.proofs.Main.{main_change}
use Rattle.stabilize_round.proofs.Points.{same_or_other, node_or_other}
use Rattle.node_outcomes.specs.Row.{with_outcome, outcome_in}
use Rattle.node_outcomes.specs.Progress.{Progress}
use Rattle.node_outcomes.proofs.Held.{same_held}
use Rattle.wiring.specs.Graph.{held_at, graph_at, died_at}
use Rattle.wiring.specs.Kept.{IsKept, IsBind, IsGhostLink}
use Rattle.wiring.specs.Stands.{MatchesState, Counts}
use Rattle.wiring.specs.declared.work.Work.{Work}
use Rattle.wiring.proofs.Deciding.{need_same}
use Rattle.wiring.proofs.Holding.{ghost_same, right_as}
use Rattle.stabilizer.specs.Building.{HasGrown}
use Rattle.stabilizer.specs.Dying.{StandsBefore, HasDied}
use Rattle.stabilizer.specs.Kept.{PartsKept, graph_in}
use Rattle.stabilizer.specs.Rebuilding.{IsToBuild}
use Rattle.stabilizer.specs.declared.parts.Parts.{Parts}
use Rattle.stabilizer.proofs.Building.Anew.{IsRebuilt, built_alike, built_now}
use Rattle.inc_terms.specs.Rebuild.{Inside}
use Rattle.stabilizer.proofs.Building.Remade.{has_row}
use Rattle.wiring.proofs.Staying.{rewritten_there}
use Rattle.stabilizer.proofs.Change.Turned.{outcome_run}
use Rattle.stabilizer.proofs.Step.Experts.{linked_as, still_experts, still_listed, still_lists}

-- ---- a change is settled whose bind was built anew

settled_when : (now : Outcome) (round : ℕ) (x : Option Progress) (k : Progress) → option_map (with_outcome now round) x ≡ Some k → k.settled ≡ round
settled_when now round None k e = absurd (none-some k e)
settled_when now round (Some j) k e = sym (ap (λ (y : Progress). y.settled) (same_Some _ k e))

module _ (arena : Arena) (old new : Work) (n : NodeId) (now : Outcome) (root : Option NodeId) (kept : IsKept arena old)
    (run : IsRebuilt old new n now root) (there : Holds old.rows (change n)) (step : IsInStep new.graph) (pairs : new.pairs ≡ old.pairs)
    (scoped : new.scoped ≡ old.scoped) (row : Row) (live : row_at arena n ≡ Some row) (left : NodeId) (f : FnRef) (captures : List NodeId)
    (def : row.def ≡ graph.Bind left f captures) (given : (m : NodeId) → root ≡ Some m → Given arena.given m × Fits arena m row.ty)
    (value : IsSome root → (v : Value) × (now ≡ Val v)) where
  points : (p : Point) → is_some (at new.rows p) ≡ is_some (at old.rows p)
  points p = rewritten_there old.rows new.rows (change n) (with_outcome now old.round) run.rows p

  row_now : (p : Point) → Holds old.rows p → Holds new.rows p
  row_now p h = points p ∙ h

  height_was : (p : Point) → Holds new.graph.heights p → Holds old.graph.heights p
  height_was p h = subst (λ (m : Rows ℕ). Holds m p) run.graph.heights h

  height_now : (p : Point) → Holds old.graph.heights p → Holds new.graph.heights p
  height_now p h = subst (λ (m : Rows ℕ). Holds m p) (sym run.graph.heights) h

  heap_was : (p : Point) → Holds new.graph.heap p → Holds old.graph.heap p
  heap_was p h = elim (same_or_other (change n) p) [
    | inl e ↦ absurd (let x : false ≡ true = sym (ap is_some run.heap.changed) ∙ subst (λ (y : Point). Holds new.graph.heap y) (sym e) h in cc)
    | inr ne ↦ sym (ap is_some (run.heap.others p (λ e. ne (sym e)))) ∙ h
  ]

  main_was : (m : NodeId) → at new.rows (main m) ≡ at old.rows (main m)
  main_was m = run.rows.others (main m) (main_change m n)

  rights_now : (m target : NodeId) (r : Row) (k : Progress) (o : Outcome) → row_at arena m ≡ Some r → at new.rows (change m) ≡ Some k
      → k.outcome ≡ Some o → right_of (graph_at arena new) m r.def o ≡ Some target → Given arena.given target × Fits arena target r.ty
  rights_now m target r k o is at_k shows right = elim (node_or_other m n) [
    | inl e ↦
        let is_n : row_at arena n ≡ Some r = subst (λ (x : NodeId). row_at arena x ≡ Some r) e is in
        let same : row ≡ r = same_Some row r (sym live ∙ is_n) in
        let def' : r.def ≡ graph.Bind left f captures = ap (λ (x : Row). x.def) (sym same) ∙ def in
        let right' : right_of (graph_at arena new) n (graph.Bind left f captures) o ≡ Some target =
        subst (λ (d : graph.Def). right_of (graph_at arena new) n d o ≡ Some target) def'
        (subst (λ (x : NodeId). right_of (graph_at arena new) x r.def o ≡ Some target) e right) in
        let w = built_for ((held_at arena new).built n) o target right' in
        let built = built_now arena old new n now root there run row left f captures live def in
        let at_w : record { outcome = now; root = root } ≡ w.0 = same_Some _ w.0 (sym built ∙ w.1) in
        let k = given target (ap (λ (x : Built). x.root) at_w ∙ w.3) in
        (k.0, subst (λ (x : Row). Fits arena target x.ty) same k.1)
    | inr ne ↦
        let at_old : at old.rows (change m) ≡ Some k = sym (run.rows.others (change m) (λ e. ne (ap (λ (p : Point). p.node) e))) ∙ at_k in
        kept.rights m target r k o is at_old shows
        (right_as arena arena old new m target r.def o (built_alike arena old new n now root run m ne) right)
  ]

  roots_now : (m : NodeId) → Holds new.roots (change m) → (v : Value) × (outcome_in (at new.rows (change m)) ≡ Some (Val v))
  roots_now m h = elim (node_or_other m n) [
    | inl e ↦
        let v = value (sym (ap is_some run.roots.changed) ∙ subst (λ (x : NodeId). Holds new.roots (change x)) e h) in (
          v.0,
          subst (λ (x : NodeId). outcome_in (at new.rows (change x)) ≡ Some (Val v.0)) (sym e)
              (ap outcome_in run.rows.changed ∙ (outcome_run now old.round (at old.rows (change n)) there ∙ ap (λ (o : Outcome). Some o) v.1)),
        )
    | inr ne ↦
        let away : change m ≢ change n = (λ e. ne (ap (λ (p : Point). p.node) e)) in
        let v = kept.roots m (sym (ap is_some (run.roots.others (change m) away)) ∙ h) in
        (v.0, ap outcome_in (run.rows.others (change m) away) ∙ v.1)
  ]

  binds_now : (m : NodeId) (r : Row) → row_at arena m ≡ Some r → Holds new.roots (change m) → IsBind r.def
  binds_now m r is h = elim (node_or_other m n) [
    | inl e ↦
        let is_n : row_at arena n ≡ Some r = subst (λ (x : NodeId). row_at arena x ≡ Some r) e is in
        (left, f, captures, ap (λ (x : Row). x.def) (sym (same_Some row r (sym live ∙ is_n))) ∙ def)
    | inr ne ↦
        let away : change m ≢ change n = (λ e. ne (ap (λ (p : Point). p.node) e)) in
        kept.binds m r is (sym (ap is_some (run.roots.others (change m) away)) ∙ h)
  ]

  rounds_now : (p : Point) (k : Progress) → at new.rows p ≡ Some k → k.settled ≤ new.round
  rounds_now p k e = elim (same_or_other (change n) p) [
    | inl is ↦
        let at_n : at new.rows (change n) ≡ Some k = subst (λ (x : Point). at new.rows x ≡ Some k) (sym is) e in
        let s = settled_when now old.round (at old.rows (change n)) k (sym run.rows.changed ∙ at_n) in
        let same = run.round in omega (arith, s, same)
    | inr ne ↦ let l = kept.rounds p k (sym (run.rows.others p (λ e. ne (sym e))) ∙ e) in let same = run.round in omega (arith, l, same)
  ]

  links_now : (p q : Point) → Holds old.rows p ⊎ IsGhostLink old p q → Holds new.rows p ⊎ IsGhostLink new p q
  links_now p q (inl rowed) = inl (row_now p rowed)
  links_now p q (inr g) = inr (ghost_same old new run.deaths p q g)

  -- the parts keep what they kept
  pub rebuilt_kept : IsKept arena new
  rebuilt_kept = record {
    step = step;
    rows = λ p. points p ∙ kept.rows p;
    leaves = λ p h. elim (kept.leaves p (height_was p h)) [
      | inl rowed ↦ inl (row_now p rowed)
      | inr dead ↦ inr (dead.0, need_same old.graph new.graph run.graph.links run.graph.roots p dead.1)
    ];
    there = λ p h. height_now p (kept.there p (sym (points p) ∙ h));
    given = λ p h. kept.given p (height_was p h);
    links = λ p q reads. links_now p q (kept.links p q (subst (λ (l : Links). Reads l p q) run.graph.links reads));
    heap = λ p h. row_now p (kept.heap p (heap_was p h));
    dead = λ m b e. kept.dead m b (sym (ap (λ (d : Deaths). at d.scopes (main m)) run.deaths) ∙ e);
    sound = kept.sound;
    scopes = kept.scopes;
    older = kept.older;
    outcomes = λ m r k v is e shows. kept.outcomes m r k v is (sym (main_was m) ∙ e) shows;
    rights = rights_now;
    roots = roots_now;
    binds = binds_now;
    calls = λ m r k c is e last. kept.calls m r k c is (sym (main_was m) ∙ e) last;
    rounds = rounds_now;
    pairs = λ m r is two. subst (λ (l : Listed). Among m l.nodes) (sym pairs) (kept.pairs m r is two);
    scoped = λ m r is in_scope. subst (λ (l : Listed). Among m l.nodes) (sym scoped) (kept.scoped m r is in_scope);
    experts = still_experts arena old new links_as kept;
    listed = still_listed arena old new links_as kept;
    lists = still_lists arena old new links_as kept;
    tops = kept.tops;
    frozen = λ m k e flag. kept.frozen m k (sym (main_was m) ∙ e) flag;
    rooms = record {
      calls = λ m r k is e. kept.rooms.calls m r k is (sym (main_was m) ∙ e);
      ran = subst (λ (l : Vec NodeId Global). nodes.live arena ≤ vec_capacity l) (sym run.ran) kept.rooms.ran;
    };
  }
    where
      links_as : SameLinks old.experts new.experts
      links_as = linked_as old.experts new.experts run.experts

-- ---- room was made

-- the same died, and binds have the roots that they had
module _ (arena : Arena) (old : Work) (deaths : Deaths) (roots : Rows NodeId) (same_deaths : KeepsRows old.deaths.scopes deaths.scopes)
    (same_roots : KeepsRows old.roots roots) where
  -- the same with more room
  abbrev pub reserved : Work
  reserved = record old { deaths = deaths; roots = roots }

  held_reserved : held_at arena reserved ≡ held_at arena old
  held_reserved = same_held arena old.rows old.rows old.roots roots old.experts old.experts (λ n. refl) (λ n. same_roots (change n)) (λ n. refl)
      (λ n. refl)

  -- the graph stays
  pub graph_reserved : graph_at arena reserved ≡ graph_at arena old
  graph_reserved = ap (graph_of arena) held_reserved

  links_reserved : (p q : Point) → Holds old.rows p ⊎ IsGhostLink old p q → Holds old.rows p ⊎ IsGhostLink reserved p q
  links_reserved p q (inl rowed) = inl rowed
  links_reserved p q (inr g) = inr (record { scope = g.scope; died = same_deaths (main p.node) ∙ g.died; gate = g.gate })

  -- what is kept stays kept
  pub reserved_kept : IsKept arena old → IsKept arena reserved
  reserved_kept kept = record {
    step = kept.step;
    rows = kept.rows;
    leaves = kept.leaves;
    there = kept.there;
    given = kept.given;
    links = λ p q reads. links_reserved p q (kept.links p q reads);
    heap = kept.heap;
    dead = λ n b e. kept.dead n b (sym (same_deaths (main n)) ∙ e);
    sound = kept.sound;
    scopes = kept.scopes;
    older = kept.older;
    outcomes = kept.outcomes;
    rights = λ n m r k o is e shows right. kept.rights n m r k o is e shows
        (subst (λ (G : Graph). right_of G n r.def o ≡ Some m) graph_reserved right);
    roots = λ n h. kept.roots n (sym (ap is_some (same_roots (change n))) ∙ h);
    binds = λ n r row h. kept.binds n r row (sym (ap is_some (same_roots (change n))) ∙ h);
    calls = kept.calls;
    rounds = kept.rounds;
    pairs = kept.pairs;
    scoped = kept.scoped;
    experts = kept.experts;
    listed = kept.listed;
    lists = kept.lists;
    tops = kept.tops;
    frozen = kept.frozen;
    rooms = record { calls = kept.rooms.calls; ran = kept.rooms.ran };
  }

  -- and they stand for the same states
  pub reserved_stands : (counts : Counts) (s : State) → MatchesState arena old counts None s → MatchesState arena reserved counts None s
  reserved_stands counts s st =
      let graph : s.graph ≡ graph_at arena reserved = st.graph ∙ sym graph_reserved in
      let died : (n : NodeId) → s.died n ≡ died_at reserved n = (λ n. st.died n ∙ sym (same_deaths (main n))) in
      assumption (graph, died, st)

module _ (old : Parts) (deaths : Deaths) (roots : Rows NodeId) (same_deaths : KeepsRows old.work.deaths.scopes deaths.scopes)
    (same_roots : KeepsRows old.work.roots roots) (dying : Vec NodeId Global) (same_dying : dying.items ≡ old.dying.items) where
  -- the parts with more room
  abbrev pub roomy : Parts
  roomy = record old { work = record old.work { deaths = deaths; roots = roots }; dying = dying }

  -- they keep what they kept
  pub roomy_kept : PartsKept old → PartsKept roomy
  roomy_kept kept = record {
    work = reserved_kept old.arena old.work deaths roots same_deaths same_roots kept.work;
    scopes = kept.scopes;
    dying = same_dying ∙ kept.dying;
    clock = kept.clock;
    listing = kept.listing;
  }

  -- they stand for the same states
  pub roomy_before : (counts : Counts) (s : State) (n : NodeId) → StandsBefore old counts s n → StandsBefore roomy counts s n
  roomy_before counts s n before =
      let same : old.work ≡ record before.work { graph = old.work.graph } = before.taken.rest in
      let deaths_as : old.work.deaths ≡ before.work.deaths = ap (λ (w : Work). w.deaths) same in
      let roots_as : old.work.roots ≡ before.work.roots = ap (λ (w : Work). w.roots) same in
      record {
        work = record before.work { deaths = deaths; roots = roots };
        taken = record {
          held = before.taken.held;
          least = before.taken.least;
          heap = before.taken.heap;
          graph = before.taken.graph;
          rest = ap (λ (w : Work). record w { deaths = deaths; roots = roots }) same;
        };
        stands = reserved_stands old.arena before.work deaths roots
            (λ p. same_deaths p ∙ ap (λ (d : Deaths). at d.scopes p) deaths_as)
            (λ p. same_roots p ∙ ap (λ (m : Rows NodeId). at m p) roots_as) counts s before.stands;
      }

  -- the same is to be built
  pub roomy_to : (b : NodeId) (f : FnRef) (captures : List NodeId) (given : Outcome) → IsToBuild old b f captures given
      → IsToBuild roomy b f captures given
  roomy_to b f captures given to =
      record { row = to.row; left = to.left; is_row = to.is_row; is_bind = to.is_bind; sees = to.sees; differs = to.differs }

-- ---- room was made after deaths

-- who died, died still
pub died_roomy : (cut dead : Parts) (b : NodeId) (roots : Rows NodeId) → KeepsRows dead.work.roots roots → HasDied cut dead b
    → HasDied cut (record dead { work = record dead.work { roots = roots } }) b
died_roomy cut dead b roots same d =
    let own_root : at roots (change b) ≡ None = same (change b) ∙ d.own_root in
    let others : (p : Point) → (Inside (graph_in cut) b p.node → ⊥) → p ≢ change b → at roots p ≡ at cut.work.roots p = (λ p out ne. same p ∙ d.roots p out ne) in
    let rootless : (n : NodeId) → Inside (graph_in cut) b n → at roots (change n) ≡ None = (λ n i. same (change n) ∙ d.rootless n i) in
    assumption (own_root, others, rootless, d)

-- what is kept stays kept
pub roots_roomy : (dead : Parts) (roots : Rows NodeId) → KeepsRows dead.work.roots roots → PartsKept dead
    → PartsKept (record dead { work = record dead.work { roots = roots } })
roots_roomy dead roots same kept = record {
  work = reserved_kept dead.arena dead.work dead.work.deaths roots (λ p. refl) same kept.work;
  scopes = kept.scopes;
  dying = kept.dying;
  clock = kept.clock;
  listing = kept.listing;
}

-- ---- nothing was built

module _ (parts : Parts) (b : NodeId) (kept : IsKept parts.arena parts.work) where
  none_later : (n : NodeId) (r : Row) → row_at parts.arena n ≡ Some r → parts.arena.given ≤ n.gen_ → ⊥
  none_later n r row le = let g : Given parts.arena.given n = kept.sound.given n (ap is_some row) in omega (arith, g, le)

  row_later : (p : Point) (k : Progress) → at parts.work.rows p ≡ Some k → parts.arena.given ≤ p.node.gen_ → ⊥
  row_later p k e le =
      let r = has_row (row_at parts.arena p.node) p.part (sym (kept.rows p) ∙ ap is_some e) in
      none_later p.node r.0 r.1 le

  -- then all stays
  pub none_grown : HasGrown parts parts b
  none_grown = record {
    later = omega arith;
    time = refl;
    sound = kept.sound;
    nodes = λ n g. refl;
    scope = λ n r row le. absurd (none_later n r row le);
    rows = λ p g. refl;
    fresh = λ p k le e. absurd (row_later p k e le);
    heights = λ p g. refl;
    links = refl;
    roots = refl;
    heap = λ p. refl;
    todo = refl;
    round = record { roots = refl; deaths = refl; ran = refl; retries = refl; round = refl; experts = refl };
    called = refl;
    ran = refl;
  }

-- ---- counts

-- no id was given
pub no_adds : (given n : ℕ) → RoseBy n (given - given) n
no_adds given n = record { kept = omega arith; most = omega arith; exact = λ l. omega arith }

-- nothing was built
pub no_builds : (now : Outcome) (n : ℕ) → RoseAtMost n (builds_of now) n
no_builds now n = record { kept = omega arith; within = omega arith }
