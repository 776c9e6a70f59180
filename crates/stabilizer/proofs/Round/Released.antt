-- A round ends: freezes keep their values, the links of those that died in it are gone, and what is no longer reached lost all.
use Rattle.std.proofs.Common.{◌≡◌, ◌⊎◌, inl, inr, ℕ, ◌<◌, ◌≤◌, ◌+◌, ◌-◌, Bool, true, false, List, map, Option, None, Some, refl, sym, ap, subst, ◌∙◌, arith}
use Rattle.std.specs.Prelude.{is_some, not, ◌↔◌, vec_capacity}
use Rattle.std.proofs.Math.Path.{fun_ext}
use Rattle.std.proofs.lemmas.Bool.{cases_lt}
use Rattle.std.proofs.lemmas.Option.{none-some, same_Some}
use Rattle.inc_value.specs.declared.node.NodeId.{NodeId}
use Rattle.inc_value.specs.declared.node.Part.TheVariants.{Main}
use Rattle.inc_value.specs.declared.node.Point.{Point}
use Rattle.inc_value.specs.declared.value.Value.{Value}
use Rattle.inc_value.specs.Choice.{Among}
use Rattle.inc_terms.specs.Depend.{main, change}
use Rattle.inc_terms.specs.Graph.{Built, Freeze, Graph, Row}
use Rattle.inc_terms.specs.Need.{IsRoot}
use Rattle.inc_terms.specs.Plan.{gate_of}
use Rattle.inc_terms.specs.Term.{Functions}
use Rattle.inc_terms.specs.Within.{Given}
use Rattle.point_map.specs.Rows.{Rows, at, Holds}
use Rattle.link_table.specs.Links.{times, Reads}
use Rattle.necessity.specs.Need.{root_times}
use Rattle.necessary_graph.specs.Part.{NecessaryPart, Needed, IsInStep}
use Rattle.necessary_graph.specs.Sweep.{DropsLeaves, Sweep}
use Rattle.necessary_graph.proofs.Reaching.{root_needed, read_needed, needed_more}
use Rattle.node_arena.specs.Arena as nodes
use Rattle.node_arena.specs.Arena.{Arena, row_at}
use Rattle.node_lists.specs.Deaths.{Deaths}
use Rattle.node_outcomes.specs.Computing.{has_part}
use Rattle.node_outcomes.specs.Row.{kept_in}
use Rattle.node_outcomes.specs.Progress.{Progress}
use Rattle.stabilize_round.specs.Closing.{Close, IsStill}
use Rattle.stabilize_round.specs.Ended.{Ended}
use Rattle.stabilize_round.specs.Freezing.{fires_at, frozen_after, graph_after}
use Rattle.stabilize_round.specs.Invariant.{Invariant}
use Rattle.stabilize_round.specs.Moves.{Quiet}
use Rattle.stabilize_round.specs.State.{State, Start, Stage, Bare, Gated, Static, Full, count, one, ghost_plan}
use Rattle.stabilize_round.proofs.Freezing.{kept_now, rests}
use Rattle.stabilize_round.proofs.Parts.{bool_cases}
use Rattle.stabilize_round.proofs.Low.{links_are}
use Rattle.stabilize_round.proofs.Points.{count_among, one_same, one_other, same_or_other}
use Rattle.wiring.specs.Deciding.{is_needed}
use Rattle.wiring.specs.Graph.{died_at, graph_at, rowless}
use Rattle.wiring.specs.Kept.{HasRooms, IsKept, IsGhostLink, IsDead, IsTop}
use Rattle.wiring.specs.Scoped.{IsReleased}
use Rattle.wiring.specs.Stands.{MatchesState, Counts}
use Rattle.wiring.specs.declared.work.Work.{Work}
use Rattle.wiring.proofs.Deciding.{decides_needed}
use Rattle.stabilizer.specs.Freezing.{FreezesKeep, IsFrozenAt, as_was, froze}
use Rattle.stabilizer.specs.Look.{freeze_roots}
use Rattle.stabilizer.specs.Round.{AreRooted}
use Rattle.stabilizer.proofs.Killing.Died.{live_undead}
use Rattle.stabilizer.proofs.Round.Fired.{fired_links, firing_is, is_firing, unfrozen}
use Rattle.stabilizer.proofs.Round.Frozen.{IsLeft, as_it_was, built_same, frozen_height, frozen_kept, has_frozen, kept_then, links_down, links_left, roots_down, was_needed}
use Rattle.stabilizer.proofs.Round.Rooting.{among_main, frozen_root, is_root, roots_stay, unfrozen_root}

-- ---- the links of the dead

one_or_none : (p q : Point) → (one p q ≡ 1) ⊎ (one p q ≡ 0)
one_or_none p q = elim (same_or_other p q) [
  | inl e ↦ inl (subst (λ (x : Point). one p x ≡ 1) e (one_same p))
  | inr other ↦ inr (one_other p q other)
]

gate_links : (q : Point) (scope : Option NodeId) → count q (gate_of scope) ≤ 1
gate_links q None = omega arith
gate_links q (Some b) = elim (one_or_none q (change b)) [ inl e ↦ omega (arith, e) | inr e ↦ omega (arith, e) ]

-- a dead point has its gate's link alone, once
ghost_links : (q : Point) (scope : Option NodeId) (stage : Stage) → count q (ghost_plan scope stage) ≤ 1
ghost_links q scope Bare = omega arith
ghost_links q scope Gated = gate_links q scope
ghost_links q scope Static = gate_links q scope
ghost_links q scope Full = gate_links q scope

-- and no other
off_gate : (b : NodeId) (q : Point) → (q ≡ change b → ⊥) → (stage : Stage) → count q (ghost_plan (Some b) stage) ≡ 0
off_gate b q other Bare = refl
off_gate b q other Gated = omega (arith, one_other q (change b) other)
off_gate b q other Static = omega (arith, one_other q (change b) other)
off_gate b q other Full = omega (arith, one_other q (change b) other)

-- where none is known to have died it has none
pub leaf_links : (q : Point) (stage : Stage) → count q (ghost_plan None stage) ≡ 0
leaf_links q Bare = refl
leaf_links q Gated = refl
leaf_links q Static = refl
leaf_links q Full = refl

-- a row or none
some_of : {A : Type 0} (x : Option A) → is_some x ≡ true → (a : A) × (x ≡ Some a)
some_of None e = absurd (cc)
some_of (Some a) e = (a, refl)

gone_or_there : {A X : Type 0} (x : Option A) → x ≡ None → is_some x ≡ true → X
gone_or_there x none there = absurd (let e : false ≡ true = sym (ap is_some none) ∙ there in cc)

-- a point without a row is a leaf, and one with a row is none
leaf_of : (b : Bool) → b ≡ false → not b ≡ true
leaf_of b e = rw e refl

no_leaf : {X : Type 0} (b : Bool) → b ≡ true → not b ≡ true → X
no_leaf true e h = absurd (cc)
no_leaf false e h = absurd (cc)

module _ (F : Functions) (z : Start) (t : State) (inv : Invariant F z t) (quiet : Quiet t) (arena : Arena) (mid : Work) (rows' : Rows Progress)
    (g : NecessaryPart) (new : Work) (counts : Counts) (kept : IsKept arena mid) (stands : MatchesState arena mid counts None t)
    (keep : FreezesKeep arena mid.rows rows' mid.graph g) (r : IsReleased (record mid { rows = rows'; graph = g }) new) (step : IsInStep new.graph) where
  -- freezes keep their values, and who died didn't let go yet
  abbrev frozen : Work
  frozen = record mid { rows = rows'; graph = g }

  -- what is kept between the two
  pub kept_frozen : IsKept arena frozen
  kept_frozen = frozen_kept arena mid rows' g keep kept

  row_is : (n : NodeId) → t.graph.row n ≡ row_at arena n
  row_is n = ap (λ (G : Graph). G.row n) stands.graph

  down : (p q : Point) → times g.links p q ≤ times mid.graph.links p q
  down p q = links_down arena mid.rows rows' mid.graph g keep p q

  -- a dead point is linked by what is known of its death, if it is
  dead_links : (p q : Point) → t.graph.row p.node ≡ None
      → (times mid.graph.links p q ≡ count q (ghost_plan (t.died p.node) (t.stage p))) ⊎ (times mid.graph.links p q ≡ 0)
  dead_links p q row = elim (bool_cases (t.needed p)) [
    | inl need ↦ inl (sym (stands.links p q) ∙ (rw row at (links_are F z t inv quiet p q need)))
    | inr unneeded ↦ elim (cases_lt 0 (t.links p q)) [
      | inl l ↦ absurd (let need = inv.web.from p q l in cc)
      | inr nil ↦ inr (omega (arith, stands.links p q, nil))
    ]
  ]

  few_links : (p q : Point) → t.graph.row p.node ≡ None → times g.links p q ≤ 1
  few_links p q row = elim (dead_links p q row) [
    | inl l ↦ omega (arith, l, ghost_links q (t.died p.node) (t.stage p), down p q)
    | inr nil ↦ omega (arith, nil, down p q)
  ]

  undied_links : (p q : Point) → t.graph.row p.node ≡ None → t.died p.node ≡ None → times g.links p q ≡ 0
  undied_links p q row died = elim (dead_links p q row) [
    | inl l ↦
        let none = l ∙ (ap (λ (x : Option NodeId). count q (ghost_plan x (t.stage p))) died ∙ leaf_links q (t.stage p)) in
        omega (arith, none, down p q)
    | inr nil ↦ omega (arith, nil, down p q)
  ]

  other_links : (p q : Point) (b : NodeId) → t.graph.row p.node ≡ None → t.died p.node ≡ Some b → (q ≡ change b → ⊥) → times g.links p q ≡ 0
  other_links p q b row died other = elim (dead_links p q row) [
    | inl l ↦
        let none = l ∙ (ap (λ (x : Option NodeId). count q (ghost_plan x (t.stage p))) died ∙ off_gate b q other (t.stage p)) in
        omega (arith, none, down p q)
    | inr nil ↦ omega (arith, nil, down p q)
  ]

  -- they are gone
  dead_gone : (p q : Point) → t.graph.row p.node ≡ None → times r.links p q ≡ 0
  dead_gone p q row = by_died (died_at mid p.node) refl
    where
      by_died : (x : Option NodeId) → died_at mid p.node ≡ x → times r.links p q ≡ 0
      by_died None e = r.others p q e ∙ undied_links p q row (stands.died p.node ∙ e)
      by_died (Some b) e = elim (same_or_other q (change b)) [
        | inl is ↦ subst (λ (x : Point). times r.links p x ≡ 0) (sym is) (omega (arith, r.gates p b e, few_links p (change b) row))
        | inr other ↦ r.off p b e q other ∙ other_links p q b row (stands.died p.node ∙ e) other
      ]

  -- those of the living are as they were
  live_links : (p q : Point) (x : Row) → row_at arena p.node ≡ Some x → times r.links p q ≡ times g.links p q
  live_links p q x row = r.others p q (live_undead arena mid kept p.node x row)

  fewer : (p q : Point) → times r.links p q ≤ times g.links p q
  fewer p q = by_row (row_at arena p.node) refl
    where
      by_row : (x : Option Row) → row_at arena p.node ≡ x → times r.links p q ≤ times g.links p q
      by_row None e = omega (arith, dead_gone p q (row_is p.node ∙ e))
      by_row (Some x) e = omega (arith, live_links p q x e)

  abbrev before : NecessaryPart
  before = record g { links = r.links }

  needed_then : (p : Point) → Needed new.graph p → Needed g p
  needed_then p n = needed_more before g (λ a h. h) (λ a b l. omega (arith, fewer a b, l)) p ((r.sweep.reached p).0 n)

  pub needed_back : (p : Point) → Needed new.graph p → Needed mid.graph p
  needed_back p n = was_needed arena mid.rows rows' mid.graph g keep p (needed_then p n)

  decides : (p : Point) → (is_needed new.graph p ≡ true) ↔ Needed new.graph p
  decides p = decides_needed new.graph step p

  needs : (p : Point) → is_needed new.graph p ≡ true → Needed before p
  needs p y = (r.sweep.reached p).0 ((decides p).0 y)

  reads_needs : (p q : Point) → Reads new.graph.links p q → is_needed new.graph p ≡ true
  reads_needs p q l = (decides p).1 ((r.sweep.reached p).1 (r.sweep.gone p q l))

  abbrev links' : Point → Point → ℕ
  links' p q = times new.graph.links p q

  abbrev root' : Point → ℕ
  root' p = root_times new.graph.roots p

  -- ---- what is kept

  -- all but rows, the graph, the deaths and the round's own stays
  abbrev pub next : Work
  next = record frozen { graph = new.graph; deaths = new.deaths; ran = new.ran; retries = new.retries; round = new.round }

  abbrev KeptHeight : Point → Type 0
  KeptHeight p = Holds new.graph.heights p → at new.graph.heights p ≡ at g.heights p

  then_height : (p : Point) → KeptHeight p
  then_height p h = elim (r.drops.heights p) [ inl same ↦ same | inr d ↦ gone_or_there (at new.graph.heights p) d.gone h ]

  pub same_height : (p : Point) → Holds new.graph.heights p → at new.graph.heights p ≡ at mid.graph.heights p
  same_height p h =
      let then = then_height p h in
      then ∙ frozen_height arena mid.rows rows' mid.graph g keep p (sym (ap is_some then) ∙ h)

  rowless_at : (p : Point) → row_at arena p.node ≡ None → rowless frozen p ≡ true
  rowless_at p dead = leaf_of (is_some (at rows' p)) (kept_frozen.rows p ∙ ap (λ (x : Option Row). has_part x p.part) dead)

  leaves : (p : Point) → Holds new.graph.heights p → Holds rows' p ⊎ ((row_at arena p.node ≡ None) × Needed new.graph p)
  leaves p h = elim (kept_frozen.leaves p (sym (ap is_some (then_height p h)) ∙ h)) [
    | inl row ↦ inl row
    | inr k ↦ elim (r.drops.leaves p (rowless_at p k.0) k.1) [
      | inl n ↦ inr (k.0, n)
      | inr gone ↦ gone_or_there (at new.graph.heights p) gone h
    ]
  ]

  there : (p : Point) → Holds rows' p → Holds new.graph.heights p
  there p h = elim (r.drops.heights p) [
    | inl same ↦ ap is_some same ∙ kept_frozen.there p h
    | inr d ↦ no_leaf (is_some (at rows' p)) h d.is_leaf
  ]

  links_row : (p q : Point) → Reads new.graph.links p q → Holds rows' p
  links_row p q l = elim (kept_frozen.links p q (omega (arith, r.sweep.fewer p q, fewer p q, l))) [
    | inl row ↦ row
    | inr k ↦
        let none = dead_gone p q (row_is p.node ∙ (kept.dead p.node k.scope k.died).gone) in
        absurd (omega (arith, r.sweep.fewer p q, none, l))
  ]

  pub was_in_heap : (p : Point) (h : ℕ) → at new.graph.heap p ≡ Some h → at mid.graph.heap p ≡ Some h
  was_in_heap p h e = (keep.sweep.heap p h (r.sweep.heap p h e).0).0

  heap_row : (p : Point) → Holds new.graph.heap p → Holds rows' p
  heap_row p h = let x = some_of (at new.graph.heap p) h in kept_frozen.heap p (ap is_some (r.sweep.heap p x.0 x.1).0)

  given : (p : Point) → Holds new.graph.heights p → Given arena.given p.node
  given p h = kept_frozen.given p (sym (ap is_some (then_height p h)) ∙ h)

  links : (p q : Point) → Reads new.graph.links p q → Holds rows' p ⊎ IsGhostLink next p q
  links p q l = inl (links_row p q l)

  dead : (n b : NodeId) → died_at next n ≡ Some b → IsDead arena n b
  dead n b e = absurd (none-some b (sym (r.deaths n) ∙ e))

  pub kept_next : new.round ≡ mid.round + 1 → nodes.live arena ≤ vec_capacity new.ran → IsKept arena next
  kept_next round room =
      let rooms : HasRooms arena next = record { calls = kept_frozen.rooms.calls; ran = room } in
      let rounds : (p : Point) (k : Progress) → at rows' p ≡ Some k → k.settled ≤ new.round = (λ p k e. omega (arith, kept_frozen.rounds p k e, round)) in
      assumption (step, leaves, there, given, links, heap_row, dead, rounds, rooms, kept_frozen)

  -- ---- as the machine closes a round

  -- the graph then
  abbrev N : Graph
  N = graph_at arena frozen

  -- a point of no freeze that fires is as it was
  still_left : (p : Point) → IsStill t p → IsLeft arena mid.rows rows' mid.graph g keep p
  still_left p still n kid h is =
      let fires = is_firing arena mid counts t kept stands n kid h in
      let none = still (ap (λ (x : Point). x.part) is) in
      none-some h.value (sym none ∙ (ap (λ (x : Point). fires_at t x.node) is ∙ fires))

  frozen_same : (n : NodeId) → frozen_after t n ≡ N.frozen n
  frozen_same n = by (fires_at t n) refl
    where
      by : (x : Option Value) → fires_at t n ≡ x → frozen_after t n ≡ N.frozen n
      by None e =
          let was = as_it_was arena mid.rows rows' mid.graph g keep (main n) (still_left (main n) (λ part. e)) in
          rests (fires_at t n) (t.graph.frozen n) e ∙ (ap (λ (G : Graph). G.frozen n) stands.graph ∙ ap kept_in (sym was.row))
      by (Some v) e =
          let f = firing_is arena mid counts t kept stands n v e in
          let now = has_frozen arena mid.rows rows' mid.graph g keep n f.0 f.1 in
          kept_now (fires_at t n) (t.graph.frozen n) v e
          ∙ sym (ap kept_in now.row ∙ (kept_then (at mid.rows (main n)) f.1.value f.1.fires ∙ ap (λ (w : Value). Some w) f.2))

  pub graph_then : graph_after t ≡ N
  graph_then =
      ap (λ (G : Graph). record G { frozen = frozen_after t }) stands.graph
      ∙ (ap (λ (f : NodeId → Option Value). record (graph_at arena mid) { frozen = f }) (fun_ext frozen_same)
      ∙ ap (λ (b : NodeId → Option Built). record N { built = b }) (sym (fun_ext (built_same arena mid rows' g keep))))

  module _ (observed : List NodeId) (rooted : AreRooted arena mid arena.given observed) (ended : Ended F z t observed) where
    -- roots are of what is observed, and of freezes that keep no value still
    pub rooted_then : (p : Point) → root' p ≡ count p (map main observed) + freeze_roots N arena.given p
    rooted_then p = by (keep.each p)
      where
        by : IsFrozenAt arena mid.rows rows' mid.graph keep.links keep.roots p → root' p ≡ count p (map main observed) + freeze_roots N arena.given p
        by (as_was row links roots) =
            let same = roots_stay (graph_at arena mid) N arena.given p refl
            (λ (is : p.part ≡ Main). subst (λ (x : Point). kept_in (at rows' x) ≡ kept_in (at mid.rows x)) (λ i. record { node = p.node; part = is i }) (ap kept_in row)) in
            omega (arith, r.sweep.roots p, keep.sweep.roots p, roots, rooted p, same)
        by (froze {n} {kid} h is row links roots) =
            let u = unfrozen arena mid counts t kept stands n kid h in
            let one = unfrozen_root (graph_at arena mid) arena.given n u (kept.sound.given n (ap is_some h.is_row)) in
            let now = has_frozen arena mid.rows rows' mid.graph g keep n kid h in
            let none = frozen_root N arena.given n h.value (ap kept_in now.row ∙ kept_then (at mid.rows (main n)) h.value h.fires) in
            let one_here : freeze_roots (graph_at arena mid) arena.given p ≡ 1 = ap (freeze_roots (graph_at arena mid) arena.given) is ∙ one in
            let none_here : freeze_roots N arena.given p ≡ 0 = ap (freeze_roots N arena.given) is ∙ none in
            omega (arith, r.sweep.roots p, keep.sweep.roots p, roots, rooted p, one_here, none_here)

    on : (n : NodeId) → IsRoot (graph_after t) observed n → 0 < root' (main n)
    on n root = is_root N arena.given observed root' rooted_then n (subst (λ (G : Graph). IsRoot G observed n) graph_then root)
        (λ x row. kept.sound.given n (ap is_some row))

    off : (n : NodeId) (v : Value) → fires_at t n ≡ Some v → 0 < root' (main n) → Among n observed
    off n v e h =
        let now : N.frozen n ≡ Some v = sym (frozen_same n) ∙ kept_now (fires_at t n) (t.graph.frozen n) v e in
        let none = frozen_root N arena.given n v now in
        let a = among_main (main n) observed (count_among (main n) (map main observed) (omega (arith, rooted_then (main n), none, h))) in
        subst (λ (m : NodeId). Among m observed) (sym (ap (λ (x : Point). x.node) a.2)) a.1

    -- a needed live point has the links that freezes left it
    links_kept : (a b : Point) (x : Row) → t.graph.row a.node ≡ Some x → is_needed new.graph a ≡ true → links' a b ≡ times keep.links a b
    links_kept a b x row need =
        r.sweep.kept a b (needs a need)
        ∙ (live_links a b x (sym (row_is a.node) ∙ row) ∙ links_left arena mid.rows rows' mid.graph g keep a b (needed_then a ((decides a).0 need)))

    live : (a b : Point) (x : Row) → t.graph.row a.node ≡ Some x → is_needed new.graph a ≡ true → IsStill t a → links' a b ≡ t.links a b
    live a b x row need still =
        links_kept a b x row need
        ∙ ((as_it_was arena mid.rows rows' mid.graph g keep a (still_left a still)).links b ∙ sym (stands.links a b))

    was : (a : Point) → is_needed new.graph a ≡ true → t.needed a ≡ true
    was a need = (stands.needed a).1 (needed_back a ((decides a).0 need))

    fired : (n : NodeId) (x : Row) (v : Value) (b : Point) → t.graph.row n ≡ Some x → is_needed new.graph (main n) ≡ true → fires_at t n ≡ Some v
        → links' (main n) b ≡ count b (gate_of x.scope)
    fired n x v b row need e =
        let f = firing_is arena mid counts t kept stands n v e in
        let row' : row_at arena n ≡ Some x = sym (row_is n) ∙ row in
        let same : f.1.row ≡ x = same_Some f.1.row x (sym f.1.is_row ∙ row') in
        let def : x.def ≡ Freeze f.0 f.1.predicate = ap (λ (y : Row). y.def) (sym same) ∙ f.1.is_freeze in
        let scope : x.scope ≡ None = kept.tops n x row' (subst IsTop (sym def) tt) in
        let now = has_frozen arena mid.rows rows' mid.graph g keep n f.0 f.1 in
        let had = fired_links arena mid counts t kept stands F z inv quiet observed ended n f.0 f.1 (was (main n) need) b in
        let none : links' (main n) b ≡ 0 =
        (let l = links_kept (main n) b x row need in let k = now.links b in let s = stands.links (main n) b in omega (arith, l, k, s, had)) in
        none ∙ sym (ap (λ (y : Option NodeId). count b (gate_of y)) scope)

    pub closes : Close t observed root' links' (is_needed new.graph)
    closes = record {
      on = on;
      fewer = λ a. omega (arith, r.sweep.roots a, roots_down arena mid.rows rows' mid.graph g keep a, stands.root a);
      off = off;
      live = live;
      fired = fired;
      dead = λ a b row. omega (arith, r.sweep.fewer a b, dead_gone a b row);
      gone = λ a b unneeded. elim (cases_lt 0 (times new.graph.links a b)) [
        | inl l ↦ absurd (let need = reads_needs a b l in cc)
        | inr nil ↦ omega (arith, nil)
      ];
      was = was;
      onto = λ a b l. (decides b).1 (read_needed new.graph a b ((decides a).0 (reads_needs a b l)) l);
      rooted = λ a h. (decides a).1 (root_needed new.graph a h);
      reached = λ a need. let n = (decides a).0 need in (n.root, n.is_root, n.leads);
    }

-- it is all that the round's end leaves
pub is_next : (mid new : Work) → new.roots ≡ mid.roots → new.experts ≡ mid.experts → new.pairs ≡ mid.pairs → new.scoped ≡ mid.scoped → new.todo ≡ mid.todo
    → record mid { rows = new.rows; graph = new.graph; deaths = new.deaths; ran = new.ran; retries = new.retries; round = new.round } ≡ new
is_next mid new roots experts pairs scoped todo =
    ap (λ x. record new { roots = x; experts = mid.experts; pairs = mid.pairs; scoped = mid.scoped; todo = mid.todo }) (sym roots)
    ∙ (ap (λ x. record new { experts = x; pairs = mid.pairs; scoped = mid.scoped; todo = mid.todo }) (sym experts)
    ∙ (ap (λ x. record new { pairs = x; scoped = mid.scoped; todo = mid.todo }) (sym pairs)
    ∙ (ap (λ x. record new { scoped = x; todo = mid.todo }) (sym scoped)
    ∙ ap (λ x. record new { todo = x }) (sym todo))))

-- whom the round called doesn't matter, nor what else stands beside
pub released_of : (work other new : Work) → work.rows ≡ other.rows → work.graph ≡ other.graph → work.deaths ≡ other.deaths → IsReleased work new
    → IsReleased other new
released_of work other new rows graph deaths r = record {
  deaths = r.deaths;
  none = r.none;
  links = r.links;
  others = λ p q e. r.others p q (died p.node ∙ e) ∙ linked p q;
  off = λ p b e q other. r.off p b (died p.node ∙ e) q other ∙ linked p q;
  gates = λ p b e. r.gates p b (died p.node ∙ e) ∙ ap (λ (k : ℕ). k - 1) (linked p (change b));
  sweep = subst (λ (g : NecessaryPart). Sweep (record g { links = r.links }) new.graph) graph r.sweep;
  drops = subst (λ (m : Rows Progress). DropsLeaves (λ p. not (is_some (at m p))) other.graph new.graph) rows
      (subst (λ (g : NecessaryPart). DropsLeaves (rowless work) g new.graph) graph r.drops);
}
  where
    died : (n : NodeId) → died_at work n ≡ died_at other n
    died n = ap (λ (d : Deaths). at d.scopes (main n)) deaths

    linked : (p q : Point) → times work.graph.links p q ≡ times other.graph.links p q
    linked p q = ap (λ (g : NecessaryPart). times g.links p q) graph
