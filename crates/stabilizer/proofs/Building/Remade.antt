-- A bind's scope died and new nodes stand in it: what that is in the machine's words, and the state that the parts stand for.
use Rattle.std.proofs.Common.{◌≡◌, ◌≢◌, ◌⊎◌, inl, inr, ℕ, ◌-◌, ◌<◌, ◌≤◌, true, false, List, [], Option, None, Some, refl, sym, ap, subst, ◌∙◌, arith, zero, suc, Bool, Vec, Global}
use Rattle.std.specs.Prelude.{is_some, option_map, reverse, ◌==◌}
use Rattle.std.proofs.lemmas.Bool.{cases_lt}
use Rattle.std.proofs.lemmas.Option.{none-some, same_Some}
use Rattle.inc_value.specs.declared.node.NodeId.{NodeId}
use Rattle.inc_value.specs.declared.node.Part.{Part}
use Rattle.inc_value.specs.declared.node.Part.TheVariants.{Main, Change}
use Rattle.inc_value.specs.declared.node.Point.{Point}
use Rattle.inc_value.specs.declared.outcome.Outcome.{Outcome}
use Rattle.inc_value.specs.Choice.{Among, Every}
use Rattle.inc_terms.specs.Depend.{main, change, Deaths}
use Rattle.inc_terms.specs.Graph.{Graph, Row, Def, Built}
use Rattle.inc_terms.specs.Plan.{gate_of}
use Rattle.inc_terms.specs.Rebuild.{Inside, direct, nested, IsDue, Rebuilt}
use Rattle.inc_terms.specs.Term.{Functions}
use Rattle.inc_terms.specs.Within.{Given}
use Rattle.inc_terms.proofs.Plan.{among_left, among_parts}
use Rattle.point_map.specs.Rows.{Rows, at, Holds}
use Rattle.link_table.specs.Links.{Reads, Links, times}
use Rattle.node_arena.specs.Arena.{Arena, row_at}
use Rattle.node_arena.specs.Graph.{Holdings, HoldsGiven, graph_of, AllCallFit}
use Rattle.expert_nodes.specs.Experts.{ExpertPlace, fresh_at, is_stale_at, kids_at}
use Rattle.node_arena.proofs.Graph.{names_are_given}
use Rattle.node_lists.specs.Deaths.{Deaths as Dead}
use Rattle.stabilize_round.specs.Counts.{RoseBy}
use Rattle.stabilize_round.specs.Ids.{AllGiven}
use Rattle.stabilize_round.specs.Invariant.{Invariant}
use Rattle.stabilize_round.specs.Moves.{Quiet, IsLeast}
use Rattle.stabilize_round.specs.Rebuilding.{Remade, KeptBeside, HeapAfter, NewNodes, Rebuild, remade}
use Rattle.stabilize_round.specs.State as machine
use Rattle.stabilize_round.specs.State.{State, Start, Stage, Linked, at_point, live_plan}
use Rattle.stabilize_round.proofs.Low.{gate_among, links_plan}
use Rattle.stabilize_round.proofs.Main.{main_change}
use Rattle.stabilize_round.proofs.Planned.{looks_main}
use Rattle.stabilize_round.proofs.Points.{node_or_other, at_same, at_other, same_or_other}
use Rattle.node_outcomes.specs.Choosing.{built_in}
use Rattle.node_outcomes.specs.Computing.{has_part}
use Rattle.node_outcomes.specs.Row.{is_full, kept_in, outcome_in, stage_in, stage_of, without_outcome, settled_in}
use Rattle.node_outcomes.specs.Progress.{Progress, new_row}
use Rattle.node_outcomes.specs.declared.row.Stage.TheVariants as code
use Rattle.wiring.specs.Graph.{held_at, died_at}
use Rattle.wiring.specs.Kept.{IsKept, IsTop}
use Rattle.wiring.specs.Stands.{MatchesState, Counts, counts_of, owes}
use Rattle.wiring.specs.Turning.{IsAttached}
use Rattle.wiring.specs.Wiring.{IsAtGate, HasMore}
use Rattle.wiring.proofs.Owing.{owes_partly}
use Rattle.wiring.proofs.Ghosts.{live_rowed, dead_rowless}
use Rattle.wiring.proofs.Holding.{dead_unbuilt, unran_unbuilt}
use Rattle.stabilizer.specs.Building.{HasGrown, IsNewRow}
use Rattle.stabilizer.specs.Dying.{HasDied}
use Rattle.stabilizer.specs.Kept.{graph_in}
use Rattle.stabilizer.specs.declared.parts.Parts.{Parts}
use Rattle.std.proofs.lemmas.Grind.{common_steps}
use Rattle.height_order.specs.Levels.{or_zero}
use Rattle.necessity.specs.Need.{Roots, root_times}
use Rattle.necessary_graph.specs.Part.{Needed}
use Rattle.stabilize_round.proofs.Rebuilding.{settled_kept}
use Rattle.wiring.proofs.Deciding.{need_same}
use Rattle.stabilizer.proofs.Building.ToBuild.{due_unsettled}
use Rattle.stabilizer.proofs.Killing.Invalidating.{inside_scoped}
use Rattle.stabilizer.proofs.Step.Experts.{kept_given, owes_staged, scoped_keeps_none}

-- a state that parts stand for in which a bind is due and what dies with it has the links to gates alone; the parts after those deaths; and those
-- with the nodes that were made then, whose functions are known to the round
pub record IsAnew (F : Functions) (z : Start) (t : State) (b : NodeId) (now : Outcome) (cut dead last : Parts) (counts : Counts) : Type 0 where
  pub holds : Invariant F z t
  pub given : AllGiven F z t
  pub quiet : Quiet t
  pub least : IsLeast t (change b)
  pub stands : MatchesState cut.arena cut.work counts None t
  pub due : IsDue F t.graph b now
  pub own : Holds cut.work.rows (change b)
  pub kept : IsKept cut.arena cut.work
  pub gated : (p : Point) → Inside (graph_in cut) b p.node → IsAtGate cut.work p
  pub right : IsAttached cut.work b → ⊥
  pub died : HasDied cut dead b
  pub grown : HasGrown dead last b
  pub lasts : IsKept last.arena last.work
  pub fit : AllCallFit z.known z.ids last.arena

-- ---- by whether an id was given

abbrev pick : {A : Type 0} {n m : ℕ} → (n < m) ⊎ (m ≤ n) → A → A → A
pick (inl lt) x y = x
pick (inr le) x y = y

pick_first : {A : Type 0} {n m : ℕ} (c : (n < m) ⊎ (m ≤ n)) (x y : A) → n < m → pick c x y ≡ x
pick_first (inl lt) x y h = refl
pick_first (inr le) x y h = absurd (omega (arith, le, h))

pick_second : {A : Type 0} {n m : ℕ} (c : (n < m) ⊎ (m ≤ n)) (x y : A) → m ≤ n → pick c x y ≡ y
pick_second (inl lt) x y h = absurd (omega (arith, lt, h))
pick_second (inr le) x y h = refl

-- outcomes after it: that of the bind's change is gone, and what is new has none
pub out_after : State → NodeId → Point → Option Outcome
out_after t b p = pick (cases_lt p.node.gen_ t.given) (at_point (change b) None t.out p) None

-- stages after it: what is new has no links
pub stage_after : State → Point → Stage
stage_after t p = pick (cases_lt p.node.gen_ t.given) (t.stage p) machine.Bare

-- those of given nodes stay, but for the change
pub out_old : (t : State) (b : NodeId) (p : Point) → Given t.given p.node → out_after t b p ≡ at_point (change b) None t.out p
unfolding out_after
out_old t b p g = pick_first (cases_lt p.node.gen_ t.given) (at_point (change b) None t.out p) None g

-- those of others are gone
pub out_new : (t : State) (b : NodeId) (p : Point) → t.given ≤ p.node.gen_ → out_after t b p ≡ None
unfolding out_after
out_new t b p le = pick_second (cases_lt p.node.gen_ t.given) (at_point (change b) None t.out p) None le

-- those of given nodes stay
pub stage_old : (t : State) (p : Point) → Given t.given p.node → stage_after t p ≡ t.stage p
unfolding stage_after
stage_old t p g = pick_first (cases_lt p.node.gen_ t.given) (t.stage p) machine.Bare g

-- others have none yet
pub stage_new : (t : State) (p : Point) → t.given ≤ p.node.gen_ → stage_after t p ≡ machine.Bare
unfolding stage_after
stage_new t p le = pick_second (cases_lt p.node.gen_ t.given) (t.stage p) machine.Bare le

-- ---- graphs

-- what stands inside lives
pub inside_lives : (G : Graph) (b n : NodeId) → Inside G b n → (r : Row) × (G.row n ≡ Some r)
inside_lives G b n (direct {r} row scope) = (r, row)
inside_lives G b n (nested {r} row scope i) = (r, row)

-- a change is linked to by what stands in its scope, and by its own main
reads_change : (G : Graph) (out : Point → Option Outcome) (p : Point) (n : NodeId) (r : Row) (st : Stage) → Among (change n) (live_plan G out p r st)
    → Among (change n) (gate_of r.scope) ⊎ (main n ≡ p)
reads_change G out p n r machine.Bare a = absurd a
reads_change G out p n r machine.Gated a = inl a
reads_change G out p n r machine.Static a = elim (among_parts (change n) (gate_of r.scope) _ a) [
  | inl g ↦ inl g
  | inr f ↦ inr (looks_main G out p n r (among_left (change n) _ _ f))
]
reads_change G out p n r machine.Full a = elim (among_parts (change n) (gate_of r.scope) _ a) [
  | inl g ↦ inl g
  | inr f ↦ inr (looks_main G out p n r f)
]

change_apart : (b n : NodeId) → (n ≡ b → ⊥) → change n ≢ change b
change_apart b n ne e = ne (ap (λ (p : Point). p.node) e)

-- what has a row is of a live node
pub has_row : (x : Option Row) (part : Part) → has_part x part ≡ true → (r : Row) × (x ≡ Some r)
has_row None part e = absurd (cc)
has_row (Some r) part e = (r, refl)

-- a needed row that isn't at a lower stage is at its gate
is_gated : (x : Option Progress) (st : Stage) → is_some x ≡ true → ((k : Progress) → x ≡ Some k → st ≡ stage_of k.stage)
    → (st ≡ machine.Bare → ⊥) → (HasMore (stage_in x) → ⊥) → st ≡ machine.Gated
is_gated None st here is bare more = absurd (cc)
is_gated (Some k) st here is bare more = by k.stage refl
  where
    by : (c : _) → k.stage ≡ c → st ≡ machine.Gated
    by code.Bare e = absurd (bare (is k refl ∙ ap stage_of e))
    by code.Gated e = is k refl ∙ ap stage_of e
    by code.Static e = absurd (more (inl (ap (λ s. Some s) e)))
    by code.Full e = absurd (more (inr (ap (λ s. Some s) e)))

new_outcome : (arena : Arena) (n : NodeId) (x : Option Progress) → ((k : Progress) → x ≡ Some k → IsNewRow arena n k) → outcome_in x ≡ None
new_outcome arena n None h = refl
new_outcome arena n (Some k) h = ap (λ (y : Progress). y.outcome) (h k refl).2

module _ (F : Functions) (z : Start) (t : State) (b : NodeId) (now : Outcome) (cut died grown : Parts) (counts : Counts)
    (a : IsAnew F z t b now cut died grown counts) where
  row_t : (n : NodeId) → t.graph.row n ≡ row_at cut.arena n
  row_t n = ap (λ (G : Graph). G.row n) a.stands.graph

  -- who is inside in the state is so in the parts
  pub inside_cut : (n : NodeId) → Inside t.graph b n → Inside (graph_in cut) b n
  inside_cut n i = subst (λ (G : Graph). Inside G b n) a.stands.graph i

  -- and the other way round
  pub inside_t : (n : NodeId) → Inside (graph_in cut) b n → Inside t.graph b n
  inside_t n i = subst (λ (G : Graph). Inside G b n) (sym a.stands.graph) i

  given_as : t.given ≡ died.arena.given
  given_as = a.stands.given ∙ sym a.died.given

  -- as many ids were given after the deaths
  pub given_then : (n : NodeId) → Given t.given n → Given died.arena.given n
  given_then n g = subst (λ (k : ℕ). n.gen_ < k) given_as g

  pub later_then : (n : NodeId) → t.given ≤ n.gen_ → died.arena.given ≤ n.gen_
  later_then n le = subst (λ (k : ℕ). k ≤ n.gen_) given_as le

  -- and no fewer after the build
  pub grows : t.given ≤ grown.arena.given
  grows = subst (λ (k : ℕ). k ≤ grown.arena.given) (sym given_as) a.grown.later

  -- the bind was given
  pub bind_given : Given t.given b
  bind_given = a.given.names.live b a.due.row a.due.is_row

  -- who was given and isn't inside keeps its row, and who is inside has none
  pub rows_after : (n : NodeId) → Given t.given n → (Inside t.graph b n × (row_at grown.arena n ≡ None))
      ⊎ ((Inside t.graph b n → ⊥) × (row_at grown.arena n ≡ t.graph.row n))
  rows_after n g = elim (a.died.nodes n) [
    | inl h ↦ inl (inside_t n h.0, a.grown.nodes n (given_then n g) ∙ h.1)
    | inr h ↦ inr (λ i. h.0 (inside_cut n i), a.grown.nodes n (given_then n g) ∙ (h.1 ∙ sym (row_t n)))
  ]

  -- the bind itself stands outside of its scope
  pub bind_outside : Inside t.graph b b → ⊥
  bind_outside i = elim (a.died.nodes b) [
    | inl h ↦ (let e : at died.work.rows (change b) ≡ None = a.died.gone (change b) h.0 in
        let k = a.own in let o = a.died.own in
        none_mapped (at cut.work.rows (change b)) k (sym o ∙ e))
    | inr h ↦ h.0 (inside_cut b i)
  ]
    where
      none_mapped : (x : Option Progress) → is_some x ≡ true → option_map without_outcome x ≡ None → ⊥
      none_mapped None k e = cc
      none_mapped (Some y) k e = cc

  -- ---- points of given nodes that live on

  -- they keep their rows
  pub row_kept : (p : Point) → Given t.given p.node → (Inside t.graph b p.node → ⊥) → p ≢ change b → at grown.work.rows p ≡ at cut.work.rows p
  row_kept p g notin ne = a.grown.rows p (given_then p.node g) ∙ a.died.rows p (λ i. notin (inside_t p.node i)) ne

  -- and binds their roots
  pub root_kept : (p : Point) → (Inside t.graph b p.node → ⊥) → p ≢ change b → at grown.work.roots p ≡ at cut.work.roots p
  root_kept p notin ne = ap (λ (m : Rows NodeId). at m p) a.grown.round.roots ∙ a.died.roots p (λ i. notin (inside_t p.node i)) ne

  -- such a node is built as it was
  pub built_kept : (c : NodeId) → Given t.given c → (c ≡ b → ⊥) → (Inside t.graph b c → ⊥) → row_at grown.arena c ≡ t.graph.row c
      → (held_at grown.arena grown.work).built c ≡ t.graph.built c
  built_kept c g ne notin row =
      ap (λ (x : Option Row). built_in x (outcome_in (at grown.work.rows (change c))) (at grown.work.roots (change c))) (row ∙ row_t c)
      ∙ (ap (λ (x : Option Progress). built_in (row_at cut.arena c) (outcome_in x) (at grown.work.roots (change c)))
      (row_kept (change c) g notin (change_apart b c ne))
      ∙ (ap (λ (x : Option NodeId). built_in (row_at cut.arena c) (outcome_in (at cut.work.rows (change c))) x)
      (root_kept (change c) notin (change_apart b c ne))
      ∙ sym (ap (λ (G : Graph). G.built c) a.stands.graph)))

  -- one that is new isn't built yet
  pub new_unbuilt : (n : NodeId) → t.given ≤ n.gen_ → (held_at grown.arena grown.work).built n ≡ None
  new_unbuilt n le = unran_unbuilt grown.arena grown.work n
      (new_outcome grown.arena n (at grown.work.rows (change n)) (λ k e. a.grown.fresh (change n) k (later_then n le) e))

  -- a freeze keeps what it kept
  frozen_then : (n : NodeId) → Given t.given n → kept_in (at grown.work.rows (main n)) ≡ kept_in (at cut.work.rows (main n))
  frozen_then n g = elim (a.died.nodes n) [
    | inl x ↦
        let r = inside_scoped (graph_in cut) b n x.0 in
        ap kept_in (a.grown.rows (main n) (given_then n g) ∙ a.died.gone (main n) x.0)
        ∙ sym (scoped_keeps_none cut.arena cut.work a.kept n r.0 r.1 r.2 r.3)
    | inr x ↦ ap kept_in (row_kept (main n) g (λ i. x.0 (inside_cut n i)) (main_change n b))
  ]

  -- and experts are as they were
  pub experts_then : grown.work.experts ≡ cut.work.experts
  experts_then = a.grown.round.experts ∙ a.died.experts

  -- who died stays so in a build
  pub died_is : (n : NodeId) → died_at grown.work n ≡ died_at died.work n
  died_is n = ap (λ (d : Dead). at d.scopes (main n)) a.grown.round.deaths

  -- ---- what is made

  module _ (held : Holdings) (others : (c : NodeId) → (c ≡ b → ⊥) → held.built c ≡ (held_at grown.arena grown.work).built c)
      (keeps_frozen : (n : NodeId) → held.frozen n ≡ kept_in (at grown.work.rows (main n)))
      (keeps_lists : (n : NodeId) → held.lists n ≡ kids_at grown.work.experts n)
      (root_given : (w : Built) (m : NodeId) → held.built b ≡ Some w → w.root ≡ Some m → Given grown.arena.given m)
      (after : Counts) (adds : RoseBy counts.adds (grown.arena.given - died.arena.given) after.adds) where
    abbrev G' : Graph
    G' = graph_of grown.arena held

    -- what building the bind anew replaces
    abbrev pub made : Remade
    made = record {
      graph = G';
      died = died_at grown.work;
      out = out_after t b;
      last = t.last;
      stage = stage_after t;
      heap = λ p. is_some (at grown.work.graph.heap p);
      given = grown.arena.given;
      builds = after.builds;
      adds = after.adds;
    }

    -- the change's outcome is gone
    pub out_cleared : out_after t b (change b) ≡ None
    out_cleared = out_old t b (change b) bind_given ∙ at_same (change b) None t.out

    rebuilt : Rebuilt (Given t.given) t.graph G' b
    rebuilt = record {
      clock = a.grown.time ∙ (a.died.time ∙ sym (ap (λ (G : Graph). G.now) a.stands.graph));
      frozen = λ n g. keeps_frozen n ∙ (frozen_then n g ∙ sym (ap (λ (G : Graph). G.frozen n) a.stands.graph));
      lists = λ n g. keeps_lists n ∙ (ap (λ (e : List ExpertPlace). kids_at e n) experts_then ∙ sym (ap (λ (G : Graph). G.lists n) a.stands.graph));
      rows = λ n g. rows_after n g;
      built = λ c g ne notin. others c ne ∙ elim (rows_after c g) [
        | inl h ↦ absurd (notin h.0)
        | inr h ↦ built_kept c g ne notin h.1
      ];
    }

    deaths : Deaths t.graph G' t.died (died_at grown.work)
    deaths = record {
      now = λ n r row gone. died_is n ∙ elim (rows_after n (a.given.names.live n r row)) [
        | inl h ↦ a.died.died n r (sym (row_t n) ∙ row) (inside_cut n h.0)
        | inr h ↦ absurd (none-some r (sym gone ∙ (h.1 ∙ row)))
      ];
      earlier = λ n none. died_is n
          ∙ (a.died.died_before n (λ i. let l = inside_lives t.graph b n (inside_t n i) in none-some l.0 (sym none ∙ l.1)) ∙ sym (a.stands.died n));
    }

    not_bare : (p : Point) → t.needed p ≡ true → t.stage p ≡ machine.Bare → ⊥
    not_bare p need e = let x = a.holds.rows.bare p need e in let y = a.quiet p in cc

    gated : (p : Point) → Inside t.graph b p.node → t.needed p ≡ true → t.stage p ≡ machine.Gated
    gated p i need =
        let n = (a.stands.needed p).0 need in
        let l = inside_lives t.graph b p.node i in
        let rowed = live_rowed cut.arena cut.work p l.0 a.kept n (sym (row_t p.node) ∙ l.1) in
        is_gated (at cut.work.rows p) (t.stage p) rowed (λ k e. a.stands.stage p k e) (not_bare p need) (a.gated p (inside_cut p.node i) n)

    right : t.needed (main b) ≡ true → t.stage (main b) ≡ machine.Full → ⊥
    right need full =
        let n = (a.stands.needed (main b)).0 need in
        let rowed = live_rowed cut.arena cut.work (main b) a.due.row a.kept n (sym (row_t b) ∙ a.due.is_row) in
        a.right (record { needed = n; stage = full_in (at cut.work.rows (main b)) rowed (λ k e. sym (a.stands.stage (main b) k e) ∙ full) })
      where
        full_in : (x : Option Progress) → is_some x ≡ true → ((k : Progress) → x ≡ Some k → stage_of k.stage ≡ machine.Full)
            → stage_in x ≡ Some code.Full
        full_in None here is = absurd (cc)
        full_in (Some k) here is = by k.stage refl
          where
            by : (c : _) → k.stage ≡ c → stage_in (Some k) ≡ Some code.Full
            by code.Bare e = absurd (let x : stage_of code.Bare ≡ machine.Full = sym (ap stage_of e) ∙ is k refl in cc)
            by code.Gated e = absurd (let x : stage_of code.Gated ≡ machine.Full = sym (ap stage_of e) ∙ is k refl in cc)
            by code.Static e = absurd (let x : stage_of code.Static ≡ machine.Full = sym (ap stage_of e) ∙ is k refl in cc)
            by code.Full e = ap (λ s. Some s) e

    beside : KeptBeside t b made
    beside = record {
      out = λ p r row g ne. out_old t b p g ∙ at_other (change b) None t.out p ne;
      cleared = out_cleared;
      new_out = λ p le. out_new t b p le;
      last = λ n r row g. refl;
      new_last = λ n le. a.given.last n le;
      stage = λ p r row need. stage_old t p (a.given.needed p need);
      ghosts = λ p none need e. not_bare p need (sym (stage_old t p (a.given.needed p need)) ∙ e);
    }

    heap_is : (p : Point) → is_some (at grown.work.graph.heap p) ≡ is_some (at died.work.graph.heap p)
    heap_is p = ap is_some (a.grown.heap p)

    out_of_heap : (p : Point) → is_some (at grown.work.graph.heap p) ≡ true → Inside t.graph b p.node → ⊥
    out_of_heap p h i = let e = a.died.out p (inside_cut p.node i) in
        let x : false ≡ true = sym (ap is_some e) ∙ (sym (heap_is p) ∙ h) in cc

    reads_t : (p q : Point) → Linked t p q → Reads cut.work.graph.links p q
    reads_t p q l = subst (λ (k : ℕ). 0 < k) (a.stands.links p q) l

    linked_t : (p q : Point) → Reads cut.work.graph.links p q → Linked t p q
    linked_t p q l = subst (λ (k : ℕ). 0 < k) (sym (a.stands.links p q)) l

    reader_lives : (q : Point) (n : NodeId) → Reads cut.work.graph.links q (main n) → (r : Row) × (t.graph.row q.node ≡ Some r)
    reader_lives q n reads = elim (a.kept.links q (main n) reads) [
      | inl rowed ↦ let k = has_row (row_at cut.arena q.node) q.part (sym (a.kept.rows q) ∙ rowed) in (k.0, row_t q.node ∙ k.1)
      | inr ghost ↦ absurd (main_change n ghost.scope ghost.gate)
    ]

    new_in_heap : (q : Point) → is_some (at grown.work.graph.heap q) ≡ true
        → ((t.heap q ≡ true) × (Inside t.graph b q.node → ⊥))
        ⊎ ((r : Row) × (t.graph.row q.node ≡ Some r) × (t.needed q ≡ true) × (t.settled q ≡ false) × (Inside t.graph b q.node → ⊥)
        × (x : Point) × Inside t.graph b x.node × Linked t q x)
    new_in_heap q h = elim (a.died.only q (sym (heap_is q) ∙ h)) [
      | inl was ↦ inl (a.stands.heap q ∙ was, out_of_heap q h)
      | inr new ↦
          let l = linked_t q (main new.1) new.3 in
          let live = reader_lives q new.1 new.3 in
          inr (live.0, live.1, a.holds.web.from q (main new.1) l, a.stands.settled q ∙ new.0, out_of_heap q h, main new.1, inside_t new.1 new.2, l)
    ]

    told_main : (q : Point) (n : NodeId) → (Inside t.graph b q.node → ⊥) → Inside t.graph b n → Linked t q (main n)
        → (is_some (at grown.work.graph.heap q) ≡ true) ⊎ (t.settled q ≡ true)
    told_main q n notin i l = elim (a.died.told q n (λ j. notin (inside_t q.node j)) (inside_cut n i) (reads_t q (main n) l)) [
      | inl h ↦ inl (heap_is q ∙ h)
      | inr h ↦ inr (a.stands.settled q ∙ h)
    ]

    told_change : (q : Point) (n : NodeId) (r : Row) → t.graph.row q.node ≡ Some r → (Inside t.graph b q.node → ⊥) → Inside t.graph b n
        → Linked t q (change n) → ⊥
    told_change q n r row notin i l =
        elim (reads_change t.graph t.out q n r (t.stage q) (links_plan F z t a.holds a.quiet q (change n) r (t.stage q) row refl l)) [
          | inl g ↦ let k = gate_among r.scope (change n) g in
              let same : n ≡ k.0 = ap (λ (p : Point). p.node) k.2 in
              notin (nested row k.1 (subst (λ (m : NodeId). Inside t.graph b m) same i))
          | inr is ↦ notin (subst (λ (m : NodeId). Inside t.graph b m) (ap (λ (p : Point). p.node) is) i)
        ]

    told : (q x : Point) (r : Row) → t.graph.row q.node ≡ Some r → (Inside t.graph b q.node → ⊥) → Inside t.graph b x.node → Linked t q x
        → (is_some (at grown.work.graph.heap q) ≡ true) ⊎ (t.settled q ≡ true)
    told q x r row notin i l = by x.part refl
      where
        by : (part : Part) → x.part ≡ part → (is_some (at grown.work.graph.heap q) ≡ true) ⊎ (t.settled q ≡ true)
        by Main is = let me : x ≡ main x.node = λ j. record { node = x.node; part = is j } in
            told_main q x.node notin i (subst (λ (y : Point). Linked t q y) me l)
        by Change is = let me : x ≡ change x.node = λ j. record { node = x.node; part = is j } in
            absurd (told_change q x.node r row notin i (subst (λ (y : Point). Linked t q y) me l))

    heap_after : HeapAfter t b (λ p. is_some (at grown.work.graph.heap p))
    heap_after = record {
      kept = λ q notin h. heap_is q ∙ a.died.heap q (λ i. notin (inside_t q.node i)) (sym (a.stands.heap q) ∙ h);
      new = new_in_heap;
      told = told;
    }

    root_within : (c m : NodeId) (w : Built) → Given grown.arena.given c → held.built c ≡ Some w → w.root ≡ Some m → Given grown.arena.given m
    root_within c m w g is root = elim (node_or_other c b) [
      | inl e ↦ root_given w m (subst (λ (x : NodeId). held.built x ≡ Some w) e is) root
      | inr ne ↦ elim (cases_lt c.gen_ t.given) [
        | inl lt ↦ elim (rows_after c lt) [
          | inl h ↦ absurd (none-some w (sym (others c ne ∙ dead_unbuilt grown.arena grown.work c h.1) ∙ is))
          | inr h ↦
              let k = a.given.keeps.roots c w m lt (sym (built_kept c lt ne h.0 h.1) ∙ (sym (others c ne) ∙ is)) root in
              let le = grows in omega (arith, k, le)
        ]
        | inr le ↦ absurd (none-some w (sym (others c ne ∙ new_unbuilt c le) ∙ is))
      ]
    ]

    given_held : HoldsGiven grown.arena.given held
    given_held = record {
      frozen = λ n v is. kept_given grown.arena grown.work a.lasts n v (sym (keeps_frozen n) ∙ is);
      lists = λ n. subst (λ (ns : List NodeId). Every (Given grown.arena.given) ns) (sym (keeps_lists n)) (a.lasts.listed n);
    }

    nodes : NewNodes z t b made
    nodes = record {
      number = grown.arena.given - died.arena.given;
      given = (let e = given_as in let l = a.grown.later in omega (arith, e, l));
      adds = subst (λ (k : ℕ). RoseBy k (grown.arena.given - died.arena.given) after.adds) (sym (ap (λ (c : Counts). c.adds) a.stands.counts)) adds;
      scope = λ n r row le. a.grown.scope n r row (later_then n le);
      unbuilt = λ n le. others n (λ e. let g = bind_given in
          let h : t.given ≤ b.gen_ = subst (λ (x : NodeId). t.given ≤ x.gen_) e le in omega (arith, g, h)) ∙ new_unbuilt n le;
      names = (names_are_given grown.arena held z.known z.ids a.lasts.sound given_held a.fit).1;
      keeps = record {
        roots = λ c w m g is root. root_within c m w g is root;
        scopes = λ n c g is. (a.lasts.dead n c is).scope_given;
        freezes = λ n r kid f row def. a.lasts.tops n r row (subst IsTop (sym def) tt);
      };
    }

    -- the bind is built anew
    pub anew : Rebuild F z t b now made
    anew = assumption (rebuilt, deaths, right, gated, beside, heap_after, nodes, a)

    -- for the reason for which it was due
    pub anew_due : anew.due ≡ a.due
    unfolding anew
    anew_due = refl

-- ---- numbers of rounds

-- a round in which a row wasn't settled isn't that of what was never settled
not_first : (settled round : ℕ) → settled ≤ round → (settled == round) ≡ false → (0 == round) ≡ false
not_first settled (suc round) le e = grind (arith, common_steps)
not_first zero zero le e = absurd (let x : (zero == zero) ≡ true = grind (arith, common_steps) in cc)
not_first (suc settled) zero le e = absurd (omega (arith, le))

-- ---- one row

-- what stands at a point afterwards: a new row; that of the bind's change, without its outcome; or what stood there before
pub data IsRowAfter (t : State) (b : NodeId) (cut : Parts) (p : Point) (k : Progress) : Type 0 where
  new : (def : Def) → t.given ≤ p.node.gen_ → k ≡ new_row def → IsRowAfter t b cut p k
  own : {j : Progress} → change b ≡ p → at cut.work.rows (change b) ≡ Some j → k ≡ without_outcome j → IsRowAfter t b cut p k
  kept : Given t.given p.node → (Inside t.graph b p.node → ⊥) → (change b ≡ p → ⊥) → at cut.work.rows p ≡ Some k → IsRowAfter t b cut p k

mapped : {f : Progress → Progress} (x : Option Progress) (k : Progress) → option_map f x ≡ Some k → (j : Progress) × (x ≡ Some j) × (k ≡ f j)
mapped None k e = absurd (none-some k e)
mapped (Some j) k e = (j, refl, sym (same_Some _ k e))

unran : (x : Option Progress) → outcome_in (option_map without_outcome x) ≡ None
unran None = refl
unran (Some k) = refl

module _ (F : Functions) (z : Start) (t : State) (b : NodeId) (now : Outcome) (cut died grown : Parts) (counts : Counts)
    (a : IsAnew F z t b now cut died grown counts) where
  own_row : at grown.work.rows (change b) ≡ option_map without_outcome (at cut.work.rows (change b))
  own_row = a.grown.rows (change b) (given_then F z t b now cut died grown counts a b (bind_given F z t b now cut died grown counts a)) ∙ a.died.own

  -- the bind isn't built
  pub unbuilt_now : (held_at grown.arena grown.work).built b ≡ None
  unbuilt_now = unran_unbuilt grown.arena grown.work b (ap outcome_in own_row ∙ unran (at cut.work.rows (change b)))

  -- each row is one of these
  pub row_case : (p : Point) (k : Progress) → at grown.work.rows p ≡ Some k → IsRowAfter t b cut p k
  row_case p k e = elim (cases_lt p.node.gen_ t.given) [
    | inr le ↦ let f = a.grown.fresh p k (later_then F z t b now cut died grown counts a p.node le) e in new f.0.def le f.2
    | inl lt ↦ elim (same_or_other (change b) p) [
      | inl is ↦
          let m = mapped (at cut.work.rows (change b)) k (sym own_row ∙ subst (λ (x : Point). at grown.work.rows x ≡ Some k) (sym is) e) in
          own is m.1 m.2
      | inr ne ↦ elim (rows_after F z t b now cut died grown counts a p.node lt) [
        | inl h ↦ absurd (none-some k (sym (dead_rowless grown.arena grown.work p a.lasts h.1) ∙ e))
        | inr h ↦ kept lt h.0 ne (sym (row_kept F z t b now cut died grown counts a p lt h.0 (λ x. ne (sym x))) ∙ e)
      ]
    ]
  ]

  round_as : grown.work.round ≡ cut.work.round
  round_as = a.grown.round.round ∙ a.died.round

  unsettled : t.settled (change b) ≡ false
  unsettled = due_unsettled F z t a.holds b now a.due

  later_round : (0 == cut.work.round) ≡ false
  later_round = by (at cut.work.rows (change b)) refl a.own
    where
      by : (x : Option Progress) → at cut.work.rows (change b) ≡ x → is_some x ≡ true → (0 == cut.work.round) ≡ false
      by None e here = absurd (cc)
      by (Some k) e here = not_first k.settled cut.work.round (a.kept.rounds (change b) k e)
          (ap (settled_in cut.work.round) (sym e) ∙ (sym (a.stands.settled (change b)) ∙ unsettled))

  module _ (after : Counts) (calls : after.calls ≡ counts.calls) (adds : RoseBy counts.adds (grown.arena.given - died.arena.given) after.adds) where
    pub no_root : (w : Built) (m : NodeId) → (held_at grown.arena grown.work).built b ≡ Some w → w.root ≡ Some m → Given grown.arena.given m
    no_root w m is root = absurd (none-some w (sym unbuilt_now ∙ is))

    -- the state in which the bind is built for nothing
    abbrev pub bare_state : State
    bare_state = remade t (made F z t b now cut died grown counts a (held_at grown.arena grown.work) (λ c ne. refl) (λ n. refl) (λ n. refl) no_root after adds)

    -- which is a rebuild of the machine
    abbrev pub bare_anew : Rebuild F z t b now
        (made F z t b now cut died grown counts a (held_at grown.arena grown.work) (λ c ne. refl) (λ n. refl) (λ n. refl) no_root after adds)
    bare_anew = anew F z t b now cut died grown counts a (held_at grown.arena grown.work) (λ c ne. refl) (λ n. refl) (λ n. refl) no_root after adds

    settled_if : (p : Point) (x : Bool) → t.settled p ≡ x → t.settled p ≡ settled_in grown.work.round (at grown.work.rows p)
    settled_if p true is =
        let d = a.holds.settled.done p is in
        let lt : Given t.given p.node = a.given.names.live p.node d.row d.is_row in
        let notin = settled_kept F z t a.holds b now _ bare_anew p is in
        let ne : change b ≡ p → ⊥ = λ e. (let x : t.settled (change b) ≡ true = subst (λ (y : Point). t.settled y ≡ true) (sym e) is in
        let y = unsettled in cc) in
        a.stands.settled p ∙ sym (ap (λ (i : ℕ). settled_in i (at grown.work.rows p)) round_as
        ∙ ap (settled_in cut.work.round) (row_kept F z t b now cut died grown counts a p lt notin (λ e. ne (sym e))))
    settled_if p false is = is ∙ sym (ap (λ (i : ℕ). settled_in i (at grown.work.rows p)) round_as ∙ by (at grown.work.rows p) refl)
      where
        of_row : (k : Progress) → IsRowAfter t b cut p k → settled_in cut.work.round (Some k) ≡ false
        of_row k (new def le e) = ap (λ (y : Progress). settled_in cut.work.round (Some y)) e ∙ later_round
        of_row k (own {j} e row is_own) = ap (λ (y : Progress). settled_in cut.work.round (Some y)) is_own
            ∙ (ap (settled_in cut.work.round) (sym row) ∙ (sym (a.stands.settled (change b)) ∙ unsettled))
        of_row k (kept lt notin ne row) = ap (settled_in cut.work.round) (sym row) ∙ (sym (a.stands.settled p) ∙ is)

        by : (x : Option Progress) → at grown.work.rows p ≡ x → settled_in cut.work.round x ≡ false
        by None e = refl
        by (Some k) e = of_row k (row_case p k e)

    out_is : (p : Point) (k : Progress) → IsRowAfter t b cut p k → out_after t b p ≡ k.outcome
    out_is p k (new def le e) = out_new t b p le ∙ sym (ap (λ (y : Progress). y.outcome) e)
    out_is p k (own {j} e row is) = subst (λ (x : Point). out_after t b x ≡ None) e
        (out_old t b (change b) (bind_given F z t b now cut died grown counts a) ∙ at_same (change b) None t.out)
        ∙ sym (ap (λ (y : Progress). y.outcome) is)
    out_is p k (kept lt notin ne row) = out_old t b p lt ∙ (at_other (change b) None t.out p ne ∙ a.stands.out p k row)

    last_is : (n : NodeId) (k : Progress) → IsRowAfter t b cut (main n) k → t.last n ≡ k.last
    last_is n k (new def le e) = a.given.last n le ∙ sym (ap (λ (y : Progress). y.last) e)
    last_is n k (own e row is) = absurd (main_change n b (sym e))
    last_is n k (kept lt notin ne row) = a.stands.last n k row

    cutoff_is : (n : NodeId) (k : Progress) → IsRowAfter t b cut (main n) k → t.cutoff n ≡ k.cutoff
    cutoff_is n k (new def le e) = a.given.cutoff n le ∙ sym (ap (λ (y : Progress). y.cutoff) e)
    cutoff_is n k (own e row is) = absurd (main_change n b (sym e))
    cutoff_is n k (kept lt notin ne row) = a.stands.cutoff n k row

    stage_is : (p : Point) (k : Progress) → IsRowAfter t b cut p k → stage_after t p ≡ stage_of k.stage
    stage_is p k (new def le e) = stage_new t p le ∙ sym (ap (λ (y : Progress). stage_of y.stage) e)
    stage_is p k (own {j} e row is) = subst (λ (x : Point). stage_after t x ≡ stage_of j.stage) e
        (stage_old t (change b) (bind_given F z t b now cut died grown counts a) ∙ a.stands.stage (change b) j row)
        ∙ sym (ap (λ (y : Progress). stage_of y.stage) is)
    stage_is p k (kept lt notin ne row) = stage_old t p lt ∙ a.stands.stage p k row

    links_as : grown.work.graph.links ≡ cut.work.graph.links
    links_as = a.grown.links ∙ a.died.links

    roots_as : grown.work.graph.roots ≡ cut.work.graph.roots
    roots_as = a.grown.roots ∙ a.died.graph_roots

    needed_cut : (p : Point) → Needed grown.work.graph p → Needed cut.work.graph p
    needed_cut p n = need_same grown.work.graph cut.work.graph (sym links_as) (sym roots_as) p n

    needed_now : (p : Point) → Needed cut.work.graph p → Needed grown.work.graph p
    needed_now p n = need_same cut.work.graph grown.work.graph links_as roots_as p n

    height_as : (p : Point) → Needed cut.work.graph p → at grown.work.graph.heights p ≡ at cut.work.graph.heights p
    height_as p n =
        let g : Given t.given p.node = a.given.needed p ((a.stands.needed p).1 n) in
        a.grown.heights p (given_then F z t b now cut died grown counts a p.node g) ∙ a.died.heights p (inr n)

    counts_as : counts_of bare_state ≡ after
    counts_as = ap (λ (c : ℕ). record { calls = c; builds = after.builds; adds = after.adds })
        (ap (λ (c : Counts). c.calls) a.stands.counts ∙ sym calls)

    -- nobody is owed anything
    owes_as : (p : Point) → stage_in (at grown.work.rows p) ≡ stage_in (at cut.work.rows p) → owes grown.work (t.needed p) p ≡ []
    owes_as p same = owes_staged cut.work grown.work (t.needed p) p same
        (ap (λ (e : List ExpertPlace). fresh_at e p.node) (experts_then F z t b now cut died grown counts a))
        ∙ (sym (a.stands.owed p) ∙ a.holds.rows.owed p (a.quiet p))

    owes_row : (p : Point) (k : Progress) → at grown.work.rows p ≡ Some k → IsRowAfter t b cut p k → owes grown.work (t.needed p) p ≡ []
    owes_row p k e (new def le is) = owes_partly grown.work (t.needed p) p (ap (λ (x : Option Progress). is_full (stage_in x)) (e ∙ ap (λ (y : Progress). Some y) is))
    owes_row p k e (own {j} at_b row is) = owes_as p (ap stage_in (e ∙ ap (λ (y : Progress). Some y) is)
        ∙ sym (ap stage_in (subst (λ (x : Point). at cut.work.rows x ≡ Some j) at_b row)))
    owes_row p k e (kept lt notin ne row) = owes_as p (ap stage_in (e ∙ sym row))

    owes_now : (p : Point) → owes grown.work (t.needed p) p ≡ []
    owes_now p = by (at grown.work.rows p) refl
      where
        by : (x : Option Progress) → at grown.work.rows p ≡ x → owes grown.work (t.needed p) p ≡ []
        by None e = owes_partly grown.work (t.needed p) p (ap (λ (y : Option Progress). is_full (stage_in y)) e)
        by (Some k) e = owes_row p k e (row_case p k e)

    -- the parts stand for it
    pub bare_stands : MatchesState grown.arena grown.work after None bare_state
    bare_stands = record {
      graph = refl;
      out = λ p k e. out_is p k (row_case p k e);
      last = λ n k e. last_is n k (row_case (main n) k e);
      cutoff = λ n k e. cutoff_is n k (row_case (main n) k e);
      stale = λ n. a.stands.stale n ∙ sym (ap (λ (e : List ExpertPlace). is_stale_at e n) (experts_then F z t b now cut died grown counts a));
      links = λ p q. a.stands.links p q ∙ ap (λ (l : Links). times l p q) (sym links_as);
      root = λ p. a.stands.root p ∙ ap (λ (r : Roots). root_times r p) (sym roots_as);
      needed = λ p. ((λ h. needed_now p ((a.stands.needed p).0 h)), (λ n. (a.stands.needed p).1 (needed_cut p n)));
      height = λ p n. a.stands.height p (needed_cut p n) ∙ ap or_zero (sym (height_as p (needed_cut p n)));
      heap = λ p. refl;
      settled = λ p. settled_if p (t.settled p) refl;
      stage = λ p k e. stage_is p k (row_case p k e);
      owed = λ p. a.holds.rows.owed p (a.quiet p) ∙ sym (owes_now p);
      todo = λ p td. absurd (let q = a.quiet p in cc);
      retries = a.stands.retries ∙ sym (a.grown.round.retries ∙ a.died.retries);
      died = λ n. refl;
      ran = a.stands.ran ∙ ap reverse (sym (a.grown.called ∙ ap (λ (l : Vec NodeId Global). l.items) a.died.called));
      counts = counts_as;
      given = refl;
    }

    -- its change is in the heap still
    pub bare_heap : bare_state.heap (change b) ≡ true
    bare_heap = bare_anew.heap.kept (change b) (bind_outside F z t b now cut died grown counts a) a.least.heap
