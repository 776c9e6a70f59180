-- The points of a node that is to die keep the links to their gate alone.
use Rattle.std.proofs.Common.{◌≡◌, ◌⊎◌, inl, inr, ℕ, zero, suc, ◌<◌, ◌≤◌, true, false, not, Option, None, Some, refl, sym, ap, subst, ◌∙◌, arith, Vec, Global}
use Rattle.std.specs.Prelude.{is_some, option_and_then, vec_capacity}
use Rattle.std.proofs.lemmas.Option.{none-some}
use Rattle.inc_value.specs.declared.node.NodeId.{NodeId}
use Rattle.inc_value.specs.declared.node.Point.{Point}
use Rattle.inc_terms.specs.Depend.{main, change, right_of}
use Rattle.inc_terms.specs.Graph.{Graph, Row}
use Rattle.inc_terms.specs.Plan.{gate_of}
use Rattle.inc_terms.specs.Term.{Functions}
use Rattle.point_map.specs.Rows.{Rows, at, Holds}
use Rattle.link_table.specs.Links.{times, Reads}
use Rattle.necessity.specs.Need.{KeepsRoots}
use Rattle.height_order.specs.Levels.{or_zero}
use Rattle.necessary_graph.specs.Part.{Needed, IsInStep}
use Rattle.necessary_graph.specs.Sweep.{IsReduced, DropsLeaves}
use Rattle.necessary_graph.proofs.Reaching.{needed_more}
use Rattle.node_arena.specs.Arena.{Arena, row_at, live}
use Rattle.stabilize_round.specs.Invariant.{Invariant}
use Rattle.stabilize_round.specs.State as machine
use Rattle.stabilize_round.specs.State.{State, Start, count, planned, plan_at, live_plan}
use Rattle.stabilize_round.proofs.Machine.{moves_keep}
use Rattle.stabilize_round.proofs.Parts.{bool_cases}
use Rattle.stabilize_round.proofs.Points.{same_or_other, count_among}
use Rattle.stabilize_round.proofs.Steps.{off_moves}
use Rattle.expert_nodes.specs.Experts.{SameLinks}
use Rattle.node_outcomes.specs.Row.{kept_in, settled_in, stage_in, stage_of, outcome_in}
use Rattle.node_outcomes.specs.Progress.{Progress}
use Rattle.node_outcomes.specs.declared.row.Stage.{Stage}
use Rattle.node_outcomes.specs.declared.row.Stage.TheVariants as code
use Rattle.wiring.specs.Graph.{graph_at, rowless}
use Rattle.wiring.specs.Kept.{IsKept}
use Rattle.wiring.specs.Stands.{MatchesState, Counts}
use Rattle.wiring.specs.Wiring.{ShowsSame, KeepsLists, KeepsPlaces, OnlyLoses, IsAtGate, HasMore, TakesOne}
use Rattle.wiring.specs.declared.work.Work.{Work}
use Rattle.wiring.proofs.Holding.{died_same, links_same, root_same, pairs_same, scoped_same}
use Rattle.wiring.proofs.NodeBack.{NodeBackAt}
use Rattle.wiring.proofs.Releasing.{main_or_change}
use Rattle.wiring.proofs.TakingAll.{places_then, loses_then}
use Rattle.wiring.proofs.Deciding.{same_need}
use Rattle.wiring.proofs.Staying.{looks_stands}
use Rattle.stabilizer.specs.Dying.{KeepsGate, IsGateOf, PutsBack, IsPutToGate, scope_at}
use Rattle.stabilizer.proofs.Step.Experts.{read_as, linked_as, still_experts, still_listed, still_lists, graph_seen, no_expert, scoped_plain, plain_owes}

-- ---- fewer links

-- links come off, and what isn't reached any more loses all
pub record IsThinned (old new : Work) : Type 0 where
  pub fewer : (a b : Point) → times new.graph.links a b ≤ times old.graph.links a b
  pub roots : KeepsRoots old.graph.roots new.graph.roots
  pub heap_kept : (a : Point) → Needed new.graph a → Holds old.graph.heap a → Holds new.graph.heap a
  pub heap_old : (a : Point) → Holds new.graph.heap a → Holds old.graph.heap a
  pub drops : DropsLeaves (rowless old) old.graph new.graph
  pub step : IsInStep new.graph
  pub rest : new ≡ record old { graph = new.graph }

module _ (old new : Work) (t : IsThinned old new) where
  pub row_as : (a : Point) → at new.rows a ≡ at old.rows a
  row_as a = ap (λ (w : Work). at w.rows a) t.rest

  experts_as : new.experts ≡ old.experts
  experts_as = ap (λ (w : Work). w.experts) t.rest

  thinned_lists : KeepsLists old new
  thinned_lists = record { pairs = ap (λ (w : Work). w.pairs) t.rest; scoped = ap (λ (w : Work). w.scoped) t.rest }

  need_before : (a : Point) → Needed new.graph a → Needed old.graph a
  need_before a n = needed_more new.graph old.graph (λ x r. let e = t.roots x in omega (arith, e, r))
      (λ x y r. let f = t.fewer x y in omega (arith, f, r)) a n

  pub thinned_loses : OnlyLoses old.graph new.graph
  thinned_loses = record { less = need_before; links = t.fewer; heap = λ a h n. t.heap_kept a n h }

  pub thinned_places : KeepsPlaces old new
  thinned_places = record {
    rows = λ a. ap is_some (row_as a);
    roots = t.roots;
    deaths = ap (λ (w : Work). w.deaths) t.rest;
    round = ap (λ (w : Work). w.round) t.rest;
    experts = read_as old.experts new.experts experts_as;
  }

  there_before : (a : Point) → Holds new.graph.heights a → Holds old.graph.heights a
  there_before a h = elim (t.drops.heights a) [
    | inl e ↦ sym (ap is_some e) ∙ h
    | inr d ↦ absurd (let e : false ≡ true = sym (ap is_some d.gone) ∙ h in cc)
  ]

  there_still : (a : Point) → Holds old.rows a → Holds old.graph.heights a → Holds new.graph.heights a
  there_still a row h = elim (t.drops.heights a) [
    | inl e ↦ ap is_some e ∙ h
    | inr d ↦ absurd (let e : true ≡ false = sym d.is_leaf ∙ ap not row in cc)
  ]

  module _ (arena : Arena) (kept : IsKept arena old) where
    same_links : SameLinks old.experts new.experts
    same_links = linked_as old.experts new.experts experts_as

    thinned_graph : graph_at arena new ≡ graph_at arena old
    thinned_graph = graph_seen arena old new (λ n. ap outcome_in (row_as (change n))) (ap (λ (w : Work). w.roots) t.rest)
        (λ n. ap kept_in (row_as (main n))) same_links

    leaf_or_row : (a : Point) → Holds new.graph.heights a → Holds new.rows a ⊎ ((row_at arena a.node ≡ None) × Needed new.graph a)
    leaf_or_row a h = elim (bool_cases (is_some (at old.rows a))) [
      | inl row ↦ inl (ap is_some (row_as a) ∙ row)
      | inr none ↦ elim (kept.leaves a (there_before a h)) [
        | inl row ↦ absurd (let e : false ≡ true = sym none ∙ row in cc)
        | inr leaf ↦ elim (t.drops.leaves a (ap not none) leaf.1) [
          | inl n ↦ inr (leaf.0, n)
          | inr gone ↦ absurd (let e : false ≡ true = sym (ap is_some gone) ∙ h in cc)
        ]
      ]
    ]

    pub thinned_kept : IsKept arena new
    thinned_kept = record {
      step = t.step;
      rows = λ a. ap is_some (row_as a) ∙ kept.rows a;
      leaves = leaf_or_row;
      there = λ a h. let was = sym (ap is_some (row_as a)) ∙ h in there_still a was (kept.there a was);
      given = λ a h. kept.given a (there_before a h);
      links = λ a b r. links_same old new (λ x. ap is_some (row_as x)) (ap (λ (w : Work). w.deaths) t.rest) a b
          (kept.links a b (let f = t.fewer a b in omega (arith, r, f)));
      heap = λ a h. ap is_some (row_as a) ∙ kept.heap a (t.heap_old a h);
      dead = λ n b e. kept.dead n b (sym (died_same old new (ap (λ (w : Work). w.deaths) t.rest) n) ∙ e);
      sound = kept.sound;
      scopes = kept.scopes;
      older = kept.older;
      outcomes = λ n r k v row e o. kept.outcomes n r k v row (sym (row_as (main n)) ∙ e) o;
      rights = λ n m r k o row e out right. kept.rights n m r k o row (sym (row_as (change n)) ∙ e) out
          (subst (λ (G : Graph). right_of G n r.def o ≡ Some m) thinned_graph right);
      roots = λ n h. let v = kept.roots n (root_same old new (ap (λ (w : Work). w.roots) t.rest) (change n) h) in
          (v.0, ap outcome_in (row_as (change n)) ∙ v.1);
      binds = λ n r row h. kept.binds n r row (root_same old new (ap (λ (w : Work). w.roots) t.rest) (change n) h);
      calls = λ n r k c row e last. kept.calls n r k c row (sym (row_as (main n)) ∙ e) last;
      rounds = λ a k e. let r = kept.rounds a k (sym (row_as a) ∙ e) in let q = ap (λ (w : Work). w.round) t.rest in omega (arith, r, q);
      pairs = λ n r row some. pairs_same old new thinned_lists n (kept.pairs n r row some);
      scoped = λ n r row some. scoped_same old new thinned_lists n (kept.scoped n r row some);
      experts = still_experts arena old new same_links kept;
      listed = still_listed arena old new same_links kept;
      lists = still_lists arena old new same_links kept;
      tops = kept.tops;
      frozen = λ n k e flag. kept.frozen n k (sym (row_as (main n)) ∙ e) flag;
      rooms = record {
        calls = λ n r k row e. kept.rooms.calls n r k row (sym (row_as (main n)) ∙ e);
        ran = subst (λ (l : Vec NodeId Global). live arena ≤ vec_capacity l) (sym (ap (λ (w : Work). w.ran) t.rest)) kept.rooms.ran;
      };
    }

-- ---- a point keeps the links to its gate

no_links : (x : ℕ) → (0 < x → ⊥) → x ≡ 0
no_links zero h = refl
no_links (suc x) h = absurd (h (omega arith))

module _ (old new : Work) (p gate : Point) (step : IsInStep old.graph) (rest : new ≡ record old { graph = new.graph })
    (step_new : IsInStep new.graph) (r : IsReduced (rowless old) old.graph new.graph p gate) where
  fewer_then : (a b : Point) → times r.links a b ≤ times old.graph.links a b
  fewer_then a b = elim (same_or_other a p) [
    | inl e ↦ subst (λ (x : Point). times r.links x b ≤ times old.graph.links x b) (sym e) (elim (same_or_other b gate) [
      | inl f ↦ subst (λ (y : Point). times r.links p y ≤ times old.graph.links p y) (sym f) (let h = r.off.here in omega (arith, h))
      | inr ne ↦ let g = r.off.gone b ne in omega (arith, g)
    ])
    | inr ne ↦ let o = r.off.others a b ne in omega (arith, o)
  ]

  in_heap_before : (a : Point) (x : Option ℕ) → at new.graph.heap a ≡ x → is_some x ≡ true → Holds old.graph.heap a
  in_heap_before a None e h = absurd (cc)
  in_heap_before a (Some y) e h = ap is_some (r.sweep.heap a y e).0

  reduced_thinned : IsThinned old new
  reduced_thinned = record {
    fewer = λ a b. let f = r.sweep.fewer a b in let l = fewer_then a b in omega (arith, f, l);
    roots = r.sweep.roots;
    heap_kept = λ a n h. ap is_some (r.sweep.heap_kept a ((r.sweep.reached a).0 n)) ∙ h;
    heap_old = λ a h. in_heap_before a (at new.graph.heap a) refl h;
    drops = r.drops;
    step = step_new;
    rest = rest;
  }

  reduced_alone : (b : Point) → Reads new.graph.links p b → b ≡ gate
  reduced_alone b reads = elim (same_or_other b gate) [
    | inl e ↦ e
    | inr ne ↦ absurd (let g = r.off.gone b ne in let f = r.sweep.fewer p b in omega (arith, reads, g, f))
  ]

  -- where it had no others all looks as before
  module _ (alone : (b : Point) → Reads old.graph.links p b → b ≡ gate) where
    links_then : (a b : Point) → times r.links a b ≡ times old.graph.links a b
    links_then a b = elim (same_or_other a p) [
      | inl e ↦ subst (λ (x : Point). times r.links x b ≡ times old.graph.links x b) (sym e) (elim (same_or_other b gate) [
        | inl f ↦ subst (λ (y : Point). times r.links p y ≡ times old.graph.links p y) (sym f) r.off.here
        | inr ne ↦ let g = r.off.gone b ne in let none = no_links (times old.graph.links p b) (λ l. ne (alone b l)) in omega (arith, g, none)
      ])
      | inr ne ↦ r.off.others a b ne
    ]

    need_then : (a : Point) → Needed old.graph a → Needed (record old.graph { links = r.links }) a
    need_then a n = (same_need old.graph (record old.graph { links = r.links }) (λ x. refl) links_then a).1 n

    need_back : (a : Point) → Needed (record old.graph { links = r.links }) a → Needed old.graph a
    need_back a n = (same_need old.graph (record old.graph { links = r.links }) (λ x. refl) links_then a).0 n

    links_now : (a b : Point) → times new.graph.links a b ≡ times old.graph.links a b
    links_now a b = by (times old.graph.links a b) refl
      where
        by : (x : ℕ) → times old.graph.links a b ≡ x → times new.graph.links a b ≡ times old.graph.links a b
        by zero e = let f = r.sweep.fewer a b in let l = links_then a b in omega (arith, e, f, l)
        by (suc x) e = r.sweep.kept a b (need_then a (step.readers a b (omega (arith, e)))) ∙ links_then a b

    heap_now : (a : Point) → is_some (at new.graph.heap a) ≡ is_some (at old.graph.heap a)
    heap_now a = by (at old.graph.heap a) refl
      where
        none_now : (x : Option ℕ) → at new.graph.heap a ≡ x → at old.graph.heap a ≡ None → is_some x ≡ false
        none_now None f e = refl
        none_now (Some y) f e = absurd (none-some y (sym e ∙ (r.sweep.heap a y f).0))

        by : (x : Option ℕ) → at old.graph.heap a ≡ x → is_some (at new.graph.heap a) ≡ is_some (at old.graph.heap a)
        by None e = none_now (at new.graph.heap a) refl e ∙ sym (ap is_some e)
        by (Some y) e = ap is_some (r.sweep.heap_kept a (need_then a (step.heap a y e).1))

    reduced_looks : ShowsSame old new
    reduced_looks = record {
      rows = λ a. ap (λ (w : Work). at w.rows a) rest;
      links = links_now;
      roots = r.sweep.roots;
      needed = λ a. (λ n. need_back a ((r.sweep.reached a).0 n), λ n. (r.sweep.reached a).1 (need_then a n));
      levels = λ a. elim (r.drops.heights a) [
        | inl e ↦ ap or_zero e
        | inr d ↦ absurd (d.unneeded ((r.sweep.reached a).1 (need_then a d.was)))
      ];
      heap = heap_now;
      todo = ap (λ (w : Work). w.todo.items) rest;
      lists = record { pairs = ap (λ (w : Work). w.pairs) rest; scoped = ap (λ (w : Work). w.scoped) rest };
      round = record {
        roots = ap (λ (w : Work). w.roots) rest;
        deaths = ap (λ (w : Work). w.deaths) rest;
        ran = ap (λ (w : Work). w.ran) rest;
        retries = ap (λ (w : Work). w.retries) rest;
        round = ap (λ (w : Work). w.round) rest;
        experts = ap (λ (w : Work). w.experts) rest;
      };
    }

-- nothing comes off
same_thinned : (old : Work) → IsInStep old.graph → IsThinned old old
same_thinned old step = record {
  fewer = λ a b. omega arith;
  roots = λ a. refl;
  heap_kept = λ a n h. h;
  heap_old = λ a h. h;
  drops = record { heights = λ a. inl refl; leaves = λ a leaf need. inl need };
  step = step;
  rest = refl;
}

same_looks : (old : Work) → ShowsSame old old
same_looks old = record {
  rows = λ a. refl;
  links = λ a b. refl;
  roots = λ a. refl;
  needed = λ a. (λ n. n, λ n. n);
  levels = λ a. refl;
  heap = λ a. refl;
  todo = refl;
  lists = record { pairs = refl; scoped = refl };
  round = record { roots = refl; deaths = refl; ran = refl; retries = refl; round = refl; experts = refl };
}

module _ (old new : Work) (p gate : Point) (step : IsInStep old.graph) (k : KeepsGate old new p gate) where
  pub gate_thinned : IsThinned old new
  gate_thinned = elim k.off [
    | inl r ↦ reduced_thinned old new p gate step k.rest k.step r.1
    | inr same ↦ subst (λ (w : Work). IsThinned old w) (sym same.1) (same_thinned old step)
  ]

  pub gate_alone : (b : Point) → Reads new.graph.links p b → b ≡ gate
  gate_alone b reads = elim k.off [
    | inl r ↦ reduced_alone old new p gate step k.rest k.step r.1 b reads
    | inr same ↦ absurd (same.0 (subst (λ (w : Work). Needed w.graph p) same.1 (k.step.readers p b reads)))
  ]

  pub gate_looks : ((b : Point) → Reads old.graph.links p b → b ≡ gate) → ShowsSame old new
  gate_looks alone = elim k.off [
    | inl r ↦ reduced_looks old new p gate step k.rest k.step r.1 alone
    | inr same ↦ subst (λ (w : Work). ShowsSame old w) (sym same.1) (same_looks old)
  ]

-- ---- by its stage a point that waits has none but the link to its gate

module _ (F : Functions) (z : Start) (s : State) (arena : Arena) (work : Work) (counts : Counts) (inv : Invariant F z s)
    (st : MatchesState arena work counts None s) (kept : IsKept arena work) (p : Point) (r : Row) (c : NodeId) (row : row_at arena p.node ≡ Some r)
    (scope : r.scope ≡ Some c) (at_gate : IsAtGate work p) where
  pub links_alone : (b : Point) → Reads work.graph.links p b → b ≡ change c
  links_alone b reads = by (at work.rows p) refl there
    where
      need : Needed work.graph p
      need = kept.step.readers p b reads

      there : Holds work.rows p
      there = elim (kept.leaves p (kept.step.there p need)) [
        | inl h ↦ h
        | inr dead ↦ absurd (none-some r (sym dead.0 ∙ row))
      ]

      s_row : s.graph.row p.node ≡ Some r
      s_row = ap (λ (G : Graph). G.row p.node) st.graph ∙ row

      linked : (x : machine.Stage) → s.stage p ≡ x → 0 < count b (live_plan s.graph s.out p r x)
      linked x e =
          let l = inv.rows.links p b ((st.needed p).1 need) in
          let plain = no_expert r.def (scoped_plain arena work kept p.node r c row scope) in
          let o : count b (s.owed p) ≡ 0 = ap (count b) (st.owed p ∙ plain_owes arena work kept p r row plain (s.needed p)) in
          let w = st.links p b in
          let plan : count b (planned s p) ≡ count b (live_plan s.graph s.out p r x) =
          ap (λ (y : Option Row). count b (plan_at s.graph s.out s.died p y (s.stage p))) s_row
          ∙ ap (λ (y : machine.Stage). count b (live_plan s.graph s.out p r y)) e in
          omega (arith, l, o, w, plan, reads)

      to_gate : 0 < count b (gate_of r.scope) → b ≡ change c
      to_gate some = elim (count_among b (gate_of (Some c)) (subst (λ (x : Option NodeId). 0 < count b (gate_of x)) scope some)) [
        | inl e ↦ e
        | inr none ↦ absurd none
      ]

      more : (k : Progress) (x : Stage) → at work.rows p ≡ Some k → k.stage ≡ x → stage_in (at work.rows p) ≡ Some x
      more k x e is = ap stage_in e ∙ ap (λ (y : Stage). Some y) is

      by_stage : (k : Progress) (x : Stage) → at work.rows p ≡ Some k → k.stage ≡ x → b ≡ change c
      by_stage k code.Bare e is = absurd (let l = linked machine.Bare (st.stage p k e ∙ ap stage_of is) in omega (arith, l))
      by_stage k code.Gated e is = to_gate (linked machine.Gated (st.stage p k e ∙ ap stage_of is))
      by_stage k code.Static e is = absurd (at_gate need (inl (more k code.Static e is)))
      by_stage k code.Full e is = absurd (at_gate need (inr (more k code.Full e is)))

      by : (x : Option Progress) → at work.rows p ≡ x → is_some x ≡ true → b ≡ change c
      by None e h = absurd (cc)
      by (Some k) e h = by_stage k k.stage e refl

-- ---- a node is put back to its gate

-- a node that stands in a scope has a row
pub scope_row : (arena : Arena) (n c : NodeId) → scope_at arena n ≡ Some c → (r : Row) × (row_at arena n ≡ Some r) × (r.scope ≡ Some c)
scope_row arena n c e = by (row_at arena n) refl e
  where
    by : (x : Option Row) → row_at arena n ≡ x → option_and_then (λ (r : Row). r.scope) x ≡ Some c
        → (r : Row) × (row_at arena n ≡ Some r) × (r.scope ≡ Some c)
    by None is h = absurd (none-some c h)
    by (Some r) is h = (r, is, h)

module _ (arena : Arena) (old back first last : Work) (n c : NodeId) (r : Row) (row : row_at arena n ≡ Some r) (scope : r.scope ≡ Some c)
    (kept : IsKept arena back) (places : KeepsPlaces old back)
    (taken : settled_in old.round (at old.rows (change c)) ≡ false → TakesOne arena old back) (gated : (p : Point) → p.node ≡ n → IsAtGate back p)
    (loses : OnlyLoses old.graph back.graph)
    (heap : (p : Point) → Holds back.graph.heap p → Holds old.graph.heap p ⊎ ((p.node ≡ n) ⊎ (p ≡ change c)))
    (rows : NodeBackAt arena old back n c) (rest : back ≡ record old { graph = back.graph; rows = back.rows })
    (one : KeepsGate back first (main n) (change c)) (two : KeepsGate first last (change n) (change c)) where
  thin_first : IsThinned back first
  thin_first = gate_thinned back first (main n) (change c) kept.step one

  kept_first : IsKept arena first
  kept_first = thinned_kept back first thin_first arena kept

  thin_last : IsThinned first last
  thin_last = gate_thinned first last (change n) (change c) kept_first.step two

  row_last : (p : Point) → at last.rows p ≡ at back.rows p
  row_last p = row_as first last thin_last p ∙ row_as back first thin_first p

  loses_last : OnlyLoses back.graph last.graph
  loses_last = loses_then back.graph first.graph last.graph (thinned_loses back first thin_first) (thinned_loses first last thin_last)

  gated_first : (p : Point) → p.node ≡ n → IsAtGate first p
  gated_first p e need more = gated p e ((thinned_loses back first thin_first).less p need)
      (subst (λ (x : Option Progress). HasMore (stage_in x)) (row_as back first thin_first p) more)

  taken_last : PutsBack arena old last n
  taken_last F z s counts inv waits st =
      let a = taken (sym (st.settled (change c)) ∙ waits r c row scope) F z s counts None inv tt st in
      let inv_now = moves_keep F z s a.0 (off_moves F z s a.0 a.1) inv in
      let st_first = looks_stands a.0 arena back first counts None (gate_looks back first (main n) (change c) kept.step one
      (links_alone F z a.0 arena back counts inv_now a.2 kept (main n) r c row scope (gated (main n) refl))) a.2 in
      let st_last = looks_stands a.0 arena first last counts None (gate_looks first last (change n) (change c) kept_first.step two
      (links_alone F z a.0 arena first counts inv_now st_first kept_first (change n) r c row scope (gated_first (change n) refl))) st_first in
      (a.0, a.1, st_last)

  is_gate : (q : Point) → q ≡ change c → IsGateOf arena n q
  is_gate q e = (r, c, row, scope, e)

  gates_last : (p q : Point) → p.node ≡ n → Reads last.graph.links p q → q ≡ change c
  gates_last p q e reads = elim (main_or_change p n e) [
    | inl m ↦ gate_alone back first (main n) (change c) kept.step one q (subst (λ (x : Point). Reads first.graph.links x q) m
        (let f = thin_last.fewer p q in omega (arith, reads, f)))
    | inr m ↦ gate_alone first last (change n) (change c) kept_first.step two q (subst (λ (x : Point). Reads last.graph.links x q) m reads)
  ]

  rest_last : last ≡ record old { graph = last.graph; rows = last.rows }
  rest_last = two.rest ∙ (ap (λ (w : Work). record w { graph = last.graph }) one.rest ∙ (ap (λ (w : Work). record w { graph = last.graph }) rest
      ∙ ap (λ (m : Rows Progress). record old { graph = last.graph; rows = m })
      (sym (ap (λ (w : Work). w.rows) two.rest ∙ ap (λ (w : Work). w.rows) one.rest))))

  pub put_to_gate : IsPutToGate arena old last n
  put_to_gate = record {
    taken = taken_last;
    kept = thinned_kept first last thin_last arena kept_first;
    gated = λ p e need more. gated p e (loses_last.less p need) (subst (λ (x : Option Progress). HasMore (stage_in x)) (row_last p) more);
    gates = λ p q e reads. is_gate q (gates_last p q e reads);
    loses = loses_then old.graph back.graph last.graph loses loses_last;
    heap = λ p h. elim (heap p (thin_first.heap_old p (thin_last.heap_old p h))) [
      | inl was ↦ inl was
      | inr x ↦ inr (elim x [ inl own ↦ inl own | inr e ↦ inr (is_gate p e) ])
    ];
    rows = λ p. elim (rows p) [
      | inl e ↦ inl (row_last p ∙ e)
      | inr b ↦ inr (b.0, row_last p ∙ b.1.now)
    ];
    places = places_then old first last (places_then old back first places (thinned_places back first thin_first))
        (thinned_places first last thin_last);
    rest = rest_last;
  }
