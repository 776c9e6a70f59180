-- A link or a root more: how the state follows.
use Rattle.std.proofs.Common.{◌≡◌, ◌⊎◌, inl, inr, ℕ, suc, ◌<◌, ◌+◌, Bool, true, false, List, [], ◌∷◌, Option, None, Some, refl, sym, ap, subst, ◌∙◌, arith}
use Rattle.std.specs.Prelude.{is_some, option_map, ◌↔◌}
use Rattle.inc_value.specs.declared.node.NodeId.{NodeId}
use Rattle.inc_value.specs.declared.node.Point.{Point}
use Rattle.inc_value.specs.Choice.{here, step, Among, Reaches}
use Rattle.inc_terms.specs.Term.{Functions}
use Rattle.inc_terms.specs.Depend.{Depends}
use Rattle.inc_terms.specs.Graph.{Row}
use Rattle.point_map.specs.Rows.{Rows, at, Holds}
use Rattle.link_table.specs.declared.link.Link as code_link
use Rattle.link_table.specs.Links.{Links, times, OneLinkMore}
use Rattle.necessity.specs.Need.{Roots, root_times, KeepsRoots}
use Rattle.height_order.specs.Levels.{level}
use Rattle.necessary_graph.specs.Part.{NecessaryPart, Needed}
use Rattle.node_arena.specs.Arena.{Arena}
use Rattle.stabilize_round.specs.State as machine
use Rattle.stabilize_round.specs.State.{State, Start, at_point, count, plan_at, ghost_plan}
use Rattle.stabilize_round.specs.Machine as move
use Rattle.stabilize_round.specs.Steps.{Wiring}
use Rattle.stabilize_round.specs.Moves.{Enqueues}
use Rattle.stabilize_round.specs.Wire.{linked, newly, IsIt, Link, IsConfirmed, raised, Raise, finished, Finish}
use Rattle.stabilize_round.proofs.Parts.{bool_cases}
use Rattle.stabilize_round.proofs.Points.{same_or_other, at_same, at_other}
use Rattle.expert_nodes.specs.Experts.{ExpertPlace, fresh_at}
use Rattle.node_outcomes.specs.Row.{is_full, stage_in, stage_of, with_stage}
use Rattle.wiring.specs.Stands.{MatchesState, StandsWith, PointInHand, hand, debts, owed_in, owes, IsInHand, Counts}
use Rattle.wiring.specs.Graph.{HasLinks, died_at}
use Rattle.wiring.specs.Wiring.{IsReached, IsNewlyNeeded, AreUnlinked}
use Rattle.node_outcomes.specs.Progress.{Progress}
use Rattle.node_outcomes.specs.declared.row.Stage.TheVariants as code
use Rattle.wiring.specs.declared.work.Work.{Work}
use Rattle.wiring.proofs.InHand.{nothing}
use Rattle.wiring.proofs.Owing.{owed_at, owed_idle, owed_put, owes_partly, owes_same}
use Rattle.wiring.proofs.Unlinked.{linked_unlinked, not_off, newly_unlinked, rested_unlinked}
use Rattle.wiring.proofs.Staying.{row_before, stage_now, most_same, most_staged, most_stands}

-- one link more is one link more in the state
pub links_more : (links : Point → Point → ℕ) (old new : Links) (p q : Point) → ((a b : Point) → links a b ≡ times old a b) → OneLinkMore old new p q
    → (a b : Point) → at_point p (at_point q (suc (links p q)) (links p)) links a b ≡ times new a b
links_more links old new p q same more a b = elim (same_or_other p a) [
  | inl e ↦ subst (λ (x : Point). at_point p (at_point q (suc (links p q)) (links p)) links x b ≡ times new x b) e (row b)
  | inr ne ↦ ap (λ (f : Point → ℕ). f b) (at_other p (at_point q (suc (links p q)) (links p)) links a ne)
      ∙ (same a b ∙ sym (more.others a b (λ h. ne (sym (ap (λ (l : code_link.Link). l.reader) h)))))
]
  where
    row : (b : Point) → at_point p (at_point q (suc (links p q)) (links p)) links p b ≡ times new p b
    row b = ap (λ (f : Point → ℕ). f b) (at_same p (at_point q (suc (links p q)) (links p)) links) ∙ elim (same_or_other q b) [
      | inl e ↦ subst (λ (x : Point). at_point q (suc (links p q)) (links p) x ≡ times new p x) e
          (at_same q (suc (links p q)) (links p) ∙ (let r = more.raised in let k = same p q in omega (arith, r, k)))
      | inr ne ↦ at_other q (suc (links p q)) (links p) b ne ∙ (same p b ∙ sym (more.others p b (λ h. ne (sym (ap (λ (l : code_link.Link). l.kid) h)))))
    ]

-- what an option is
pub some_or_none : {A : Type 0} (x : Option A) → ((y : A) × (x ≡ Some y)) ⊎ (x ≡ None)
some_or_none None = inr refl
some_or_none (Some y) = inl (y, refl)

-- one without a value
pub none_if : {A : Type 0} (x : Option A) → is_some x ≡ false → x ≡ None
none_if None e = refl
none_if (Some y) e = absurd (cc)

pub is_none : {A : Type 0} (x : Option A) → ((y : A) → x ≡ Some y → ⊥) → x ≡ None
is_none None not = refl
is_none (Some y) not = absurd (not y refl)

-- ---- a link

module _ (F : Functions) (z : Start) (s : State) (arena : Arena) (old : Work) (g : NecessaryPart) (counts : Counts) (p q : Point) (rest : List Point)
    (st : MatchesState arena old counts (Some (hand p (q ∷ rest))) s)
    (reached : IsReached old.graph g q) (more : OneLinkMore old.graph.links g.links p q) (roots : KeepsRoots old.graph.roots g.roots)
    (need : Needed old.graph p) (dep : Depends F s.graph s.died p q) (conf : IsConfirmed s p q) where
  abbrev heights : Point → ℕ
  heights = level g.heights

  abbrev after : State
  after = linked s p q rest heights

  links_after : (a b : Point) → after.links a b ≡ times g.links a b
  links_after = links_more s.links old.graph.links g.links p q st.links more

  pub is_link : Link F s p q rest heights
  is_link = record {
    need = (st.needed p).1 need;
    owed = st.owed p ∙ at_same p (q ∷ rest) (debts old s.needed);
    depends = dep;
    confirmed = conf;
    rises = λ a b l. reached.step.rises a b (subst (λ (n : ℕ). 0 < n) (links_after a b) l);
    low = reached.step.low;
  }

  owed_after : (a : Point) → after.owed a ≡ owed_in (debts old s.needed) (Some (hand p rest)) a
  owed_after = owed_put (debts old s.needed) (debts old s.needed) p (q ∷ rest) rest (λ a ne. refl) s.owed st.owed

  pub linked_with : (N : Point → Type 0) → ((a : Point) → (s.needed a ≡ true) ↔ N a) → StandsWith N arena (record old { graph = g }) counts
      (Some (hand p rest)) after
  linked_with N needed = most_stands old (record old { graph = g }) (most_same old g old.todo old.retries) arena s after st refl (record {
    links = links_after;
    root = λ a. st.root a ∙ sym (roots a);
    needed = needed;
    height = λ a n. refl;
    heap = λ a. st.heap a ∙ sym (reached.points a);
    stage = st.stage;
    owed = owed_after;
    todo = st.todo;
    retries = st.retries;
  })

  -- what was needed before
  pub linked_stands : Needed old.graph q → AreUnlinked (Some (hand p [])) s
      → (t : State) × Reaches (Wiring F z) s t × MatchesState arena (record old { graph = g }) counts (Some (hand p rest)) t × AreUnlinked (Some (hand p [])) t
  linked_stands there unlinked = (
    after,
    step (move.link is_link ((st.needed q).1 there) refl, tt) here,
    linked_with (Needed g) (λ a. (
      λ t. (reached.needed a).1 (inl ((st.needed a).0 t)),
      λ n. elim ((reached.needed a).0 n) [
        | inl o ↦ (st.needed a).1 o
        | inr e ↦ (st.needed a).1 (subst (Needed old.graph) (sym e) there)
      ],
    )),
    linked_unlinked s p q rest heights unlinked,
  )

-- ---- what is newly needed

module _ (F : Functions) (z : Start) (s : State) (arena : Arena) (mid new : Work) (counts : Counts) (held : Option PointInHand) (q : Point) (N : Point → Type 0)
    (st : StandsWith N arena mid counts held s) (fresh : N q → ⊥) (now : (a : Point) → Needed new.graph a ↔ (N a ⊎ (a ≡ q)))
    (high : s.height q ≡ level mid.graph.heights q) (idle : owed_in nothing held q ≡ [])
    (w : IsNewlyNeeded mid new q) (same : is_some (at mid.rows q) ≡ is_some (s.graph.row q.node)) where
  abbrev heap' : Point → Bool
  heap' a = is_some (at new.graph.heap a)

  live : Holds mid.rows q → (r : Row) × (s.graph.row q.node ≡ Some r)
  live h = elim (some_or_none (s.graph.row q.node)) [
    | inl r ↦ (r.0, r.1)
    | inr none ↦ absurd (let e = sym h ∙ (same ∙ ap is_some none) in cc)
  ]

  rowed : (r : Row) → s.graph.row q.node ≡ Some r → Holds mid.rows q
  rowed r e = same ∙ ap is_some e

  pub enqueues : Enqueues s s.heap heap' (IsIt s q) (IsIt s q)
  enqueues = record {
    kept = λ a h. elim (same_or_other q a) [
      | inl e ↦ subst (λ (x : Point). heap' x ≡ true) e (w.kept (sym (st.heap q) ∙ subst (λ (x : Point). s.heap x ≡ true) (sym e) h))
      | inr ne ↦ ap is_some (w.others a (λ k. ne (sym k))) ∙ (sym (st.heap a) ∙ h)
    ];
    new = λ a h. elim (same_or_other q a) [
      | inl e ↦ elim (w.only (subst (λ (x : Point). heap' x ≡ true) (sym e) h)) [
        | inl k ↦ inl (subst (λ (x : Point). s.heap x ≡ true) e (st.heap q ∙ k))
        | inr k ↦ inr ((e, (live k.0).0, (live k.0).1), subst (λ (x : Point). s.settled x ≡ false) e (st.settled q ∙ k.1))
      ]
      | inr ne ↦ inl (st.heap a ∙ (sym (ap is_some (w.others a (λ k. ne (sym k)))) ∙ h))
    ];
    told = λ a it. elim (w.told (rowed it.1 it.2)) [
      | inl k ↦ inl (subst (λ (x : Point). heap' x ≡ true) it.0 k)
      | inr k ↦ inr (subst (λ (x : Point). s.settled x ≡ true) it.0 (st.settled q ∙ k))
    ];
  }

  pub unneeded : s.needed q ≡ false
  unneeded = elim (bool_cases (s.needed q)) [ inl t ↦ absurd (fresh ((st.needed q).0 t)) | inr f ↦ f ]

  needed_now : (a : Point) → (at_point q true s.needed a ≡ true) ↔ Needed new.graph a
  needed_now a = elim (same_or_other q a) [
    | inl e ↦ (λ t. (now a).1 (inr (sym e)), λ n. subst (λ (x : Point). at_point q true s.needed x ≡ true) e (at_same q true s.needed))
    | inr ne ↦ (
      λ t. (now a).1 (inl ((st.needed a).0 (sym (at_other q true s.needed a ne) ∙ t))),
      λ n. elim ((now a).0 n) [
        | inl k ↦ at_other q true s.needed a ne ∙ (st.needed a).1 k
        | inr e ↦ absurd (ne (sym e))
      ],
    )
  ]

  abbrev woken : State
  woken = newly s q heap'

  height_now : (a : Point) → Needed new.graph a → s.height a ≡ level new.graph.heights a
  height_now a n = elim ((now a).0 n) [
    | inl k ↦ st.height a k
    | inr e ↦ subst (λ (x : Point). s.height x ≡ level mid.graph.heights x) (sym e) high
  ] ∙ ap (λ (h : Rows ℕ). level h a) (sym w.graph.heights)

  -- it is owed nothing, as it has no links yet, and others are owed what they were
  abbrev owed_new : Point → List Point
  owed_new = debts new (at_point q true s.needed)

  none_new : owed_new q ≡ []
  none_new = owes_partly new (at_point q true s.needed q) q (ap (λ (x : Option Progress). is_full (stage_in x)) w.rows.changed ∙ bare_partly (at mid.rows q))
    where
      bare_partly : (x : Option Progress) → is_full (stage_in (option_map (with_stage code.Bare) x)) ≡ false
      bare_partly None = refl
      bare_partly (Some k) = refl

  same_debts : (a : Point) → (q ≡ a → ⊥) → owed_new a ≡ debts mid s.needed a
  same_debts a ne = ap (λ (b : Bool). owes new b a) (at_other q true s.needed a ne)
      ∙ owes_same mid new (s.needed a) a (w.rows.others a (λ e. ne (sym e))) (ap (λ (x : List ExpertPlace). fresh_at x a.node) w.round.experts)

  none_at : owed_in owed_new held q ≡ []
  none_at = owed_idle owed_new held q none_new ∙ idle

  woken_with : (todo : Point → Bool) (stage : Point → machine.Stage) (owed : Point → List Point)
      → ((a : Point) → todo a ≡ true → Among a new.todo.items ⊎ IsInHand held a)
      → ((a : Point) (k : Progress) → at new.rows a ≡ Some k → stage a ≡ stage_of k.stage)
      → ((a : Point) → owed a ≡ owed_in owed_new held a)
      → MatchesState arena new counts held (record woken { todo = todo; stage = stage; owed = owed })
  woken_with todo stage owed todo_is stage_is owed_is =
      most_stands mid new (most_staged mid new q code.Bare w.rows w.lists w.round) arena s (record woken { todo = todo; stage = stage; owed = owed })
      st refl (record {
        links = λ a b. st.links a b ∙ ap (λ (l : Links). times l a b) (sym w.graph.links);
        root = λ a. st.root a ∙ ap (λ (r : Roots). root_times r a) (sym w.graph.roots);
        needed = needed_now;
        height = height_now;
        heap = λ a. refl;
        stage = stage_is;
        owed = owed_is;
        todo = todo_is;
        retries = st.retries ∙ sym w.round.retries;
      })

  owed_now : (a : Point) → at_point q [] s.owed a ≡ owed_in owed_new held a
  owed_now a = elim (same_or_other q a) [
    | inl e ↦ subst (λ (x : Point). at_point q [] s.owed x ≡ owed_in owed_new held x) e (at_same q [] s.owed ∙ sym none_at)
    | inr ne ↦ at_other q [] s.owed a ne ∙ (st.owed a ∙ owed_at (debts mid s.needed) owed_new held a (sym (same_debts a ne)))
  ]

  listed : (a : Point) → s.todo a ≡ true → Among a new.todo.items ⊎ IsInHand held a
  listed a h = elim (st.todo a h) [ inl k ↦ inl (w.todo a k) | inr k ↦ inr k ]

  -- a live node's point, or one of a node that died in this round
  woken_live : HasLinks mid q → MatchesState arena new counts held woken
  woken_live h = woken_with woken.todo woken.stage woken.owed
      (λ a t. elim (same_or_other q a) [
        | inl e ↦ inl (subst (λ (x : Point). Among x new.todo.items) e (w.listed h))
        | inr ne ↦ listed a (sym (at_other q true s.todo a ne) ∙ t)
      ])
      (stage_now mid.rows new.rows q code.Bare w.rows s.stage st.stage)
      owed_now

  -- a dead node's point has no links to be given
  abbrev rested : State
  rested = finished (raised woken q machine.Full []) q

  module _ (dead : at mid.rows q ≡ None) (leaf : died_at mid q.node ≡ None) where
    no_row : (r : Row) → s.graph.row q.node ≡ Some r → ⊥
    no_row r e = let h = sym (rowed r e) ∙ ap is_some dead in cc

    nothing_planned : (stage : machine.Stage) → plan_at s.graph s.out s.died q (s.graph.row q.node) stage ≡ []
    nothing_planned stage = elim (some_or_none (s.graph.row q.node)) [
      | inl r ↦ absurd (no_row r.0 r.1)
      | inr none ↦ ap (λ (x : Option Row). plan_at s.graph s.out s.died q x stage) none ∙
          (ap (λ (x : Option NodeId). ghost_plan x stage) (st.died q.node ∙ leaf) ∙ by stage)
    ]
      where
        by : (stage : machine.Stage) → ghost_plan None stage ≡ []
        by machine.Bare = refl
        by machine.Gated = refl
        by machine.Static = refl
        by machine.Full = refl

    stage_woken : woken.stage q ≡ machine.Bare
    stage_woken = at_same q machine.Bare s.stage

    raises : Raise woken q machine.Full []
    raises = record {
      todo = at_same q true s.todo;
      owed = at_same q [] s.owed;
      plan = λ b. ap (count b) (nothing_planned machine.Full) ∙ sym (ap (λ (xs : List Point). count b xs + 0) (nothing_planned (woken.stage q)));
      lower = λ e. let b = stage_woken in cc;
      gates = λ st r b e. absurd (no_row r e);
      rights = λ full m r a e. absurd (no_row r e);
    }

    finishes : Finish (raised woken q machine.Full []) q
    finishes = record {
      owed = at_same q [] woken.owed;
      bare = λ n e. let b = at_same q machine.Full woken.stage in cc;
      gated = λ r e. absurd (no_row r e);
      static = λ r e. absurd (no_row r e);
    }

    no_new_row : (k : Progress) → at new.rows q ≡ Some k → ⊥
    no_new_row k e = let b = row_before mid.rows new.rows q code.Bare w.rows q k e in let d = dead in let was = b.was in cc

    rested_stands : MatchesState arena new counts held rested
    rested_stands = woken_with rested.todo rested.stage rested.owed
        (λ a t. elim (same_or_other q a) [
          | inl e ↦ absurd (not_off q a woken.todo e t)
          | inr ne ↦ listed a (sym (at_other q true s.todo a ne) ∙ (sym (at_other q false woken.todo a ne) ∙ t))
        ])
        (λ a k e. elim (same_or_other q a) [
          | inl h ↦ absurd (no_new_row k (subst (λ (x : Point). at new.rows x ≡ Some k) (sym h) e))
          | inr ne ↦ at_other q machine.Full woken.stage a ne ∙ stage_now mid.rows new.rows q code.Bare w.rows s.stage st.stage a k e
        ])
        (λ a. elim (same_or_other q a) [
          | inl e ↦ subst (λ (x : Point). rested.owed x ≡ owed_in owed_new held x) e (at_same q [] woken.owed ∙ sym none_at)
          | inr ne ↦ at_other q [] woken.owed a ne ∙ owed_now a
        ])

  -- from the state in which the point is newly needed
  pub woken_stands : AreUnlinked held s → (t : State) × Reaches (Wiring F z) woken t × MatchesState arena new counts held t × AreUnlinked held t
  woken_stands unlinked = elim (some_or_none (at mid.rows q)) [
    | inl k ↦ (woken, here, woken_live (inl (ap is_some k.1)), newly_unlinked s q heap' held unlinked)
    | inr dead ↦ elim (some_or_none (died_at mid q.node)) [
      | inl b ↦ (woken, here, woken_live (inr (ap is_some b.1)), newly_unlinked s q heap' held unlinked)
      | inr leaf ↦ (
        rested,
        step (move.raise (raises dead leaf) refl, tt) (step (move.finish (finishes dead leaf) refl, tt) here),
        rested_stands dead leaf,
        rested_unlinked s q heap' held unlinked,
      )
    ]
  ]

-- ---- a link to what wasn't needed

module _ (F : Functions) (z : Start) (s : State) (arena : Arena) (old new : Work) (g : NecessaryPart) (counts : Counts) (p q : Point) (rest : List Point)
    (st : MatchesState arena old counts (Some (hand p (q ∷ rest))) s)
    (reached : IsReached old.graph g q) (more : OneLinkMore old.graph.links g.links p q) (roots : KeepsRoots old.graph.roots g.roots)
    (need : Needed old.graph p) (dep : Depends F s.graph s.died p q) (conf : IsConfirmed s p q)
    (fresh : Needed old.graph q → ⊥) (w : IsNewlyNeeded (record old { graph = g }) new q)
    (woken_needs : (a : Point) → Needed new.graph a ↔ Needed g a)
    (same : is_some (at old.rows q) ≡ is_some (s.graph.row q.node)) where
  abbrev linked_state : State
  linked_state = linked s p q rest (level g.heights)

  abbrev mid : Work
  mid = record old { graph = g }

  with_old : StandsWith (Needed old.graph) arena mid counts (Some (hand p rest)) linked_state
  with_old = linked_with F z s arena old g counts p q rest st reached more roots need dep conf (Needed old.graph) st.needed

  now : (a : Point) → Needed new.graph a ↔ (Needed old.graph a ⊎ (a ≡ q))
  now a = (λ n. (reached.needed a).0 ((woken_needs a).0 n), λ h. (woken_needs a).1 ((reached.needed a).1 h))

  other : p ≡ q → ⊥
  other e = fresh (subst (Needed old.graph) e need)

  idle : owed_in nothing (Some (hand p rest)) q ≡ []
  idle = at_other p rest nothing q other

  pub linked_new_stands : AreUnlinked (Some (hand p [])) s
      → (t : State) × Reaches (Wiring F z) s t × MatchesState arena new counts (Some (hand p rest)) t × AreUnlinked (Some (hand p [])) t
  linked_new_stands unlinked =
      let e = enqueues F z linked_state arena mid new counts (Some (hand p rest)) q (Needed old.graph) with_old fresh now refl idle w same in
      let u = unneeded F z linked_state arena mid new counts (Some (hand p rest)) q (Needed old.graph) with_old fresh now refl idle w same in
      let on = woken_stands F z linked_state arena mid new counts (Some (hand p rest)) q (Needed old.graph) with_old fresh now refl idle w same
      (linked_unlinked s p q rest (level g.heights) unlinked) in
      let k : Link F s p q rest (level g.heights) = is_link F z s arena old g counts p q rest st reached more roots need dep conf in
      let h : Enqueues s s.heap (λ a. is_some (at new.graph.heap a)) (IsIt s q) (IsIt s q) = record { kept = e.kept; new = e.new; told = e.told } in
      (on.0, step (move.link_new k u h refl, tt) on.1, on.2, on.3)
