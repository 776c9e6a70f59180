-- A point goes back to a lower stage, and what is no longer reached loses all.
use Rattle.std.proofs.Common.{◌≡◌, inl, inr, ℕ, ◌<◌, ◌+◌, Bool, true, false, List, [], Some, refl, sym, ap, subst, ◌∙◌, arith}
use Rattle.inc_value.specs.declared.node.NodeId.{NodeId}
use Rattle.inc_value.specs.declared.node.Part.TheVariants.{Main}
use Rattle.inc_value.specs.declared.node.Point.{Point}
use Rattle.inc_value.specs.Choice.{Among, Reaches, here, step}
use Rattle.inc_terms.specs.Term.{Functions}
use Rattle.inc_terms.specs.Graph.{Row}
use Rattle.inc_terms.specs.Depend.{main, change, fixed_reads, subject_of}
use Rattle.inc_terms.specs.Plan.{gate_of}
use Rattle.inc_terms.proofs.Plan.{among_right}
use Rattle.stabilize_round.specs.State.{State, Start, Stage, Bare, Gated, Static, Full, Linked, count, planned, live_plan, at_point}
use Rattle.stabilize_round.specs.Invariant.{Invariant, Web, Rows, Waits, Fresh, Strict}
use Rattle.stabilize_round.specs.Wire.{dropped, Drop, swept, Sweep}
use Rattle.stabilize_round.proofs.Points.{same_or_other, at_same, at_other, among_count}
use Rattle.stabilize_round.proofs.Parts.{bool_cases}
use Rattle.stabilize_round.proofs.Low.{among_gate}

module _ (F : Functions) (z : Start) (s : State) (inv : Invariant F z s) (p : Point) (r : Row) (st : Stage) (row' : Point → ℕ)
    (drop : Drop s p r st row')
    (needed' : Point → Bool) (links' : Point → Point → ℕ) (heap' : Point → Bool) (owed' : Point → List Point)
    (sweep : Sweep (dropped s p st row') needed' links' heap' owed') where
  abbrev mid : State
  mid = dropped s p st row'

  abbrev after : State
  after = swept mid needed' links' heap' owed'

  links_here : (b : Point) → at_point p row' s.links p b ≡ row' b
  links_here b = ap (λ (f : Point → ℕ). f b) (at_same p row' s.links)

  links_other : (a b : Point) → (p ≡ a → ⊥) → at_point p row' s.links a b ≡ s.links a b
  links_other a b ne = ap (λ (f : Point → ℕ). f b) (at_other p row' s.links a ne)

  was_linked : (a b : Point) → Linked mid a b → Linked s a b
  was_linked a b l = elim (same_or_other p a) [
    | inl e ↦ let x = links_here b in let l' : Linked mid p b = subst (λ (y : Point). Linked mid y b) (sym e) l in
        subst (λ (y : Point). Linked s y b) e (drop.fewer b (omega arith))
    | inr ne ↦ let x = links_other a b ne in omega arith
  ]

  mid_rows : (a b : Point) → s.needed a ≡ true → at_point p row' s.links a b + count b (at_point p [] s.owed a) ≡ count b (planned mid a)
  mid_rows a b need = elim (same_or_other p a) [
    | inl e ↦ subst (λ (y : Point). at_point p row' s.links y b + count b (at_point p [] s.owed y) ≡ count b (planned mid y)) e row_here
    | inr ne ↦ let x = links_other a b ne in let o = at_other p [] s.owed a ne in let t = at_other p st s.stage a ne in
        let y = inv.rows.links a b need in rw (x, o, t) y
  ]
    where
      row_here : at_point p row' s.links p b + count b (at_point p [] s.owed p) ≡ count b (planned mid p)
      row_here = let x = links_here b in let o = at_same p [] s.owed in let t = at_same p st s.stage in let k = drop.links b in
          rw (x, o, t, drop.row) (omega arith)

  mid_owed : (a : Point) → s.todo a ≡ false → at_point p [] s.owed a ≡ []
  mid_owed a h = elim (same_or_other p a) [
    | inl e ↦ subst (λ (y : Point). at_point p [] s.owed y ≡ []) e (at_same p [] s.owed)
    | inr ne ↦ at_other p [] s.owed a ne ∙ inv.rows.owed a h
  ]

  linked : (a b : Point) → 0 < links' a b → (needed' a ≡ true) × Linked mid a b
  linked a b l = elim (bool_cases (needed' a)) [
    | inl e ↦ let k = sweep.kept a b e in (e, omega arith)
    | inr e ↦ absurd (let k = sweep.gone a b e in omega arith)
  ]

  reach : (a b : Point) → needed' a ≡ true → Reaches (Linked mid) a b → Reaches (Linked after) a b
  reach a b need here = here
  reach a b need (step {b = c} l rest) = let k = sweep.kept a c need in step {b = c} (omega arith) (reach c b (sweep.closed a c need l) rest)

  new_web : Web after
  new_web = record {
    from = λ a b l. (linked a b l).0;
    onto = λ a b l. let k = linked a b l in sweep.closed a b k.0 k.1;
    rooted = sweep.rooted;
    reached = λ a h. let w = sweep.reached a h in (w.0, w.1, reach w.0 a (sweep.rooted w.0 w.1) w.2);
    rises = λ a b l. inv.web.rises a b (was_linked a b (linked a b l).1);
    low = inv.web.low;
    heap = λ a h. (sweep.heap a h).1;
  }

  new_rows : Rows after
  new_rows = record {
    links = λ a b need. let k = sweep.kept a b need in let o = (sweep.owed a).0 need in let x = mid_rows a b (sweep.was a need) in rw (k, o) x;
    bare = λ a need h. elim (same_or_other p a) [
      | inl e ↦ absurd (drop.bare (sym (at_same p st s.stage) ∙ subst (λ (y : Point). at_point p st s.stage y ≡ Bare) (sym e) h))
      | inr ne ↦ inv.rows.bare a (sweep.was a need) (sym (at_other p st s.stage a ne) ∙ h)
    ];
    owed = λ a h. elim (bool_cases (needed' a)) [ inl e ↦ (sweep.owed a).0 e ∙ mid_owed a h | inr e ↦ (sweep.owed a).1 e ];
  }

  -- what waits is linked to what it waits for
  waits_linked : (a c : Point) (r' : Row) (x : Stage) → s.graph.row a.node ≡ Some r' → needed' a ≡ true → s.todo a ≡ false
      → at_point p st s.stage a ≡ x
      → Among c (live_plan s.graph s.out a r' x) → needed' c ≡ true
  waits_linked a c r' x row need td stage among =
      let e = mid_rows a c (sweep.was a need) in
      let o = mid_owed a td in
      let e' = rw (o, row, stage) at e in
      let n = among_count c (live_plan s.graph s.out a r' x) among in
      sweep.closed a c need (omega arith)

  new_waits : Waits after
  new_waits = record {
    gated = λ a r' row need td k.
        let w = gated_at a r' row need td k in
        (w.0, w.1, w.2, sweep.heap_kept (change w.0) (waits_linked a (change w.0) r' Gated row need td k (among_gate r'.scope w.0 w.1)) w.3);
    static = λ a r' row need td k.
        let w = static_at a r' row need td k in
        let own : Among (change a.node) (fixed_reads s.graph a.node r'.def a.part) = rw (w.0, w.2) (inl refl) in (
          w.0,
          w.1,
          w.2,
          sweep.heap_kept (change a.node)
              (waits_linked a (change a.node) r' Static row need td k (among_right (change a.node) (gate_of r'.scope) _ own)) w.3,
        );
  }
    where
      gated_at : (a : Point) (r' : Row) → s.graph.row a.node ≡ Some r' → needed' a ≡ true → s.todo a ≡ false → at_point p st s.stage a ≡ Gated
          → (b : NodeId) × (r'.scope ≡ Some b) × (s.settled (change b) ≡ false) × (s.heap (change b) ≡ true)
      gated_at a r' row need td k = elim (same_or_other p a) [
        | inl e ↦
            let row0 : s.graph.row p.node ≡ Some r' = subst (λ (y : Point). s.graph.row y.node ≡ Some r') (sym e) row in
            let mine = drop.row in
            let same : r' ≡ r = cc in
            let w = drop.gated (sym (at_same p st s.stage) ∙ subst (λ (y : Point). at_point p st s.stage y ≡ Gated) (sym e) k) in
            (w.0, ap (λ (y : Row). y.scope) same ∙ w.1, w.2, w.3)
        | inr ne ↦ inv.waits.gated a r' row (sweep.was a need) td (sym (at_other p st s.stage a ne) ∙ k)
      ]

      static_at : (a : Point) (r' : Row) → s.graph.row a.node ≡ Some r' → needed' a ≡ true → s.todo a ≡ false → at_point p st s.stage a ≡ Static
          → (a.part ≡ Main) × (m : NodeId) × (subject_of r'.def ≡ Some m) × (s.heap (change a.node) ≡ true)
      static_at a r' row need td k = elim (same_or_other p a) [
        | inl e ↦
            let row0 : s.graph.row p.node ≡ Some r' = subst (λ (y : Point). s.graph.row y.node ≡ Some r') (sym e) row in
            let mine = drop.row in
            let same : r' ≡ r = cc in
            let w = drop.static (sym (at_same p st s.stage) ∙ subst (λ (y : Point). at_point p st s.stage y ≡ Static) (sym e) k) in (
              subst (λ (y : Point). y.part ≡ Main) e w.0,
              w.1,
              ap (λ (y : Row). subject_of y.def) same ∙ w.2,
              subst
                  (λ (y : Point). s.heap (change y.node) ≡ true) e w.3,
            )
        | inr ne ↦ inv.waits.static a r' row (sweep.was a need) td (sym (at_other p st s.stage a ne) ∙ k)
      ]

  new_fresh : Fresh F after
  new_fresh a r' row need = elim (same_or_other p a) [
    | inl e ↦ elim drop.fresh [
      | inl h ↦ inl (sweep.heap_kept a need (subst (λ (y : Point). s.heap y ≡ true) e h))
      | inr h ↦ inr (inl (subst (λ (y : Point). s.settled y ≡ true) e h))
    ]
    | inr ne ↦ elim (inv.fresh a r' row (sweep.was a need)) [
      | inl h ↦ inl (sweep.heap_kept a need h)
      | inr (inl h) ↦ inr (inl h)
      | inr (inr h) ↦ inr (inr (at_other p st s.stage a ne ∙ h.0, h.1, h.2, h.3))
    ]
  ]

  new_strict : Strict after
  new_strict = record {
    gates = λ strict a r' b row need sc stage. elim (same_or_other p a) [
      | inl e ↦
          let at = λ (x : Stage) (k : at_point p st s.stage a ≡ x). sym (at_same p st s.stage) ∙ subst (λ (y : Point). at_point p st s.stage y ≡ x)
          (sym e) k in
          inv.strict.gates strict a r' b row (sweep.was a need) sc (elim stage [
            | inl k ↦ elim (drop.lower (at Static k)) [
              | inl x ↦ inl (subst (λ (y : Point). s.stage y ≡ Static) e x)
              | inr x ↦
                  inr (subst (λ (y : Point). s.stage y ≡ Full) e x)
            ]
            | inr k ↦ absurd (drop.full (at Full k))
          ])
      | inr ne ↦ let t = at_other p st s.stage a ne in
          inv.strict.gates strict a r' b row (sweep.was a need) sc (elim stage [ inl k ↦ inl (sym t ∙ k) | inr k ↦ inr (sym t ∙ k) ])
    ];
    rights = λ strict n r' q row need stage among. elim (same_or_other p (main n)) [
      | inl e ↦ absurd (drop.full (sym (at_same p st s.stage) ∙ subst (λ (y : Point). at_point p st s.stage y ≡ Full) (sym e) stage))
      | inr ne ↦ inv.strict.rights strict n r' q row (sweep.was (main n) need) (sym (at_other p st s.stage (main n) ne) ∙ stage) among
    ];
  }

  pub cut_keeps : Invariant F z after
  cut_keeps = record {
    web = new_web;
    alive = λ a h. inv.alive a (sweep.heap a h).0;
    rows = new_rows;
    scoped = inv.scoped;
    rooted = inv.rooted;
    built = inv.built;
    waits = new_waits;
    fresh = new_fresh;
    settled = record { done = inv.settled.done; twice = λ a h k. inv.settled.twice a h (sweep.heap a k).0 };
    strict = new_strict;
    last_settled = inv.last_settled;
    met = record { needed = λ a need. inv.met.needed a (sweep.was a need); todo = λ a need td. inv.met.todo a (sweep.was a need) td };
    accounts = inv.accounts;
  }
