-- A point goes up a stage, or leaves the worklist; more is in the heap; fewer links may be tried again.
use Rattle.std.proofs.Common.{◌≡◌, ◌⊎◌, inl, inr, ◌+◌, ℕ, Bool, true, false, List, [], Some, sym, ap, subst, ◌∙◌, arith}
use Rattle.inc_value.specs.declared.node.NodeId.{NodeId}
use Rattle.inc_value.specs.declared.node.Part.TheVariants.{Main}
use Rattle.inc_value.specs.declared.node.Point.{Point}
use Rattle.inc_value.specs.Choice.{Among}
use Rattle.inc_terms.specs.Term.{Functions}
use Rattle.inc_terms.specs.Graph.{Row}
use Rattle.inc_terms.specs.Depend.{main, change}
use Rattle.inc_terms.specs.Plan.{targets}
use Rattle.stabilize_round.specs.State.{State, Start, Stage, Bare, Gated, Static, Full, count, planned, at_point}
use Rattle.stabilize_round.specs.Invariant.{Invariant, Strict}
use Rattle.stabilize_round.specs.Wire.{raised, Raise, levelled, Level, finished, Finish, heaped, Schedule, spent}
use Rattle.stabilize_round.proofs.Points.{same_or_other, at_same, at_other}

module _ (F : Functions) (z : Start) (s : State) (inv : Invariant F z s) where
  module _ (p : Point) (st : Stage) (extra : List Point) (move : Raise s p st extra) where
    abbrev after : State
    after = raised s p st extra

    busy : (a : Point) → s.todo a ≡ false → p ≡ a → ⊥
    busy a h e = let x = move.todo in let y : s.todo p ≡ false = subst (λ (y : Point). s.todo y ≡ false) (sym e) h in cc

    row_here : (b : Point) → s.needed p ≡ true → s.links p b + count b (at_point p extra s.owed p) ≡ count b (planned after p)
    row_here b need =
        let o = at_same p extra s.owed in let t = at_same p st s.stage in let pl = move.plan b in
        let l = rw move.owed at (inv.rows.links p b need) in
        rw (o, t) (omega arith)

    gates_at : s.retries ≡ 0 → (a : Point) (r' : Row) (b : NodeId) → s.graph.row a.node ≡ Some r' → s.needed a ≡ true → r'.scope ≡ Some b
        → (at_point p st s.stage a ≡ Static) ⊎ (at_point p st s.stage a ≡ Full) → s.settled (change b) ≡ true
    gates_at strict a r' b row need sc stage = elim (same_or_other p a) [
      | inl e ↦
          let row' : s.graph.row p.node ≡ Some r' = subst (λ (y : Point). s.graph.row y.node ≡ Some r') (sym e) row in
          let t = at_same p st s.stage in
          elim (move.gates (elim stage [
            | inl k ↦ inl (sym t ∙ subst (λ (y : Point). at_point p st s.stage y ≡ Static) (sym e) k)
            | inr k ↦ inr (sym t ∙ subst (λ (y : Point). at_point p st s.stage y ≡ Full) (sym e) k)
          ]) r' b row' sc) [
            | inl ran ↦ ran
            | inr static ↦ inv.strict.gates strict p r' b row' (subst (λ (y : Point). s.needed y ≡ true) (sym e) need) sc (inl static)
          ]
      | inr ne ↦ let t = at_other p st s.stage a ne in
          inv.strict.gates strict a r' b row need sc (elim stage [ inl k ↦ inl (sym t ∙ k) | inr k ↦ inr (sym t ∙ k) ])
    ]

    rights_at : s.retries ≡ 0 → (n : NodeId) (r' : Row) (q : Point) → s.graph.row n ≡ Some r' → s.needed (main n) ≡ true
        → at_point p st s.stage (main n) ≡ Full
        → Among q (targets s.graph n r'.def (s.out (change n))) → s.settled (change n) ≡ true
    rights_at strict n r' q row need stage among = elim (same_or_other p (main n)) [
      | inl e ↦
          let row' : s.graph.row p.node ≡ Some r' = subst (λ (y : Point). s.graph.row y.node ≡ Some r') (sym e) row in
          let node : p.node ≡ n = ap (λ (y : Point). y.node) e in
          let part : p.part ≡ Main = ap (λ (y : Point). y.part) e in
          let t = at_same p st s.stage in
          let full : st ≡ Full = sym t ∙ subst (λ (y : Point). at_point p st s.stage y ≡ Full) (sym e) stage in
          let among' : Among q (targets s.graph p.node r'.def (s.out (change p.node))) = subst
          (λ (y : NodeId). Among q (targets s.graph y r'.def (s.out (change y)))) (sym node) among in
          subst (λ (y : NodeId). s.settled (change y) ≡ true) node (inv.last_settled (change p.node) (move.rights full part r' q row' among'))
      | inr ne ↦ let t = at_other p st s.stage (main n) ne in inv.strict.rights strict n r' q row need (sym t ∙ stage) among
    ]

    pub raise_keeps : Invariant F z after
    raise_keeps = record {
      web = inv.web;
      alive = inv.alive;
      rows = record {
        links = λ a b need. elim (same_or_other p a) [
          | inl e ↦ subst (λ (y : Point). s.links y b + count b (at_point p extra s.owed y) ≡ count b (planned after y)) e
              (row_here b (subst (λ (y : Point). s.needed y ≡ true) (sym e) need))
          | inr ne ↦ let o = at_other p extra s.owed a ne in let t = at_other p st s.stage a ne in let x = inv.rows.links a b need in rw (o, t) x
        ];
        bare = λ a need h. elim (same_or_other p a) [
          | inl e ↦ subst (λ (y : Point). s.todo y ≡ true) e move.todo
          | inr ne ↦ inv.rows.bare a need (sym (at_other p st s.stage a ne) ∙ h)
        ];
        owed = λ a h. at_other p extra s.owed a (busy a h) ∙ inv.rows.owed a h;
      };
      scoped = inv.scoped;
      rooted = inv.rooted;
      built = inv.built;
      waits = record {
        gated = λ a r' row need td k. inv.waits.gated a r' row need td (sym (at_other p st s.stage a (busy a td)) ∙ k);
        static = λ a r' row need td k. inv.waits.static a r' row need td (sym (at_other p st s.stage a (busy a td)) ∙ k);
      };
      fresh = λ a r' row need. elim (inv.fresh a r' row need) [
        | inl h ↦ inl h
        | inr (inl h) ↦ inr (inl h)
        | inr (inr h) ↦ elim (same_or_other p a) [
          | inl e ↦ absurd (move.lower (subst (λ (y : Point). s.stage y ≡ Full) (sym e) h.0))
          | inr ne ↦ inr (inr (at_other p st s.stage a ne ∙ h.0, h.1, h.2, h.3))
        ]
      ];
      settled = inv.settled;
      strict = record { gates = gates_at; rights = rights_at };
      last_settled = inv.last_settled;
      met = inv.met;
      accounts = inv.accounts;
    }

  module _ (p : Point) (move : Finish s p) where
    was_todo : (a : Point) → at_point p false s.todo a ≡ true → s.todo a ≡ true
    was_todo a h = elim (same_or_other p a) [
      | inl e ↦ absurd (let x = at_same p false s.todo in
          let y : at_point p false s.todo p ≡ true = subst (λ (y : Point). at_point p false s.todo y ≡ true) (sym e) h in cc)
      | inr ne ↦ sym (at_other p false s.todo a ne) ∙ h
    ]

    pub finish_keeps : Invariant F z (finished s p)
    finish_keeps = record {
      web = inv.web;
      alive = inv.alive;
      rows = record {
        links = inv.rows.links;
        bare = λ a need h. elim (same_or_other p a) [
          | inl e ↦ absurd (move.bare (subst (λ (y : Point). s.needed y ≡ true) (sym e) need) (subst (λ (y : Point). s.stage y ≡ Bare) (sym e) h))
          | inr ne ↦ at_other p false s.todo a ne ∙ inv.rows.bare a need h
        ];
        owed = λ a h. elim (same_or_other p a) [
          | inl e ↦ subst (λ (y : Point). s.owed y ≡ []) e move.owed
          | inr ne ↦ inv.rows.owed a (sym (at_other p false s.todo a ne) ∙ h)
        ];
      };
      scoped = inv.scoped;
      rooted = inv.rooted;
      built = inv.built;
      waits = record {
        gated = λ a r row need td k. elim (same_or_other p a) [
          | inl e ↦ move.gated r (subst (λ (y : Point). s.graph.row y.node ≡ Some r) (sym e) row)
              (subst (λ (y : Point). s.needed y ≡ true) (sym e) need) (subst (λ (y : Point). s.stage y ≡ Gated) (sym e) k)
          | inr ne ↦ inv.waits.gated a r row need (sym (at_other p false s.todo a ne) ∙ td) k
        ];
        static = λ a r row need td k. elim (same_or_other p a) [
          | inl e ↦
              let w = move.static r (subst (λ (y : Point). s.graph.row y.node ≡ Some r) (sym e) row)
              (subst (λ (y : Point). s.needed y ≡ true) (sym e) need) (subst (λ (y : Point). s.stage y ≡ Static) (sym e) k) in
              (subst (λ (y : Point). y.part ≡ Main) e w.0, w.1, w.2, subst (λ (y : Point). s.heap (change y.node) ≡ true) e w.3)
          | inr ne ↦ inv.waits.static a r row need (sym (at_other p false s.todo a ne) ∙ td) k
        ];
      };
      fresh = inv.fresh;
      settled = inv.settled;
      strict = inv.strict;
      last_settled = inv.last_settled;
      met = record { needed = inv.met.needed; todo = λ a need td. inv.met.todo a need (was_todo a td) };
      accounts = inv.accounts;
    }

  pub schedule_keeps : (heap' : Point → Bool) → Schedule s heap' → Invariant F z (heaped s heap')
  schedule_keeps heap' move = record {
    web = record {
      from = inv.web.from;
      onto = inv.web.onto;
      rooted = inv.web.rooted;
      reached = inv.web.reached;
      rises = inv.web.rises;
      low = inv.web.low;
      heap = λ a h. elim (move.new a h) [ inl k ↦ inv.web.heap a k | inr k ↦ k.2 ];
    };
    alive = λ a h. elim (move.new a h) [ inl k ↦ inv.alive a k | inr k ↦ (k.0, k.1) ];
    rows = inv.rows;
    scoped = inv.scoped;
    rooted = inv.rooted;
    built = inv.built;
    waits = record {
      gated = λ a r row need td k. let w = inv.waits.gated a r row need td k in (w.0, w.1, w.2, move.kept (change w.0) w.3);
      static = λ a r row need td k. let w = inv.waits.static a r row need td k in (w.0, w.1, w.2, move.kept (change a.node) w.3);
    };
    fresh = λ a r row need. elim (inv.fresh a r row need) [ inl h ↦ inl (move.kept a h) | inr h ↦ inr h ];
    settled = record {
      done = inv.settled.done;
      twice = λ a h k. elim (move.new a k) [
        | inl old ↦ inv.settled.twice a h old
        | inr new ↦ elim new.3 [ inl u ↦ absurd (cc) | inr c ↦ c.0 ]
      ];
    };
    strict = inv.strict;
    last_settled = inv.last_settled;
    met = inv.met;
    accounts = inv.accounts;
  }

  pub level_keeps : (height' : Point → ℕ) → Level s height' → Invariant F z (levelled s height')
  level_keeps height' move = record {
    web = record {
      from = inv.web.from;
      onto = inv.web.onto;
      rooted = inv.web.rooted;
      reached = inv.web.reached;
      rises = move.rises;
      low = move.low;
      heap = inv.web.heap;
    };
    alive = inv.alive;
    rows = inv.rows;
    scoped = inv.scoped;
    rooted = inv.rooted;
    built = inv.built;
    waits = inv.waits;
    fresh = inv.fresh;
    settled = inv.settled;
    strict = inv.strict;
    last_settled = inv.last_settled;
    met = inv.met;
    accounts = inv.accounts;
  }

  -- where nothing unconfirmed is linked, or links may be tried again still
  pub spend_keeps : (left : ℕ) → Strict (spent s left) → Invariant F z (spent s left)
  spend_keeps left strict = record {
    web = inv.web;
    alive = inv.alive;
    rows = inv.rows;
    scoped = inv.scoped;
    rooted = inv.rooted;
    built = inv.built;
    waits = inv.waits;
    fresh = inv.fresh;
    settled = inv.settled;
    strict = strict;
    last_settled = inv.last_settled;
    met = inv.met;
    accounts = inv.accounts;
  }
