-- A link more, a root more, and what is newly needed by it.
use Rattle.std.proofs.Common.{◌≡◌, ◌⊎◌, inl, inr, ℕ, zero, suc, ◌<◌, ◌+◌, Bool, true, false, List, [], ◌∷◌, Option, None, Some, refl, sym, ap, subst}
use Rattle.std.proofs.Common.{◌∙◌, arith}
use Rattle.inc_value.specs.declared.node.NodeId.{NodeId}
use Rattle.inc_value.specs.declared.node.Point.{Point}
use Rattle.inc_value.specs.declared.outcome.Outcome.{Outcome}
use Rattle.inc_value.specs.Choice.{Reaches, here}
use Rattle.inc_terms.specs.Term.{Functions}
use Rattle.inc_terms.specs.Graph.{Graph, Row}
use Rattle.inc_terms.specs.Depend.{Depends, main, change}
use Rattle.inc_terms.proofs.Local.{reach_more}
use Rattle.stabilize_round.specs.State.{State, Start, Stage, Bare, Static, Full, Linked, count, planned, plan_at, at_point}
use Rattle.stabilize_round.specs.Invariant.{Invariant, Rows, Waits, Fresh, Settled, Strict, MetNow, from_root, from_held, HasCalled}
use Rattle.stabilize_round.specs.Moves.{Enqueues}
use Rattle.stabilize_round.specs.Wire.{linked, newly, rooted, IsIt, Link}
use Rattle.stabilize_round.proofs.Points.{same_or_other, at_same, at_other, one_same, one_other}
use Rattle.stabilize_round.proofs.Parts.{Parts, reaches_map, bool_cases}

pub met_more : (F : Functions) (z : Start) (G : Graph) (died : NodeId → Option NodeId) (root : Point → ℕ) (p q : Point) → MetNow F z G died root p
    → Depends F G died p q → MetNow F z G died root q
met_more F z G died root p q (from_root {r} a way) dep = from_root a (reach_more (Depends F G died) r p q way dep)
met_more F z G died root p q (from_held {h} a row st way) dep = from_held a row st (reach_more (Depends F G died) h p q way dep)

plan_bare : (G : Graph) (out : Point → Option Outcome) (died : NodeId → Option NodeId) (p : Point) (x : Option Row) → plan_at G out died p x Bare ≡ []
plan_bare G out died p None = refl
plan_bare G out died p (Some r) = refl

-- ---- a point that is newly needed

module _ (F : Functions) (z : Start) (s : State) (parts : Parts F z s) (q : Point) (fresh_point : s.needed q ≡ false)
    (empty : (b : Point) → s.links q b ≡ 0) (heap' : Point → Bool)
    (heap : Enqueues s s.heap heap' (IsIt s q) (IsIt s q)) where
  abbrev after : State
  after = newly s q heap'

  idle : (a : Point) → at_point q true s.todo a ≡ false → (q ≡ a → ⊥) × (s.todo a ≡ false)
  idle a h = elim (same_or_other q a) [
    | inl e ↦ let b = at_same q true s.todo in
        let c : at_point q true s.todo q ≡ false = subst (λ (y : Point). at_point q true s.todo y ≡ false) (sym e) h in absurd (cc)
    | inr ne ↦ (ne, sym (at_other q true s.todo a ne) ∙ h)
  ]

  need_old : (a : Point) → (q ≡ a → ⊥) → at_point q true s.needed a ≡ true → s.needed a ≡ true
  need_old a ne h = sym (at_other q true s.needed a ne) ∙ h

  stage_old : (a : Point) (st : Stage) → (st ≡ Bare → ⊥) → at_point q Bare s.stage a ≡ st → (q ≡ a → ⊥) × (s.stage a ≡ st)
  stage_old a st nb h = elim (same_or_other q a) [
    | inl e ↦ let b = at_same q Bare s.stage in
        let c : at_point q Bare s.stage q ≡ st = subst (λ (y : Point). at_point q Bare s.stage y ≡ st) (sym e) h in absurd (nb (sym c ∙ b))
    | inr ne ↦ (ne, sym (at_other q Bare s.stage a ne) ∙ h)
  ]

  new_rows : Rows after
  new_rows = record {
    links = λ a b need. elim (same_or_other q a) [
      | inl e ↦ subst (λ (y : Point). s.links y b + count b (at_point q [] s.owed y) ≡ count b (planned after y)) e (row_here b)
      | inr ne ↦ let x = parts.rows.links a b (need_old a ne need) in let o = at_other q [] s.owed a ne in let st = at_other q Bare s.stage a ne in
          rw (o, st) x
    ];
    bare = λ a need h. elim (same_or_other q a) [
      | inl e ↦ subst (λ (y : Point). at_point q true s.todo y ≡ true) e (at_same q true s.todo)
      | inr ne ↦ at_other q true s.todo a ne ∙ parts.rows.bare a (need_old a ne need) (sym (at_other q Bare s.stage a ne) ∙ h)
    ];
    owed = λ a h. let i = idle a h in at_other q [] s.owed a i.0 ∙ parts.rows.owed a i.1;
  }
    where
      row_here : (b : Point) → s.links q b + count b (at_point q [] s.owed q) ≡ count b (planned after q)
      row_here b = let o = at_same q [] s.owed in let st = at_same q Bare s.stage in let l = empty b in
          let e = plan_bare s.graph s.out s.died q (s.graph.row q.node) in rw (o, st, l, e) (omega arith)

  new_waits : Waits after
  new_waits = record {
    gated = λ a r row need td st. let i = idle a td in
        let w = parts.waits.gated a r row (need_old a i.0 need) i.1 (sym (at_other q Bare s.stage a i.0) ∙ st) in
        (w.0, w.1, w.2, heap.kept (change w.0) w.3);
    static = λ a r row need td st. let i = idle a td in
        let w = parts.waits.static a r row (need_old a i.0 need) i.1 (sym (at_other q Bare s.stage a i.0) ∙ st) in
        (w.0, w.1, w.2, heap.kept (change a.node) w.3);
  }

  new_fresh : Fresh F after
  new_fresh a r row need = elim (same_or_other q a) [
    | inl e ↦ elim (heap.told a (e, r, subst (λ (y : Point). s.graph.row y.node ≡ Some r) (sym e) row)) [ inl h ↦ inl h | inr h ↦ inr (inl h) ]
    | inr ne ↦ elim (parts.fresh a r row (need_old a ne need)) [
      | inl h ↦ inl (heap.kept a h)
      | inr (inl h) ↦ inr (inl h)
      | inr (inr h) ↦ inr (inr (at_other q Bare s.stage a ne ∙ h.0, h.1, h.2, h.3))
    ]
  ]

  new_settled : Settled F after
  new_settled = record {
    done = parts.settled.done;
    twice = λ a h k. elim (heap.new a k) [ inl old ↦ parts.settled.twice a h old | inr new ↦ absurd (let x = new.1 in cc) ];
  }

  new_strict : Strict after
  new_strict = record {
    gates = λ st a r b row need sc stage. elim stage [
      | inl e ↦ let o = stage_old a Static (λ (x : Static ≡ Bare). cc) e in parts.strict.gates st a r b row (need_old a o.0 need) sc (inl o.1)
      | inr e ↦ let o = stage_old a Full (λ (x : Full ≡ Bare). cc) e in parts.strict.gates st a r b row (need_old a o.0 need) sc (inr o.1)
    ];
    rights = λ st n r a row need e among. let o = stage_old (main n) Full (λ (x : Full ≡ Bare). cc) e in
        parts.strict.rights st n r a row (need_old (main n) o.0 need) o.1 among;
  }

  pub newly_parts : Parts F z after
  newly_parts = record {
    rows = new_rows;
    scoped = parts.scoped;
    rooted = parts.rooted;
    built = parts.built;
    waits = new_waits;
    fresh = new_fresh;
    settled = new_settled;
    strict = new_strict;
    last_settled = parts.last_settled;
    accounts = parts.accounts;
  }

-- ---- a link more

module _ (F : Functions) (z : Start) (s : State) (inv : Invariant F z s) (p q : Point) (rest : List Point) (height' : Point → ℕ)
    (move : Link F s p q rest height') where
  abbrev mid : State
  mid = linked s p q rest height'

  abbrev row' : Point → ℕ
  row' = at_point q (suc (s.links p q)) (s.links p)

  here_is : (b : Point) → at_point p row' s.links p b ≡ row' b
  here_is b = ap (λ (f : Point → ℕ). f b) (at_same p row' s.links)

  other_is : (a b : Point) → (p ≡ a → ⊥) → at_point p row' s.links a b ≡ s.links a b
  other_is a b ne = ap (λ (f : Point → ℕ). f b) (at_other p row' s.links a ne)

  owes : s.todo p ≡ true
  owes = elim (bool_cases (s.todo p)) [
    | inl e ↦ e
    | inr e ↦
        absurd (let a = inv.rows.owed p e in let b = move.owed in let c : (q ∷ rest) ≡ [] = sym b ∙ a in cc)
  ]

  row_sum : (b : Point) → row' b + count b rest ≡ s.links p b + count b (q ∷ rest)
  row_sum b = elim (same_or_other q b) [
    | inl e ↦ subst (λ (y : Point). row' y + count y rest ≡ s.links p y + count y (q ∷ rest)) e
        (let x = at_same q (suc (s.links p q)) (s.links p) in let y = one_same q in rw (x, y) (omega arith))
    | inr ne ↦ let x = at_other q (suc (s.links p q)) (s.links p) b ne in let y = one_other b q (λ e. ne (sym e)) in rw (x, y) (omega arith)
  ]

  grown : (a b : Point) → Linked s a b → Linked mid a b
  grown a b l = elim (same_or_other p a) [
    | inl e ↦ subst (λ (y : Point). 0 < at_point p row' s.links y b) e
        (let x = here_is b in let y = grown_row b (subst (λ (y : Point). Linked s y b) (sym e) l) in omega arith)
    | inr ne ↦ let x = other_is a b ne in omega arith
  ]
    where
      grown_row : (b : Point) → 0 < s.links p b → 0 < row' b
      grown_row b l = elim (same_or_other q b) [
        | inl e ↦ subst (λ (y : Point). 0 < row' y) e (let x = at_same q (suc (s.links p q)) (s.links p) in omega arith)
        | inr ne ↦ let x = at_other q (suc (s.links p q)) (s.links p) b ne in omega arith
      ]

  back : (a b : Point) → Linked mid a b → Linked s a b ⊎ ((p ≡ a) × (q ≡ b))
  back a b l = elim (same_or_other p a) [
    | inr ne ↦ let x = other_is a b ne in inl (omega arith)
    | inl e ↦ elim (same_or_other q b) [
      | inl e' ↦ inr (e, e')
      | inr ne ↦ let x = here_is b in let y = at_other q (suc (s.links p q)) (s.links p) b ne in
          let l' : Linked mid p b = subst (λ (y : Point). Linked mid y b) (sym e) l in inl (subst (λ (y : Point). Linked s y b) e (omega arith))
    ]
  ]

  new_link : Linked mid p q
  new_link = let x = here_is q in let y = at_same q (suc (s.links p q)) (s.links p) in omega arith

  mid_rows : Rows mid
  mid_rows = record {
    links = λ a b need. elim (same_or_other p a) [
      | inl e ↦ subst (λ (y : Point). at_point p row' s.links y b + count b (at_point p rest s.owed y) ≡ count b (planned s y)) e (row_here b)
      | inr ne ↦ let x = other_is a b ne in let o = at_other p rest s.owed a ne in let y = inv.rows.links a b need in rw (x, o) y
    ];
    bare = inv.rows.bare;
    owed = λ a h. elim (same_or_other p a) [
      | inl e ↦ absurd (let x = owes in let y : s.todo p ≡ false = subst (λ (y : Point). s.todo y ≡ false) (sym e) h in cc)
      | inr ne ↦ at_other p rest s.owed a ne ∙ inv.rows.owed a h
    ];
  }
    where
      row_here : (b : Point) → at_point p row' s.links p b + count b (at_point p rest s.owed p) ≡ count b (planned s p)
      row_here b =
          let x = here_is b in let o = at_same p rest s.owed in let y = row_sum b in let l = inv.rows.links p b move.need in
          let l' = rw move.owed at l in
          rw (x, o) (omega arith)

  mid_parts : Parts F z mid
  mid_parts = record {
    rows = mid_rows;
    scoped = inv.scoped;
    rooted = inv.rooted;
    built = inv.built;
    waits = inv.waits;
    fresh = inv.fresh;
    settled = inv.settled;
    strict = inv.strict;
    last_settled = inv.last_settled;
    accounts = inv.accounts;
  }

  met_target : MetNow F z s.graph s.died s.root q
  met_target = met_more F z s.graph s.died s.root p q (inv.met.todo p move.need owes) move.depends

  -- the end was needed
  pub link_keeps : s.needed q ≡ true → Invariant F z mid
  link_keeps need = record {
    web = record {
      from = λ a b l. elim (back a b l) [ inl old ↦ inv.web.from a b old | inr is ↦ subst (λ (y : Point). s.needed y ≡ true) is.0 move.need ];
      onto = λ a b l. elim (back a b l) [ inl old ↦ inv.web.onto a b old | inr is ↦ subst (λ (y : Point). s.needed y ≡ true) is.1 need ];
      rooted = inv.web.rooted;
      reached = λ a h. let w = inv.web.reached a h in (w.0, w.1, reaches_map (Linked s) (Linked mid) grown w.0 a w.2);
      rises = move.rises;
      low = move.low;
      heap = inv.web.heap;
    };
    alive = inv.alive;
    rows = mid_parts.rows;
    scoped = mid_parts.scoped;
    rooted = mid_parts.rooted;
    built = mid_parts.built;
    waits = mid_parts.waits;
    fresh = mid_parts.fresh;
    settled = mid_parts.settled;
    strict = mid_parts.strict;
    last_settled = mid_parts.last_settled;
    accounts = mid_parts.accounts;
    met = inv.met;
  }

  module _ (unneeded : s.needed q ≡ false) (heap' : Point → Bool) (heap : Enqueues s s.heap heap' (IsIt s q) (IsIt s q)) where
    abbrev end : State
    end = newly mid q heap'

    apart : p ≡ q → ⊥
    apart e = let x = move.need in let y : s.needed p ≡ false = subst (λ (y : Point). s.needed y ≡ false) (sym e) unneeded in cc

    none_yet : (b : Point) → at_point p row' s.links q b ≡ 0
    none_yet b = other_is q b apart ∙ zero_if (s.links q b) refl
      where
        zero_if : (k : ℕ) → s.links q b ≡ k → s.links q b ≡ 0
        zero_if zero e = e
        zero_if (suc k) e = absurd (let l : Linked s q b = omega arith in let x = inv.web.from q b l in cc)

    end_heap : Enqueues mid mid.heap heap' (IsIt mid q) (IsIt mid q)
    end_heap = record { kept = heap.kept; new = heap.new; told = heap.told }

    end_parts : Parts F z end
    end_parts = newly_parts F z mid mid_parts q unneeded none_yet heap' end_heap

    need_more : (a : Point) → s.needed a ≡ true → at_point q true s.needed a ≡ true
    need_more a h = elim (same_or_other q a) [
      | inl e ↦ subst (λ (y : Point). at_point q true s.needed y ≡ true) e (at_same q true s.needed)
      | inr ne ↦ at_other q true s.needed a ne ∙ h
    ]

    -- the end wasn't needed
    pub link_new_keeps : Invariant F z end
    link_new_keeps = record {
      web = record {
        from = λ a b l. elim (back a b l) [
          | inl old ↦ need_more a (inv.web.from a b old)
          | inr is ↦
              need_more a (subst (λ (y : Point). s.needed y ≡ true) is.0 move.need)
        ];
        onto = λ a b l. elim (back a b l) [
          | inl old ↦ need_more b (inv.web.onto a b old)
          | inr is ↦
              subst (λ (y : Point). at_point q true s.needed y ≡ true) is.1 (at_same q true s.needed)
        ];
        rooted = λ a h. need_more a (inv.web.rooted a h);
        reached = λ a h. elim (same_or_other q a) [
          | inl e ↦ let w = inv.web.reached p move.need in (
            w.0,
            w.1,
            subst (λ (y : Point). Reaches (Linked mid) w.0 y) e
                (reach_more (Linked mid) w.0 p q (reaches_map (Linked s) (Linked mid) grown w.0 p w.2) new_link),
          )
          | inr ne ↦ let w = inv.web.reached a (sym (at_other q true s.needed a ne) ∙ h) in
              (w.0, w.1, reaches_map (Linked s) (Linked mid) grown w.0 a w.2)
        ];
        rises = move.rises;
        low = move.low;
        heap = λ a h. elim (heap.new a h) [
          | inl old ↦ need_more a (inv.web.heap a old)
          | inr new ↦ subst (λ (y : Point). at_point q true s.needed y ≡ true) new.0.0 (at_same q true s.needed)
        ];
      };
      alive = λ a h. elim (heap.new a h) [
        | inl old ↦ inv.alive a old
        | inr new ↦ (new.0.1, subst (λ (y : Point). s.graph.row y.node ≡ Some new.0.1) new.0.0 new.0.2)
      ];
      rows = end_parts.rows;
      scoped = end_parts.scoped;
      rooted = end_parts.rooted;
      built = end_parts.built;
      waits = end_parts.waits;
      fresh = end_parts.fresh;
      settled = end_parts.settled;
      strict = end_parts.strict;
      last_settled = end_parts.last_settled;
      accounts = end_parts.accounts;
      met = record {
        needed = λ a h. elim (same_or_other q a) [
          | inl e ↦ inl (subst (λ (y : Point). MetNow F z s.graph s.died s.root y) e met_target)
          | inr ne ↦ inv.met.needed a (sym (at_other q true s.needed a ne) ∙ h)
        ];
        todo = λ a h td. elim (same_or_other q a) [
          | inl e ↦ subst (λ (y : Point). MetNow F z s.graph s.died s.root y) e met_target
          | inr ne ↦ inv.met.todo a (sym (at_other q true s.needed a ne) ∙ h) (sym (at_other q true s.todo a ne) ∙ td)
        ];
      };
    }

-- ---- a root more

module _ (F : Functions) (z : Start) (s : State) (inv : Invariant F z s) (p : Point) where
  abbrev root' : Point → ℕ
  root' = at_point p (suc (s.root p)) s.root

  root_more : (a : Point) → 0 < s.root a → 0 < root' a
  root_more a h = elim (same_or_other p a) [
    | inl e ↦ subst (λ (y : Point). 0 < root' y) e (let x = at_same p (suc (s.root p)) s.root in omega arith)
    | inr ne ↦ let x = at_other p (suc (s.root p)) s.root a ne in omega arith
  ]

  root_back : (a : Point) → 0 < root' a → (p ≡ a) ⊎ (0 < s.root a)
  root_back a h = elim (same_or_other p a) [
    | inl e ↦ inl e
    | inr ne ↦ inr (let x = at_other p (suc (s.root p)) s.root a ne in omega arith)
  ]

  root_here : 0 < root' p
  root_here = let x = at_same p (suc (s.root p)) s.root in omega arith

  pub met_root : (a : Point) → MetNow F z s.graph s.died s.root a → MetNow F z s.graph s.died root' a
  met_root a (from_root {r} h way) = from_root (root_more r h) way
  met_root a (from_held h row st way) = from_held h row st way

  called_root : (n : NodeId) → HasCalled F z s.graph s.died s.root s.settled s.last n → HasCalled F z s.graph s.died root' s.settled s.last n
  called_root n c = record {
    row = c.row;
    kids = c.kids;
    values = c.values;
    is_row = c.is_row;
    takes = c.takes;
    result = c.result;
    answers = c.answers;
    is_settled = c.is_settled;
    met = met_root (main n) c.met;
    gives = c.gives;
    is_last = c.is_last;
    reason = c.reason;
  }

  met_here : MetNow F z s.graph s.died root' p
  met_here = from_root root_here here

  root_parts : Parts F z (rooted s p)
  root_parts = record {
    rows = inv.rows;
    scoped = inv.scoped;
    rooted = inv.rooted;
    built = inv.built;
    waits = inv.waits;
    fresh = inv.fresh;
    settled = inv.settled;
    strict = inv.strict;
    last_settled = inv.last_settled;
    accounts = record {
      once = inv.accounts.once;
      called = λ n a. called_root n (inv.accounts.called n a);
      costs = inv.accounts.costs;
      kept = λ n r row a. elim (inv.accounts.kept n r row a) [ inl e ↦ inl e | inr c ↦ inr (called_root n c.0, c.1) ];
      count = inv.accounts.count;
      answers = inv.accounts.answers;
      cutoffs = inv.accounts.cutoffs;
      marked = inv.accounts.marked;
      unmarked = inv.accounts.unmarked;
      renewed = inv.accounts.renewed;
      unfired = inv.accounts.unfired;
    };
  }

  -- the point was needed
  pub root_keeps : s.needed p ≡ true → Invariant F z (rooted s p)
  root_keeps need = record {
    web = record {
      from = inv.web.from;
      onto = inv.web.onto;
      rooted = λ a h. elim (root_back a h) [ inl e ↦ subst (λ (y : Point). s.needed y ≡ true) e need | inr k ↦ inv.web.rooted a k ];
      reached = λ a h. let w = inv.web.reached a h in (w.0, root_more w.0 w.1, w.2);
      rises = inv.web.rises;
      low = inv.web.low;
      heap = inv.web.heap;
    };
    alive = inv.alive;
    rows = root_parts.rows;
    scoped = root_parts.scoped;
    rooted = root_parts.rooted;
    built = root_parts.built;
    waits = root_parts.waits;
    fresh = root_parts.fresh;
    settled = root_parts.settled;
    strict = root_parts.strict;
    last_settled = root_parts.last_settled;
    accounts = root_parts.accounts;
    met = record {
      needed = λ a h. elim (inv.met.needed a h) [ inl m ↦ inl (met_root a m) | inr k ↦ inr k ];
      todo = λ a h td. met_root a (inv.met.todo a h td);
    };
  }

  module _ (unneeded : s.needed p ≡ false) (heap' : Point → Bool) (heap : Enqueues s s.heap heap' (IsIt s p) (IsIt s p)) where
    no_links : (b : Point) → s.links p b ≡ 0
    no_links b = zero_if (s.links p b) refl
      where
        zero_if : (k : ℕ) → s.links p b ≡ k → s.links p b ≡ 0
        zero_if zero e = e
        zero_if (suc k) e = absurd (let l : Linked s p b = omega arith in let x = inv.web.from p b l in cc)

    more_needed : (a : Point) → s.needed a ≡ true → at_point p true s.needed a ≡ true
    more_needed a h = elim (same_or_other p a) [
      | inl e ↦ subst (λ (y : Point). at_point p true s.needed y ≡ true) e (at_same p true s.needed)
      | inr ne ↦ at_other p true s.needed a ne ∙ h
    ]

    root_heap : Enqueues (rooted s p) s.heap heap' (IsIt (rooted s p) p) (IsIt (rooted s p) p)
    root_heap = record { kept = heap.kept; new = heap.new; told = heap.told }

    new_parts : Parts F z (newly (rooted s p) p heap')
    new_parts = newly_parts F z (rooted s p) root_parts p unneeded no_links heap' root_heap

    -- the point wasn't needed
    pub root_new_keeps : Invariant F z (newly (rooted s p) p heap')
    root_new_keeps = record {
      web = record {
        from = λ a b l. more_needed a (inv.web.from a b l);
        onto = λ a b l. more_needed b (inv.web.onto a b l);
        rooted = λ a h. elim (root_back a h) [
          | inl e ↦ subst (λ (y : Point). at_point p true s.needed y ≡ true) e (at_same p true s.needed)
          | inr k ↦
              more_needed a (inv.web.rooted a k)
        ];
        reached = λ a h. elim (same_or_other p a) [
          | inl e ↦ (p, root_here, subst (λ (y : Point). Reaches (Linked s) p y) e here)
          | inr ne ↦ let w = inv.web.reached a (sym (at_other p true s.needed a ne) ∙ h) in (w.0, root_more w.0 w.1, w.2)
        ];
        rises = inv.web.rises;
        low = inv.web.low;
        heap = λ a h. elim (heap.new a h) [
          | inl old ↦ more_needed a (inv.web.heap a old)
          | inr new ↦ subst (λ (y : Point). at_point p true s.needed y ≡ true) new.0.0 (at_same p true s.needed)
        ];
      };
      alive = λ a h. elim (heap.new a h) [
        | inl old ↦ inv.alive a old
        | inr new ↦ (new.0.1, subst (λ (y : Point). s.graph.row y.node ≡ Some new.0.1) new.0.0 new.0.2)
      ];
      rows = new_parts.rows;
      scoped = new_parts.scoped;
      rooted = new_parts.rooted;
      built = new_parts.built;
      waits = new_parts.waits;
      fresh = new_parts.fresh;
      settled = new_parts.settled;
      strict = new_parts.strict;
      last_settled = new_parts.last_settled;
      accounts = new_parts.accounts;
      met = record {
        needed = λ a h. elim (same_or_other p a) [
          | inl e ↦ inl (subst (λ (y : Point). MetNow F z s.graph s.died root' y) e met_here)
          | inr ne ↦ elim (inv.met.needed a (sym (at_other p true s.needed a ne) ∙ h)) [ inl m ↦ inl (met_root a m) | inr k ↦ inr k ]
        ];
        todo = λ a h td. elim (same_or_other p a) [
          | inl e ↦ subst (λ (y : Point). MetNow F z s.graph s.died root' y) e met_here
          | inr ne ↦ met_root a (inv.met.todo a (sym (at_other p true s.needed a ne) ∙ h) (sym (at_other p true s.todo a ne) ∙ td))
        ];
      };
    }
