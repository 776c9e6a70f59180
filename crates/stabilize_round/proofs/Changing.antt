-- A change's step keeps the invariant.
use Rattle.std.proofs.Common.{◌≡◌, ◌⊎◌, inl, inr, ◌<◌, Bool, true, false, Option, Some, refl, sym, ap, subst, ◌∙◌, arith}
use Rattle.inc_value.specs.declared.node.NodeId.{NodeId}
use Rattle.inc_value.specs.declared.node.Part.{Part}
use Rattle.inc_value.specs.declared.node.Part.TheVariants.{Change, Main}
use Rattle.inc_value.specs.declared.node.Point.{Point}
use Rattle.inc_value.specs.declared.outcome.Outcome.{Outcome}
use Rattle.inc_value.specs.Choice.{Among, here}
use Rattle.inc_terms.specs.Term.{Functions}
use Rattle.inc_terms.specs.Graph as graph
use Rattle.inc_terms.specs.Graph.{Graph, Row}
use Rattle.inc_terms.specs.Evaluate.{NodeGives, Stands}
use Rattle.inc_terms.specs.Depend.{Depends, fixed, main, change, fixed_reads, subject_of}
use Rattle.inc_terms.specs.Local.{shown, Agrees, Exact, HasRun}
use Rattle.inc_terms.specs.Plan.{gate_of, plan}
use Rattle.inc_terms.proofs.Evaluation.{one_outcome}
use Rattle.inc_terms.proofs.Full.{full_exact}
use Rattle.inc_terms.proofs.Unfolding.{scope_stands}
use Rattle.inc_terms.proofs.Plan.{among_left, among_right, plan_depends, depends_plan}
use Rattle.stabilize_round.specs.State.{State, Start, Static, Full, Linked, planned, at_point}
use Rattle.stabilize_round.specs.Invariant.{Invariant, Rows, Waits, IsRight, IsDone, Settled, Strict, from_held, LastSettled, Meets, HasCalled}
use Rattle.stabilize_round.specs.Moves.{Quiet, Awaits, changed, StepChange}
use Rattle.stabilize_round.proofs.Points.{same_or_other, node_or_other, at_same, at_other}
use Rattle.stabilize_round.proofs.Low.{Low, plan_links, is_full, low_points}
use Rattle.inc_terms.proofs.Seeing.{looks, shown_same, agrees_looks, exact_same}
use Rattle.stabilize_round.proofs.Planned.{recalls_same, plan_same, plan_low, plan_change, looks_main}
use Rattle.stabilize_round.proofs.Main.{at_false, main_change}
use Rattle.stabilize_round.proofs.Reasons.{reason_more}

module _ (F : Functions) (z : Start) (s : State) (inv : Invariant F z s) (quiet : Quiet s) (n : NodeId) (o : Outcome) (todo' : Point → Bool)
    (move : StepChange F s n o todo') where
  abbrev G : Graph
  G = s.graph

  abbrev out' : Point → Option Outcome
  out' = at_point (change n) (Some o) s.out

  abbrev after : State
  after = changed s n o todo'

  below : (q : Point) → Linked s (change n) q → Low F z s inv quiet q
  below q l = let k = inv.web.rises (change n) q l in
      low_points F z s inv quiet (s.height (change n)) move.taken.least q k (inv.web.onto (change n) q l)

  need : s.needed (change n) ≡ true
  need = inv.web.heap (change n) move.taken.heap

  full : s.stage (change n) ≡ Full
  full = is_full F z s inv quiet (change n) need below move.row move.is_row

  linked : (q : Point) → Among q (plan G s.out (change n) move.row) → Linked s (change n) q
  linked q a = plan_links F z s inv quiet (change n) q move.row Full move.is_row full need a

  same_at : (q : Point) → Linked s (change n) q → out' q ≡ s.out q
  same_at q l = at_other (change n) (Some o) s.out q
      (λ e. let k = inv.web.rises (change n) q l in
      let k' : s.height (change n) < s.height (change n) = subst (λ (y : Point). s.height y < s.height (change n)) (sym e) k in omega arith)

  apart : (m : NodeId) → change n ≡ main m → ⊥
  apart m e = main_change m n (sym e)

  agrees : Agrees F G out' (change n)
  agrees r row k sub =
      let is = move.is_row in
      let same : r ≡ move.row = cc in
      let sub' : subject_of move.row.def ≡ Some k = rw (← same) sub in
      let mine = move.is_subject in
      let kk : k ≡ move.subject = cc in
      let e = shown_same F G s.out out' (main k) (at_other (change n) (Some o) s.out (main k) (apart k)) in
      let seen : shown G s.out (main k) ≡ Some o = subst (λ (y : NodeId). shown G s.out (main y) ≡ Some o) (sym kk) move.seen in
      (o, at_same (change n) (Some o) s.out, e ∙ seen, rw same move.built)

  exact_here : Exact F G out' (change n)
  exact_here = full_exact F G out' inv.scoped (change n) agrees (λ r row q among.
      let is = move.is_row in
      let same : r ≡ move.row = cc in
      let l = linked q (rw (← same) among) in
      exact_same F G s.out out' q (same_at q l) (below q l).exact)

  exact_stays : (q : Point) → Exact F G s.out q → Exact F G out' q
  exact_stays q x = elim (same_or_other (change n) q) [
    | inl e ↦ subst (λ (y : Point). Exact F G out' y) e exact_here
    | inr ne ↦ exact_same F G s.out out' q (at_other (change n) (Some o) s.out q ne) x
  ]

  -- where it was exact, its outcome stays
  news : Exact F G s.out (change n) → s.out (change n) ≡ Some o
  news x =
      let before = (x move.row move.is_row).1 move.subject move.is_subject in
      let later = (exact_here move.row move.is_row).1 move.subject move.is_subject in
      let c = at_same (change n) (Some o) s.out in
      let d : before.0 ≡ later.0 = one_outcome F G _ before.0 later.0 before.2 later.2 in
      let e = before.1 in let f = later.1 in
      cc

  same_out : s.out (change n) ≡ Some o → (m : Point) → out' m ≡ s.out m
  same_out e m = elim (same_or_other (change n) m) [
    | inl is ↦ let b = at_same (change n) (Some o) s.out in subst (λ (y : Point). out' y ≡ s.out y) is (b ∙ sym e)
    | inr other ↦ at_other (change n) (Some o) s.out m other
  ]

  done_links : (q : Point) (d : IsDone F G s.out s.died s.last q) (m : Point) → Among m (plan G s.out q d.row) → Depends F G s.died q m
  done_links q d m among =
      let st : Stands F G d.row.scope = (d.exact d.row d.is_row).0 in
      plan_depends F G s.out s.died q m d.row d.is_row st
      (λ part k sub. ((d.below (change q.node) (fixed d.is_row st (rw (part, sub) (inl refl)))) d.row d.is_row).1 k sub) among

  done_stays : (q : Point) → (change n ≡ q → ⊥) → IsDone F G s.out s.died s.last q → IsDone F G out' s.died s.last q
  done_stays q ne d = record {
    row = d.row;
    is_row = d.is_row;
    agrees = agrees_looks F G s.out out' q d.row d.is_row (at_other (change n) (Some o) s.out q ne) (λ m among. elim (same_or_other (change n) m) [
      | inl e ↦ let x = d.below m (done_links q d m (among_right m (gate_of d.row.scope) _ among)) in
          same_out (news (subst (λ (y : Point). Exact F G s.out y) (sym e) x)) m
      | inr other ↦ at_other (change n) (Some o) s.out m other
    ]) d.agrees;
    recalls = recalls_same F G G (shown G s.out) (shown G out') s.last s.last q d.row d.is_row d.is_row refl
        (λ m among. shown_same F G s.out out' m (elim (same_or_other (change n) m) [
          | inl e ↦ let x = d.below m (done_links q d m
              (among_right m (gate_of d.row.scope) _ (among_left m (fixed_reads G q.node d.row.def q.part) _ among))) in
              same_out (news (subst (λ (y : Point). Exact F G s.out y) (sym e) x)) m
          | inr other ↦ at_other (change n) (Some o) s.out m other
        ])) (λ part. refl) d.recalls;
    exact = exact_stays q d.exact;
    below = λ m dep. exact_stays m (d.below m dep);
  }

  done_here : IsDone F G out' s.died s.last (change n)
  done_here = record {
    row = move.row;
    is_row = move.is_row;
    agrees = agrees;
    recalls = λ r kids vs row part def shows. absurd (cc);
    exact = exact_here;
    below = λ m dep.
        let among = depends_plan F G s.out s.died (change n) m move.row move.is_row (exact_here move.row move.is_row).0
        (λ part k sub. absurd (cc)) dep in
        exact_stays m (below m (linked m among)).exact;
  }

  settled_more : (q : Point) → s.settled q ≡ true → at_point (change n) true s.settled q ≡ true
  settled_more q h = elim (same_or_other (change n) q) [
    | inl e ↦ subst (λ (y : Point). at_point (change n) true s.settled y ≡ true) e (at_same (change n) true s.settled)
    | inr ne ↦ at_other (change n) true s.settled q ne ∙ h
  ]

  heap_more : (q : Point) → (change n ≡ q → ⊥) → s.heap q ≡ true → at_point (change n) false s.heap q ≡ true
  heap_more q ne h = at_other (change n) false s.heap q ne ∙ h

  -- the links of needed points are what they were to be
  plan_stays : (a : Point) → s.needed a ≡ true → planned after a ≡ planned s a
  plan_stays a nd = elim move.right [
    | inl e ↦ plan_same G s.out out' s.died a (G.row a.node) (s.stage a) (same_out e (change a.node))
    | inr h ↦ elim (node_or_other n a.node) [
      | inl e ↦ by_part e h a.part refl
      | inr ne ↦ plan_same G s.out out' s.died a (G.row a.node) (s.stage a)
          (at_other (change n) (Some o) s.out (change a.node) (λ x. ne (ap (λ (y : Point). y.node) x)))
    ]
  ]
    where
      by_part : n ≡ a.node → (s.needed (main n) ≡ true → s.stage (main n) ≡ Full → ⊥) → (part : Part) → a.part ≡ part → planned after a ≡ planned s a
      by_part e h Change is = plan_change G s.out out' s.died a (G.row a.node) (s.stage a) is
      by_part e h Main is =
          let me : main n ≡ a = λ i. record { node = e i; part = (sym is) i } in
          plan_low G s.out out' s.died a (G.row a.node) (s.stage a)
          (λ f. h (subst (λ (y : Point). s.needed y ≡ true) (sym me) nd) (subst (λ (y : Point). s.stage y ≡ Full) (sym me) f))

  rows : Rows after
  rows = record {
    links = λ a b nd. let e = plan_stays a nd in rw e (inv.rows.links a b nd);
    bare = λ a nd h. absurd (let x = inv.rows.bare a nd h in let y = quiet a in cc);
    owed = λ a h. inv.rows.owed a (quiet a);
  }

  waits : Waits after
  waits = record {
    gated = λ a r row nd td st. let w = inv.waits.gated a r row nd (quiet a) st in elim (node_or_other n w.0) [
      | inl e ↦ absurd (let x = move.wakes a (nd, inr (r, row, w.1 ∙ ap (λ (y : NodeId). Some y) (sym e), st)) in cc)
      | inr ne ↦ (
        w.0,
        w.1,
        at_other (change n) true s.settled (change w.0) (λ x. ne (ap (λ (y : Point). y.node) x)) ∙ w.2,
        heap_more (change w.0)
            (λ x. ne (ap (λ (y : Point). y.node) x)) w.3,
      )
    ];
    static = λ a r row nd td st. let w = inv.waits.static a r row nd (quiet a) st in elim (node_or_other n a.node) [
      | inl e ↦ absurd (let part = w.0 in let me : a ≡ main n = λ i. record { node = (sym e) i; part = part i } in
          let x = move.wakes a (nd, inl (me, st)) in cc)
      | inr ne ↦ (w.0, w.1, w.2, heap_more (change a.node) (λ x. ne (ap (λ (y : Point). y.node) x)) w.3)
    ];
  }

  -- a change that is taken again wakes its own main alone
  pub again_wakes : s.settled (change n) ≡ true → (a : Point) → Awaits s n a → (a ≡ main n) × (s.stage a ≡ Static)
  again_wakes st a (nd, inl w) = w
  again_wakes st a (nd, inr w) =
      let k = inv.waits.gated a w.0 w.1 nd (quiet a) w.3 in
      let sc = w.2 in let sc' = k.1 in
      let same : k.0 ≡ n = cc in
      absurd (let x : s.settled (change n) ≡ false = subst (λ (y : NodeId). s.settled (change y) ≡ false) same k.2 in cc)

  right_stays : (q : Point) (r : Row) → G.row q.node ≡ Some r → s.needed q ≡ true → (change n ≡ q → ⊥) → IsRight F s q → IsRight F after q
  right_stays q r row nd ne right = (
    right.0,
    agrees_looks F G s.out out' q r row (at_other (change n) (Some o) s.out q ne) stays right.1,
    recalls_same F G G (shown G s.out) (shown G out') s.last s.last q r row row refl
        (λ m a. shown_same F G s.out out' m (stays m (among_left m (fixed_reads G q.node r.def q.part) _ a))) (λ part. refl) right.2,
    right.3,
  )
    where
      stays : (m : Point) → Among m (looks G s.out q r) → out' m ≡ s.out m
      stays m among = elim (same_or_other (change n) m) [
        | inr other ↦ at_other (change n) (Some o) s.out m other
        | inl e ↦ elim move.right [
          | inl same ↦ same_out same m
          | inr h ↦
              let me = looks_main G s.out q n r (subst (λ (y : Point). Among y (looks G s.out q r)) (sym e) among) in
              absurd (h (subst (λ (y : Point). s.needed y ≡ true) (sym me) nd) (subst (λ (y : Point). s.stage y ≡ Full) (sym me) right.0))
        ]
      ]

  fresh : (q : Point) (r : Row) → G.row q.node ≡ Some r → s.needed q ≡ true → (at_point (change n) false s.heap q ≡ true)
      ⊎ (at_point (change n) true s.settled q ≡ true) ⊎ IsRight F after q
  fresh q r row nd = elim (same_or_other (change n) q) [
    | inl e ↦ inr (inl (subst (λ (y : Point). at_point (change n) true s.settled y ≡ true) e (at_same (change n) true s.settled)))
    | inr ne ↦ elim (inv.fresh q r row nd) [
      | inl h ↦ inl (heap_more q ne h)
      | inr (inl h) ↦ inr (inl (settled_more q h))
      | inr (inr right) ↦ inr (inr (right_stays q r row nd ne right))
    ]
  ]

  settled : Settled F after
  settled = record {
    done = λ q h. elim (same_or_other (change n) q) [
      | inl e ↦ subst (λ (y : Point). IsDone F G out' s.died s.last y) e done_here
      | inr ne ↦ done_stays q ne (inv.settled.done q (sym (at_other (change n) true s.settled q ne) ∙ h))
    ];
    twice = λ q h k. let a = at_false (change n) s.heap q k in inv.settled.twice q (sym (at_other (change n) true s.settled q a.1) ∙ h) a.0;
  }

  strict : Strict after
  strict = record {
    gates = λ st q r b row nd sc stage. settled_more (change b) (inv.strict.gates st q r b row nd sc stage);
    rights = λ st m r q row nd stage among. elim (node_or_other n m) [
      | inl e ↦ subst (λ (y : NodeId). at_point (change n) true s.settled (change y) ≡ true) e (at_same (change n) true s.settled)
      | inr ne ↦ let x = at_other (change n) (Some o) s.out (change m) (λ x. ne (ap (λ (y : Point). y.node) x)) in
          settled_more (change m) (inv.strict.rights st m r q row nd stage (rw x at among))
    ];
  }

  -- a scope whose bind has just run stands
  scope_at : (a : Point) (r : Row) → G.row a.node ≡ Some r → r.scope ≡ Some n → Stands F G (Some n)
  scope_at a r row sc =
      let k = inv.scoped a.node r n row sc in
      let c = exact_here k.0 k.4 in
      let run : HasRun F G out' n (graph.Bind k.1 k.2 k.3) k.1 = rw k.5 at (c.1 k.1 (rw k.5 refl)) in
      let w = run.3 in
      let left : NodeGives F G k.1 w.0.outcome = rw w.2 run.2 in
      scope_stands F G n k.0 k.1 k.2 k.3 w.0 k.4 k.5 c.0 w.1 left

  woken_stands : (a : Point) → Awaits s n a → (r : Row) × (G.row a.node ≡ Some r) × Stands F G r.scope
  woken_stands a (nd, inl w) = (
    move.row,
    subst (λ (y : Point). G.row y.node ≡ Some move.row) (sym w.0) move.is_row,
    (exact_here move.row move.is_row).0,
  )
  woken_stands a (nd, inr w) = (w.0, w.1, subst (λ (y : Option NodeId). Stands F G y) (sym w.2) (scope_at a w.0 w.1 w.2))

  met : Meets F z after
  met = record {
    needed = inv.met.needed;
    todo = λ a nd td. elim (inv.met.needed a nd) [
      | inl m ↦ m
      | inr h ↦ let w = woken_stands a (move.woken a td) in from_held h w.1 w.2 here
    ];
  }

  called_stays : (m : NodeId) → HasCalled F z G s.died s.root s.settled s.last m
      → HasCalled F z G s.died s.root (at_point (change n) true s.settled) s.last m
  called_stays m c = record {
    row = c.row;
    kids = c.kids;
    values = c.values;
    is_row = c.is_row;
    takes = c.takes;
    result = c.result;
    answers = c.answers;
    is_settled = settled_more (main m) c.is_settled;
    met = c.met;
    gives = c.gives;
    is_last = c.is_last;
    reason = reason_more settled_more c.reason;
  }

  main_other : (m : NodeId) → at_point (change n) true s.settled (main m) ≡ s.settled (main m)
  main_other m = at_other (change n) true s.settled (main m) (apart m)

  last_settled : LastSettled after
  last_settled q e = let same : change n ≡ q = cc in
      subst (λ (y : Point). at_point (change n) true s.settled y ≡ true) same (at_same (change n) true s.settled)

  pub change_keeps : Invariant F z after
  change_keeps = record {
    web = record {
      from = inv.web.from;
      onto = inv.web.onto;
      rooted = inv.web.rooted;
      reached = inv.web.reached;
      rises = inv.web.rises;
      low = inv.web.low;
      heap = λ q h. inv.web.heap q (at_false (change n) s.heap q h).0;
    };
    alive = λ q h. inv.alive q (at_false (change n) s.heap q h).0;
    rows = rows;
    scoped = inv.scoped;
    rooted = inv.rooted;
    built = λ m r x row e. elim (node_or_other n m) [
      | inl is ↦
          let row' : G.row n ≡ Some r = subst (λ (y : NodeId). G.row y ≡ Some r) (sym is) row in
          let mine = move.is_row in
          let same : r ≡ move.row = cc in
          let e' : out' (change n) ≡ Some x = subst (λ (y : NodeId). out' (change y) ≡ Some x) (sym is) e in
          let b = at_same (change n) (Some o) s.out in
          let ox : o ≡ x = cc in
          rw (← is, same, ← ox) move.built
      | inr ne ↦ inv.built m r x row (sym (at_other (change n) (Some o) s.out (change m) (λ y. ne (ap (λ (y : Point). y.node) y))) ∙ e)
    ];
    waits = waits;
    fresh = fresh;
    settled = settled;
    strict = strict;
    last_settled = last_settled;
    met = met;
    accounts = record {
      once = inv.accounts.once;
      called = λ m a. called_stays m (inv.accounts.called m a);
      costs = inv.accounts.costs;
      kept = λ m r row a. elim (inv.accounts.kept m r row a) [ inl e ↦ inl e | inr c ↦ inr (called_stays m c.0, c.1) ];
      count = inv.accounts.count;
      answers = inv.accounts.answers;
      cutoffs = inv.accounts.cutoffs;
      marked = λ m h. inv.accounts.marked m (sym (main_other m) ∙ h);
      unmarked = λ m h. inv.accounts.unmarked m (sym (main_other m) ∙ h);
      renewed = λ m r kids values st h. inv.accounts.renewed m r kids values st (sym (main_other m) ∙ h);
      unfired = inv.accounts.unfired;
    };
  }
