-- A main's step keeps the invariant.
use Rattle.std.proofs.Common.{◌≡◌, ◌⊎◌, inl, inr, ℕ, zero, suc, ◌<◌, Bool, true, false, List, [], ◌∷◌, map, Option, None, Some, refl, sym, ap, subst}
use Rattle.std.proofs.Common.{◌∙◌, arith}
use Rattle.std.proofs.lemmas.List.Sums.{sum_by-cons}
use Rattle.inc_value.specs.declared.node.NodeId.{NodeId}
use Rattle.inc_value.specs.declared.node.Part.TheVariants.{Change, Main}
use Rattle.inc_value.specs.declared.node.Point.{Point}
use Rattle.inc_value.specs.declared.outcome.Outcome.{Outcome}
use Rattle.inc_value.specs.declared.outcome.Outcome.TheVariants.{Val, Invalid}
use Rattle.inc_value.specs.declared.value.Value.{Value}
use Rattle.inc_value.specs.Choice.{Among, here}
use Rattle.map_nodes.proofs.Stopping.{stopped_same}
use Rattle.inc_terms.specs.Term.{Functions, refs}
use Rattle.inc_terms.specs.Graph.{Graph, Row}
use Rattle.inc_terms.specs.Evaluate.{Gathered, Unknown, SomeInvalid, Values, gathered, GiveAll, Stands}
use Rattle.inc_terms.specs.Depend.{Depends, fixed, main, change, fixed_reads}
use Rattle.inc_terms.specs.Local.{shown, by_sight, Agrees, Exact, Sees}
use Rattle.inc_terms.specs.Plan.{gate_of, plan}
use Rattle.inc_terms.proofs.Evaluation.{one_outcome}
use Rattle.inc_terms.proofs.Full.{full_exact}
use Rattle.inc_terms.proofs.Local.{main_sees}
use Rattle.inc_terms.proofs.Plan.{among_left, among_right, plan_depends, depends_plan}
use Rattle.stabilize_round.specs.State.{State, Start, Call, Stage, Bare, Gated, Static, Full, Linked, count, ghost_plan, at_point, at_node}
use Rattle.stabilize_round.specs.Invariant.{Invariant, Web, Rows, Waits, IsRight, IsDone, Recalls, Settled, Strict, MetNow, from_held, LastSettled}
use Rattle.stabilize_round.specs.Invariant.{HasCalled, Accounts, AccountsOf}
use Rattle.stabilize_round.specs.Moves.{Quiet, Calls, ran_more, calls_of, computed, StepMain}
use Rattle.inc_terms.specs.Work.{taken_by}
use Rattle.stabilize_round.specs.Calling.{made_stale, IsAnswer, cost_at}
use Rattle.stabilize_round.proofs.Reasons.{reason_more, since_start}
use Rattle.stabilize_round.proofs.Parts.{bool_cases}
use Rattle.stabilize_round.specs.Counts.{RoseBy}
use Rattle.stabilize_round.proofs.Counts.{none_more, more_on}
use Rattle.stabilize_round.proofs.Points.{same_or_other, node_or_other, is_or_not, at_same, at_other, node_same, node_other, count_among}
use Rattle.stabilize_round.proofs.Low.{Low, gate_among, links_are, plan_links, is_full, low_points}
use Rattle.inc_terms.proofs.Seeing.{own_same, gathered_same, shown_same, agrees_same, exact_same}
use Rattle.stabilize_round.proofs.Planned.{recalls_same, reads_taken, plan_same}

pub at_false : (p : Point) (f : Point → Bool) (q : Point) → at_point p false f q ≡ true → (f q ≡ true) × (p ≡ q → ⊥)
at_false p f q h = elim (same_or_other p q) [
  | inl e ↦ let a = at_same p false f in let b : at_point p false f p ≡ true = rw (← e) at h in absurd (cc)
  | inr n ↦ let a = at_other p false f q n in ((cc), n)
]

pub main_change : (n m : NodeId) → main n ≡ change m → ⊥
main_change n m e = let x : Main ≡ Change = ap (λ (p : Point). p.part) e in cc

pub gathered_gives : (F : Functions) (G : Graph) (out : Point → Option Outcome) (kids : List NodeId) (vs : List Value)
    → ((k : NodeId) → Among (main k) (map main kids) → Sees F G out k)
    → gathered (by_sight (shown G out)) (refs kids) ≡ Values vs → GiveAll F G kids vs
gathered_gives F G out [] vs sees e = let same : [] ≡ vs = cc in by_empty vs same
  where
    by_empty : (ws : List Value) → [] ≡ ws → GiveAll F G [] ws
    by_empty [] e = tt
    by_empty (w ∷ ws) e = absurd (cc)
gathered_gives F G out (k ∷ ks) vs sees e = first (sees k (inl refl)).0 (sees k (inl refl)).1 (gathered (by_sight (shown G out)) (refs ks)) refl
    (λ ws. gathered_gives F G out ks ws (λ m a. sees m (inr a)))
  where
    last : (v : Value) (ws us : List Value) → (v ∷ ws) ≡ us → Sees F G out k → shown G out (main k) ≡ Some (Val v) → GiveAll F G ks ws
        → GiveAll F G (k ∷ ks) us
    last v ws [] same see is rest = absurd (cc)
    last v ws (u ∷ us) same see is rest = let a : v ≡ u = cc in let b : ws ≡ us = cc in let x = see.1 in let c : see.0 ≡ Val u = cc in
        (rw c at see.2, rw b at rest)

    first : (o : Outcome) → shown G out (main k) ≡ Some o → (g : Gathered) → gathered (by_sight (shown G out)) (refs ks) ≡ g
        → ((ws : List Value) → gathered (by_sight (shown G out)) (refs ks) ≡ Values ws → GiveAll F G ks ws) → GiveAll F G (k ∷ ks) vs
    first Invalid is Unknown g rest = absurd (let x = rw (is, g) at e in cc)
    first Invalid is SomeInvalid g rest = absurd (let x = rw (is, g) at e in cc)
    first Invalid is (Values ws) g rest = absurd (let x = rw (is, g) at e in cc)
    first (Val v) is Unknown g rest = absurd (let x = rw (is, g) at e in cc)
    first (Val v) is SomeInvalid g rest = absurd (let x = rw (is, g) at e in cc)
    first (Val v) is (Values ws) g rest = let x = rw (is, g) at e in last v ws vs (cc) (sees k (inl refl)) is (rest ws g)

-- what nodes give they show, where they are exact
pub gives_gathered : (F : Functions) (G : Graph) (out : Point → Option Outcome) (kids : List NodeId) (vs : List Value)
    → ((k : NodeId) → Among (main k) (map main kids) → Sees F G out k) → GiveAll F G kids vs → gathered (by_sight (shown G out)) (refs kids) ≡ Values vs
gives_gathered F G out [] [] sees g = refl
gives_gathered F G out [] (v ∷ vs) sees g = absurd g
gives_gathered F G out (k ∷ ks) [] sees g = absurd g
gives_gathered F G out (k ∷ ks) (v ∷ vs) sees g =
    let x = sees k (inl refl) in
    let o : x.0 ≡ Val v = one_outcome F G _ x.0 (Val v) x.2 g.0 in
    let e : shown G out (main k) ≡ Some (Val v) = x.1 ∙ ap (λ (y : Outcome). Some y) o in
    let rest = gives_gathered F G out ks vs (λ m a. sees m (inr a)) g.1 in
    rw (e, rest) refl

module _ (F : Functions) (z : Start) (s : State) (inv : Invariant F z s) (quiet : Quiet s) (n : NodeId) (o : Outcome) (heap' : Point → Bool)
    (last' : Option Call) (called : Bool) (calls' : ℕ)
    (move : StepMain F s n o heap' last' called calls') where
  abbrev G : Graph
  G = s.graph

  abbrev out' : Point → Option Outcome
  out' = at_point (main n) (Some o) s.out

  abbrev after : State
  after = computed s n o heap' last' called calls'

  below : (q : Point) → Linked s (main n) q → Low F z s inv quiet q
  below q l = let k = inv.web.rises (main n) q l in low_points F z s inv quiet (s.height (main n)) move.taken.least q k (inv.web.onto (main n) q l)

  need : s.needed (main n) ≡ true
  need = inv.web.heap (main n) move.taken.heap

  full : s.stage (main n) ≡ Full
  full = is_full F z s inv quiet (main n) need below move.row move.is_row

  linked : (q : Point) → Among q (plan G s.out (main n) move.row) → Linked s (main n) q
  linked q a = plan_links F z s inv quiet (main n) q move.row Full move.is_row full need a

  not_self : (q : Point) → Linked s (main n) q → main n ≡ q → ⊥
  not_self q l e = let k = inv.web.rises (main n) q l in let k' : s.height (main n) < s.height (main n) = rw (← e) at k in omega arith

  same_at : (q : Point) → Linked s (main n) q → out' q ≡ s.out q
  same_at q l = at_other (main n) (Some o) s.out q (not_self q l)

  at_change : (m : NodeId) → out' (change m) ≡ s.out (change m)
  at_change m = at_other (main n) (Some o) s.out (change m) (main_change n m)

  -- the taken point agrees and is exact
  agrees : Agrees F G out' (main n)
  agrees r row =
      let is = move.is_row in
      let same : r ≡ move.row = cc in
      let shown_change : shown G s.out (change n) ≡ s.out (change n) = rw is refl in
      let e = own_same F G (shown G s.out) (shown G out') n move.row.def
      (λ q a. shown_same F G s.out out' q
      (same_at q (linked q (among_right q (gate_of move.row.scope) _ (among_left q (fixed_reads G n move.row.def Main) _ a)))))
      (λ q a. shown_same F G s.out out' q
      (same_at q (linked q (among_right q (gate_of move.row.scope) _
      (among_right q (fixed_reads G n move.row.def Main) _ (rw shown_change at a)))))) in
      rw same (o, at_same (main n) (Some o) s.out, e ∙ move.own)

  exact_here : Exact F G out' (main n)
  exact_here = full_exact F G out' inv.scoped (main n) agrees (λ r row q among.
      let is = move.is_row in
      let same : r ≡ move.row = cc in
      let e = at_change n in
      let l = linked q (rw (← same) (rw e at among)) in
      exact_same F G s.out out' q (same_at q l) (below q l).exact)

  -- what was exact stays so
  exact_stays : (q : Point) → Exact F G s.out q → Exact F G out' q
  exact_stays q x = elim (same_or_other (main n) q) [
    | inl e ↦ subst (λ (y : Point). Exact F G out' y) e exact_here
    | inr ne ↦ exact_same F G s.out out' q (at_other (main n) (Some o) s.out q ne) x
  ]

  -- where it was exact, its outcome stays
  news : Exact F G s.out (main n) → s.out (main n) ≡ Some o
  news x =
      let before = main_sees F G s.out n x in
      let later = main_sees F G out' n exact_here in
      let a : shown G s.out (main n) ≡ s.out (main n) = rw move.is_row refl in
      let b : shown G out' (main n) ≡ out' (main n) = rw move.is_row refl in
      let c = at_same (main n) (Some o) s.out in
      let d : before.0 ≡ later.0 = one_outcome F G _ before.0 later.0 before.2 later.2 in
      let e = before.1 in let f = later.1 in
      cc

  done_links : (q : Point) (d : IsDone F G s.out s.died s.last q) (m : Point) → Among m (plan G s.out q d.row) → Depends F G s.died q m
  done_links q d m among =
      let st : Stands F G d.row.scope = (d.exact d.row d.is_row).0 in
      plan_depends F G s.out s.died q m d.row d.is_row st
      (λ part k sub. ((d.below (change q.node) (fixed d.is_row st (rw (part, sub) (inl refl)))) d.row d.is_row).1 k sub) among

  out_stays : Exact F G s.out (main n) → (q : Point) → out' q ≡ s.out q
  out_stays x q = elim (same_or_other (main n) q) [
    | inl e ↦ let a = news x in let b = at_same (main n) (Some o) s.out in rw (← e) (cc)
    | inr ne ↦ at_other (main n) (Some o) s.out q ne
  ]

  last_stays : (q : Point) → (main n ≡ q → ⊥) → q.part ≡ Main → at_node n last' s.last q.node ≡ s.last q.node
  last_stays q ne part = node_other n last' s.last q.node (λ e. ne (λ i. record { node = e i; part = (sym part) i }))

  mark_stays : (m : NodeId) → (n ≡ m → ⊥) → {b : Bool} → s.stale m ≡ b → at_node n false s.stale m ≡ b
  mark_stays m ne e = node_other n false s.stale m ne ∙ e

  done_stays : (q : Point) → (main n ≡ q → ⊥) → IsDone F G s.out s.died s.last q → IsDone F G out' s.died (at_node n last' s.last) q
  done_stays q ne d = record {
    row = d.row;
    is_row = d.is_row;
    agrees = agrees_same F G s.out out' q d.row d.is_row (at_other (main n) (Some o) s.out q ne) (λ m among. elim (same_or_other (main n) m) [
      | inl e ↦ let x = d.below m (done_links q d m among) in out_stays (subst (λ (y : Point). Exact F G s.out y) (sym e) x) m
      | inr other ↦ at_other (main n) (Some o) s.out m other
    ]) d.agrees;
    recalls = recalls_same F G G (shown G s.out) (shown G out') s.last (at_node n last' s.last) q d.row d.is_row d.is_row refl
        (λ m among. shown_same F G s.out out' m (elim (same_or_other (main n) m) [
          | inl e ↦ let x = d.below m (done_links q d m
              (among_right m (gate_of d.row.scope) _ (among_left m (fixed_reads G q.node d.row.def q.part) _ among))) in
              out_stays (subst (λ (y : Point). Exact F G s.out y) (sym e) x) m
          | inr other ↦ at_other (main n) (Some o) s.out m other
        ])) (last_stays q ne) d.recalls;
    exact = exact_stays q d.exact;
    below = λ m dep. exact_stays m (d.below m dep);
  }

  recalls_by : (was : Bool) → called ≡ was → Calls F s n move.row.def last' was → Recalls G (shown G out') (at_node n last' s.last) (main n)
  recalls_by was is h r kids values row part def shows =
      let mine = move.is_row in
      let same : r ≡ move.row = cc in
      let def' : taken_by G n move.row.def ≡ Some kids = rw (← same) def in
      let seen = gathered_same F G (shown G s.out) (shown G out') kids
      (λ q a. shown_same F G s.out out' q
      (same_at q (linked q (among_right q (gate_of move.row.scope) _ (among_left q (fixed_reads G n move.row.def Main) _
      (reads_taken G n move.row.def kids q def' a)))))) in
      by_call was h kids values def' (sym seen ∙ shows)
    where
      by_call : (was : Bool) → Calls F s n move.row.def last' was → (kids : List NodeId) (values : List Value)
          → taken_by G n move.row.def ≡ Some kids → gathered (by_sight (shown G s.out)) (refs kids) ≡ Values values
          → (c : Call) × (at_node n last' s.last n ≡ Some c) × (c.arguments ≡ values)
      by_call false h kids values def' before = let c = h.1 kids values def' before in (c.0, node_same n last' s.last ∙ h.0 ∙ c.1, c.2)
      by_call true h kids values def' before =
          let a = h.3 in let b = h.4 in
          let ks : h.0 ≡ kids = cc in
          let b' : gathered (by_sight (shown G s.out)) (refs kids) ≡ Values h.1 = subst
          (λ (y : List NodeId). gathered (by_sight (shown G s.out)) (refs y) ≡ Values h.1) ks b in
          let vs : h.1 ≡ values = cc in
          (record { arguments = h.1; result = h.2 }, node_same n last' s.last ∙ h.6, vs)

  done_here : IsDone F G out' s.died (at_node n last' s.last) (main n)
  done_here = record {
    row = move.row;
    is_row = move.is_row;
    agrees = agrees;
    recalls = recalls_by called refl move.calls;
    exact = exact_here;
    below = λ m dep.
        let st : Stands F G move.row.scope = (exact_here move.row move.is_row).0 in
        let among = depends_plan F G s.out s.died (main n) m move.row move.is_row st
        (λ part k sub. ((below (change n)
        (linked (change n) (among_right (change n) (gate_of move.row.scope) _
        (among_left (change n) (fixed_reads G n move.row.def Main) _ (rw sub (inl refl)))))).exact move.row move.is_row).1 k sub) dep in
        exact_stays m (below m (linked m among)).exact;
  }

  settled_more : (q : Point) → s.settled q ≡ true → at_point (main n) true s.settled q ≡ true
  settled_more q h = elim (same_or_other (main n) q) [
    | inl e ↦ rw (← e) (at_same (main n) true s.settled)
    | inr ne ↦ at_other (main n) true s.settled q ne ∙ h
  ]

  heap_more : (q : Point) → (main n ≡ q → ⊥) → s.heap q ≡ true → heap' q ≡ true
  heap_more q ne h = move.heap.kept q (at_other (main n) false s.heap q ne ∙ h)

  web : Web after
  web = record {
    from = inv.web.from;
    onto = inv.web.onto;
    rooted = inv.web.rooted;
    reached = inv.web.reached;
    rises = inv.web.rises;
    low = inv.web.low;
    heap = λ q h. elim (move.heap.new q h) [
      | inl k ↦ inv.web.heap q (at_false (main n) s.heap q k).0
      | inr k ↦ inv.web.from q (main n) k.0
    ];
  }

  -- what reads a main is live
  reader_alive : (q : Point) → Linked s q (main n) → (x : Option Row) → G.row q.node ≡ x → (r : Row) × (G.row q.node ≡ Some r)
  reader_alive q l (Some r) row = (r, row)
  reader_alive q l None row = absurd (by_stage (s.stage q) refl)
    where
      by_gates : Among (main n) (gate_of (s.died q.node)) → ⊥
      by_gates a = let g = gate_among (s.died q.node) (main n) a in main_change n g.0 g.2

      by_count : (st : Stage) → s.links q (main n) ≡ count (main n) (ghost_plan (s.died q.node) st) → ⊥
      by_count Bare e = omega arith
      by_count Gated e = by_gates (count_among (main n) (gate_of (s.died q.node)) (omega arith))
      by_count Static e = by_gates (count_among (main n) (gate_of (s.died q.node)) (omega arith))
      by_count Full e = by_gates (count_among (main n) (gate_of (s.died q.node)) (omega arith))

      by_stage : (st : Stage) → s.stage q ≡ st → ⊥
      by_stage st is = by_count st (rw (row, is) at (links_are F z s inv quiet q (main n) (inv.web.from q (main n) l)))

  alive : (q : Point) → heap' q ≡ true → (r : Row) × (G.row q.node ≡ Some r)
  alive q h = elim (move.heap.new q h) [
    | inl k ↦ inv.alive q (at_false (main n) s.heap q k).0
    | inr k ↦ reader_alive q k.0 (G.row q.node) refl
  ]

  rows : Rows after
  rows = record {
    links = λ q m nd. let e = plan_same G s.out out' s.died q (G.row q.node) (s.stage q) (at_change q.node) in rw e (inv.rows.links q m nd);
    bare = inv.rows.bare;
    owed = inv.rows.owed;
  }

  waits : Waits after
  waits = record {
    gated = λ q r row nd td st. let w = inv.waits.gated q r row nd td st in
        (w.0, w.1, at_other (main n) true s.settled (change w.0) (main_change n w.0) ∙ w.2, heap_more (change w.0) (main_change n w.0) w.3);
    static = λ q r row nd td st. let w = inv.waits.static q r row nd td st in (w.0, w.1, w.2, heap_more (change q.node) (main_change n q.node) w.3);
  }

  right_stays : (q : Point) (r : Row) → G.row q.node ≡ Some r → s.needed q ≡ true → (main n ≡ q → ⊥) → IsRight F s q
      → (heap' q ≡ true) ⊎ (at_point (main n) true s.settled q ≡ true) ⊎ IsRight F after q
  right_stays q r row nd ne right = by_count (s.links q (main n)) refl
    where
      keeps : ((m : Point) → Among m (plan G s.out q r) → out' m ≡ s.out m) → IsRight F after q
      keeps h = (
        right.0,
        agrees_same F G s.out out' q r row (at_other (main n) (Some o) s.out q ne) h right.1,
        recalls_same F G G (shown G s.out) (shown G out') s.last (at_node n last' s.last) q r row row refl
            (λ m a. shown_same F G s.out out' m (h m (among_right m (gate_of r.scope) _ (among_left m (fixed_reads G q.node r.def q.part) _ a))))
            (last_stays q ne) right.2,
        λ part. mark_stays q.node (λ e. ne (λ i. record { node = e i; part = (sym part) i })) (right.3 part),
      )

      same_out : s.out (main n) ≡ Some o → (m : Point) → out' m ≡ s.out m
      same_out e m = elim (same_or_other (main n) m) [
        | inl is ↦ let b = at_same (main n) (Some o) s.out in subst (λ (y : Point). out' y ≡ s.out y) is (b ∙ sym e)
        | inr other ↦ at_other (main n) (Some o) s.out m other
      ]

      by_out : Linked s q (main n) → (s.out (main n) ≡ Some o) ⊎ (s.out (main n) ≡ Some o → ⊥) → (heap' q ≡ true)
          ⊎ (at_point (main n) true s.settled q ≡ true) ⊎ IsRight F after q
      by_out l (inl e) = inr (inr (keeps (λ m a. same_out e m)))
      by_out l (inr other) = elim (move.heap.told q (l, λ stopped. other (stopped_same (s.cutoff n) (s.out (main n)) o stopped))) [ inl h ↦ inl h | inr st ↦ inr (inl (settled_more q st)) ]

      by_count : (k : ℕ) → s.links q (main n) ≡ k → (heap' q ≡ true) ⊎ (at_point (main n) true s.settled q ≡ true) ⊎ IsRight F after q
      by_count zero e = inr (inr (keeps (λ m among. elim (same_or_other (main n) m) [
        | inl is ↦ let l : Linked s q (main n) = subst (λ (y : Point). Linked s q y) (sym is)
            (plan_links F z s inv quiet q m r Full row right.0 nd among) in absurd (omega arith)
        | inr other ↦ at_other (main n) (Some o) s.out m other
      ])))
      by_count (suc k) e = by_out (omega arith) (is_or_not (s.out (main n)) o)

  fresh : (q : Point) (r : Row) → G.row q.node ≡ Some r → s.needed q ≡ true → (heap' q ≡ true) ⊎ (at_point (main n) true s.settled q ≡ true)
      ⊎ IsRight F after q
  fresh q r row nd = elim (same_or_other (main n) q) [
    | inl e ↦ inr (inl (subst (λ (y : Point). at_point (main n) true s.settled y ≡ true) e (at_same (main n) true s.settled)))
    | inr ne ↦ elim (inv.fresh q r row nd) [
      | inl h ↦ inl (heap_more q ne h)
      | inr (inl h) ↦ inr (inl (settled_more q h))
      | inr (inr right) ↦ right_stays q r row nd ne right
    ]
  ]

  settled : Settled F after
  settled = record {
    done = λ q h. elim (same_or_other (main n) q) [
      | inl e ↦ subst (λ (y : Point). IsDone F G out' s.died (at_node n last' s.last) y) e done_here
      | inr ne ↦ let b = at_other (main n) true s.settled q ne in done_stays q ne (inv.settled.done q (sym b ∙ h))
    ];
    twice = λ q h k. elim (move.heap.new q k) [
      | inl old ↦ let a = at_false (main n) s.heap q old in let b = at_other (main n) true s.settled q a.1 in inv.settled.twice q (sym b ∙ h) a.0
      | inr new ↦ let l = not_self q in elim (same_or_other (main n) q) [
        | inl e ↦ absurd (not_self q (subst (λ (y : Point). Linked s y q) (sym e) (subst (λ (y : Point). Linked s q y) e new.0)) e)
        | inr ne ↦ let b = at_other (main n) true s.settled q ne in absurd (let x = new.1 in cc)
      ]
    ];
  }

  strict : Strict after
  strict = record {
    gates = λ st q r b row nd sc stage. at_other (main n) true s.settled (change b) (main_change n b) ∙ inv.strict.gates st q r b row nd sc stage;
    rights = λ st m r q row nd stage among. let e = at_change m in
        at_other (main n) true s.settled (change m) (main_change n m) ∙ inv.strict.rights st m r q row nd stage (rw e at among);
  }

  -- what is taken is met
  is_met : MetNow F z G s.died s.root (main n)
  is_met = elim (inv.met.needed (main n) need) [ inl m ↦ m | inr h ↦ from_held h move.is_row (exact_here move.row move.is_row).0 here ]

  not_called : (m : NodeId) → HasCalled F z G s.died s.root s.settled s.last m → n ≡ m → ⊥
  not_called m c e =
      let st : s.settled (main n) ≡ true = subst (λ (y : NodeId). s.settled (main y) ≡ true) (sym e) c.is_settled in
      let x = inv.settled.twice (main n) st move.taken.heap in cc

  not_settled : s.settled (main n) ≡ false
  not_settled = elim (bool_cases (s.settled (main n))) [
    | inr e ↦ e
    | inl e ↦ absurd (let x : Main ≡ Change = inv.settled.twice (main n) e move.taken.heap in cc)
  ]

  abbrev CalledNow : NodeId → Type 0
  CalledNow m = HasCalled F z G s.died s.root (at_point (main n) true s.settled) (at_node n last' s.last) m

  called_stays : (m : NodeId) → HasCalled F z G s.died s.root s.settled s.last m → CalledNow m
  called_stays m c = record {
    row = c.row;
    kids = c.kids;
    values = c.values;
    result = c.result;
    is_row = c.is_row;
    takes = c.takes;
    answers = c.answers;
    is_settled = settled_more (main m) c.is_settled;
    met = c.met;
    gives = c.gives;
    is_last = node_other n last' s.last m (not_called m c) ∙ c.is_last;
    reason = reason_more settled_more c.reason;
  }

  -- the children on whose values the function is called are exact
  at_kid : (kids : List NodeId) → taken_by G n move.row.def ≡ Some kids → (q : Point) → Among q (map main kids) → Linked s (main n) q
  at_kid kids takes q a = linked q
      (among_right q (gate_of move.row.scope) _ (among_left q (fixed_reads G n move.row.def Main) _ (reads_taken G n move.row.def kids q takes a)))

  kid_sees : (kids : List NodeId) → taken_by G n move.row.def ≡ Some kids → (k : NodeId) → Among (main k) (map main kids) → Sees F G s.out k
  kid_sees kids takes k a = main_sees F G s.out k (below (main k) (at_kid kids takes (main k) a)).exact

  marked : (m : NodeId) → at_point (main n) true s.settled (main m) ≡ false → at_node n false s.stale m ≡ z.stale m
  marked m h = elim (node_or_other n m) [
    | inl e ↦ absurd (let x = at_same (main n) true s.settled in
        let y = subst (λ (y : NodeId). at_point (main n) true s.settled (main y) ≡ false) (sym e) h in cc)
    | inr ne ↦ mark_stays m ne (inv.accounts.marked m (sym (at_other (main n) true s.settled (main m) (λ e. ne (ap (λ (p : Point). p.node) e))) ∙ h))
  ]

  unmarked : (m : NodeId) → at_point (main n) true s.settled (main m) ≡ true → at_node n false s.stale m ≡ false
  unmarked m h = elim (node_or_other n m) [
    | inl e ↦ subst (λ (y : NodeId). at_node n false s.stale y ≡ false) e (node_same n false s.stale)
    | inr ne ↦ mark_stays m ne (inv.accounts.unmarked m (sym (at_other (main n) true s.settled (main m) (λ e. ne (ap (λ (p : Point). p.node) e))) ∙ h))
  ]

  -- a node that was made stale runs
  renewed : (ns : List NodeId) → ((m : NodeId) → Among m s.ran → Among m ns)
      → (z.stale n ≡ true → (kids : List NodeId) (values : List Value) → taken_by G n move.row.def ≡ Some kids → GiveAll F G kids values
      → 0 < cost_at G n → Among n ns) → (m : NodeId) (r : Row) (kids : List NodeId) (values : List Value)
      → z.stale m ≡ true → at_point (main n) true s.settled (main m) ≡ true → G.row m ≡ Some r → taken_by G m r.def ≡ Some kids
      → GiveAll F G kids values → 0 < cost_at G m → Among m ns
  renewed ns more mine m r kids values st settled row takes gives some = elim (node_or_other n m) [
    | inr ne ↦ more m (inv.accounts.renewed m r kids values st
        (sym (at_other (main n) true s.settled (main m) (λ e. ne (ap (λ (p : Point). p.node) e))) ∙ settled) row takes gives some)
    | inl e ↦ subst (λ (y : NodeId). Among y ns) e (by_row
        (subst (λ (y : NodeId). z.stale y ≡ true) (sym e) st) (subst (λ (y : NodeId). G.row y ≡ Some r) (sym e) row)
        (subst (λ (y : NodeId). taken_by G y r.def ≡ Some kids) (sym e) takes) (subst (λ (y : NodeId). 0 < cost_at G y) (sym e) some))
  ]
    where
      by_row : z.stale n ≡ true → G.row n ≡ Some r → taken_by G n r.def ≡ Some kids → 0 < cost_at G n → Among n ns
      by_row st row takes some =
          let is = move.is_row in
          let same : r ≡ move.row = cc in
          mine st kids values (subst (λ (y : Row). taken_by G n y.def ≡ Some kids) same takes) gives some

  -- it runs: with a reason it is called
  not_left : Calls F s n move.row.def last' false → z.stale n ≡ true → (kids : List NodeId) (values : List Value)
      → taken_by G n move.row.def ≡ Some kids → GiveAll F G kids values → ⊥
  not_left h st kids values takes gives =
      (h.1 kids values takes (gives_gathered F G s.out kids values (kid_sees kids takes) gives)).3 (made_stale (inv.accounts.marked n not_settled ∙ st))

  -- the last call of a node that isn't settled is that with which the round began
  last_here : s.last n ≡ z.last n
  last_here = elim (inv.accounts.kept n move.row move.is_row (λ a. not_called n (inv.accounts.called n a) refl)) [
    | inl e ↦ e
    | inr c ↦ absurd (not_called n c.0 refl)
  ]

  -- what is kept of another node stays
  kept_other : (m : NodeId) (r : Row) → G.row m ≡ Some r → (n ≡ m → ⊥) → (Among m s.ran → ⊥)
      → (at_node n last' s.last m ≡ z.last m) ⊎ (CalledNow m × (cost_at G m ≡ 0))
  kept_other m r row ne a = elim (inv.accounts.kept m r row a) [
    | inl e ↦ inl (node_other n last' s.last m ne ∙ e)
    | inr c ↦ inr (called_stays m c.0, c.1)
  ]

  abbrev AccountsWith : List NodeId → Type 0
  AccountsWith ns = AccountsOf F z G s.died s.root (at_point (main n) true s.settled) (at_node n last' s.last) s.cutoff (at_node n false s.stale) ns calls'

  -- the function wasn't called
  uncalled : called ≡ false → Calls F s n move.row.def last' false → AccountsWith s.ran
  uncalled is h =
      let mine : at_node n last' s.last n ≡ s.last n = node_same n last' s.last ∙ h.0 in
      let same : (m : NodeId) → at_node n last' s.last m ≡ s.last m = λ m. elim (node_or_other n m) [
        | inl e ↦ subst (λ (y : NodeId). at_node n last' s.last y ≡ s.last y) e mine
        | inr ne ↦ node_other n last' s.last m ne
      ] in
      record {
        once = inv.accounts.once;
        called = λ m a. called_stays m (inv.accounts.called m a);
        costs = inv.accounts.costs;
        kept = λ m r row a. elim (inv.accounts.kept m r row a) [ inl e ↦ inl (same m ∙ e) | inr c ↦ inr (called_stays m c.0, c.1) ];
        count = none_more inv.accounts.count (rw is at move.count);
        answers = λ m r kids c row def l. inv.accounts.answers m r kids c row def (sym (same m) ∙ l);
        cutoffs = inv.accounts.cutoffs;
        marked = marked;
        unmarked = unmarked;
        renewed = renewed s.ran (λ m a. a) (λ st kids values takes gives some. absurd (not_left h st kids values takes gives));
        unfired = inv.accounts.unfired;
      }

  -- it was, as its children gave other values or for another reason
  now_called : Calls F s n move.row.def last' true → CalledNow n
  now_called h = record {
    row = move.row;
    kids = h.0;
    values = h.1;
    result = h.2;
    is_row = move.is_row;
    takes = h.3;
    answers = h.7;
    is_settled = at_same (main n) true s.settled;
    met = is_met;
    gives = gathered_gives F G s.out h.0 h.1 (kid_sees h.0 h.3) h.4;
    is_last = node_same n last' s.last ∙ h.6;
    reason = reason_more settled_more (since_start last_here inv.accounts.cutoffs (inv.accounts.marked n not_settled) h.5);
  }

  -- what calls gave is what functions give
  answers_now : Calls F s n move.row.def last' true → (m : NodeId) (r : Row) (kids : List NodeId) (c : Call) → G.row m ≡ Some r
      → taken_by G m r.def ≡ Some kids → at_node n last' s.last m ≡ Some c → IsAnswer F r.def c.arguments c.result
  answers_now h m r kids c row def l = elim (node_or_other n m) [
    | inl e ↦ by_call e (subst (λ (y : NodeId). at_node n last' s.last y ≡ Some c) (sym e) l)
    | inr ne ↦ inv.accounts.answers m r kids c row def (sym (node_other n last' s.last m ne) ∙ l)
  ]
    where
      by_call : n ≡ m → at_node n last' s.last n ≡ Some c → IsAnswer F r.def c.arguments c.result
      by_call e l =
          let row' : G.row n ≡ Some r = subst (λ (y : NodeId). G.row y ≡ Some r) (sym e) row in
          let is' = move.is_row in
          let same : r ≡ move.row = cc in
          let mine = node_same n last' s.last in
          let l' = h.6 in
          let cs : record { arguments = h.1; result = h.2 } ≡ c = cc in
          subst (λ (y : Row). IsAnswer F y.def c.arguments c.result) (sym same)
          (subst (λ (x : Call). IsAnswer F move.row.def x.arguments x.result) cs h.7)

  -- that took no call
  called_free : called ≡ true → Calls F s n move.row.def last' true → cost_at G n ≡ 0 → AccountsWith s.ran
  called_free is h free = record {
    once = inv.accounts.once;
    called = λ m a. called_stays m (inv.accounts.called m a);
    costs = inv.accounts.costs;
    kept = λ m r row a. elim (node_or_other n m) [
      | inl e ↦ inr (subst (λ (y : NodeId). CalledNow y × (cost_at G y ≡ 0)) e (now_called h, free))
      | inr ne ↦ kept_other m r row ne a
    ];
    count = none_more inv.accounts.count (subst (λ (k : ℕ). RoseBy s.calls k calls') free (rw is at move.count));
    answers = answers_now h;
    cutoffs = inv.accounts.cutoffs;
    marked = marked;
    unmarked = unmarked;
    renewed = renewed s.ran (λ m a. a) (λ st kids values takes gives some. absurd (omega arith));
    unfired = inv.accounts.unfired;
  }

  -- or some
  called_some : called ≡ true → Calls F s n move.row.def last' true → 0 < cost_at G n → AccountsWith (n ∷ s.ran)
  called_some is h some = record {
    once = ((λ a. not_called n (inv.accounts.called n a) refl), inv.accounts.once);
    called = λ m a. called_more m a;
    costs = λ m a. costs_more m a;
    kept = λ m r row a. kept_other m r row (λ e. a (inl (sym e))) (λ x. a (inr x));
    count = subst (λ (k : ℕ). RoseBy z.calls k calls') (sym (sum_by-cons (cost_at G) n s.ran)) (more_on inv.accounts.count (rw is at move.count));
    answers = answers_now h;
    cutoffs = inv.accounts.cutoffs;
    marked = marked;
    unmarked = unmarked;
    renewed = renewed (n ∷ s.ran) (λ m a. inr a) (λ st kids values takes gives more. inl refl);
    unfired = inv.accounts.unfired;
  }
    where
      called_more : (m : NodeId) → Among m (n ∷ s.ran) → CalledNow m
      called_more m (inl e) = subst CalledNow (sym e) (now_called h)
      called_more m (inr a) = called_stays m (inv.accounts.called m a)

      costs_more : (m : NodeId) → Among m (n ∷ s.ran) → 0 < cost_at G m
      costs_more m (inl e) = subst (λ (y : NodeId). 0 < cost_at G y) (sym e) some
      costs_more m (inr a) = inv.accounts.costs m a

  accounts : (was : Bool) → called ≡ was → Calls F s n move.row.def last' was → Accounts F z after
  accounts false is h =
      subst AccountsWith (sym (ap (λ (b : Bool). ran_more n (calls_of b (cost_at G n)) s.ran) is)) (uncalled is h)
  accounts true is h = by_cost (cost_at G n) refl
    where
      ran_is : (k : ℕ) → cost_at G n ≡ k → ran_more n (calls_of called (cost_at G n)) s.ran ≡ ran_more n k s.ran
      ran_is k e = ap (λ (b : Bool). ran_more n (calls_of b (cost_at G n)) s.ran) is ∙ ap (λ (i : ℕ). ran_more n i s.ran) e

      by_cost : (k : ℕ) → cost_at G n ≡ k → Accounts F z after
      by_cost zero e = subst AccountsWith (sym (ran_is zero e)) (called_free is h e)
      by_cost (suc k) e = subst AccountsWith (sym (ran_is (suc k) e)) (called_some is h (omega (arith, e)))

  last_settled : LastSettled after
  last_settled q e = let same : main n ≡ q = cc in
      subst (λ (y : Point). at_point (main n) true s.settled y ≡ true) same (at_same (main n) true s.settled)

  pub main_keeps : Invariant F z after
  main_keeps = record {
    web = web;
    alive = alive;
    rows = rows;
    scoped = inv.scoped;
    rooted = inv.rooted;
    built = λ m r x row e. inv.built m r x row (sym (at_change m) ∙ e);
    waits = waits;
    fresh = fresh;
    settled = settled;
    strict = strict;
    last_settled = last_settled;
    met = inv.met;
    accounts = accounts called refl move.calls;
  }
