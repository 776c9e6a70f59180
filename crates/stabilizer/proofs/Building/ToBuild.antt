-- A bind's change that was taken, where the bind isn't built for what its left shows: the bind is due, and no gate of what is to die ran.
use Rattle.std.proofs.Common.{◌≡◌, ◌⊎◌, inl, inr, ℕ, ◌≤◌, true, false, List, Option, None, Some, refl, sym, ap, subst, ◌∙◌, arith}
use Rattle.std.specs.Prelude.{is_some}
use Rattle.inc_value.specs.declared.function.FnRef.{FnRef}
use Rattle.inc_value.specs.declared.node.NodeId.{NodeId}
use Rattle.inc_value.specs.declared.node.Part.TheVariants.{Change}
use Rattle.inc_value.specs.declared.node.Point.{Point}
use Rattle.inc_value.specs.declared.outcome.Outcome.{Outcome}
use Rattle.inc_value.specs.declared.outcome.Outcome.TheVariants.{Val, Invalid}
use Rattle.inc_value.specs.declared.value.Value.TheVariants as value
use Rattle.inc_value.specs.Choice.{Among}
use Rattle.inc_terms.specs.Depend.{main, change, subject_of, fixed_reads}
use Rattle.inc_terms.specs.Evaluate.{Around, Gives}
use Rattle.inc_terms.specs.Evaluate.{Stands as ScopeStands}
use Rattle.inc_terms.specs.Graph as graph
use Rattle.inc_terms.specs.Graph.{Graph, Row, Built}
use Rattle.inc_terms.specs.Local.{shown, shown_of, Exact, HasRun, Sees}
use Rattle.inc_terms.specs.Plan.{gate_of}
use Rattle.inc_terms.specs.Rebuild.{Inside, direct, nested, IsDue}
use Rattle.inc_terms.specs.Term.{Functions}
use Rattle.inc_terms.proofs.Evaluation.{one_outcome}
use Rattle.inc_terms.proofs.Local.{main_sees}
use Rattle.inc_terms.proofs.Plan.{among_left, among_right}
use Rattle.inc_terms.proofs.Rebuild.{inside_falls}
use Rattle.point_map.specs.Rows.{Rows, at}
use Rattle.height_order.specs.Levels.{level, or_zero}
use Rattle.necessary_graph.specs.Part.{NecessaryPart}
use Rattle.node_arena.specs.Arena.{row_at}
use Rattle.stabilize_round.specs.Invariant.{Invariant}
use Rattle.stabilize_round.specs.Moves.{Quiet, IsLeast}
use Rattle.stabilize_round.specs.State.{State, Start, Full}
use Rattle.stabilize_round.proofs.Low.{plan_links}
use Rattle.stabilize_round.proofs.Parts.{bool_cases}
use Rattle.stabilize_round.proofs.Points.{same_or_other}
use Rattle.stabilize_round.proofs.Ready.{ready, is_due}
use Rattle.node_outcomes.specs.Choosing.{built_by}
use Rattle.node_outcomes.specs.Computing.{seen, seen_of}
use Rattle.node_outcomes.specs.Row.{outcome_in}
use Rattle.node_outcomes.specs.Progress.{Progress}
use Rattle.node_outcomes.proofs.Held.{built_live, built_parts}
use Rattle.wiring.specs.Kept.{IsKept}
use Rattle.wiring.specs.Stands.{MatchesState, Counts}
use Rattle.wiring.specs.declared.work.Work.{Work}
use Rattle.wiring.proofs.Sight.{main_there}
use Rattle.stabilizer.specs.Dying.{StandsBefore, GatesWait}
use Rattle.stabilizer.specs.Rebuilding.{IsToBuild}
use Rattle.stabilizer.specs.declared.parts.Parts.{Parts}

-- ---- a bind that is due

module _ (F : Functions) (z : Start) (s : State) (inv : Invariant F z s) (b : NodeId) (now : Outcome) (due : IsDue F s.graph b now) where
  not_exact : Exact F s.graph s.out (change b) → ⊥
  not_exact x =
      let sub : subject_of due.row.def ≡ Some due.left = rw due.is_bind refl in
      let run : HasRun F s.graph s.out b (graph.Bind due.left due.function due.captures) due.left = rw due.is_bind at
      ((x due.row due.is_row).1 due.left sub) in
      let w = run.3 in
      let same : run.0 ≡ now = one_outcome F s.graph _ run.0 now run.2 due.gives in
      due.changed w.0 w.1 (w.2 ∙ same)

  -- its change wasn't settled
  pub due_unsettled : s.settled (change b) ≡ false
  due_unsettled = elim (bool_cases (s.settled (change b))) [
    | inl is ↦ absurd (not_exact (inv.settled.done (change b) is).exact)
    | inr e ↦ e
  ]

  -- nor was that of a bind inside its scope
  inner_unsettled : (c : NodeId) → Inside s.graph b c → s.settled (change c) ≡ false
  inner_unsettled c i = elim (bool_cases (s.settled (change c))) [
    | inl is ↦
        let d = inv.settled.done (change c) is in
        let f = inside_falls F s.graph b now due c i in
        let same : f.0 ≡ d.row = (let x = f.1 in let y = d.is_row in cc) in
        let fell : Gives F s.graph (Around d.row.scope) Invalid = rw (← same) f.2 in
        let stands : ScopeStands F s.graph d.row.scope = (d.exact d.row d.is_row).0 in
        let e = one_outcome F s.graph (Around d.row.scope) Invalid (Val (value.Bool true)) fell stands in
        absurd (cc)
    | inr e ↦ e
  ]

  -- no gate inside ran
  pub gates_wait : GatesWait s b
  gates_wait n c r (direct {r = r'} row scope) row' scope' =
      let same : r' ≡ r = cc in
      let is : Some b ≡ Some c = sym scope ∙ (ap (λ (x : Row). x.scope) same ∙ scope') in
      let bind : b ≡ c = cc in
      subst (λ (x : NodeId). s.settled (change x) ≡ false) bind due_unsettled
  gates_wait n c r (nested {r = r'} {c = d} row scope i) row' scope' =
      let same : r' ≡ r = cc in
      let is : Some d ≡ Some c = sym scope ∙ (ap (λ (x : Row). x.scope) same ∙ scope') in
      let bind : d ≡ c = cc in
      subst (λ (x : NodeId). s.settled (change x) ≡ false) bind (inner_unsettled d i)

-- ---- by what the parts keep

by_row : (o : Option Outcome) (x : Option Progress) (y : Option Row) → ((k : Progress) → x ≡ Some k → o ≡ k.outcome) → is_some x ≡ is_some y
    → shown_of y o ≡ seen_of x
by_row o None None out e = refl
by_row o (Some k) (Some r) out e = out k refl
by_row o None (Some r) out e = absurd (cc)
by_row o (Some k) None out e = absurd (cc)

known_seen : (x : Option Outcome) (o now : Outcome) → x ≡ Some o → (x ≡ Some now) ⊎ ((x ≡ None) × (now ≡ Invalid)) → x ≡ Some now
known_seen x o now is (inl e) = e
known_seen x o now is (inr e) = absurd (let h : None ≡ Some o = sym e.0 ∙ is in cc)

module _ (F : Functions) (z : Start) (s : State) (inv : Invariant F z s) (quiet : Quiet s) (old : Parts) (counts : Counts) (b : NodeId)
    (kept : IsKept old.arena old.work) (before : StandsBefore old counts s b) where
  abbrev W : Work
  W = before.work

  st : MatchesState old.arena W counts None s
  st = before.stands

  rows_as : old.work.rows ≡ W.rows
  rows_as = ap (λ (w : Work). w.rows) before.taken.rest

  heights_as : old.work.graph.heights ≡ W.graph.heights
  heights_as = ap (λ (g : NecessaryPart). g.heights) before.taken.graph

  -- the change is the least of the heap
  lowest : (q : Point) → s.heap q ≡ true → (x : Option ℕ) → at W.graph.heap q ≡ x → s.height (change b) ≤ s.height q
  lowest q h None e = absurd (let k : s.heap q ≡ false = st.heap q ∙ ap is_some e in cc)
  lowest q h (Some k) e = elim (same_or_other (change b) q) [
    | inl is ↦ subst (λ (x : Point). s.height (change b) ≤ s.height x) is (omega arith)
    | inr ne ↦
        let own : at old.work.graph.heap q ≡ Some k = before.taken.heap.others q (λ e. ne (sym e)) ∙ e in
        let height : at W.graph.heights q ≡ Some k = sym (ap (λ (m : Rows ℕ). at m q) heights_as) ∙ (kept.step.heap q k own).0 in
        let low : level W.graph.heights (change b) ≤ k = before.taken.least q k e in
        let mine : s.height (change b) ≡ level W.graph.heights (change b) =
        st.height (change b) ((st.needed (change b)).0 (inv.web.heap (change b) (st.heap (change b) ∙ before.taken.held))) in
        let its : s.height q ≡ k = st.height q ((st.needed q).0 (inv.web.heap q h)) ∙ ap or_zero height in
        omega (arith, low, mine, its)
  ]

  pub least : IsLeast s (change b)
  least = record { heap = st.heap (change b) ∙ before.taken.held; least = λ q h. lowest q h (at W.graph.heap q) refl }

  row_is : (n : NodeId) → s.graph.row n ≡ row_at old.arena n
  row_is n = ap (λ (G : Graph). G.row n) st.graph

  -- what is seen of a node is what the state shows
  sees : (n : NodeId) → shown s.graph s.out (main n) ≡ seen old.work.rows (main n)
  sees n = ap (λ (x : Option Row). shown_of x (s.out (main n))) (row_is n)
      ∙ by_row (s.out (main n)) (at old.work.rows (main n)) (row_at old.arena n)
      (λ k e. st.out (main n) k (subst (λ (m : Rows Progress). at m (main n) ≡ Some k) rows_as e))
      (kept.rows (main n) ∙ main_there (row_at old.arena n))

  module _ (f : FnRef) (captures : List NodeId) (now : Outcome) (to : IsToBuild old b f captures now) where
    row : s.graph.row b ≡ Some to.row
    row = row_is b ∙ to.is_row

    left_seen : Sees F s.graph s.out to.left
    left_seen =
        let k = ready F z s inv quiet (change b) least in
        let same : k.row ≡ to.row = (let x = k.is_row in let y = row in cc) in
        let def = to.is_bind in
        let reads : Among (main to.left) (fixed_reads s.graph b k.row.def Change) = rw (same, def) (inl refl) in
        let link = plan_links F z s inv quiet (change b) (main to.left) k.row Full k.is_row k.full (inv.web.heap (change b) least.heap)
        (among_right (main to.left) (gate_of k.row.scope) _ (among_left (main to.left) (fixed_reads s.graph b k.row.def Change) _ reads)) in
        main_sees F s.graph s.out to.left (k.exact (main to.left) link)

    shows : shown s.graph s.out (main to.left) ≡ Some now
    shows = let k = left_seen in
        sees to.left ∙ known_seen (seen old.work.rows (main to.left)) k.0 now (sym (sees to.left) ∙ k.1) to.sees

    changed : (w : Built) → s.graph.built b ≡ Some w → w.outcome ≡ now → ⊥
    changed w is same =
        let e : built_by to.row.def (outcome_in (at W.rows (change b))) (at W.roots (change b)) ≡ Some w =
        sym (built_live W.rows W.roots b old.arena W.experts to.row to.is_row) ∙ (sym (ap (λ (G : Graph). G.built b) st.graph) ∙ is) in
        let o = (built_parts to.row.def (outcome_in (at W.rows (change b))) (at W.roots (change b)) w e).0 in
        to.differs (ap (λ (m : Rows Progress). outcome_in (at m (change b))) rows_as ∙ (o ∙ ap (λ (x : Outcome). Some x) same))

    -- the bind is due
    pub due : IsDue F s.graph b now
    due = is_due F z s inv quiet b least to.row to.left f captures row to.is_bind now shows changed
