-- A bind is built at most once in a round.
use Rattle.std.proofs.Common.{◌≡◌, inl, inr, Bool, List, None, Some, refl, sym, subst, ap, ◌∙◌, arith}
use Rattle.inc_value.specs.declared.function.FnRef.{FnRef}
use Rattle.inc_value.specs.declared.node.NodeId.{NodeId}
use Rattle.inc_value.specs.declared.node.Point.{Point}
use Rattle.inc_value.specs.declared.node.Part.TheVariants.{Change}
use Rattle.inc_value.specs.declared.outcome.Outcome.{Outcome}
use Rattle.inc_value.specs.Choice.{Among, here, step}
use Rattle.inc_terms.specs.Term.{Functions}
use Rattle.inc_terms.specs.Graph as graph
use Rattle.inc_terms.specs.Graph.{Graph, Row, Def}
use Rattle.inc_terms.specs.Evaluate.{NodeGives}
use Rattle.inc_terms.specs.Rebuild.{IsDue}
use Rattle.inc_terms.specs.Within.{Given, Fit}
use Rattle.inc_terms.specs.Depend.{main, change, fixed_reads, subject_of}
use Rattle.inc_terms.specs.Local.{IsBuilt}
use Rattle.inc_terms.specs.Plan.{gate_of}
use Rattle.inc_terms.proofs.Evaluation.{one_outcome}
use Rattle.inc_terms.proofs.Within.{functions_within}
use Rattle.inc_terms.proofs.Rebuild.{same_after}
use Rattle.inc_terms.proofs.Depending.{subject_given}
use Rattle.inc_terms.proofs.Local.{main_sees}
use Rattle.inc_terms.proofs.Plan.{among_left, among_right}
use Rattle.stabilize_round.specs.State.{State, Start, Full}
use Rattle.stabilize_round.specs.Invariant.{Invariant}
use Rattle.stabilize_round.specs.Moves.{Quiet, changed, StepChange}
use Rattle.stabilize_round.specs.Machine.{Move, step_main, step_change, link, link_new, root, root_new, raise, finish, schedule, cut, rebuild, level}
use Rattle.stabilize_round.specs.Machine.{spend, Moves}
use Rattle.stabilize_round.specs.Laws.{BuiltRight}
use Rattle.stabilize_round.proofs.Points.{node_or_other}
use Rattle.stabilize_round.proofs.Low.{plan_links}
use Rattle.stabilize_round.proofs.Ready.{ready}
use Rattle.stabilize_round.proofs.Staying.{move_given}

not_due : (F : Functions) (G : Graph) (b : NodeId) (now : Outcome) → BuiltRight F G b → IsDue F G b now → ⊥
not_due F G b now (inl none) due = let e = due.is_row in let x : None ≡ Some due.row = sym none ∙ e in cc
not_due F G b now (inr h) due =
    let e = due.is_row in let e' = h.5 in
    let same : due.row ≡ h.0 = cc in
    let d = due.is_bind in let d' = h.6 in
    let defs : graph.Bind due.left due.function due.captures ≡ graph.Bind h.1 h.2 h.3 = sym d ∙ ap (λ (r : Row). r.def) same ∙ d' in
    let lefts : due.left ≡ h.1 = cc in
    due.changed h.4 h.7 (one_outcome F G _ h.4.outcome now h.8 (subst (λ (y : NodeId). NodeGives F G y now) lefts due.gives))

at : (F : Functions) (b : NodeId) (u t : State) → t ≡ u → BuiltRight F u.graph b → BuiltRight F t.graph b
at F b u t e h = subst (λ (x : State). BuiltRight F x.graph b) (sym e) h

move_built : (F : Functions) (z : Start) (s t : State) (b : NodeId) → Move F z s t → Given s.given b → BuiltRight F s.graph b → BuiltRight F t.graph b
move_built F z s t b (step_main quiet m e) p h = at F b _ t e h
move_built F z s t b (step_change quiet m e) p h = at F b _ t e h
move_built F z s t b (link m need e) p h = at F b _ t e h
move_built F z s t b (link_new m need k e) p h = at F b _ t e h
move_built F z s t b (root need e) p h = at F b _ t e h
move_built F z s t b (root_new given need k e) p h = at F b _ t e h
move_built F z s t b (raise m e) p h = at F b _ t e h
move_built F z s t b (finish m e) p h = at F b _ t e h
move_built F z s t b (schedule m e) p h = at F b _ t e h
move_built F z s t b (cut d w e) p h = at F b _ t e h
move_built F z s t b (rebuild {b = c} {now} {m = made} m built count e) p h = at F b _ t e (elim (m.rebuilt.rows b p) [
  | inl dead ↦ inl dead.1
  | inr lives ↦ by_state lives.0 lives.1 h
])
  where
    by_state : (Rattle.inc_terms.specs.Rebuild.Inside s.graph c b → ⊥) → made.graph.row b ≡ s.graph.row b → BuiltRight F s.graph b
        → BuiltRight F made.graph b
    by_state out row (inl none) = inl (row ∙ none)
    by_state out row (inr h) = elim (node_or_other b c) [
      | inl is ↦ absurd (not_due F s.graph b now (inr h) (subst (λ (y : NodeId). IsDue F s.graph y now) (sym is) m.due))
      | inr ne ↦
          let sub : subject_of h.0.def ≡ Some h.1 = ap (λ (d : Def). subject_of d) h.6 in
          let given = subject_given F (Given s.given) (Fit s.given z.known z.ids)
          (functions_within F z.known z.ids
          (Given s.given) m.given.laws) s.graph made.graph m.given.names c now m.due m.rebuilt b h.0 h.1 h.5 sub in
          inr (
            h.0,
            h.1,
            h.2,
            h.3,
            h.4,
            row ∙ h.5,
            h.6,
            m.rebuilt.built b p ne out ∙ h.7,
            same_after F (Given s.given) (Fit s.given z.known z.ids)
                (functions_within F z.known z.ids
                (Given s.given) m.given.laws) s.graph made.graph m.given.names c now m.due m.rebuilt h.1 given h.4.outcome h.8,
          )
    ]
move_built F z s t b (level m e) p h = at F b _ t e h
move_built F z s t b (spend u k e) p h = at F b _ t e h

moves_built : (F : Functions) (z : Start) (s t : State) (b : NodeId) → Moves F z s t → Given s.given b → BuiltRight F s.graph b
    → BuiltRight F t.graph b
moves_built F z s t b here p h = h
moves_built F z s t b (step {b = u} m rest) p h = let g = move_given F z s u m in
    moves_built F z u t b rest (omega arith) (move_built F z s u b m p h)

-- a bind's change that is taken leaves it built for what its left gives
taken_built : (F : Functions) (z : Start) (s : State) (inv : Invariant F z s) (quiet : Quiet s) (b : NodeId) (o : Outcome) (todo' : Point → Bool)
    (move : StepChange F s b o todo') (r : Row) (l : NodeId) (f : FnRef)
    (caps : List NodeId) → s.graph.row b ≡ Some r → r.def ≡ graph.Bind l f caps → BuiltRight F s.graph b
taken_built F z s inv quiet b o todo' move r l f caps row def =
    let k = ready F z s inv quiet (change b) move.taken in
    let mine = k.is_row in let its = move.is_row in
    let same : k.row ≡ r = cc in
    let same' : move.row ≡ r = cc in
    let sub : subject_of r.def ≡ Some l = ap (λ (d : Def). subject_of d) def in
    let sub' : subject_of r.def ≡ Some move.subject = ap (λ (x : Row). subject_of x.def) (sym same') ∙ move.is_subject in
    let left : move.subject ≡ l = cc in
    let reads : Among (main l) (fixed_reads s.graph b k.row.def Change) = rw (same, def) (inl refl) in
    let l' = plan_links F z s inv quiet (change b) (main l) k.row Full k.is_row k.full (inv.web.heap (change b) move.taken.heap)
    (among_right (main l) (gate_of k.row.scope) _ (among_left (main l) (fixed_reads s.graph b k.row.def Change) _ reads)) in
    let sees = main_sees F s.graph s.out l (k.exact (main l) l') in
    let a = sees.1 in
    let seen = move.seen in
    let is : sees.0 ≡ o = (let x = subst (λ (y : NodeId). Rattle.inc_terms.specs.Local.shown s.graph s.out (main y) ≡ Some o) left seen in cc) in
    let built : IsBuilt F s.graph b (graph.Bind l f caps) o = rw def at (rw same' at move.built) in
    inr (r, l, f, caps, built.0, row, def, built.1, rw (built.2, ← is) sees.2)

pub builds_once : (F : Functions) (z : Start) (t u : State) (inv : Invariant F z t) (b : NodeId) (o : Outcome) (todo' : Point → Bool) (r : Row)
    (l : NodeId) (f : FnRef) (caps : List NodeId) → Quiet t
    → StepChange F t b o todo' → t.graph.row b ≡ Some r → r.def ≡ graph.Bind l f caps → Given t.given b → Moves F z (changed t b o todo') u
    → (now : Outcome) → IsDue F u.graph b now → ⊥
builds_once F z t u inv b o todo' r l f caps quiet move row def given moves now due =
    not_due F u.graph b now (moves_built F z (changed t b o todo') u b moves given
    (taken_built F z t inv quiet b o todo' move r l f caps row def)) due
