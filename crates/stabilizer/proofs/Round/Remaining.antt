-- Outcomes that moves leave as they were: those of mains that weren't settled.
use Rattle.std.proofs.Common.{◌≡◌, ◌⊎◌, inl, inr, true, Option, Some, refl, sym, ap, subst, ◌∙◌, arith}
use Rattle.std.proofs.lemmas.Option.{none-some}
use Rattle.inc_value.specs.declared.node.NodeId.{NodeId}
use Rattle.inc_value.specs.declared.node.Part.TheVariants.{Main, Change}
use Rattle.inc_value.specs.declared.node.Point.{Point}
use Rattle.inc_value.specs.declared.outcome.Outcome.{Outcome}
use Rattle.inc_value.specs.Choice.{here, step}
use Rattle.inc_terms.specs.Depend.{main, change}
use Rattle.inc_terms.specs.Graph.{Row}
use Rattle.inc_terms.specs.Term.{Functions}
use Rattle.inc_terms.specs.Within.{Given}
use Rattle.stabilize_round.specs.Machine.{Move, step_main, step_change, link, link_new, root, root_new, raise, finish, schedule, cut, rebuild, level}
use Rattle.stabilize_round.specs.Machine.{spend, Moves, Stops, as_it_is, unbuilt, unkept}
use Rattle.stabilize_round.specs.State.{State, Start, at_point}
use Rattle.stabilize_round.proofs.Machine.{moves_settled}
use Rattle.stabilize_round.proofs.Points.{same_or_other, at_same, at_other}
use Rattle.stabilize_round.proofs.Runs.{lived, run_grows}
use Rattle.stabilize_round.proofs.Staying.{move_given, moves_rest}

-- a live main of before has its outcome, or is settled
abbrev OutStays : State → State → NodeId → Type 0
OutStays s t n = (r : Row) → t.graph.row n ≡ Some r → Given s.given n → (t.settled (main n) ≡ true) ⊎ (t.out (main n) ≡ s.out (main n))

moved : (s u t : State) (n : NodeId) → t ≡ u → OutStays s u n → OutStays s t n
moved s u t n e h = subst (λ (x : State). OutStays s x n) (sym e) h

other_part : (b n : NodeId) → change b ≡ main n → ⊥
other_part b n h = let x : Change ≡ Main = ap (λ (p : Point). p.part) h in absurd (cc)

settled_out : (s : State) (p : Point) (o : Option Outcome) (n : NodeId)
    → (at_point p true s.settled (main n) ≡ true) ⊎ (at_point p o s.out (main n) ≡ s.out (main n))
settled_out s p o n = elim (same_or_other p (main n)) [
  | inl is ↦ inl (subst (λ (y : Point). at_point p true s.settled y ≡ true) is (at_same p true s.settled))
  | inr other ↦ inr (at_other p o s.out (main n) other)
]

module _ (F : Functions) (z : Start) where
  move_out : (s t : State) (n : NodeId) → Move F z s t → OutStays s t n
  move_out s t n (step_main {n = m} {o} quiet k e) = moved s _ t n e (λ r row given. settled_out s (main m) (Some o) n)
  move_out s t n (step_change {n = m} {o} quiet k e) = moved s _ t n e (λ r row given. settled_out s (change m) (Some o) n)
  move_out s t n (link k need e) = moved s _ t n e (λ r row given. inr refl)
  move_out s t n (link_new k need h e) = moved s _ t n e (λ r row given. inr refl)
  move_out s t n (root need e) = moved s _ t n e (λ r row given. inr refl)
  move_out s t n (root_new given need h e) = moved s _ t n e (λ r row given. inr refl)
  move_out s t n (raise k e) = moved s _ t n e (λ r row given. inr refl)
  move_out s t n (finish k e) = moved s _ t n e (λ r row given. inr refl)
  move_out s t n (schedule k e) = moved s _ t n e (λ r row given. inr refl)
  move_out s t n (cut d w e) = moved s _ t n e (λ r row given. inr refl)
  move_out s t n (rebuild {b} k built count e) = moved s _ t n e (λ r row given. inr (k.beside.out (main n) r row given (other_part b n)))
  move_out s t n (level k e) = moved s _ t n e (λ r row given. inr refl)
  move_out s t n (spend u h e) = moved s _ t n e (λ r row given. inr refl)

  pub moves_out : (s t : State) (n : NodeId) (r : Row) → Moves F z s t → t.graph.row n ≡ Some r → Given s.given n
      → (t.settled (main n) ≡ true) ⊎ (t.out (main n) ≡ s.out (main n))
  moves_out s t n r here row given = inr refl
  moves_out s t n r (step {b = u} m rest) row given =
      let grows = move_given F z s u m in
      let there : Given u.given n = omega (arith, grows, given) in
      elim ((moves_rest F z u t rest).rows n there) [
        | inr dead ↦ absurd (none-some r (sym dead ∙ row))
        | inl same ↦ elim (moves_out u t n r rest row there) [
          | inl settled ↦ inl settled
          | inr stays ↦ elim (move_out s u n m r (sym same ∙ row) given) [
            | inl settled ↦ inl (moves_settled F z u t rest (main n) settled)
            | inr stayed ↦ inr (stays ∙ stayed)
          ]
        ]
      ]

  -- so it is where moves stop
  pub stopped_out : (s t u : State) (n : NodeId) (r : Row) → Moves F z s t → Stops F z t u → u.graph.row n ≡ Some r → Given s.given n
      → (u.settled (main n) ≡ true) ⊎ (u.out (main n) ≡ s.out (main n))
  stopped_out s t u n r run (as_it_is e) row given = subst (λ (x : State). (x.settled (main n) ≡ true) ⊎ (x.out (main n) ≡ s.out (main n))) (sym e)
      (moves_out s t n r run (ap (λ (x : State). x.graph.row n) (sym e) ∙ row) given)
  stopped_out s t u n r run (unkept quiet taken at due count e) row given =
      subst (λ (x : State). (x.settled (main n) ≡ true) ⊎ (x.out (main n) ≡ s.out (main n))) (sym e)
      (moves_out s t n r run (ap (λ (x : State). x.graph.row n) (sym e) ∙ row) given)
  stopped_out s t u n r run (unbuilt {b} {now} {m} move none empty count e) row given =
      let there : Given t.given n = omega (arith, run_grows F z s t run, given) in
      let row' : m.graph.row n ≡ Some r = ap (λ (x : State). x.graph.row n) (sym e) ∙ row in
      let was = (lived F z t b now m move n r there row').1 in
      let out = move.beside.out (main n) r row' there (other_part b n) in
      subst (λ (x : State). (x.settled (main n) ≡ true) ⊎ (x.out (main n) ≡ s.out (main n))) (sym e)
      (elim (moves_out s t n r run was given) [ inl settled ↦ inl settled | inr stays ↦ inr (out ∙ stays) ])
