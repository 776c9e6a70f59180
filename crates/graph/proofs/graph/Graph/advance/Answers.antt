use Rattle.std.proofs.Common.{◌≡◌, ◌<ℤ◌, ℤ, Err, sym, ap, subst, ◌∙◌, arith, to_z, of_z, w64}
use Rattle.std.specs.Prelude.{IsErrOf, OnOk, ◌↔◌}
use Rattle.std.proofs.lemmas.Int.{ints}
use Rattle.clock_nodes.specs.declared.clock.AdvanceFault.TheVariants as advance
use Rattle.timed_nodes.specs.Timed.{IsMovedTo}
use Rattle.graph.proofs.Moving.{Passes, passed_back, passed_fault, moved_fit, moved_freezes, answer_moves, answer_stays}
use Rattle.graph.proofs.Sound.{sound_but_heap}
use Rattle.graph.proofs.graph.Graph.advance.Goals as goal
use Rattle.graph.proofs.graph.Graph.advance.Goals.{in-Ok, in-Err}

pub invariant_of-self : goal.invariant_of-self
invariant_of-self g c = (
  sound_but_heap _ c.self.inside.parts c.advance.new.self c.self.inside.observers.made c.self.inside.rooted c.self.inside.since c.self.inside.refused c.self.invariant.0
      (rw (← c.self.view_is) at c.in_ok-check.ensures.unbroken) c.advance.ensures.stays
      (let a = c.advance.ensures in
      moved_freezes c.self.inside.parts c.advance.new.self _ c.advance.result a.moved a.err a.stays.rows c.self.inside.since),
  c.self.invariant.1,
  (let a = c.advance.ensures in
      moved_fit (g.F.Functions.known c.self.inside.functions) (g.F.Functions.right c.self.inside.functions) c.self.inside.parts c.advance.new.self _
      c.advance.result a.moved a.err c.self.invariant.2),
)

pub returns-clause-back : goal.returns-clause-back
returns-clause-back g c =
    let same : to_z w64 (of_z w64 c.args.to) ≡ c.args.to = omega (arith, ints, c.ranges.to) in
    rw (← c.self.view_is) (passed_back c.advance.result c.match-advance.result
    (elim c.match-advance.branch [
      | in-Ok w ↦ subst (λ r. Passes r c.match-advance.result) (sym w.in-Ok.is) w.result-is
      | in-Err w ↦ subst (λ r. Passes r c.match-advance.result) (sym w.in-Err.is) (w.result-is ∙ ap Err w.advance_fault.ensures)
    ]) (subst (λ (t : ℤ). IsErrOf c.advance.result advance.Back ↔ (t <ℤ c.self.inside.parts.arena.time)) same c.advance.ensures.back)
    (rw (← c.self.view_is) at c.in_ok-check.ensures.unbroken))

pub returns-clause-fault : goal.returns-clause-fault
returns-clause-fault g c = passed_fault c.advance.result c.match-advance.result
    (elim c.match-advance.branch [
      | in-Ok w ↦ subst (λ r. Passes r c.match-advance.result) (sym w.in-Ok.is) w.result-is
      | in-Err w ↦ subst (λ r. Passes r c.match-advance.result) (sym w.in-Err.is) (w.result-is ∙ ap Err w.advance_fault.ensures)
    ])

pub returns-clause-moved : goal.returns-clause-moved
returns-clause-moved g c =
    let same : to_z w64 (of_z w64 c.args.to) ≡ c.args.to = omega (arith, ints, c.ranges.to) in
    rw (← c.self.view_is) (answer_moves c.self.inside.functions c.self.inside.parts c.advance.new.self
    c.self.inside.observers c.self.inside.rooted c.self.inside.since c.self.inside.refused c.args.to c.advance.result c.match-advance.result
    (elim c.match-advance.branch [
      | in-Ok w ↦ subst (λ r. Passes r c.match-advance.result) (sym w.in-Ok.is) w.result-is
      | in-Err w ↦ subst (λ r. Passes r c.match-advance.result) (sym w.in-Err.is) (w.result-is ∙ ap Err w.advance_fault.ensures)
    ]) c.advance.ensures.stays
    (subst (λ (t : ℤ). OnOk c.advance.result (IsMovedTo c.self.inside.parts.arena c.advance.new.self.arena t)) same c.advance.ensures.moved))

pub returns-clause-err : goal.returns-clause-err
returns-clause-err g c = rw (← c.self.view_is) (answer_stays c.self.inside.functions c.self.inside.parts c.advance.new.self
    c.self.inside.observers c.self.inside.rooted c.self.inside.since c.self.inside.refused c.advance.result c.match-advance.result
    (elim c.match-advance.branch [
      | in-Ok w ↦ subst (λ r. Passes r c.match-advance.result) (sym w.in-Ok.is) w.result-is
      | in-Err w ↦ subst (λ r. Passes r c.match-advance.result) (sym w.in-Err.is) (w.result-is ∙ ap Err w.advance_fault.ensures)
    ]) c.advance.ensures.err)
