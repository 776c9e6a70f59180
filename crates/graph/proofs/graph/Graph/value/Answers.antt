use Rattle.std.proofs.Common.{Err, refl, sym, ap, ◌∙◌}
use Rattle.std.proofs.lemmas.Option.{none-some}
use Rattle.graph.proofs.Observing.{showing_of, unshown_late, late_unshown}
use Rattle.graph.proofs.graph.Graph.value.Goals as goal

pub returns-in-Ok-clause-shown : goal.returns-in-Ok-clause-shown
returns-in-Ok-clause-shown g c =
    let whole = rw (← c.self.view_is) at c.in_ok-check.ensures.unbroken in
    let s = showing_of c.self.inside.observers.made c.args.observer.0 c.in-Ok.outcome.now c.in-Ok.ensures.shown in
    rw (← c.self.view_is) (s.one.node, s.looks, (c.self.invariant.0.unbroken whole).shown s.one c.in-Ok.outcome.now s.among s.used s.shown)

pub returns-in-Ok-clause-not_stabilized : goal.returns-in-Ok-clause-not_stabilized
returns-in-Ok-clause-not_stabilized g c = rw (← c.self.view_is) (
  (λ e. absurd (cc)),
  (λ h. absurd (none-some c.in-Ok.outcome.now (sym (late_unshown c.self.inside.observers.made c.self.inside.rooted c.args.observer.0
      c.self.invariant.0.later h.2) ∙ c.in-Ok.ensures.shown))),
)

pub returns-in-Err-NotStabilized-clause-not_stabilized : goal.returns-in-Err-NotStabilized-clause-not_stabilized
returns-in-Err-NotStabilized-clause-not_stabilized g c =
    let whole = rw (← c.self.view_is) at c.in_ok-check.ensures.unbroken in
    let none = c.in-Err-NotStabilized.ensures.not_stabilized.0 (ap Err c.in-Err-NotStabilized.field-0-is) in
    rw (← c.self.view_is) (
      (λ e. (whole, none.0, unshown_late c.self.inside.observers.made c.self.inside.rooted c.args.observer.0 c.self.invariant.0.showing none.0 none.1)),
      (λ h. refl),
    )
