use Rattle.std.proofs.Common.{[], arith, refl}
use Rattle.std.proofs.lemmas.Option.{slice_get_within}
use Rattle.session.proofs.Telling.{named_at, named_nowhere}
use Rattle.session.proofs.script.Script.observer_name.Goals as goal

pub observer_at-requires : goal.observer_at-requires
observer_at-requires g c =
    let there = rw c.in-Some.is at c.position.ensures.there in
    let low = slice_get_within c.self.inside.observers.items c.in-Some.position c.args.observer there in
    let each = c.self.invariant.one_observer_each in omega (arith, low, each)

pub returns-in-Some : goal.returns-in-Some
returns-in-Some g c =
    let there = rw c.in-Some.is at c.position.ensures.there in
    rw (← c.self.view_is) (
      named_at _ _ c.args.observer _ c.position.ensures.found c.in-Some.position c.in-Some.is c.observer_at.result.now c.observer_at.ensures,
      λ absent. absurd (absent c.in-Some.position there),
    )

pub returns-in-None : goal.returns-in-None
returns-in-None g c =
    rw (← c.self.view_is) (named_nowhere _ _ c.args.observer _ c.position.ensures.found c.in-None.is [], λ absent. refl)
