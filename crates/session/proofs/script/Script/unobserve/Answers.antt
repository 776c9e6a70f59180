use Rattle.std.proofs.Common.{refl, ap}
use Rattle.session.proofs.Ended.{ended_sound, ended_stands, is_looking}
use Rattle.session.proofs.script.Script.unobserve.Goals as goal

pub end_observer-requires-clause-in_use : goal.end_observer-requires-clause-in_use
end_observer-requires-clause-in_use g c =
    is_looking _ c.self.invariant c.in-Some.position c.swap_remove-observer.result c.swap_remove-observer.ensures.value

pub invariant_of-self : goal.invariant_of-self
invariant_of-self g c =
    rw (ap (λ fs. fs.bodies.items) c.end_observer.ensures.top.functions) (ended_sound _ c.self.inside.graph c.end_observer.new.self refl c.self.invariant c.args.name.now c.in-Some.position
    c.swap_remove-observer.result c.in-Some.ensures.found c.in-Some.ensures.first c.swap_remove-observer.ensures.value
    c.end_observer.ensures c.end.new.self c.swap_remove-observer.new.self.items c.end.ensures c.swap_remove-observer.ensures.items)

pub returns-clause-ended : goal.returns-clause-ended
returns-clause-ended g c =
    let unbroken = rw (← c.self.view_is) at c.requires.unbroken in
    rw (← c.self.view_is, ap (λ fs. fs.bodies.items) c.end_observer.ensures.top.functions) (ended_stands _ c.self.inside.graph c.end_observer.new.self refl c.self.invariant c.args.name.now c.in-Some.position
    c.swap_remove-observer.result c.in-Some.ensures.found c.in-Some.ensures.first c.swap_remove-observer.ensures.value
    c.end_observer.ensures c.end.new.self c.swap_remove-observer.new.self.items c.end.ensures c.swap_remove-observer.ensures.items unbroken)
