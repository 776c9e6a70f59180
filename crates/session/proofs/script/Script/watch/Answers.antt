use Rattle.std.proofs.Common.{ap, arith, length, refl}
use Rattle.graph.specs.Standing.{GraphView}
use Rattle.session.proofs.Ended.{is_looking}
use Rattle.session.proofs.Watched.{as_many, watched_sound, watched_stands}
use Rattle.session.proofs.script.Script.watch.Goals as goal

pub watch_observer-requires-clause-in_use : goal.watch_observer-requires-clause-in_use
watch_observer-requires-clause-in_use g c = is_looking _ c.self.invariant c.in-Some.position c.at.result c.at.ensures

pub invariant_of-self : goal.invariant_of-self
invariant_of-self g c =
    rw (ap (λ (h : GraphView _). h.functions.bodies.items) c.watch_observer.ensures.rest)
    (watched_sound _ c.self.inside.graph c.watch_observer.new.self refl c.at.result c.watch_observer.ensures c.self.invariant)

pub returns-clause-watched : goal.returns-clause-watched
returns-clause-watched g c =
    rw (← c.self.view_is, ap (λ (h : GraphView _). h.functions.bodies.items) c.watch_observer.ensures.rest)
    (watched_stands _ c.self.inside.graph c.watch_observer.new.self refl c.at.result c.watch_observer.ensures c.args.name.now c.in-Some.position
    c.at.ensures c.in-Some.ensures.found)

pub returns-clause-beside : goal.returns-clause-beside
returns-clause-beside g c =
    let rest = c.watch_observer.ensures.rest in
    rw (← c.self.view_is) (record {
      library = ap (λ (h : GraphView _). h.functions.library) rest;
      builds = ap (λ (h : GraphView _). h.functions.builds) rest;
      accepted = refl;
      broken = refl;
      given = let same = ap (λ (h : GraphView _). h.nodes.given) rest in omega (arith, same);
      bodies = let same = ap (λ (h : GraphView _). length h.functions.bodies.items) rest in omega (arith, same);
      watching = let same = as_many _ c.self.inside.graph c.watch_observer.new.self refl c.at.result c.watch_observer.ensures c.self.invariant in omega (arith, same);
    })
