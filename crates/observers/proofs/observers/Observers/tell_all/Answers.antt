use Rattle.std.proofs.Common.{inl, arith}
use Rattle.observers.proofs.Keeping.{kept_after}
use Rattle.observers.specs.Keeping.{AwaitingAreDue}
use Rattle.observers.proofs.Lists.{within}
use Rattle.observers.proofs.observers.Observers.tell_all.Goals as goal

pub finish-requires-clause-covers : goal.finish-requires-clause-covers
finish-requires-clause-covers g c i o there =
    let made = c.self.inside.made in
    let lt = within made.items i o there in
    let len = c.len.ensures in
    let few = c.self.invariant.3 in
    inl (c.put_below.ensures.there i (omega (arith, lt, len, made.ok.0)) (omega (arith, lt, few)))

pub invariant_of-self : goal.invariant_of-self
invariant_of-self g c =
    let made = c.self.inside.made.items in
    let keeps = c.self.invariant in
    let waiting : AwaitingAreDue made c.put_below.new.self.places = λ i o there e. c.put_below.ensures.stay i (keeps.1 i o there e) in
    let round = c.finish.ensures in
    let kept = kept_after (g.S.Sight.shows c.args.sight.now) c.finish.result c.self.inside.looking made c.finish.new.made.items c.put_below.new.self.places
    c.finish.new.due.places round.made round.made_stay round.stay keeps.0 waiting keeps.2 in
    let few = kept.few in
    let w1 = c.put_below.ensures.width in
    let w2 = round.width in (
      kept.looks,
      kept.waiting,
      kept.told,
      (let a = keeps.3 in omega (arith, a, few, w1, w2)),
      (let a = keeps.4 in omega (arith, a, few)),
      round.settled_none,
      round.told_none,
      round.rooms,
    )
