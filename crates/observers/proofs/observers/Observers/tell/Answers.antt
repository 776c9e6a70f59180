use Rattle.std.proofs.Common.{◌≡◌, sym, subst, Some, arith}
use Rattle.std.specs.Prelude.{slice_get}
use Rattle.observers.specs.Observers.{IsCurrent}
use Rattle.observers.specs.Keeping.{AwaitingAreDue, CoversNews, LooksAll}
use Rattle.observers.proofs.Covering.{covered}
use Rattle.observers.proofs.Keeping.{kept_after}
use Rattle.observers.proofs.observers.Observers.tell.Goals as goal

pub finish-requires-clause-covers : goal.finish-requires-clause-covers
finish-requires-clause-covers g c =
    let S = g.S.Sight.shows c.args.sight.now in
    let made = c.self.inside.made.items in
    let due = c.gather.new.due.places in
    let keeps = c.self.invariant in
    let waiting : AwaitingAreDue made due = λ i o there e. c.gather.ensures.stay i (keeps.1 i o there e) in
    let covers : CoversNews made c.args.news.now due = λ i o there used new.
    c.gather.ensures.covers i o (subst (λ m. slice_get m i ≡ Some o) (sym c.deref.ensures.value) there) used new in
    covered S made c.args.news.now due waiting covers keeps.2 (subst (λ s. IsCurrent S c.args.news.now s.made) (sym c.self.view_is) c.requires.current)

pub invariant_of-self : goal.invariant_of-self
invariant_of-self g c =
    let made = c.self.inside.made.items in
    let keeps = c.self.invariant in
    let looks : LooksAll made c.gather.new.looking = λ i o there used.
    c.gather.ensures.looks i o (subst (λ m. slice_get m i ≡ Some o) (sym c.deref.ensures.value) there) used in
    let waiting : AwaitingAreDue made c.gather.new.due.places = λ i o there e. c.gather.ensures.stay i (keeps.1 i o there e) in
    let round = c.finish.ensures in
    let kept = kept_after (g.S.Sight.shows c.args.sight.now) c.finish.result c.gather.new.looking made c.finish.new.made.items c.gather.new.due.places
    c.finish.new.due.places round.made round.made_stay round.stay looks waiting keeps.2 in
    let few = kept.few in
    let w1 = c.gather.ensures.width in
    let w2 = round.width in (
      kept.looks,
      kept.waiting,
      kept.told,
      (let a = keeps.3 in omega (arith, a, few, w1, w2)),
      (let a = keeps.4 in omega (arith, a, few)),
      round.settled_none,
      round.told_none,
      round.rooms,
    )
