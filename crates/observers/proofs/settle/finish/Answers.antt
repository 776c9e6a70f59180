use Rattle.std.proofs.Common.{◌++◌, ◌∙◌, ap, inl, inr, None, arith, vec_capacity}
use Rattle.observers.specs.Keeping.{distinct, notices_at, put_all, settled_at}
use Rattle.observers.proofs.Climbing.{all_put, all_told, covers_distinct, distinct_climbs, from_zero}
use Rattle.observers.proofs.settle.finish.Goals as goal

pub returns-in-Ok-clause-made : goal.returns-in-Ok-clause-made
returns-in-Ok-clause-made g c =
    let S = g.S.Sight.shows c.args.sight.now in
    let made = c.args.made.now.items in
    let due = c.sort.new.self.places in
    let settled = c.in-Ok.ensures.settled
    ∙ ap (λ l. l ++ settled_at S c.deref.result.now (distinct None c.places.result.now)) c.requires.settled_none
    ∙ ap (λ m. settled_at S m (distinct None c.places.result.now)) c.deref.ensures.value
    ∙ ap (λ d. settled_at S made (distinct None d)) c.places.ensures.places in
    let all = covers_distinct S made due (λ i o there. elim (c.requires.covers i o there) [ inl a ↦ inl (c.sort.ensures.stay i a) | inr q ↦ inr q ]) in
    c.put_settled.ensures.made ∙ ap (λ l. put_all l made) settled ∙ all_put S made (distinct None due) (distinct_climbs due c.sort.ensures.ordered) all

pub returns-in-Ok-clause-notices : goal.returns-in-Ok-clause-notices
returns-in-Ok-clause-notices g c =
    let S = g.S.Sight.shows c.args.sight.now in
    let made = c.args.made.now.items in
    let due = c.sort.new.self.places in
    let told = c.in-Ok.ensures.told
    ∙ ap (λ l. l ++ notices_at S c.deref.result.now (distinct None c.places.result.now)) c.requires.told_none
    ∙ ap (λ m. notices_at S m (distinct None c.places.result.now)) c.deref.ensures.value
    ∙ ap (λ d. notices_at S made (distinct None d)) c.places.ensures.places in
    let all = covers_distinct S made due (λ i o there. elim (c.requires.covers i o there) [ inl a ↦ inl (c.sort.ensures.stay i a) | inr q ↦ inr q ]) in
    ap (λ v. v.items) c.swap.ensures.x_after ∙ told ∙ from_zero S made (distinct None due)
    ∙ all_told S 0 made (distinct None due) (distinct_climbs due c.sort.ensures.ordered) all

pub returns-in-Ok-clause-rooms : goal.returns-in-Ok-clause-rooms
returns-in-Ok-clause-rooms g c =
    let w1 = c.sort.ensures.width in
    let w2 = c.clear.ensures.width in
    let r = c.requires.rooms in
    record {
      settled_room = (let a = r.settled_room in let b = c.put_settled.ensures.capacity in let d = c.settle_due.ensures.settled_capacity in omega (arith, a, b, d, w1, w2));
      told_room = (let a = r.notices_room in let b = c.clear-in-Ok.ensures.capacity in let d = ap (λ v. vec_capacity v) c.swap.ensures.y_after in omega (arith, a, b, d, w1, w2));
      notices_room = (let a = r.told_room in let b = c.settle_due.ensures.notices_capacity in let d = ap (λ v. vec_capacity v) c.swap.ensures.x_after in omega (arith, a, b, d, w1, w2));
    }
