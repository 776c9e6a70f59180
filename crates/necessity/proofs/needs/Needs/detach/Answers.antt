use Rattle.std.proofs.Common.{◌∙◌, ap, arith}
use Rattle.necessity.proofs.Idle.{idle_detach}
use Rattle.necessity.proofs.Starts.{length_more}
use Rattle.necessity.proofs.Reaching.{acyclic_fewer}
use Rattle.necessity.proofs.Sound.{roots_kept, detach_due, detach_due_room}
use Rattle.necessity.proofs.needs.Needs.detach.Goals as goal

pub recount_link-requires : goal.recount_link-requires
recount_link-requires c =
    let l = c.self.inside.links in
    let new = c.remove.new.self in
    let one = c.remove.ensures.removed in
    let long = length_more new l c.args.p c.args.q one in
    let room = detach_due_room l new c.self.inside.rows c.args.p c.args.q one c.self.invariant.at_rest in
    record {
      under_way = detach_due l new c.self.inside.rows c.args.p c.args.q one c.self.invariant.at_rest;
      fits = omega (arith, long, c.self.invariant.all, c.self.invariant.fit, c.self.inside.waiting.small);
      none_wait = c.self.invariant.none_wait;
      room = omega (arith, room, c.self.invariant.all, c.self.invariant.fit);
    }

pub invariant_of-self : goal.invariant_of-self
invariant_of-self c =
    let one = c.remove.ensures.removed in
    let long = length_more c.remove.new.self c.self.inside.links c.args.p c.args.q one in
    record {
      at_rest = c.forget-2.ensures.at_rest;
      acyclic = acyclic_fewer c.remove.new.self c.self.inside.links c.args.p c.args.q one c.self.invariant.acyclic;
      none_wait = c.recount_link.ensures.none_wait;
      all = omega (arith, long, c.self.invariant.all);
      fit = omega (arith, c.self.invariant.fit, c.recount_link.ensures.capacity);
      no_idle_row = idle_detach c.remove.new.self c.self.inside.links c.args.p c.args.q one c.self.inside.rows c.recount_link.new.rows
          c.forget.new.rows c.forget-2.new.rows c.self.invariant.no_idle_row c.recount_link.ensures.roots c.recount_link.ensures.rows
          c.forget.ensures.needs c.forget.ensures.rows c.forget.ensures.gone
          c.forget-2.ensures.needs c.forget-2.ensures.rows c.forget-2.ensures.gone;
    }

pub returns : goal.returns
returns c = record {
  link = rw (← ap (λ w. w.links) c.self.view_is) c.remove.ensures.removed;
  roots = rw (← ap (λ w. w.roots) c.self.view_is) (roots_kept c.self.inside.rows c.forget-2.new.rows (λ k.
      ap (λ n. n.roots) (c.forget-2.ensures.needs k ∙ c.forget.ensures.needs k) ∙ c.recount_link.ensures.roots k));
}
