use Rattle.std.proofs.Common.{◌∙◌, ap, sym, subst, arith, vec_capacity}
use Rattle.necessity.specs.Counting.{AreSoundNeeds}
use Rattle.necessity.proofs.Idle.{idle_attach}
use Rattle.necessity.proofs.Starts.{length_more}
use Rattle.necessity.proofs.Reaching.{acyclic_more}
use Rattle.necessity.proofs.Sound.{on_err, rest_of_rows, needs_of_rows, counts_of_needs, roots_kept, sound_kept, attach_due, attach_due_room}
use Rattle.necessity.proofs.needs.Needs.attach.Goals as goal

pub invariant_of-self-in_err-add : goal.invariant_of-self-in_err-add
invariant_of-self-in_err-add c =
    let kept = sound_kept c.self.inside.links c.add.new.self c.self.inside.rows c.reserve-2.new.self c.self.inside.attached c.self.inside.waiting.items
    (vec_capacity c.self.inside.waiting) (vec_capacity c.reserve.new.self) c.self.invariant c.in_err-add.ensures.err
    c.reserve-2.ensures.rows c.reserve.ensures.capacity in
    subst (λ w. AreSoundNeeds c.add.new.self c.reserve-2.new.self c.self.inside.attached w (vec_capacity c.reserve.new.self)) (sym c.reserve.ensures.items) kept

pub returns-in_err-add-clause-roots : goal.returns-in_err-add-clause-roots
returns-in_err-add-clause-roots c = rw (← ap (λ w. w.roots) c.self.view_is) (
    roots_kept c.self.inside.rows c.reserve-2.new.self (
    counts_of_needs c.self.inside.rows c.reserve-2.new.self (needs_of_rows c.self.inside.rows c.reserve-2.new.self c.reserve-2.ensures.rows)))

pub returns-in_err-add-clause-err : goal.returns-in_err-add-clause-err
returns-in_err-add-clause-err c = rw (← ap (λ w. w.links) c.self.view_is) (on_err c.from_residual-in_err-add.result c.in_err-add.ensures.err)

pub recount_link-requires : goal.recount_link-requires
recount_link-requires c =
    let l = c.self.inside.links in
    let new = c.add.new.self in
    let m = c.reserve-2.new.self in
    let one = c.in_ok-add.ensures.added in
    let long = length_more l new c.args.p c.args.q one in
    let rest = rest_of_rows l c.self.inside.rows m c.reserve-2.ensures.rows c.self.invariant.at_rest in
    let room = attach_due_room l new m c.open.new.rows c.open-2.new.rows c.args.p c.args.q one rest c.open.ensures.held
    c.open.ensures.needs c.open.ensures.there c.open-2.ensures.held c.open-2.ensures.needs c.open-2.ensures.there in
    record {
      under_way = attach_due l new m c.open.new.rows c.open-2.new.rows c.args.p c.args.q one rest c.open.ensures.held
          c.open.ensures.needs c.open.ensures.there c.open-2.ensures.held c.open-2.ensures.needs c.open-2.ensures.there;
      fits = omega (arith, long, c.self.invariant.all, c.in_ok-reserve.ensures.ok, c.reserve.new.self.small);
      none_wait = c.reserve.ensures.items ∙ c.self.invariant.none_wait;
      room = omega (arith, room, long, c.self.invariant.all, c.in_ok-reserve.ensures.ok);
    }

pub invariant_of-self-2 : goal.invariant_of-self-2
invariant_of-self-2 c =
    let l = c.self.inside.links in
    let one = c.in_ok-add.ensures.added in
    let long = length_more l c.add.new.self c.args.p c.args.q one in
    let apart = rw (← c.self.view_is) at c.requires.acyclic in
    record {
      at_rest = c.recount_link.ensures.at_rest;
      acyclic = acyclic_more l c.add.new.self c.args.p c.args.q one c.self.invariant.acyclic apart;
      none_wait = c.recount_link.ensures.none_wait;
      all = omega (arith, long, c.self.invariant.all);
      fit = omega (arith, c.in_ok-reserve.ensures.ok, c.recount_link.ensures.capacity);
      no_idle_row = idle_attach l c.add.new.self c.args.p c.args.q one c.self.inside.rows c.reserve-2.new.self c.open.new.rows c.open-2.new.rows
          c.recount_link.new.rows c.self.invariant.no_idle_row c.reserve-2.ensures.rows c.open.ensures.needs c.open.ensures.others
          c.open-2.ensures.needs c.open-2.ensures.others c.recount_link.ensures.roots c.recount_link.ensures.rows;
    }

pub returns : goal.returns
returns c = record {
  link = rw (← ap (λ w. w.links) c.self.view_is) c.in_ok-add.ensures.added;
  roots = rw (← ap (λ w. w.roots) c.self.view_is) (roots_kept c.self.inside.rows c.recount_link.new.rows (λ k. c.recount_link.ensures.roots k
      ∙ ap (λ n. n.roots) (c.open-2.ensures.needs k ∙ c.open.ensures.needs k ∙ needs_of_rows c.self.inside.rows c.reserve-2.new.self c.reserve-2.ensures.rows k)));
  err = tt;
}
