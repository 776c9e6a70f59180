use Rattle.std.proofs.Common.{◌≡◌, ◌∙◌, Some, is_some, sym, ap, subst}
use Rattle.timing_wheel.specs.Places.{place_of}
use Rattle.timing_wheel.specs.Timers.{IsPending}
use Rattle.timing_wheel.specs.Levels.{timers_of}
use Rattle.timing_wheel.proofs.Keeping.{queue_pending, pending_queue, pending_has, has_pending}
use Rattle.timing_wheel.proofs.Rows.{some_of}
use Rattle.timing_wheel.proofs.levels.Levels.is_pending.Goals as goal

pub returns : goal.returns
returns c =
    let lists = c.self.inside.lists.lists in
    let find = place_of c.self.inside.places in (
      λ yes.
          let is = some_of (find c.args.key) (let e = c.holds.ensures in let e' = yes in cc) in
          let k = c.self.invariant.1.found c.args.key is.0 is.1 in
          subst (λ w. IsPending w.timers c.args.key) c.self.view_is
          (pending_queue (timers_of lists) c.args.key (has_pending lists c.args.key k.at is.0 k.timer k.has k.same)),
      λ pending.
          let h = pending_has lists c.args.key (queue_pending (timers_of lists) c.args.key (subst (λ w. IsPending w.timers c.args.key) (sym c.self.view_is) pending)) in
          let k = c.self.invariant.1.kept h.0 h.1 h.2 h.3 in
          let there : find c.args.key ≡ Some h.1 = ap find (sym h.4) ∙ k in
          (let e = c.holds.ensures in let s = ap is_some there in cc),
    )
