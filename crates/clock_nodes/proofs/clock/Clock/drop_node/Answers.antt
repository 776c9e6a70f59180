use Rattle.std.proofs.Common.{None, sym, subst}
use Rattle.inc_value.specs.Choice.{Among, NoRepeats}
use Rattle.timing_wheel.specs.Alarms.{keys_of}
use Rattle.clock_nodes.proofs.Awake.{changes_row, off_awake, but_left, but_stays, but_once}
use Rattle.clock_nodes.proofs.clock.Clock.drop_node.Goals as goal

pub invariant_of-self : goal.invariant_of-self
invariant_of-self c =
    let rows = c.self.inside.rows.entries in
    let w = c.self.inside.wheel in
    let key = c.args.id.gen_ in
    let off = c.disarm.ensures.off in (
      off_awake rows c.remove-watch.new.self.entries w c.disarm.new.wheel key c.self.invariant.0
          (changes_row rows c.remove-watch.new.self.entries key None c.remove-watch.ensures.updates.0)
          c.disarm.ensures.time
          (λ a h. but_left key w.alarms a (subst (Among a) off h))
          (λ a h other. subst (Among a) (sym off) (but_stays key w.alarms a h other))
          (subst (λ l. NoRepeats (keys_of l)) (sym off) (but_once key w.alarms c.self.invariant.0.single)),
      c.self.invariant.1,
    )
