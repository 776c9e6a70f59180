use Rattle.std.proofs.Common.{◌≡◌, [], List, ℕ, refl, subst, sym, to_z, of_z, w64, arith, ◌∙◌}
use Rattle.std.proofs.lemmas.Int.{ints}
use Rattle.inc_value.specs.Choice.{NoRepeats}
use Rattle.inc_value.specs.declared.node.NodeId.{NodeId}
use Rattle.clock_nodes.specs.Keeping.{TellsOne, TellsDue}
use Rattle.clock_nodes.proofs.Stale.{none_told, one_more}
use Rattle.clock_nodes.proofs.settle.settle_due.Goals as goal

pub loop-init : goal.loop-init
loop-init c = record {
  awake = c.requires.awake;
  time = refl;
  spare = c.requires.spare;
  room = c.requires.room;
  told = none_told c.args.rows.now.entries (to_z w64 (of_z w64 c.args.before)) c.args.wheel.now.time c.args.due.now.items c.args.stale.now.items;
}

pub loop-preserved : goal.loop-preserved
loop-preserved c =
    let inv = c.loop.invariant in
    let e = c.settle_last.ensures in
    let before = to_z w64 (of_z w64 c.args.before) in
    let time = c.args.wheel.now.time in
    let step = e.told c.loop-test.true in
    let key = step.0 in
    let due = c.settle_last.new.due.items in
    let one : TellsOne c.args.rows.now.entries before time key c.loop.stale.items c.settle_last.new.stale.items
    = subst (λ t. TellsOne c.args.rows.now.entries before t key c.loop.stale.items c.settle_last.new.stale.items) inv.time step.2 in
    record {
      awake = e.awake;
      time = e.time ∙ inv.time;
      spare = e.spare;
      room = e.room;
      told = one_more c.args.rows.now.entries before time c.args.due.now.items due key c.args.stale.now.items c.loop.stale.items c.settle_last.new.stale.items
          (subst (λ (l : List ℕ). NoRepeats l) step.1 inv.awake.due_once)
          (subst (λ l. TellsDue c.args.rows.now.entries before time c.args.due.now.items l c.args.stale.now.items c.loop.stale.items) step.1 inv.told)
          one;
    }

pub returns-clause-told : goal.returns-clause-told
returns-clause-told c =
    let inv = c.loop.invariant in
    let e = c.settle_last.ensures in
    let time = c.args.wheel.now.time in
    let before : to_z w64 (of_z w64 c.args.before) ≡ c.args.before = omega (arith, ints, c.ranges.before) in
    subst (λ (l : List NodeId). TellsDue c.args.rows.now.entries c.args.before time c.args.due.now.items [] c.args.stale.now.items l) (sym (e.same c.loop-test.false))
    (subst (λ l. TellsDue c.args.rows.now.entries c.args.before time c.args.due.now.items l c.args.stale.now.items c.loop.stale.items) (e.none c.loop-test.false)
    (subst (λ b. TellsDue c.args.rows.now.entries b time c.args.due.now.items c.loop.due.items c.args.stale.now.items c.loop.stale.items) before inv.told))
