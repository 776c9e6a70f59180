use Rattle.wiring.proofs.TakingAll.{takes_nothing, takes_both}
use Rattle.wiring.proofs.work.Work.take_off_along.Goals as goal

pub loop-p-init : goal.loop-p-init
loop-p-init c = takes_nothing c.args.arena.now c.args.self.now c.requires.kept

pub loop-p-preserved : goal.loop-p-preserved
loop-p-preserved c =
    takes_both c.args.arena.now c.args.self.now c.loop-p.self c.take_off_at.new.self c.loop-p.invariant c.take_off_at.ensures
