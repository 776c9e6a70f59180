use Rattle.std.proofs.Common.{[], ◌∷◌, length, length-append, arith, refl, ap, subst, ◌∙◌}
use Rattle.inc_value.specs.declared.node.Point.{Point}
use Rattle.timed_nodes.specs.Timed.{Timed}
use Rattle.stabilizer.specs.declared.parts.Parts.{Parts}
use Rattle.wiring.specs.Wiring.{IsMarked}
use Rattle.wiring.specs.declared.work.Work.{Work}
use Rattle.stabilizer.proofs.Between.Advancing.{scheduling_begins, scheduling_more}
use Rattle.stabilizer.proofs.parts.Parts.schedule_stale.Goals as goal

pub loop-node-init : goal.loop-node-init
loop-node-init c = record {
  so = scheduling_begins c.args.self.now.work.graph c.args.self.now.timed.stale c.requires.step;
  rest = refl;
}

pub loop-node-preserved : goal.loop-node-preserved
loop-node-preserved c =
    let old = c.args.self.now in
    let now = c.loop-node.self in
    let i = c.loop-node.invariant in
    let s = c.schedule.ensures in
    record {
      so = scheduling_more old.work.graph now.work.graph c.schedule.new.self.graph old.timed.stale now.timed.stale c.next_stale.new.self.stale
          c.in-Some.node i.so c.in-Some.ensures.some
          (subst (λ (p : Point). IsMarked now.work.graph c.schedule.new.self.graph p) c.main.ensures s.scheduled) s.step;
      rest = ap (λ (w : Work). record now { timed = c.next_stale.new.self; work = w }) s.rest
          ∙ (ap (λ (t : Timed). record now { timed = t; work = record now.work { graph = c.schedule.new.self.graph } }) c.next_stale.ensures.rest
          ∙ ap (λ (p : Parts). record p {
            timed = record p.timed { stale = c.next_stale.new.self.stale };
            work = record p.work { graph = c.schedule.new.self.graph };
          }) i.rest);
    }

pub loop-node-smaller : goal.loop-node-smaller
loop-node-smaller c =
    let one = ap length c.in-Some.ensures.some ∙ length-append c.next_stale.new.self.stale (c.in-Some.node ∷ []) in omega (arith, one)
