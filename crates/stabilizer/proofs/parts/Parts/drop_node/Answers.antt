use Rattle.std.proofs.Common.{◌≡◌, None, refl, ap, subst}
use Rattle.inc_value.specs.declared.node.NodeId.{NodeId}
use Rattle.point_map.specs.Rows.{Rows}
use Rattle.timed_nodes.specs.Timed.{KeepsClock}
use Rattle.stabilizer.specs.declared.parts.Parts.{Parts}
use Rattle.wiring.specs.Places.{ChangesNode}
use Rattle.wiring.specs.declared.work.Work.{Work}
use Rattle.timed_nodes.proofs.Watching.{clock_dropped}
use Rattle.stabilizer.proofs.Between.Dropping.{dropped_parts, dropped_ready}
use Rattle.stabilizer.proofs.parts.Parts.drop_node.Goals as goal

module _ (c : goal.After-forget_roots) where
  abbrev old : Parts
  old = c.args.self.now

  abbrev mid : Work
  mid = c.drop_node-2.new.self

  abbrev new : Parts
  new = record old { arena = c.drop_node.new.self; timed = c.forget.new.self; work = record mid { roots = c.forget_roots.new.roots } }

  rest : new.work ≡ record old.work { graph = new.work.graph; rows = new.work.rows; roots = new.work.roots; experts = new.work.experts }
  rest = ap (λ (w : Work). record w { roots = c.forget_roots.new.roots }) c.drop_node-2.ensures.rest

  rights : ChangesNode old.work.roots new.work.roots c.args.id (λ part. None)
  rights = subst (λ (roots : Rows NodeId). ChangesNode roots c.forget_roots.new.roots c.args.id (λ part. None))
      (ap (λ (w : Work). w.roots) c.drop_node-2.ensures.rest) c.forget_roots.ensures

  clock : KeepsClock new.arena new.timed
  clock = clock_dropped old.arena new.arena old.timed new.timed c.args.id c.requires.kept.clock c.forget.ensures c.drop_node.ensures.dropped
      c.drop_node.ensures.given

pub returns : goal.returns
returns c =
    let a = c.drop_node.ensures in
    let d = c.drop_node-2.ensures in
    let right_sides = rights c in
    let kept = dropped_parts (old c) (new c) c.args.id c.requires.kept c.requires.unneeded c.requires.unscoped a.dropped a.given d.rows d.dropped
    (rights c) d.stays.links d.stays.roots d.heap d.stays.step a.sound d.expert (rest c) refl refl (clock c) refl in
    let ready = dropped_ready (old c) (new c) c.args.id c.requires.kept c.requires.unneeded c.requires.unscoped a.dropped a.given d.rows d.dropped
    (rights c) d.stays.links d.stays.roots d.heap d.stays.step a.sound d.expert (rest c) refl refl (clock c) refl in
    let experts = d.expert.others in
    assumption (right_sides, experts, kept, ready, a, d)
