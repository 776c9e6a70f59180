use Rattle.std.proofs.Common.{inr, Some, refl, sym, subst, ◌∙◌}
use Rattle.inc_terms.specs.Code.{def_of}
use Rattle.inc_terms.specs.Depend.{main}
use Rattle.inc_value.specs.declared.node.Point.{Point}
use Rattle.link_table.specs.Links.{Reads}
use Rattle.wiring.proofs.Detaching.{detached, detached_off, off_none}
use Rattle.wiring.proofs.work.Work.drop_right.Goals as goal

pub returns-then-reads-clause-detached : goal.returns-then-reads-clause-detached
returns-then-reads-clause-detached c =
    detached_off c.args.self.now c.enqueue.new.self c.unlink.new.self c.set_stage.new.rows c.args.node c.in-Some.target (def_of c.args.def.now) _ _
    c.main-p.ensures c.main-q.ensures c.enqueue.ensures.enqueued c.enqueue.ensures.rest c.set_stage.ensures c.unlink.ensures.rest
    (sym c.in-Some.is ∙ c.right_side.ensures) c.unlink.ensures.unlinked

pub returns-else-reads-clause-detached : goal.returns-else-reads-clause-detached
returns-else-reads-clause-detached c =
    detached c.args.self.now c.enqueue.new.self _ c.args.node (def_of c.args.def.now) (Some c.in-Some.target) _ c.main-p.ensures
    c.enqueue.ensures.enqueued c.enqueue.ensures.rest c.set_stage.ensures refl (sym c.in-Some.is ∙ c.right_side.ensures)
    (inr (
      refl,
      λ reads. absurd (
          let r : Reads c.enqueue.new.self.graph.links c.main-p.result c.main-q.result =
          subst (λ (x : Point). Reads c.enqueue.new.self.graph.links x c.main-q.result) (sym c.main-p.ensures)
          (subst (λ (y : Point). Reads c.enqueue.new.self.graph.links (main c.args.node) y) (sym c.main-q.ensures) reads) in
          let t = c.if-reads.ensures.1 r in cc),
    ))

pub returns-in_default-clause-detached : goal.returns-in_default-clause-detached
returns-in_default-clause-detached c =
    detached c.args.self.now c.enqueue.new.self _ c.args.node (def_of c.args.def.now) c.right_side.result _ c.main-p.ensures
    c.enqueue.ensures.enqueued c.enqueue.ensures.rest c.set_stage.ensures refl c.right_side.ensures
    (off_none _ c.enqueue.new.self.graph c.args.node c.right_side.result c.in_default.not-Some)
