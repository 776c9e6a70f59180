use Rattle.std.proofs.Common.{refl, ap}
use Rattle.wiring.specs.Graph.{rowless}
use Rattle.wiring.specs.declared.work.Work.{Work}
use Rattle.stabilizer.proofs.Round.Freezing.{reads_still, taken_off}
use Rattle.stabilizer.proofs.parts.Parts.freeze.Goals as goal

pub unlink-requires : goal.unlink-requires
unlink-requires c = record {
  linked = reads_still (rowless (record c.args.self.now.work { rows = c.freeze.new.rows })) c.args.self.now.work.graph c.root_off.new.self.graph
      c.args.node c.args.kid c.main-p.result c.main.result c.main-p.ensures c.main.ensures c.root_off.ensures.unrooted
      (c.is_needed.ensures.0 c.if-is_needed.true) c.requires.reads;
}

pub returns-then-is_needed-clause-off : goal.returns-then-is_needed-clause-off
returns-then-is_needed-clause-off c = taken_off c.freeze.new.rows c.root_off.new.self.rows c.unlink.new.self.rows c.args.self.now.work.graph
    c.root_off.new.self.graph c.unlink.new.self.graph c.args.node c.args.kid c.main-p.result c.main.result c.main-p.ensures c.main.ensures
    (ap (λ (w : Work). w.rows) c.root_off.ensures.rest) (ap (λ (w : Work). w.rows) c.unlink.ensures.rest) c.root_off.ensures.unrooted
    c.root_off.ensures.step (λ need. c.unlink.ensures.unlinked) (λ no. absurd (no (c.is_needed.ensures.0 c.if-is_needed.true)))

pub returns-else-is_needed-clause-off : goal.returns-else-is_needed-clause-off
returns-else-is_needed-clause-off c = taken_off c.freeze.new.rows c.root_off.new.self.rows c.root_off.new.self.rows c.args.self.now.work.graph
    c.root_off.new.self.graph c.root_off.new.self.graph c.args.node c.args.kid c.main-p.result _ c.main-p.ensures refl
    (ap (λ (w : Work). w.rows) c.root_off.ensures.rest) refl c.root_off.ensures.unrooted
    c.root_off.ensures.step (λ need. absurd (let t = c.is_needed.ensures.1 need in let f = c.if-is_needed.false in cc)) (λ no. refl)
