use Rattle.std.proofs.Common.{refl}
use Rattle.inc_terms.specs.Depend.{main}
use Rattle.wiring.proofs.Placing.{on_and_off}
use Rattle.wiring.proofs.work.Work.add_single.Goals as goal

-- without memory for a list the main comes and goes
pub returns-in-Err-clause-err_heights : goal.returns-in-Err-clause-err_heights
returns-in-Err-clause-err_heights c =
    on_and_off c.args.self.now.graph.heights c.add.new.self.graph.heights c.add.new.self.graph.heights c.drop_point.new.self.graph.heights
    (main c.args.node) _ _ _ c.main.ensures c.main-in-Err.ensures c.requires.no_main.0 c.in-Ok.ensures.added (λ p. refl) c.drop_point.ensures.dropped
