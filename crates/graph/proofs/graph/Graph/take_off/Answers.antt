use Rattle.std.proofs.Common.{false}
use Rattle.std.specs.Prelude.{IsTrue}
use Rattle.graph.proofs.Asking.{not_there}
use Rattle.graph.proofs.graph.Graph.take_off.Goals as goal

no_truth : IsTrue false → ⊥
no_truth e = cc

pub returns-in-Err-clause-there : goal.returns-in-Err-clause-there
returns-in-Err-clause-there g c = (
  (λ e. absurd (no_truth e)),
  (λ among. absurd (not_there c.args.self.now c.unlink.new.self c.args.expert c.args.node c.requires.unbroken c.requires.given c.requires.is_expert
      c.in-Err.field-0 c.in-Err.ensures among)),
)
