use Rattle.graph_tests.proofs.Keeping.{refused_breaks}
use Rattle.graph_tests.proofs.tests.stabilized_or_back.Goals as goal

pub back_to-requires : goal.back_to-requires
back_to-requires c =
    record {
      unneeded = λ whole. absurd (refused_breaks _ c.args.graph.now c.stabilize.new.self c.stabilize.result _ c.in-Err-stabilize.is
          c.stabilize.ensures.refused (λ cause is. (c.stabilize.ensures.broken cause).0 is) c.stabilize.ensures.unchanged whole);
      unscoped = λ whole. absurd (refused_breaks _ c.args.graph.now c.stabilize.new.self c.stabilize.result _ c.in-Err-stabilize.is
          c.stabilize.ensures.refused (λ cause is. (c.stabilize.ensures.broken cause).0 is) c.stabilize.ensures.unchanged whole);
    }
