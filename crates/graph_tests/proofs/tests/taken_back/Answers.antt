use Rattle.std.proofs.Common.{refl}
use Rattle.graph.proofs.TakingBack.{below_still}
use Rattle.graph_tests.proofs.Keeping.{added_still, unscoped_after}
use Rattle.graph_tests.proofs.tests.taken_back.Goals as goal

pub back_to-requires : goal.back_to-requires
back_to-requires c =
    let first = added_still c.map.result c.args.graph.now c.map.new.self _ c.map.ensures.added c.map.ensures.err in
    let second = added_still c.map-2.result c.map.new.self c.map-2.new.self _ c.map-2.ensures.added c.map-2.ensures.err in
    record {
      unneeded = λ whole. below_still c.map.new.self c.map-2.new.self second _ (below_still c.args.graph.now c.map.new.self first _ c.in-Ok.ensures.needed);
      unscoped = λ whole. unscoped_after c.map-2.result c.map.new.self c.map-2.new.self _ _ c.map-2.ensures.added c.map-2.ensures.err refl
          (unscoped_after c.map.result c.args.graph.now c.map.new.self _ _ c.map.ensures.added c.map.ensures.err refl c.in-Ok.ensures.unscoped);
    }
