use Rattle.necessary_graph.proofs.Bags.{first_read}
use Rattle.base_tests.proofs.needed_graph.unlink_first.Goals as goal

pub unlink-requires : goal.unlink-requires
unlink-requires c = record { linked = first_read c.args.graph.now.links c.args.p c.in-Some.kid _ _ c.in-Some.ensures.steps c.kids.ensures }
