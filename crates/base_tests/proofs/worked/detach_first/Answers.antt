use Rattle.necessary_graph.proofs.Bags.{first_read}
use Rattle.base_tests.proofs.worked.detach_first.Goals as goal

pub detach-requires : goal.detach-requires
detach-requires c = record { there = first_read c.args.needs.now.links c.args.p c.in-Some.kid _ _ c.in-Some.ensures.steps c.kids.ensures }
