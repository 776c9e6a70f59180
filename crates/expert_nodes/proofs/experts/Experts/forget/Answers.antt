use Rattle.std.proofs.Common.{None}
use Rattle.expert_nodes.proofs.Seeing.{seen_changes, there_at}
use Rattle.expert_nodes.proofs.experts.Experts.forget.Goals as goal

pub remove-requires : goal.remove-requires
remove-requires c = record {
  there = there_at c.self.inside.experts c.args.self.now c.args.id c.point_of.result c.self.view_is c.point_of.ensures c.requires.created;
}

pub returns : goal.returns
returns c =
    seen_changes c.self.inside.experts c.remove.new.self c.args.self.now c.args.id c.point_of.result None c.self.view_is c.point_of.ensures c.remove.ensures.changes
