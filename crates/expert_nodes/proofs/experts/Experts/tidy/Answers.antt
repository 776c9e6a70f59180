use Rattle.point_map.specs.Rows.{at}
use Rattle.expert_nodes.specs.Experts.{tidied}
use Rattle.expert_nodes.proofs.Seeing.{some_mut, there_at, written_as}
use Rattle.expert_nodes.proofs.experts.Experts.tidy.Goals as goal

pub unwrap-expert-requires : goal.unwrap-expert-requires
unwrap-expert-requires c = some_mut c.get_mut.result (at c.self.inside.experts c.point_of.result) c.get_mut.ensures.value
    (there_at c.self.inside.experts c.args.self.now c.args.id c.point_of.result c.self.view_is c.point_of.ensures c.requires.created)

pub returns : goal.returns
returns c =
    let was = rw c.unwrap-expert.ensures at c.get_mut.ensures.value in
    let written = rw c.unwrap-expert.ensures at (c.get_mut.follows.holds c.tidy.new.self) in
    written_as c.self.inside.experts _ c.args.self.now c.args.id c.point_of.result c.unwrap-expert.result.now c.tidy.new.self c.self.view_is
    c.point_of.ensures was written.changes tidied c.tidy.ensures
