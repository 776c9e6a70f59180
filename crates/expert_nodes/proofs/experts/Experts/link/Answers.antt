use Rattle.std.proofs.Common.{◌↔◌, ◌≤◌, length, subst, sym}
use Rattle.std.specs.Prelude.{IsErrOf}
use Rattle.std.proofs.lemmas.Result.{on_ok_weaker}
use Rattle.point_map.specs.Rows.{at}
use Rattle.expert_nodes.specs.declared.expert.LinkFault.TheVariants.{LinksFull}
use Rattle.expert_nodes.specs.Experts.{Expert, kids_of_expert, with_link}
use Rattle.expert_nodes.proofs.Seeing.{expert_is, on_err_to, some_mut, there_at, written_as, written_same}
use Rattle.expert_nodes.proofs.experts.Experts.link.Goals as goal

pub unwrap-expert-requires : goal.unwrap-expert-requires
unwrap-expert-requires c = some_mut c.get_mut.result (at c.self.inside.experts c.point_of.result) c.get_mut.ensures.value
    (there_at c.self.inside.experts c.args.self.now c.args.id c.point_of.result c.self.view_is c.point_of.ensures c.requires.created)

pub returns-clause-linked : goal.returns-clause-linked
returns-clause-linked c =
    let was = rw c.unwrap-expert.ensures at c.get_mut.ensures.value in
    let written = rw c.unwrap-expert.ensures at (c.get_mut.follows.holds c.link.new.self) in
    on_ok_weaker c.link.result (λ e. written_as c.self.inside.experts _ c.args.self.now c.args.id c.point_of.result c.unwrap-expert.result.now c.link.new.self c.self.view_is
    c.point_of.ensures was written.changes (with_link c.args.kid) e) c.link.ensures.linked

pub returns-clause-full : goal.returns-clause-full
returns-clause-full c =
    let was = rw c.unwrap-expert.ensures at c.get_mut.ensures.value in
    subst (λ (e : Expert). IsErrOf c.link.result LinksFull ↔ (4096 ≤ length (kids_of_expert e)))
    (sym (expert_is c.self.inside.experts c.args.self.now c.args.id c.point_of.result c.unwrap-expert.result.now c.self.view_is c.point_of.ensures was))
    c.link.ensures.full

pub returns-clause-err : goal.returns-clause-err
returns-clause-err c =
    let was = rw c.unwrap-expert.ensures at c.get_mut.ensures.value in
    let written = rw c.unwrap-expert.ensures at (c.get_mut.follows.holds c.link.new.self) in
    on_err_to c.link.result (written_same c.self.inside.experts _ c.args.self.now c.args.id c.point_of.result c.unwrap-expert.result.now c.link.new.self c.self.view_is
    c.point_of.ensures was written.changes) c.link.ensures.err
