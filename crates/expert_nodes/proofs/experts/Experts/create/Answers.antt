use Rattle.std.proofs.Common.{◌∙◌, Some, ap, subst}
use Rattle.point_map.specs.Rows.{Changes, at}
use Rattle.expert_nodes.specs.Experts.{ExpertChanges, expert_at}
use Rattle.expert_nodes.proofs.Seeing.{seen_changes}
use Rattle.expert_nodes.proofs.experts.Experts.create.Goals as goal

pub insert-requires-clause-absent : goal.insert-requires-clause-absent
insert-requires-clause-absent c =
    c.reserve.ensures.rows c.point_of.result ∙ ap (at c.self.inside.experts) c.point_of.ensures
    ∙ ap (λ places. expert_at places c.args.id) c.self.view_is ∙ c.requires.absent

pub returns-clause-created : goal.returns-clause-created
returns-clause-created c =
    let changes : Changes c.self.inside.experts c.insert.new.self c.point_of.result (Some c.new.result) = record {
      changed = c.insert.ensures.changes.changed;
      others = λ q d. c.insert.ensures.changes.others q d ∙ c.reserve.ensures.rows q;
    } in
    subst (λ e. ExpertChanges c.args.self.now c.insert.new.self.places c.args.id (Some e)) c.new.ensures
    (seen_changes c.self.inside.experts c.insert.new.self c.args.self.now c.args.id c.point_of.result (Some c.new.result) c.self.view_is c.point_of.ensures changes)
