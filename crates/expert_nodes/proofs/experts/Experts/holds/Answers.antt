use Rattle.std.proofs.Common.{◌∙◌, ap}
use Rattle.std.specs.Prelude.{is_some}
use Rattle.point_map.specs.Rows.{at}
use Rattle.expert_nodes.specs.Experts.{expert_at}
use Rattle.expert_nodes.proofs.experts.Experts.holds.Goals as goal

pub returns : goal.returns
returns c = c.holds.ensures ∙ ap (λ p. is_some (at c.self.inside.experts p)) c.point_of.ensures
    ∙ ap (λ places. is_some (expert_at places c.args.id)) c.self.view_is
