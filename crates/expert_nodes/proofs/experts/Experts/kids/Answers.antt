use Rattle.std.proofs.Common.{◌≡◌, ◌∙◌, Some, ap, sym}
use Rattle.std.specs.Prelude.{option_copied}
use Rattle.point_map.specs.Rows.{at}
use Rattle.expert_nodes.specs.Experts.{Expert, kids_of_expert}
use Rattle.expert_nodes.proofs.Seeing.{expert_is, some_ref, there_at}
use Rattle.expert_nodes.proofs.experts.Experts.kids.Goals as goal

pub unwrap-requires : goal.unwrap-requires
unwrap-requires c = some_ref c.get.result (at c.self.inside.experts c.point_of.result) c.get.ensures
    (there_at c.self.inside.experts c.args.self.now c.args.id c.point_of.result c.self.view_is c.point_of.ensures c.requires.created)

pub kids-requires : goal.kids-requires
kids-requires c =
    let there : Some c.unwrap.result.now ≡ at c.self.inside.experts c.point_of.result = sym (ap option_copied c.unwrap.ensures) ∙ c.get.ensures in
    let is = expert_is c.self.inside.experts c.args.self.now c.args.id c.point_of.result c.unwrap.result.now c.self.view_is c.point_of.ensures there in
    record { tidy = ap (λ (e : Expert). e.tidy) (sym is) ∙ c.requires.tidy }

pub returns : goal.returns
returns c =
    let there : Some c.unwrap.result.now ≡ at c.self.inside.experts c.point_of.result = sym (ap option_copied c.unwrap.ensures) ∙ c.get.ensures in
    let is = expert_is c.self.inside.experts c.args.self.now c.args.id c.point_of.result c.unwrap.result.now c.self.view_is c.point_of.ensures there in
    c.kids.ensures ∙ ap kids_of_expert (sym is)
