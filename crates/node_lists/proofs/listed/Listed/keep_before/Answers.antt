use Rattle.std.proofs.Common.{◌≡◌, ◌∙◌, rules, ap, ltb}
use Rattle.std.specs.List.{filter}
use Rattle.std.proofs.lemmas.Fn.{filter_same}
use Rattle.inc_value.specs.declared.node.NodeId.{NodeId}
use Rattle.node_lists.specs.Listed.{Listed, given_before}
use Rattle.node_lists.proofs.listed.Listed.keep_before.Goals as goal

pub returns-clause-nodes : goal.returns-clause-nodes
returns-clause-nodes c =
    let filtered : c.retain.new.self.items ≡ filter (λ (n : NodeId). ltb n.gen_ c.args.count) c.self.inside.nodes.items
    = filter_same _ (λ (n : NodeId). ltb n.gen_ c.args.count) _ (λ x b f' k. search rules) _ _ c.retain.ensures.filtered in
    filtered ∙ ap (λ (l : Listed). given_before c.args.count l.nodes) c.self.view_is
