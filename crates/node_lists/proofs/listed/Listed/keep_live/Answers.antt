use Rattle.std.proofs.Common.{◌≡◌, ◌∙◌, rules, ap, sym, subst, is_some}
use Rattle.std.specs.List.{filter}
use Rattle.std.proofs.lemmas.Fn.{filter_same}
use Rattle.std.proofs.lemmas.List.Kept.{IsNonDecreasingBy-filter}
use Rattle.inc_value.specs.declared.node.NodeId.{NodeId}
use Rattle.node_arena.specs.Arena.{row_at}
use Rattle.node_lists.specs.Listed.{Listed, AreInOrder, live_ones}
use Rattle.node_lists.proofs.listed.Listed.keep_live.Goals as goal

pub returns-clause-nodes : goal.returns-clause-nodes
returns-clause-nodes c =
    let a = c.args.arena.now in
    let filtered : c.retain.new.self.items ≡ filter (λ n. is_some (row_at a n)) c.self.inside.nodes.items
    = filter_same _ (λ n. is_some (row_at a n)) _ (λ x b f' k. search rules) _ _ c.retain.ensures.filtered in
    filtered ∙ ap (λ (l : Listed). live_ones a l.nodes) c.self.view_is

pub invariant_of-self : goal.invariant_of-self
invariant_of-self c in_order =
    let a = c.args.arena.now in
    let filtered : c.retain.new.self.items ≡ filter (λ n. is_some (row_at a n)) c.self.inside.nodes.items
    = filter_same _ (λ n. is_some (row_at a n)) _ (λ x b f' k. search rules) _ _ c.retain.ensures.filtered in
    let kept = IsNonDecreasingBy-filter (λ (n : NodeId). n.gen_) (λ n. is_some (row_at a n)) c.self.inside.nodes.items (c.self.invariant in_order) in
    subst AreInOrder (sym filtered) kept
