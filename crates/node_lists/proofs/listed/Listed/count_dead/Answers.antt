use Rattle.std.proofs.Common.{◌≡◌, ◌∙◌, ◌<◌, ◌^◌, List, length, ap, arith}
use Rattle.inc_value.specs.Counts.{raised}
use Rattle.inc_value.specs.declared.node.NodeId.{NodeId}
use Rattle.node_lists.specs.Listed.{Listed}
use Rattle.node_lists.proofs.Counting.{forgotten_counts, forgotten_live}
use Rattle.node_lists.proofs.listed.Listed.count_dead.Goals as goal

pub returns-clause-counts : goal.returns-clause-counts
returns-clause-counts c a b n dies counts =
    let nodes : c.self.inside.nodes.items ≡ c.args.self.now.nodes = ap (λ (l : Listed). l.nodes) c.self.view_is in
    let dead : c.saturating_add-self-inside.result ≡ raised c.args.self.now.dead
    = c.saturating_add-self-inside.ensures ∙ ap (λ (l : Listed). raised l.dead) c.self.view_is in
    forgotten_counts a b n c.args.self.now (record { nodes = c.self.inside.nodes.items; dead = c.saturating_add-self-inside.result; spare = 0 }) nodes dead dies counts

pub returns-clause-live : goal.returns-clause-live
returns-clause-live c a b n dies counts =
    let nodes : c.self.inside.nodes.items ≡ c.args.self.now.nodes = ap (λ (l : Listed). l.nodes) c.self.view_is in
    let dead : c.saturating_add-self-inside.result ≡ raised c.args.self.now.dead
    = c.saturating_add-self-inside.ensures ∙ ap (λ (l : Listed). raised l.dead) c.self.view_is in
    let n_items = ap (λ (ns : List NodeId). length ns) nodes in
    let small : length c.args.self.now.nodes < 2 ^ 63
    = omega (arith, n_items, c.self.inside.nodes.ok.0, c.self.inside.nodes.ok.1, c.self.inside.nodes.small) in
    forgotten_live a b n c.args.self.now (record { nodes = c.self.inside.nodes.items; dead = c.saturating_add-self-inside.result; spare = 0 }) nodes dead small dies counts
