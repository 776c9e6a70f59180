use Rattle.std.proofs.Common.{◌≡◌, length, arith, sym, subst}
use Rattle.indexed_nodes.specs.Indexed.{IsIndex}
use Rattle.indexed_nodes.proofs.Index.{index_pushed}
use Rattle.indexed_nodes.proofs.nodes.IndexedNodes.push.Goals as goal

pub invariant_of-self : goal.invariant_of-self
invariant_of-self c =
    let s = c.self.inside in
    let last : c.len-position.result ≡ length s.nodes.items = let e = c.len-position.ensures in let len = s.nodes.ok.0 in omega (arith, e, len) in
    subst (λ ns. IsIndex ns c.enter.new.firsts) (sym c.push_reserved.ensures.items)
    (index_pushed s.nodes.items c.args.node c.len-position.result s.firsts c.enter.new.firsts c.self.invariant last c.enter.ensures.held c.enter.ensures.entered)
