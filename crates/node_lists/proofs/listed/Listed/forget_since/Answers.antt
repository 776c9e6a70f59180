use Rattle.std.proofs.Common.{◌≡◌, ◌∙◌, ◌-◌, List, length, sym, subst, ap, refl}
use Rattle.inc_value.specs.Choice.{Among}
use Rattle.inc_value.specs.declared.node.NodeId.{NodeId}
use Rattle.node_lists.specs.Listed.{given_before}
use Rattle.node_lists.proofs.Counting.{left_kept, left_before, left_listed, left_counts, left_most}
use Rattle.node_lists.proofs.listed.Listed.forget_since.Goals as goal

module _ (c : goal.After-uncount) where
  nodes : c.uncount.new.self.nodes ≡ given_before c.args.count c.args.self.now.nodes
  nodes = c.uncount.ensures.nodes ∙ c.keep_before.ensures.nodes

  dead : c.uncount.new.self.dead ≡ c.args.self.now.dead - (length c.args.self.now.nodes - length c.uncount.new.self.nodes)
  dead =
      let n_items = ap (λ (ns : List NodeId). length ns) c.uncount.ensures.nodes in
      rw (n_items, c.uncount.ensures.dead, c.keep_before.ensures.dead, c.saturating_sub-gone.ensures, c.len-before.ensures, c.len.ensures) refl

pub returns-clause-kept : goal.returns-clause-kept
returns-clause-kept c n before i = subst (λ ns. Among n ns) (sym (nodes c)) (left_kept c.args.count n c.args.self.now.nodes before i)

pub returns-clause-forgotten : goal.returns-clause-forgotten
returns-clause-forgotten c n i = left_before c.args.count n c.args.self.now.nodes (subst (λ ns. Among n ns) (nodes c) i)

pub returns-clause-fewer : goal.returns-clause-fewer
returns-clause-fewer c n i = left_listed c.args.count n c.args.self.now.nodes (subst (λ ns. Among n ns) (nodes c) i)

pub returns-clause-counts : goal.returns-clause-counts
returns-clause-counts c a counts = left_counts c.args.self.now c.uncount.new.self c.args.count (nodes c) (dead c) a counts

pub returns-clause-live : goal.returns-clause-live
returns-clause-live c = left_most c.args.self.now c.uncount.new.self c.args.count (nodes c) (dead c)
