use Rattle.std.proofs.Common.{arith, ◌≤◌, length}
use Rattle.graph_kit.proofs.Forking.{grows_more, halves_sum, only_sum}
use Rattle.graph_kit.proofs.summing.+tree.Goals as goal

pub returns-then-kids-lt2-clause-sum : goal.returns-then-kids-lt2-clause-sum
returns-then-kids-lt2-clause-sum g t c = only_sum c.args.graph.now.nodes c.args.f.now c.args.kids.now c.only.result c.only.ensures.one

pub returns-in-Ok-tree-clause-sum : goal.returns-in-Ok-tree-clause-sum
returns-in-Ok-tree-clause-sum g t c =
    let many = c.if-kids-lt2.false in
    let some : 2 ≤ length c.args.kids.now = omega (arith, many) in
    halves_sum c.tree.new.graph c.tree-in-Ok.new.graph c.pair.new.graph c.args.f.now c.args.kids.now c.in-Ok.left c.in-Ok-tree.right some
    c.in-Ok.ensures.sum c.tree-in-Ok.ensures.grows c.in-Ok-tree.ensures.sum c.pair.ensures.grows c.pair.result c.pair.ensures.made

pub returns-in-Ok-tree-clause-grows : goal.returns-in-Ok-tree-clause-grows
returns-in-Ok-tree-clause-grows g t c =
    grows_more c.args.graph.now c.tree-in-Ok.new.graph c.pair.new.graph
    (grows_more c.args.graph.now c.tree.new.graph c.tree-in-Ok.new.graph c.tree.ensures.grows c.tree-in-Ok.ensures.grows)
    c.pair.ensures.grows

pub returns-in-Err-tree-clause-grows : goal.returns-in-Err-tree-clause-grows
returns-in-Err-tree-clause-grows g t c =
    grows_more c.args.graph.now c.tree.new.graph c.tree-in-Ok.new.graph c.tree.ensures.grows c.tree-in-Ok.ensures.grows
