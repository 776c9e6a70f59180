use Rattle.std.proofs.Common.{None, subst}
use Rattle.inc_value.specs.declared.node.Point.{Point}
use Rattle.point_map.specs.Rows.{Changes}
use Rattle.wiring.proofs.Placing.{both_gone}
use Rattle.stabilizer.proofs.parts.forget_roots.Goals as goal

pub returns : goal.returns
returns c =
    let old = c.args.roots.now in
    let mid = c.forget_root.new.roots in
    let new = c.forget_root-2.new.roots in
    both_gone old mid new c.args.node (subst (λ (p : Point). Changes old mid p None) c.main.ensures c.forget_root.ensures)
    (subst (λ (p : Point). Changes mid new p None) c.change.ensures c.forget_root-2.ensures)
