use Rattle.formula_elab.proofs.WrittenInTurn.{variables_more}
use Rattle.formula_elab.proofs.write.variables.Goals as goal

pub loop-binds_between-preserved : goal.loop-binds_between-preserved
loop-binds_between-preserved c =
    let l = c.loop-binds_between in
    variables_more l.binds_between l.parts.items c.push.new.self.items c.variable.result l.invariant c.variable.ensures c.in_ok-push.ensures.items
