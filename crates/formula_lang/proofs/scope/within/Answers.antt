use Rattle.std.proofs.Common.{map}
use Rattle.formula_lang.specs.Typing.{bound_view}
use Rattle.formula_lang.proofs.Variables.{one_more_within}
use Rattle.formula_lang.proofs.scope.within.Goals as goal

pub loop-outer-preserved : goal.loop-outer-preserved
loop-outer-preserved c =
    one_more_within c.args.variables.now c.loop-outer.outer-index c.outer-item.result (record { name = c.args.name.now; ty = c.args.ty })
    (map bound_view c.loop-outer.inner.items) (map bound_view c.push_variable-in-loop-outer.new.variables.items) c.loop-outer-test.true
    c.outer-item.is c.loop-outer.invariant c.in_ok-push_variable-2.ensures
