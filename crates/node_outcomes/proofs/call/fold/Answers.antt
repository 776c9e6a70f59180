use Rattle.std.proofs.Common.{sym, ◌∙◌}
use Rattle.stabilize_round.proofs.Counts.{rose_on}
use Rattle.node_outcomes.proofs.Folding.{folded_take, of_two}
use Rattle.node_outcomes.proofs.Keeping.{functions_on}
use Rattle.node_outcomes.proofs.call.fold.Goals as goal

pub loop-value-preserved : goal.loop-value-preserved
loop-value-preserved g c =
    let inv = c.loop-value.invariant in
    let f = c.args.f.now in
    let value = g.F.Functions.value c.args.functions.now f in
    let given = c.in-Ok-call_with.ensures in
    record {
      gathered = given.value ∙ inv.functions.same.values f _ ∙ of_two value _ _ _ _ inv.gathered c.value-item.is
          ∙ sym (folded_take value c.args.initial.now c.args.values.now c.loop-value.value-index c.value-item.result c.loop-value-test.true);
      type = given.typed;
      calls = rose_on inv.calls given.calls;
      functions = functions_on g.F.Functions _ _ _ inv.functions given.functions;
      wants = given.wants ∙ inv.wants;
    }
