use Rattle.std.proofs.Common.{◌∙◌, ap, rules}
use Rattle.std.proofs.Math.Facts.{Fits-lt-pow}
use Rattle.std.specs.Int.{w64}
use Rattle.std.specs.Prelude.{FitsSigned}
use Rattle.std_library.specs.FunctionLaws.{sum_more}
use Rattle.std_library.specs.Operations.{int_of}
use Rattle.std_library.proofs.operations.sum.Goals as goal

-- the sum up to a value, and that value
pub loop-value-preserved : goal.loop-value-preserved
loop-value-preserved c =
    let fits : FitsSigned w64 c.integer-sum.result = search rules in
    sum_more c.args.values.now c.loop-value.value-index c.value-item.result c.loop-value.sum-bits c.integer-sum.result
    c.loop-value-test.true (Fits-lt-pow c.loop-value.auto.sum-fits) fits c.loop-value.invariant (c.integer-sum.ensures ∙ ap int_of c.value-item.is)
