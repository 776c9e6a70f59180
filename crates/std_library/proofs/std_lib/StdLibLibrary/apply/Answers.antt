use Rattle.std.proofs.Common.{◌∙◌, subst, sym}
use Rattle.inc_value.specs.Value.{HaveTypes}
use Rattle.std_library.specs.FunctionLaws.{takes_by_number}
use Rattle.std_library.proofs.std_lib.StdLibLibrary.apply.Goals as goal

-- the arguments have the types that the function of the number takes
pub apply-value-requires : goal.apply-value-requires
apply-value-requires c =
    let takes = takes_by_number c.args.f.now c.in-Some.function c.requires.known (sym c.numbered.ensures ∙ c.in-Some.is) in
    record { fit = subst (HaveTypes c.args.args.now) takes c.requires.fit }
