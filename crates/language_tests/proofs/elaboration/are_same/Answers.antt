use Rattle.std.proofs.Common.{rules}
use Rattle.std.proofs.lemmas.Slice.Eq.{slice_eq-Decides}
use Rattle.language_tests.proofs.elaboration.are_same.Goals as goal

-- the types are compared one for one
pub returns : goal.returns
returns c =
    let e = slice_eq-Decides (λ a b. search rules) c.args.left.now c.args.right.now c.eq.result c.eq.ensures in
    (λ h. e.0 h, λ h. e.1 h)
