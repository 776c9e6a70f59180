use Rattle.std.proofs.Common.{◌≡◌, sym, ◌∙◌}
use Rattle.formula_lang.proofs.checking.decided.Goals as goal

pub returns-in-Some-clause-refused : goal.returns-in-Some-clause-refused
returns-in-Some-clause-refused c n is =
    let same : c.number.result ≡ n = let e = is in cc in
    (c.in-Some.reason, c.in-Some.is, sym c.number.ensures ∙ same)
