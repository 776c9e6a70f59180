use Rattle.std.proofs.Common.{◌≡◌, drop}
use Rattle.std.specs.List.{list_any}
use Rattle.formula_lang.specs.Rows.{lacks}
use Rattle.formula_lang.proofs.typing.lacks_predicate.Given as goal

abbrev pub invariant-loop-predicate : goal.invariant-loop-predicate
invariant-loop-predicate g l =
    list_any (lacks (g.L.Library.named l.library)) (drop l.predicate-index l.around) ≡ list_any (lacks (g.L.Library.named l.library)) l.around
