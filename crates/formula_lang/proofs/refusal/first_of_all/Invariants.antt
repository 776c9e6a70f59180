use Rattle.std.proofs.Common.{◌≡◌, map, drop}
use Rattle.script_model.specs.Check.{first_that, is_against, line_order}
use Rattle.script_model.specs.Formula.{meanings_of}
use Rattle.line_parser.specs.TreeView.{line_view}
use Rattle.formula_lang.specs.Verdict.{reason_view}
use Rattle.formula_lang.proofs.refusal.first_of_all.Given as goal

-- the first of what is left is the first of all
abbrev pub invariant-loop-reason : goal.invariant-loop-reason
invariant-loop-reason g l =
    first_that (is_against (meanings_of (g.L.Library.named l.library) (g.L.Library.value l.library)) l.names (line_view l.line))
    (map reason_view (drop l.reason-index l.reason-items))
    ≡ first_that (is_against (meanings_of (g.L.Library.named l.library) (g.L.Library.value l.library)) l.names (line_view l.line)) line_order
