use Rattle.std.proofs.Common.{refl, sym, ◌∙◌}
use Rattle.script_model.specs.Check.{is_against}
use Rattle.script_model.specs.Formula.{meanings_of}
use Rattle.line_parser.specs.TreeView.{line_view}
use Rattle.formula_lang.specs.declared.refusal.Reason.TheVariants as reason
use Rattle.formula_lang.proofs.Table.{code_order, next_row}
use Rattle.formula_lang.proofs.refusal.first_of_all.Goals as goal

pub loop-reason-init : goal.loop-reason-init
loop-reason-init g c = refl

pub loop-reason-preserved : goal.loop-reason-preserved
loop-reason-preserved g c =
    next_row (is_against (meanings_of (g.L.Library.named c.args.library.now) (g.L.Library.value c.args.library.now)) c.args.names.now
    (line_view c.args.line.now)) code_order c.loop-reason.reason-index
    reason.NameTaken _ c.loop-reason-test.true (sym c.is_against.ensures ∙ c.if-is_against.false) c.loop-reason.invariant
