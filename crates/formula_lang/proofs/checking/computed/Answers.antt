use Rattle.std.proofs.Common.{refl}
use Rattle.script_model.specs.Formula.{meanings_of}
use Rattle.line_parser.specs.TreeView.{tree_view}
use Rattle.formula_lang.proofs.Within.{computed_top}
use Rattle.formula_lang.proofs.checking.computed.Goals as goal

pub returns-in-Ok-None : goal.returns-in-Ok-None
returns-in-Ok-None g c =
    let F = meanings_of (g.L.Library.named c.args.library.now) (g.L.Library.value c.args.library.now) in
    let found = rw c.in-Ok-None.field-0-is at c.in-Ok-None.ensures in
    rw (computed_top F c.args.names.now (tree_view c.args.formula.now) c.requires, ← found) refl

pub returns-in-Ok : goal.returns-in-Ok
returns-in-Ok g c =
    let F = meanings_of (g.L.Library.named c.args.library.now) (g.L.Library.value c.args.library.now) in
    let found = rw c.in-Ok-Some.field-0-is at c.in-Ok-Some.ensures in
    rw (computed_top F c.args.names.now (tree_view c.args.formula.now) c.requires, ← found)
    (rw (c.in-Ok.ensures, c.bytes.ensures) at c.declared.ensures)
