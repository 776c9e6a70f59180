use Rattle.std.proofs.Common.{sym, ap, ◌∙◌}
use Rattle.script_model.specs.Grammar.{Tree}
use Rattle.line_parser.specs.TreeView.{level_view, tree_view}
use Rattle.line_parser.specs.declared.tree.Tree.TheFolds.{fold-roll-Tree}
use Rattle.line_parser.specs.declared.tree.Tree.TheOpen as level
use Rattle.line_parser.specs.declared.tree.Tree.TheVariants.{rolls-Freeze, rolls-If}
use Rattle.formula_lang.specs.Rows.{lacks}
use Rattle.line_times.proofs.Mentions.{any_three}
use Rattle.formula_lang.proofs.Within.{found_none, freeze_passes}
use Rattle.formula_lang.proofs.typing.+functions_in.Goals as goal

pub has_unknown_function-returns-in-If : goal.has_unknown_function-returns-in-If
has_unknown_function-returns-in-If g t c =
    let h = c.in-If in
    let written = ap tree_view (h.is ∙ sym (rolls-If h.test h.then_side h.else_side))
    ∙ fold-roll-Tree Tree level_view (level.If h.test h.then_side h.else_side) in
    rw written (any_three (lacks (g.L.Library.named c.args.library.now)) _ _ _ _ _ _ (rw c.deref-in-If.ensures at c.has_unknown_function.ensures)
    (rw c.deref-in-If-2.ensures at c.has_unknown_function-in-If.ensures) (rw c.deref-in-If-3.ensures at c.has_unknown_function-in-If-2.ensures))

pub has_unknown_function-returns-in-Freeze : goal.has_unknown_function-returns-in-Freeze
has_unknown_function-returns-in-Freeze g t c =
    let f = c.in-Freeze in
    let written = ap tree_view (f.is ∙ sym (rolls-Freeze f.child f.predicate f.around))
    ∙ fold-roll-Tree Tree level_view (level.Freeze f.child f.predicate f.around) in
    let own = found_none c.find-in-Freeze.result _ c.is_none-in-Freeze.result c.is_none-in-Freeze.ensures
    (c.find-in-Freeze.ensures ∙ ap (g.L.Library.named c.args.library.now) c.bytes-in-Freeze.ensures) in
    rw written (freeze_passes (lacks (g.L.Library.named c.args.library.now)) (tree_view f.child.value) f.predicate f.around.items _ _ _ own
    (rw c.deref-in-Freeze.ensures.value at c.lacks_predicate.ensures) (rw c.deref-in-Freeze-2.ensures at c.has_unknown_function-in-Freeze.ensures))
