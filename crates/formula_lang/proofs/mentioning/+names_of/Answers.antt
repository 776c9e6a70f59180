use Rattle.std.proofs.Common.{sym, ap, ◌∙◌}
use Rattle.script_model.specs.Grammar.{Tree, Freeze}
use Rattle.line_parser.specs.TreeView.{level_view, tree_view}
use Rattle.line_parser.specs.declared.tree.Tree.TheFolds.{fold-roll-Tree}
use Rattle.line_parser.specs.declared.tree.Tree.TheOpen as level
use Rattle.line_parser.specs.declared.tree.Tree.TheVariants.{rolls-Bind, rolls-Freeze, rolls-If}
use Rattle.formula_lang.specs.Rows.{is_unknown}
use Rattle.line_times.proofs.Mentions.{any_three, any_two}
use Rattle.formula_lang.proofs.Within.{names_frozen}
use Rattle.formula_lang.proofs.mentioning.+names_of.Goals as goal

pub has_unknown_name-returns-in_ok-else_side-in-If : goal.has_unknown_name-returns-in_ok-else_side-in-If
has_unknown_name-returns-in_ok-else_side-in-If t c =
    let h = c.in-If in
    let written = ap tree_view (h.is ∙ sym (rolls-If h.test h.then_side h.else_side))
    ∙ fold-roll-Tree Tree level_view (level.If h.test h.then_side h.else_side) in
    rw written (any_three (is_unknown c.args.names.now) _ _ _ _ _ _ (rw c.deref-in-If.ensures at c.in_ok-test-in-If.ensures)
    (rw c.deref-in-If-2.ensures at c.in_ok-then_side-in-If.ensures) (rw c.deref-in-If-3.ensures at c.in_ok-else_side-in-If.ensures))

pub has_unknown_name-returns-in_ok-body-in-Bind : goal.has_unknown_name-returns-in_ok-body-in-Bind
has_unknown_name-returns-in_ok-body-in-Bind t c =
    let h = c.in-Bind in
    let written = ap tree_view (h.is ∙ sym (rolls-Bind h.variable h.left h.body))
    ∙ fold-roll-Tree Tree level_view (level.Bind h.variable h.left h.body) in
    rw written (any_two (is_unknown c.args.names.now) _ _ _ _ (rw c.deref-in-Bind.ensures at c.in_ok-left-in-Bind.ensures)
    (rw c.deref-in-Bind-2.ensures at c.in_ok-body-in-Bind.ensures))

pub has_unknown_name-returns-in-Freeze : goal.has_unknown_name-returns-in-Freeze
has_unknown_name-returns-in-Freeze t c =
    let f = c.in-Freeze in
    let written = ap tree_view (f.is ∙ sym (rolls-Freeze f.child f.predicate f.around))
    ∙ fold-roll-Tree Tree level_view (level.Freeze f.child f.predicate f.around) in
    rw (written, names_frozen c.args.variables.now (Freeze (tree_view f.child.value) f.predicate) f.around.items)
    (rw c.deref-in-Freeze.ensures at c.has_unknown_name-in-Freeze.ensures)
