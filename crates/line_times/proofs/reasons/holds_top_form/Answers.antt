use Rattle.std.proofs.Common.{◌≤◌, length, sym, ap, subst, ◌∙◌}
use Rattle.script_model.specs.Grammar.{Tree}
use Rattle.line_parser.specs.TreeView.{level_view, tree_view}
use Rattle.line_parser.specs.declared.tree.Tree.TheFolds.{fold-roll-Tree}
use Rattle.line_parser.specs.declared.tree.Tree.TheOpen as level
use Rattle.line_parser.specs.declared.tree.Tree.TheVariants.{rolls-Freeze}
use Rattle.line_times.proofs.Sought.{inner_freeze}
use Rattle.line_times.proofs.reasons.holds_top_form.Goals as goal

pub returns-in-len1-up : goal.returns-in-len1-up
returns-in-len1-up c name =
    let f = c.in-Freeze in
    let written = ap tree_view (f.is ∙ sym (rolls-Freeze f.child f.predicate f.around))
    ∙ fold-roll-Tree Tree level_view (level.Freeze f.child f.predicate f.around) in
    let some = subst (λ xs. 1 ≤ length xs) c.as_slice.ensures.value c.in-len1-up.len_at_least in
    rw written (sym (inner_freeze (tree_view f.child.value) f.predicate f.around.items some))
