use Rattle.std.proofs.Common.{sym, ap, ◌∙◌}
use Rattle.script_model.specs.Grammar.{Tree}
use Rattle.line_parser.specs.TreeView.{level_view, tree_view}
use Rattle.line_parser.specs.declared.tree.Tree.TheFolds.{fold-roll-Tree}
use Rattle.line_parser.specs.declared.tree.Tree.TheOpen as level
use Rattle.line_parser.specs.declared.tree.Tree.TheVariants.{rolls-Freeze}
use Rattle.line_times.proofs.Freezes.{top_frozen}
use Rattle.line_times.proofs.reasons.is_top_form.Goals as goal

pub returns-in-Freeze : goal.returns-in-Freeze
returns-in-Freeze c =
    let f = c.in-Freeze in
    let written = ap tree_view (f.is ∙ sym (rolls-Freeze f.child f.predicate f.around))
    ∙ fold-roll-Tree Tree level_view (level.Freeze f.child f.predicate f.around) in
    rw written (top_frozen (tree_view f.child.value) f.predicate f.around.items)
