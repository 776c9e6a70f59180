use Rattle.std.proofs.Common.{false, sym, ap, refl, ◌∙◌}
use Rattle.std.specs.List.{list_any}
use Rattle.script_model.specs.Check.{is_past, spans_of}
use Rattle.script_model.specs.Grammar.{Let, Tree}
use Rattle.line_parser.specs.TreeView.{level_view, tree_view}
use Rattle.line_parser.specs.declared.tree.Tree.TheFolds.{fold-roll-Tree}
use Rattle.line_parser.specs.declared.tree.Tree.TheOpen as level
use Rattle.line_parser.specs.declared.tree.Tree.TheVariants.{rolls-Freeze}
use Rattle.line_times.proofs.Freezes.{of_frozen}
use Rattle.line_times.proofs.reasons.ends_too_late.Goals as goal

pub returns-in-Freeze : goal.returns-in-Freeze
returns-in-Freeze c name =
    let f = c.in-Freeze in
    let written = ap tree_view (f.is ∙ sym (rolls-Freeze f.child f.predicate f.around))
    ∙ fold-roll-Tree Tree level_view (level.Freeze f.child f.predicate f.around) in
    rw written (sym (of_frozen (λ tree. list_any (is_past c.args.now) (spans_of (Let name tree))) false (λ child predicate. refl)
    (tree_view f.child.value) f.predicate f.around.items))
