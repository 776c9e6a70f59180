use Rattle.std.proofs.Common.{◌||◌, sym, ap, ◌∙◌}
use Rattle.script_model.specs.Check.{trees_in}
use Rattle.script_model.specs.Grammar.{Tree}
use Rattle.line_parser.specs.TreeView.{level_view, tree_view}
use Rattle.line_parser.specs.View.{time_view}
use Rattle.line_parser.specs.declared.tree.Tree.TheFolds.{fold-roll-Tree}
use Rattle.line_parser.specs.declared.tree.Tree.TheOpen as level
use Rattle.line_parser.specs.declared.tree.Tree.TheVariants.{rolls-At, rolls-Freeze, rolls-If}
use Rattle.line_times.specs.Sought.{at_has, freeze_has, is_sought}
use Rattle.line_times.proofs.Mentions.{any_three, or_nothing}
use Rattle.line_times.proofs.Sought.{any_frozen}
use Rattle.line_times.proofs.search.+seek.Goals as goal

pub holds-returns-in-If : goal.holds-returns-in-If
holds-returns-in-If t c =
    let h = c.in-If in
    let written = ap tree_view (h.is ∙ sym (rolls-If h.test h.then_side h.else_side))
    ∙ fold-roll-Tree Tree level_view (level.If h.test h.then_side h.else_side) in
    rw written (any_three (is_sought c.args.sought) (trees_in (tree_view h.test.value)) (trees_in (tree_view h.then_side.value))
    (trees_in (tree_view h.else_side.value)) _ _ _ (rw c.deref-in-If.ensures at c.holds.ensures)
    (rw c.deref-in-If-2.ensures at c.holds-in-If.ensures) (rw c.deref-in-If-3.ensures at c.holds-in-If-2.ensures))

pub holds-returns-in-At : goal.holds-returns-in-At
holds-returns-in-At t c =
    let h = c.in-At in
    let written = ap tree_view (h.is ∙ sym (rolls-At h.time)) ∙ fold-roll-Tree Tree level_view (level.At h.time) in
    rw written (c.at_has.ensures ∙ sym (or_nothing (at_has c.args.sought (time_view h.time))))

pub holds-returns-in-Freeze : goal.holds-returns-in-Freeze
holds-returns-in-Freeze t c =
    let f = c.in-Freeze in
    let written = ap tree_view (f.is ∙ sym (rolls-Freeze f.child f.predicate f.around))
    ∙ fold-roll-Tree Tree level_view (level.Freeze f.child f.predicate f.around) in
    rw (written, c.freeze_has.ensures, any_frozen c.args.sought (tree_view f.child.value) f.predicate f.around.items)
    (ap (λ b. freeze_has c.args.sought || b) (rw c.deref-in-Freeze.ensures at c.holds-in-Freeze.ensures))
