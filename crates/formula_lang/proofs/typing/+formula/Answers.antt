use Rattle.std.proofs.Common.{map, sym, ap, refl, ◌∙◌}
use Rattle.script_model.specs.Grammar.{Tree}
use Rattle.line_parser.specs.TreeView.{level_view, tree_view}
use Rattle.line_parser.specs.declared.tree.Tree.TheFolds.{fold-roll-Tree}
use Rattle.line_parser.specs.declared.tree.Tree.TheOpen as level
use Rattle.line_parser.specs.declared.tree.Tree.TheVariants.{rolls-Fold, rolls-Freeze}
use Rattle.script_model.specs.Formula.{meanings_of}
use Rattle.formula_lang.specs.Typing.{bound_view}
use Rattle.formula_lang.proofs.Within.{not_typed_frozen}
use Rattle.formula_lang.proofs.TypedArguments.{step_done, all_done}
use Rattle.formula_lang.proofs.typing.+formula.Goals as goal

pub typed_each-loop-tree-preserved : goal.typed_each-loop-tree-preserved
typed_each-loop-tree-preserved g t c =
    let F = meanings_of (g.L.Library.named c.args.library.now) (g.L.Library.value c.args.library.now) in
    let o = c.in-Ok-Some in
    let l = c.loop-tree in
    let found = rw o.field-0-is at o.ensures in
    rw (c.in_ok-behind-in-Ok-Some.ensures.formulas, c.in_ok-behind-in-Ok-Some.ensures.tys)
    (step_done F c.args.names.now (map bound_view c.args.variables.now) c.args.trees.now l.tree-index l.formulas.formulas.items l.formulas.tys.items
    c.tree-item.result o.formula.formula o.formula.ty c.loop-tree-test.true c.tree-item.is found l.invariant)

pub typed_each-returns : goal.typed_each-returns
typed_each-returns g t c =
    let F = meanings_of (g.L.Library.named c.args.library.now) (g.L.Library.value c.args.library.now) in
    let l = c.loop-tree in
    all_done F c.args.names.now (map bound_view c.args.variables.now) c.args.trees.now l.tree-index l.formulas.formulas.items l.formulas.tys.items
    c.loop-tree-test.false l.invariant

pub typed-returns-in-Fold : goal.typed-returns-in-Fold
typed-returns-in-Fold g t c =
    let f = c.in-Fold in
    let written = ap tree_view (f.is ∙ sym (rolls-Fold f.function f.first f.elements))
    ∙ fold-roll-Tree Tree level_view (level.Fold f.function f.first f.elements) in
    rw written (rw c.deref-in-Fold.ensures.value at c.typed_fold.ensures)

pub typed-returns-in-Freeze : goal.typed-returns-in-Freeze
typed-returns-in-Freeze g t c =
    let f = c.in-Freeze in
    let written = ap tree_view (f.is ∙ sym (rolls-Freeze f.child f.predicate f.around))
    ∙ fold-roll-Tree Tree level_view (level.Freeze f.child f.predicate f.around) in
    rw (
      written,
      not_typed_frozen (meanings_of (g.L.Library.named c.args.library.now) (g.L.Library.value c.args.library.now)) c.args.names.now
          (map bound_view c.args.variables.now) (tree_view f.child.value) f.predicate f.around.items,
    ) refl
