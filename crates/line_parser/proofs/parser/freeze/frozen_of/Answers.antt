use Rattle.std.proofs.Common.{◌≡◌, ◌-◌, [], Some, refl, sym, ap, ◌∙◌}
use Rattle.script_model.specs.Grammar.{Tree}
use Rattle.script_model.specs.Parsing.{when_front}
use Rattle.line_parser.specs.Reading.{whens_front}
use Rattle.line_parser.specs.TreeView.{level_view, tree_view}
use Rattle.line_parser.specs.declared.tree.Tree.TheFolds.{fold-roll-Tree}
use Rattle.line_parser.specs.declared.tree.Tree.TheOpen as level
use Rattle.line_parser.specs.declared.tree.Tree.TheVariants.{rolls-Freeze}
use Rattle.line_parser.proofs.Freezes.{some_frozen}
use Rattle.line_parser.proofs.parser.freeze.frozen_of.Goals as goal

pub returns : goal.returns
returns c =
    let child = c.in_ok-child.child in
    let predicate = c.in-Ok-Some.found in
    let around = c.in-Ok-Some-whens_of.found in
    let written = ap tree_view (sym (rolls-Freeze child predicate around))
    ∙ fold-roll-Tree Tree level_view (level.Freeze child predicate around) in
    let first : Some (predicate, c.when_of.new.tokens) ≡ when_front c.args.tokens.now = rw c.in-Ok-Some.field-0-is at c.in-Ok-Some.ensures in
    let others : Some (around.items, c.whens_of.new.tokens) ≡ whens_front (c.args.freezes - 1) [] c.when_of.new.tokens =
    rw c.in-Ok-Some-whens_of.field-0-is at c.in-Ok-Some-whens_of.ensures in
    rw (written, some_frozen c.args.freezes (tree_view c.args.child) c.args.tokens.now c.if-freezes-eq0.false, ← first, ← others, c.in_ok-child.ensures.ok) refl
