use Rattle.std.proofs.Common.{◌≡◌, map, Some, ◌∙◌}
use Rattle.line_parser.specs.TreeView.{tree_view}
use Rattle.line_tokens.specs.View.{sign_view}
use Rattle.script_model.specs.Parsing.{formula_read}
use Rattle.script_model.specs.Tokens.{sign_byte}
use Rattle.line_parser.proofs.Steps.{list_broken, list_continued, list_ended, map_pushed, none_read}
use Rattle.line_parser.proofs.parser.formula.+formula.Goals as goal

pub list_of-loop-count-preserved : goal.list_of-loop-count-preserved
list_of-loop-count-preserved t c =
    let next : Some (tree_view c.in-Ok-Some.found, c.formula_of.new.tokens) ≡ formula_read c.args.depth c.loop-count.tokens =
    rw c.in-Ok-Some.field-0-is at c.in-Ok-Some.ensures in
    rw (c.in_ok-push.ensures.items, map_pushed c.loop-count.found.items c.in-Ok-Some.found, c.if-not-eat.ensures.rest, c.if-eat.ensures.rest)
    (list_continued (formula_read c.args.depth) (sign_byte (sign_view c.args.end)) c.args.limit c.loop-count._count (map tree_view c.loop-count.found.items)
    c.loop-count.tokens c.loop-count-test.true (tree_view c.in-Ok-Some.found) c.formula_of.new.tokens next c.if-eat.ensures.found
    (rw c.if-eat.ensures.rest at c.if-not-eat.ensures.found)
    ∙ c.loop-count.invariant)

pub list_of-returns-then-eat : goal.list_of-returns-then-eat
list_of-returns-then-eat t c =
    let next : Some (tree_view c.in-Ok-Some.found, c.formula_of.new.tokens) ≡ formula_read c.args.depth c.loop-count.tokens =
    rw c.in-Ok-Some.field-0-is at c.in-Ok-Some.ensures in
    rw (c.in_ok-push.ensures.items, map_pushed c.loop-count.found.items c.in-Ok-Some.found, c.if-eat.ensures.rest)
    (list_ended (formula_read c.args.depth) (sign_byte (sign_view c.args.end)) c.args.limit c.loop-count._count (map tree_view c.loop-count.found.items)
    c.loop-count.tokens c.loop-count-test.true (tree_view c.in-Ok-Some.found) c.formula_of.new.tokens next c.if-eat.ensures.found
    ∙ c.loop-count.invariant)

pub list_of-returns-then-not-eat : goal.list_of-returns-then-not-eat
list_of-returns-then-not-eat t c =
    let next : Some (tree_view c.in-Ok-Some.found, c.formula_of.new.tokens) ≡ formula_read c.args.depth c.loop-count.tokens =
    rw c.in-Ok-Some.field-0-is at c.in-Ok-Some.ensures in
    list_broken (formula_read c.args.depth) (sign_byte (sign_view c.args.end)) c.args.limit c.loop-count._count (map tree_view c.loop-count.found.items)
    c.loop-count.tokens c.loop-count-test.true (tree_view c.in-Ok-Some.found) c.formula_of.new.tokens next c.if-eat.ensures.found
    (rw c.if-eat.ensures.rest at c.if-not-eat.ensures.found)
    ∙ c.loop-count.invariant

pub list_of-returns-in-Ok-None : goal.list_of-returns-in-Ok-None
list_of-returns-in-Ok-None t c =
    none_read (formula_read c.args.depth) (sign_byte (sign_view c.args.end)) c.args.limit c.loop-count._count (map tree_view c.loop-count.found.items)
    c.loop-count.tokens c.loop-count-test.true (rw c.in-Ok-None.field-0-is at c.in-Ok-None.ensures) ∙ c.loop-count.invariant
