use Rattle.std.proofs.Common.{◌≡◌, Some, sym}
use Rattle.script_model.specs.Parsing.{fold_head}
use Rattle.line_parser.specs.View.{literal_view}
use Rattle.line_parser.proofs.Steps.{expert_alone, expert_not_alone}
use Rattle.line_parser.proofs.parser.command.expert_of.Goals as goal

pub returns-then-not-is_empty : goal.returns-then-not-is_empty
returns-then-not-is_empty c =
    let head = c.in-Ok-Some.found in
    let there : Some ((head.0, literal_view head.1), c.fold_head.new.tokens) ≡ fold_head c.eat_word.new.self =
    rw c.in-Ok-Some.field-0-is at c.in-Ok-Some.ensures in
    expert_not_alone c.args.tokens.now c.name_of.new.tokens c.eat_word.new.self c.fold_head.new.tokens c.in-Some.name.now
    (head.0, literal_view head.1) (sym c.in-Some.ensures) (sym c.if-not-eat_word.ensures.found)
    c.if-not-eat_word.ensures.rest (sym there) (sym c.if-not-is_empty.ensures)

pub returns : goal.returns
returns c =
    let head = c.in-Ok-Some.found in
    let there : Some ((head.0, literal_view head.1), c.fold_head.new.tokens) ≡ fold_head c.eat_word.new.self =
    rw c.in-Ok-Some.field-0-is at c.in-Ok-Some.ensures in
    rw c.in_ok-new.ensures
    (expert_alone c.args.tokens.now c.name_of.new.tokens c.eat_word.new.self c.fold_head.new.tokens c.in-Some.name.now
    (head.0, literal_view head.1) (sym c.in-Some.ensures) (sym c.if-not-eat_word.ensures.found)
    c.if-not-eat_word.ensures.rest (sym there) (sym c.if-not-is_empty.ensures))
