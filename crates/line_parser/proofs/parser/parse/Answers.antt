use Rattle.std.proofs.Common.{◌≡◌, false, map, None, Some, sym, ◌∙◌}
use Rattle.script_model.specs.Tokens.{AreSpelled, is_too_deep}
use Rattle.script_model.specs.Parsing.{command_read}
use Rattle.line_parser.specs.TreeView.{line_view}
use Rattle.line_tokens.specs.View.{token_view}
use Rattle.line_parser.proofs.Commands.{read_line, read_nothing}
use Rattle.line_parser.proofs.parser.parse.Goals as goal

pub returns-in-Some-2-clause-line : goal.returns-in-Some-2-clause-line
returns-in-Some-2-clause-line c =
    let spelled : AreSpelled (map token_view c.in-Some.tokens.items) c.args.text.now = rw c.in-Some.is at c.in_ok-tokens.ensures.found in
    let shallow : is_too_deep 0 0 (map token_view c.in-Some.tokens.items) ≡ false =
    rw (← c.deref.ensures) (sym c.is_too_deep.ensures ∙ c.if-is_too_deep.false) in
    let found : Some (line_view c.in-Some-2.command) ≡ command_read (map token_view c.in-Some.tokens.items) =
    rw (c.in-Some-2.is, c.deref-2.ensures) at c.in_ok-command.ensures in
    read_line (map token_view c.in-Some.tokens.items) c.args.text.now (line_view c.in-Some-2.command) spelled shallow (sym found)

pub returns-clause-form : goal.returns-clause-form
returns-clause-form c =
    let spelled : AreSpelled (map token_view c.in-Some.tokens.items) c.args.text.now = rw c.in-Some.is at c.in_ok-tokens.ensures.found in
    let shallow : is_too_deep 0 0 (map token_view c.in-Some.tokens.items) ≡ false =
    rw (← c.deref.ensures) (sym c.is_too_deep.ensures ∙ c.if-is_too_deep.false) in
    let found : None ≡ command_read (map token_view c.in-Some.tokens.items) =
    rw (c.in-None.is, c.deref-2.ensures) at c.in_ok-command.ensures in
    λ is. read_nothing (map token_view c.in-Some.tokens.items) c.args.text.now spelled shallow (sym found)
