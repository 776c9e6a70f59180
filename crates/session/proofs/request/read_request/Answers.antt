use Rattle.std.proofs.Common.{◌≡◌, false, ℕ, List, arith, sym, ap, subst, ◌∙◌}
use Rattle.line_parser.specs.TreeView.{line_view}
use Rattle.script_model.specs.Grammar.{IsLine}
use Rattle.script_model.specs.Language.{is_blank, without_return}
use Rattle.session.proofs.request.read_request.Goals as goal

pub returns-in-Ok : goal.returns-in-Ok
returns-in-Ok c =
    let content = c.without_return-content.ensures in
    let some : is_blank (without_return c.args.line.now) ≡ false =
    ap is_blank (sym content) ∙ (sym c.is_blank.ensures ∙ c.if-is_blank.false) in
    let limit = c.if-line-gt-LINE_LIMIT.false in
    let is = subst (λ (bytes : List ℕ). IsLine bytes (line_view c.in-Ok.line)) content c.in-Ok.ensures.line in
    (omega (arith, limit), (some, is))
