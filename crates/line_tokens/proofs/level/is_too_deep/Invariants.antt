use Rattle.std.proofs.Common.{◌≡◌, ◌≤◌, map, drop}
use Rattle.line_tokens.specs.View.{token_view}
use Rattle.script_model.specs.Tokens.{is_too_deep}
use Rattle.line_tokens.proofs.level.is_too_deep.Given as goal

abbrev pub invariant-loop-token : goal.invariant-loop-token
invariant-loop-token l = record {
  so_far : is_too_deep l.opened l.closed (map token_view (drop l.token-index l.tokens)) ≡ is_too_deep 0 0 (map token_view l.tokens);
  few_opened : l.opened ≤ l.token-index;
  few_closed : l.closed ≤ l.token-index;
}
