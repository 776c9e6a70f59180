use Rattle.std.proofs.Common.{length, map}
use Rattle.script_model.proofs.TokenLaws.{IsReadTo}
use Rattle.line_tokens.specs.View.{token_view}
use Rattle.line_tokens.proofs.lexer.tokens.Given as goal

abbrev pub invariant-loop-rest : goal.invariant-loop-rest
invariant-loop-rest l = IsReadTo l.line (map token_view l.found.items) l.rest

abbrev pub decreases-loop-rest : goal.decreases-loop-rest
decreases-loop-rest l = length l.rest
