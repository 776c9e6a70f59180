use Rattle.std.proofs.Common.{◌≡◌, ◌-◌, []}
use Rattle.line_parser.specs.Reading.{whens_front}
use Rattle.line_parser.proofs.parser.freeze.whens_of.Given as goal

abbrev pub invariant-loop-index : goal.invariant-loop-index
invariant-loop-index l = whens_front (l.count - l._index) l.found.items l.tokens ≡ whens_front l.count [] l.fn.tokens
