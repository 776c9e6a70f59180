use Rattle.std.proofs.Common.{◌≡◌, Some, ◌∙◌}
use Rattle.script_model.specs.Parsing.{when_front}
use Rattle.line_parser.proofs.Freezes.{one_continued, one_missing}
use Rattle.line_parser.proofs.parser.freeze.whens_of.Goals as goal

pub loop-index-preserved : goal.loop-index-preserved
loop-index-preserved c =
    let next : Some (c.in-Ok-Some.found, c.when_of.new.tokens) ≡ when_front c.loop-index.tokens = rw c.in-Ok-Some.field-0-is at c.in-Ok-Some.ensures in
    rw c.in_ok-push.ensures.items
    (one_continued c.args.count c.loop-index._index c.loop-index.found.items c.loop-index.tokens c.loop-index-test.true c.in-Ok-Some.found c.when_of.new.tokens next
    ∙ c.loop-index.invariant)

pub returns-in-Ok-None : goal.returns-in-Ok-None
returns-in-Ok-None c =
    one_missing c.args.count c.loop-index._index c.loop-index.found.items c.loop-index.tokens c.loop-index-test.true
    (rw c.in-Ok-None.field-0-is at c.in-Ok-None.ensures) ∙ c.loop-index.invariant
