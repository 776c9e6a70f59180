use Rattle.std.proofs.Common.{◌≡◌, map, Some, ◌∙◌}
use Rattle.line_parser.specs.View.{timed_view}
use Rattle.script_model.specs.Parsing.{step_front}
use Rattle.line_parser.proofs.Steps.{list_broken, list_continued, list_ended, none_read, steps_pushed}
use Rattle.line_parser.proofs.parser.clock.some_steps_of.Goals as goal

pub loop-count-preserved : goal.loop-count-preserved
loop-count-preserved c =
    let next : Some (timed_view c.in-Ok-Some.found, c.step_of.new.tokens) ≡ step_front c.loop-count.tokens =
    rw c.in-Ok-Some.field-0-is at c.in-Ok-Some.ensures in
    rw (c.in_ok-push.ensures.items, steps_pushed c.loop-count.found.items c.in-Ok-Some.found, c.if-not-eat.ensures.rest, c.if-eat.ensures.rest)
    (list_continued step_front 93 c.args.limit c.loop-count._count (map timed_view c.loop-count.found.items) c.loop-count.tokens c.loop-count-test.true
    (timed_view c.in-Ok-Some.found) c.step_of.new.tokens next c.if-eat.ensures.found (rw c.if-eat.ensures.rest at c.if-not-eat.ensures.found)
    ∙ c.loop-count.invariant)

pub returns-then-eat : goal.returns-then-eat
returns-then-eat c =
    let next : Some (timed_view c.in-Ok-Some.found, c.step_of.new.tokens) ≡ step_front c.loop-count.tokens =
    rw c.in-Ok-Some.field-0-is at c.in-Ok-Some.ensures in
    rw (c.in_ok-push.ensures.items, steps_pushed c.loop-count.found.items c.in-Ok-Some.found, c.if-eat.ensures.rest)
    (list_ended step_front 93 c.args.limit c.loop-count._count (map timed_view c.loop-count.found.items) c.loop-count.tokens c.loop-count-test.true
    (timed_view c.in-Ok-Some.found) c.step_of.new.tokens next c.if-eat.ensures.found
    ∙ c.loop-count.invariant)

pub returns-then-not-eat : goal.returns-then-not-eat
returns-then-not-eat c =
    let next : Some (timed_view c.in-Ok-Some.found, c.step_of.new.tokens) ≡ step_front c.loop-count.tokens =
    rw c.in-Ok-Some.field-0-is at c.in-Ok-Some.ensures in
    list_broken step_front 93 c.args.limit c.loop-count._count (map timed_view c.loop-count.found.items) c.loop-count.tokens c.loop-count-test.true
    (timed_view c.in-Ok-Some.found) c.step_of.new.tokens next c.if-eat.ensures.found (rw c.if-eat.ensures.rest at c.if-not-eat.ensures.found)
    ∙ c.loop-count.invariant

pub returns-in-Ok-None : goal.returns-in-Ok-None
returns-in-Ok-None c =
    none_read step_front 93 c.args.limit c.loop-count._count (map timed_view c.loop-count.found.items) c.loop-count.tokens c.loop-count-test.true
    (rw c.in-Ok-None.field-0-is at c.in-Ok-None.ensures) ∙ c.loop-count.invariant
