use Rattle.std.proofs.Common.{refl}
use Rattle.script_model.specs.Request as asked
use Rattle.script_model.specs.Step.{LineTooLong, NoCommand, LineTooDeep}
use Rattle.line_parser.specs.TreeView.{line_view}
use Rattle.script_model.specs.Language.{without_return}
use Rattle.session.proofs.Carried.{carried_nothing, taken_blank, taken_line, taken_refused}
use Rattle.session.proofs.answer.answer.Goals as goal

pub returns-in-Ok-TooLong : goal.returns-in-Ok-TooLong
returns-in-Ok-TooLong g c = taken_refused _ _ _ _ _ _ _ asked.TooLong LineTooLong (rw c.in-Ok-TooLong.field-0-is at c.in-Ok-TooLong.ensures) (λ m. (refl, refl))
    (λ m. refl) (λ m. refl) _ (rw c.number.ensures at c.refuse.ensures)

pub returns-in-Ok-Blank : goal.returns-in-Ok-Blank
returns-in-Ok-Blank g c = taken_blank _ _ _ _ _ _ (rw c.in-Ok-Blank.field-0-is at c.in-Ok-Blank.ensures)

pub returns-in-Ok-Malformed : goal.returns-in-Ok-Malformed
returns-in-Ok-Malformed g c = taken_refused _ _ _ _ _ _ _ asked.Malformed NoCommand (rw c.in-Ok-Malformed.field-0-is at c.in-Ok-Malformed.ensures)
    (λ m. (refl, refl)) (λ m. refl) (λ m. refl) _ (rw c.number-in-Ok-Malformed.ensures at c.refuse-in-Ok-Malformed.ensures)

pub returns-in-Ok-TooDeep : goal.returns-in-Ok-TooDeep
returns-in-Ok-TooDeep g c = taken_refused _ _ _ _ _ _ _ asked.TooDeep LineTooDeep (rw c.in-Ok-TooDeep.field-0-is at c.in-Ok-TooDeep.ensures)
    (λ m. (refl, refl)) (λ m. refl) (λ m. refl) _ (rw c.number-in-Ok-TooDeep.ensures at c.refuse-in-Ok-TooDeep.ensures)

pub returns-in-Ok-Asks : goal.returns-in-Ok-Asks
returns-in-Ok-Asks g c = taken_line _ _ _ _ _ _ _ _ (line_view c.in-Ok-Asks.line) (rw c.in-Ok-Asks.field-0-is at c.in-Ok-Asks.ensures) _ c.carry_out-answered.ensures

pub carry_out-answered-requires-clause-asked : goal.carry_out-answered-requires-clause-asked
carry_out-answered-requires-clause-asked g c =
    let asks = rw c.in-Ok-Asks.field-0-is at c.in-Ok-Asks.ensures in
    (without_return c.args.text.now, asks.1.1)

pub returns-in-Err : goal.returns-in-Err
returns-in-Err g c = carried_nothing _ _ _ _ _ _ _ _ _ _ refl
