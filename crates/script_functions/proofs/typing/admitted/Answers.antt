use Rattle.script_functions.specs.Bodies.{type_at}
use Rattle.script_functions.proofs.Adding.{line_there}
use Rattle.script_functions.proofs.typing.admitted.Goals as goal

pub returns-then-not-reads_what_is_there-clause-too_large : goal.returns-then-not-reads_what_is_there-clause-too_large
returns-then-not-reads_what_is_there-clause-too_large c = (
  λ e. absurd cc,
  λ h. (let there = line_there (type_at c.args.draft.now) c.args.draft.now.listed c.args.line.now h.0.0 h.0.1 in
      let t = c.reads_what_is_there.ensures.1 there in absurd cc),
)
