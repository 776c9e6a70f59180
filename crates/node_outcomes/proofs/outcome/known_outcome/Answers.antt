use Rattle.std.proofs.Common.{inr, refl}
use Rattle.node_outcomes.proofs.Computing.{all_of_values}
use Rattle.node_outcomes.proofs.outcome.known_outcome.Goals as goal

pub returns-then-must_call-clause-known : goal.returns-then-must_call-clause-known
returns-then-must_call-clause-known c = (
  all_of_values c.args.rows.now c.args.kids.now c.last.inside.arguments.now (c.if-show.ensures.0 refl),
  inr (c.if-must_call.ensures.0 refl),
)
