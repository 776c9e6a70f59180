use Rattle.std.proofs.Common.{◌∙◌}
use Rattle.timing_wheel.specs.Places.{key_point}
use Rattle.timing_wheel.proofs.places.make_place.Goals as goal

pub returns-clause-finds : goal.returns-clause-finds
returns-clause-finds c = λ q. c.reserve.ensures.rows (key_point q) ∙ c.make_first.ensures.finds q
