use Rattle.std.proofs.Common.{ap}
use Rattle.necessity.proofs.needs.Needs.readers.Goals as goal

pub returns : goal.returns
returns c = rw (← ap (λ w. w.links) c.self.view_is) c.readers.ensures
