use Rattle.std.proofs.Common.{refl}
use Rattle.wiring.proofs.Releasing.{released_too}
use Rattle.wiring.proofs.work.Work.end_round.Goals as goal

pub returns-clause-released : goal.returns-clause-released
returns-clause-released c = released_too c.args.self.now c.release_dead.new.self _ c.release_dead.ensures.released refl refl
