use Rattle.stabilize_round.proofs.Steps as law
use Rattle.stabilize_round.proofs.laws.step_builds.Goals as goal

pub returns : goal.returns
returns c = law.step_builds
