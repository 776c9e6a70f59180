use Rattle.stabilize_round.proofs.Runs as law
use Rattle.stabilize_round.proofs.laws.run_builds.Goals as goal

pub returns : goal.returns
returns c = law.run_builds
