use Rattle.stabilize_round.proofs.Closing as law
use Rattle.stabilize_round.proofs.laws.given_again.Goals as goal

pub returns : goal.returns
returns c = law.given_again
