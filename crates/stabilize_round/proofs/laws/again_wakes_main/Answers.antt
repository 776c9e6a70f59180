use Rattle.stabilize_round.proofs.Meanings as law
use Rattle.stabilize_round.proofs.laws.again_wakes_main.Goals as goal

pub returns : goal.returns
returns c = law.again_wakes_main
