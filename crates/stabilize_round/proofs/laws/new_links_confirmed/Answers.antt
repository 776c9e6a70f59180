use Rattle.stabilize_round.proofs.Between as law
use Rattle.stabilize_round.proofs.laws.new_links_confirmed.Goals as goal

pub returns : goal.returns
returns c = law.new_links_confirmed
