use Rattle.inc_terms.proofs.Walk.{rising_walks_end}
use Rattle.inc_terms.proofs.laws.rising_walks_end.Goals as goal

pub returns : goal.returns
returns c = rising_walks_end
