use Rattle.inc_terms.proofs.Walk.{walks_reach}
use Rattle.inc_terms.proofs.laws.walks_reach.Goals as goal

pub returns : goal.returns
returns c = walks_reach
