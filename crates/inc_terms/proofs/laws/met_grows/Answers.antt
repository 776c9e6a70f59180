use Rattle.inc_terms.proofs.Meanings.{met_growing}
use Rattle.inc_terms.proofs.laws.met_grows.Goals as goal

pub returns : goal.returns
returns c = met_growing
