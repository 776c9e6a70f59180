use Rattle.inc_terms.proofs.Flat.{lost_are_deaths}
use Rattle.inc_terms.proofs.laws.lost_are_deaths.Goals as goal

pub returns : goal.returns
returns c = lost_are_deaths
