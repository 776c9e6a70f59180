use Rattle.inc_terms.proofs.Visiting.{map_visits}
use Rattle.inc_terms.proofs.laws.map_visits.Goals as goal

pub returns : goal.returns
returns c = map_visits
