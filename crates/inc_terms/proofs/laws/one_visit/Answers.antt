use Rattle.inc_terms.proofs.Work.{one_visit}
use Rattle.inc_terms.proofs.laws.one_visit.Goals as goal

pub returns : goal.returns
returns c = one_visit
