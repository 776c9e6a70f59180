use Rattle.script_model.proofs.Visits.{one_visit}
use Rattle.script_model.proofs.laws.one_visit.Goals as goal

pub returns : goal.returns
returns c = one_visit
