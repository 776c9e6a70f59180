use Rattle.inc_terms.proofs.Row.{binds_work}
use Rattle.inc_terms.proofs.laws.binds_work.Goals as goal

pub returns : goal.returns
returns c = binds_work
