use Rattle.inc_terms.proofs.Work.{idle_is_free}
use Rattle.inc_terms.proofs.laws.idle_is_free.Goals as goal

pub returns : goal.returns
returns c = idle_is_free
