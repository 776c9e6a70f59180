use Rattle.inc_terms.proofs.Meanings.{plan_is_depends}
use Rattle.inc_terms.proofs.laws.plan_is_depends.Goals as goal

pub returns : goal.returns
returns c = plan_is_depends
