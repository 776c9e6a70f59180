use Rattle.inc_terms.proofs.Rebuilding.{rebuilding_keeps}
use Rattle.inc_terms.proofs.laws.rebuilding_keeps.Goals as goal

pub returns : goal.returns
returns c = rebuilding_keeps
