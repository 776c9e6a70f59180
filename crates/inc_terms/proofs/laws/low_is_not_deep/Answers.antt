use Rattle.inc_terms.proofs.Walk.{low_is_not_deep}
use Rattle.inc_terms.proofs.laws.low_is_not_deep.Goals as goal

pub returns : goal.returns
returns c = low_is_not_deep
