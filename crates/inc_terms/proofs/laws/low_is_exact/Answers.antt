use Rattle.inc_terms.proofs.Meanings.{low_is_exact}
use Rattle.inc_terms.proofs.laws.low_is_exact.Goals as goal

pub returns : goal.returns
returns c = low_is_exact
