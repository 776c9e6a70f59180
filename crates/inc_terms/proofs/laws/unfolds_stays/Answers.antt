use Rattle.inc_terms.proofs.Meanings.{unfolds_stays}
use Rattle.inc_terms.proofs.laws.unfolds_stays.Goals as goal

pub returns : goal.returns
returns c = unfolds_stays
