use Rattle.inc_terms.proofs.Meanings.{keeping_names}
use Rattle.inc_terms.proofs.laws.keeping_names.Goals as goal

pub returns : goal.returns
returns c = keeping_names
