use Rattle.inc_terms.proofs.Flat.{flat_depends}
use Rattle.inc_terms.proofs.laws.flat_depends.Goals as goal

pub returns : goal.returns
returns c = flat_depends
