use Rattle.transfer.proofs.Meanings.{places_agree}
use Rattle.transfer.proofs.laws.places_agree.Goals as goal

pub returns : goal.returns
returns c = places_agree
