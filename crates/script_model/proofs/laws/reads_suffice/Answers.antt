use Rattle.script_model.proofs.Agreement.{reads_suffice}
use Rattle.script_model.proofs.laws.reads_suffice.Goals as goal

pub returns : goal.returns
returns c = reads_suffice
