use Rattle.script_run.proofs.Counting.{counts_add_up}
use Rattle.script_run.proofs.laws.counts_add_up.Goals as goal

pub returns : goal.returns
returns c = counts_add_up
