use Rattle.script_run.proofs.Sums.{within_work}
use Rattle.script_run.proofs.laws.counts_are_within_work.Goals as goal

pub returns : goal.returns
returns c = within_work
