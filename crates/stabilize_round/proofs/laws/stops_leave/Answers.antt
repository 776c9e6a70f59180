use Rattle.stabilize_round.proofs.Stopped as law
use Rattle.stabilize_round.proofs.laws.stops_leave.Goals as goal

pub returns : goal.returns
returns c = law.stops_leave
