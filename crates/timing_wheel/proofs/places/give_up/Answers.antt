use Rattle.std.proofs.Common.{None}
use Rattle.timing_wheel.proofs.Finding.{finds_kept}
use Rattle.timing_wheel.proofs.places.give_up.Goals as goal

pub returns-clause-finds : goal.returns-clause-finds
returns-clause-finds c = finds_kept c.args.places.now c.remove.new.self c.args.key c.point_of.result None c.point_of.ensures c.remove.ensures.changes
