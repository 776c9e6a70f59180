use Rattle.std.proofs.Common.{Some}
use Rattle.timing_wheel.proofs.Finding.{finds_kept}
use Rattle.timing_wheel.proofs.places.keep.Goals as goal

pub returns-clause-finds : goal.returns-clause-finds
returns-clause-finds c = finds_kept c.args.places.now c.insert.new.self c.args.key c.point_of.result (Some c.args.place) c.point_of.ensures c.insert.ensures.changes
