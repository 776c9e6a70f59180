use Rattle.std.proofs.Common.{map}
use Rattle.inc_terms.specs.Steps.{step_of}
use Rattle.graph.proofs.Timing.{rising}
use Rattle.graph.proofs.graph.timed.do_rise.Goals as goal

pub returns : goal.returns
returns c = rw c.are_rising.ensures (rising (map step_of c.args.steps.now))
