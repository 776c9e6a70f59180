use Rattle.std.proofs.Common.{◌≡◌}
use Rattle.stabilizer.specs.Giving.{GivesLive}
use Rattle.node_outcomes.specs.Meaning.{meaning_of}
use Rattle.stabilizer.specs.Kept.{counts_by}
use Rattle.stabilizer.specs.Staying.{RoundStays}
use Rattle.stabilizer.specs.Stepping.{left_to_settle}
use Rattle.stabilizer.specs.Telling.{SettledAreNews}
use Rattle.stabilizer.proofs.Building.EveryPoint.{every_point, every_node}
use Rattle.stabilizer.proofs.Step.Making.{AreSettled}
use Rattle.stabilizer.proofs.stabilizer.settle_all.Given as goal

abbrev pub invariant-loop-p : goal.invariant-loop-p
invariant-loop-p g l = record {
  so : AreSettled (meaning_of g.F.Functions l.fn.functions) l.fn.parts l.parts (counts_by g.F.Functions l.fn.functions)
      (counts_by g.F.Functions l.functions);
  stays : RoundStays g.F.Functions l.fn.functions l.functions l.fn.parts l.parts;
  wants : g.F.Functions.wants l.functions ≡ g.F.Functions.wants l.fn.functions;
  gives : GivesLive l.fn.parts.arena.given 0 l.parts.arena;
  noted : SettledAreNews l.parts.work l.news;
}

abbrev pub decreases-loop-p : goal.decreases-loop-p
decreases-loop-p g l = left_to_settle l.parts.work every_point every_node
