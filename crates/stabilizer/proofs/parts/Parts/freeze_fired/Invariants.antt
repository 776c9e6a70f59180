use Rattle.stabilizer.proofs.Round.Freezing.{AreFreezing}
use Rattle.stabilizer.proofs.parts.Parts.freeze_fired.Given as goal

abbrev pub invariant-loop-place : goal.invariant-loop-place
invariant-loop-place l = AreFreezing l.fn.self l.self l.place
