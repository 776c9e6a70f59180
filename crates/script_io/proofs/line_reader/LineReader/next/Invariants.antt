-- The bytes of one line were taken so far, and no read failed.
use Rattle.std.proofs.Common.{◌≡◌, ◌≤◌, ◌-◌, false, vec_capacity}
use Rattle.script_io.specs.Bytes.{AreOfferedWhole}
use Rattle.script_io.proofs.Taking.{Taking}
use Rattle.script_io.proofs.line_reader.LineReader.next.Given as goal

abbrev pub invariant-loop-self : goal.invariant-loop-self
invariant-loop-self g l = record {
  taking : Taking l.fn.self l.self-inside.bytes l.fn.src l.src (g.S.Source.left l.fn.src) (g.S.Source.left l.src) l.self-inside.line.items l.length l.limit;
  within : l.self-inside.bytes.taken ≤ l.limit;
  unfailed : g.S.Source.faults l.src ≡ g.S.Source.faults l.fn.src;
  offered : AreOfferedWhole (g.S.Source.offered l.fn.src) (g.S.Source.offered l.src);
  room : 4096 ≤ vec_capacity l.self-inside.line;
  unended : l.self-inside.is_ended ≡ false;
}

abbrev pub decreases-loop-self : goal.decreases-loop-self
decreases-loop-self g l = l.limit - l.self-inside.bytes.taken
