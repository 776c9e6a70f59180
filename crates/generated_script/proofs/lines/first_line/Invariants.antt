use Rattle.std.proofs.Common.{take}
use Rattle.script_io.specs.Lines.{HasNoNewline}
use Rattle.generated_script.proofs.lines.first_line.Given as goal

abbrev pub invariant-loop-end : goal.invariant-loop-end
invariant-loop-end l = HasNoNewline (take l.end l.text)
