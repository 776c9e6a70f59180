use Rattle.script_io.proofs.Lines.{lines_of-newline}
use Rattle.script_io.proofs.laws.lines_end_at_newlines.Goals as goal

pub returns : goal.returns
returns c = lines_of-newline
