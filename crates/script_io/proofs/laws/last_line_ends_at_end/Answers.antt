use Rattle.script_io.proofs.Lines.{lines_of-last}
use Rattle.script_io.proofs.laws.last_line_ends_at_end.Goals as goal

pub returns : goal.returns
returns c = lines_of-last
