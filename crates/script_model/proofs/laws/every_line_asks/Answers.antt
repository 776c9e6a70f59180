use Rattle.script_model.proofs.Asked.{every_line_asks}
use Rattle.script_model.proofs.laws.every_line_asks.Goals as goal

pub returns : goal.returns
returns c = every_line_asks
