use Rattle.transfer.proofs.Rebuilt.{builds_keep_scopes}
use Rattle.transfer.proofs.laws.builds_keep_scopes.Goals as goal

pub returns : goal.returns
returns c = builds_keep_scopes
