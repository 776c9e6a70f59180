use Rattle.node_arena.proofs.Graph.{still_fit}
use Rattle.node_arena.proofs.laws.functions_stay_fit.Goals as goal

pub returns : goal.returns
returns c = still_fit
