-- Why a function is called, as a round goes on.
use Rattle.std.proofs.Common.{◌≡◌, Bool, true, List, Option, sym, subst, ◌∙◌}
use Rattle.inc_value.specs.declared.node.NodeId.{NodeId}
use Rattle.inc_value.specs.declared.node.Point.{Point}
use Rattle.inc_value.specs.declared.value.Value.{Value}
use Rattle.map_nodes.specs.Cutoff.{TellsAgain}
use Rattle.map_nodes.specs.declared.cutoff.Cutoff.{Cutoff}
use Rattle.inc_terms.specs.Depend.{main}
use Rattle.stabilize_round.specs.State.{Call}
use Rattle.stabilize_round.specs.Calling.{Reason, other, forced, made_stale}

-- as more is settled a reason stays
pub reason_more : {last : NodeId → Option Call} {cutoff : NodeId → Cutoff} {stale : NodeId → Bool} {settled settled' : Point → Bool} {n : NodeId} {kids : List NodeId}
    {values : List Value} → ((q : Point) → settled q ≡ true → settled' q ≡ true) → Reason last cutoff settled stale n kids values
    → Reason last cutoff settled' stale n kids values
reason_more more (other differs) = other differs
reason_more more (forced {kid} a tells st) = forced {kid = kid} a tells (more (main kid) st)
reason_more more (made_stale st) = made_stale st

-- what was kept of a node since the round began is a reason by what it began with
pub since_start : {last last' : NodeId → Option Call} {cutoff cutoff' : NodeId → Cutoff} {stale stale' : NodeId → Bool} {settled : Point → Bool} {n : NodeId}
    {kids : List NodeId} {values : List Value} → last n ≡ last' n → ((k : NodeId) → cutoff k ≡ cutoff' k) → stale n ≡ stale' n
    → Reason last cutoff settled stale n kids values → Reason last' cutoff' settled stale' n kids values
since_start last cutoff stale (other differs) = other (λ c l e. differs c (last ∙ l) e)
since_start last cutoff stale (forced {kid} a tells st) = forced {kid = kid} a (subst TellsAgain (cutoff kid) tells) st
since_start last cutoff stale (made_stale st) = made_stale (sym stale ∙ st)
