-- How a node's function is called: for what, with what answer, and how often.
use Rattle.std.specs.Prelude.{◌≡◌, ℕ, Bool, true, List, Option, None, Some}
use Rattle.std.specs.List.{sum_by}
use Rattle.inc_value.specs.declared.node.NodeId.{NodeId}
use Rattle.inc_value.specs.declared.value.Value.{Value}
use Rattle.inc_value.specs.declared.node.Point.{Point}
use Rattle.inc_value.specs.Choice.{Among}
use Rattle.map_nodes.specs.Cutoff.{TellsAgain}
use Rattle.map_nodes.specs.declared.cutoff.Cutoff.{Cutoff}
use Rattle.inc_terms.specs.Term.{Functions}
use Rattle.inc_terms.specs.Graph.{Graph, Row, Def, Map, Fold, Freeze, Expert}
use Rattle.inc_terms.specs.Depend.{main}
use Rattle.inc_terms.specs.Evaluate.{folded}
use Rattle.inc_terms.specs.Work.{cost_of}
use Rattle.stabilize_round.specs.State.{Call}

-- why a node's function is called on the values of its children: it wasn't last called on these; a child was settled that tells even of an
-- outcome that stays; or it was made stale
pub data Reason (last : NodeId → Option Call) (cutoff : NodeId → Cutoff) (settled : Point → Bool) (stale : NodeId → Bool) (n : NodeId)
    (kids : List NodeId) (values : List Value) : Type 0 where
  other : ((c : Call) → last n ≡ Some c → c.arguments ≡ values → ⊥) → Reason last cutoff settled stale n kids values
  forced : {kid : NodeId} → Among kid kids → TellsAgain (cutoff kid) → settled (main kid) ≡ true → Reason last cutoff settled stale n kids values
  made_stale : stale n ≡ true → Reason last cutoff settled stale n kids values

-- what the calls give on these values: a map and a freeze's predicate are called on all of them, a fold and an expert on each in turn
abbrev pub IsAnswer : Functions → Def → List Value → Value → Type 0
IsAnswer F (Map f ns) values w = w ≡ F.value f values
IsAnswer F (Fold f v ns) values w = w ≡ folded (F.value f) v values
IsAnswer F (Freeze kid f) values w = w ≡ F.value f values
IsAnswer F (Expert f v ns) values w = w ≡ folded (F.value f) v values
IsAnswer F def values w = ⊥

-- none is 0
abbrev pub or_none : Option ℕ → ℕ
or_none None = 0
or_none (Some k) = k

-- how many calls it takes to compute a node anew
abbrev pub row_cost : Graph → NodeId → Option Row → ℕ
row_cost G n None = 0
row_cost G n (Some r) = or_none (cost_of G n r.def)

-- by its row
abbrev pub cost_at : Graph → NodeId → ℕ
cost_at G n = row_cost G n (G.row n)

-- how many calls it takes to compute all of these anew
abbrev pub costs_of : Graph → List NodeId → ℕ
costs_of G ns = sum_by (cost_at G) ns
