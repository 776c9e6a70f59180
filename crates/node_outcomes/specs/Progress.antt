-- What is seen of a point's row.
use Rattle.std.specs.Prelude.{ℕ, Bool, false, length, Option, None}
use Rattle.inc_value.specs.declared.outcome.Outcome.{Outcome}
use Rattle.inc_terms.specs.Graph.{Def, kids}
use Rattle.map_nodes.specs.declared.cutoff.Cutoff.{Cutoff}
use Rattle.map_nodes.specs.declared.cutoff.Cutoff.TheVariants.{Equal}
use Rattle.stabilize_round.specs.State.{Call}
use Rattle.node_outcomes.specs.declared.row.Stage.{Stage}
use Rattle.node_outcomes.specs.declared.row.Stage.TheVariants.{Bare}

-- its links' stage, the round in which it was settled last, its outcome, the last call of its node's function, its cutoff, whether it is of a freeze that
-- keeps a value, and on how many values the function can be called without memory for their lists
pub record Progress : Type 0 where
  pub stage : Stage
  pub settled : ℕ
  pub outcome : Option Outcome
  pub last : Option Call
  pub cutoff : Cutoff
  pub frozen : Bool
  pub room : ℕ

-- what is kept of a point of a node that is new, and so defined
abbrev pub new_row : Def → Progress
new_row def = record { stage = Bare; settled = 0; outcome = None; last = None; cutoff = Equal; frozen = false; room = length (kids def) }
