-- Changes that are settled, and right sides that are taken off.
use Rattle.std.specs.Prelude.{◌≡◌, ◌⊎◌, ◌≢◌, Bool, Option, None, Some}
use Rattle.inc_value.specs.declared.node.NodeId.{NodeId}
use Rattle.inc_value.specs.declared.node.Point.{Point}
use Rattle.inc_value.specs.declared.outcome.Outcome.{Outcome}
use Rattle.inc_terms.specs.Depend.{main, change}
use Rattle.point_map.specs.Rows.{at}
use Rattle.link_table.specs.Links.{Reads}
use Rattle.necessary_graph.specs.Part.{NecessaryPart, Needed}
use Rattle.necessary_graph.specs.Sweep.{IsUnlinked}
use Rattle.node_outcomes.specs.Row.{IsRewritten, with_stage, with_outcome, stage_in, outcome_in}
use Rattle.wiring.specs.Graph.{rowless}
use Rattle.wiring.specs.Wiring.{IsEnqueued}
use Rattle.node_outcomes.specs.declared.row.Stage.TheVariants.{Static, Full}
use Rattle.wiring.specs.declared.work.Work.{Work}

-- a main is needed and has all its links
pub record IsAttached (work : Work) (n : NodeId) : Type 0 where
  pub needed : Needed work.graph (main n)
  pub stage : stage_in (at work.rows (main n)) ≡ Some Full

-- a main is needed and waits for its node's change
pub record IsWaiting (work : Work) (n : NodeId) : Type 0 where
  pub needed : Needed work.graph (main n)
  pub stage : stage_in (at work.rows (main n)) ≡ Some Static

-- the link to a right side is off, if there was one
abbrev pub IsOff : (Point → Bool) → NecessaryPart → NecessaryPart → NodeId → Option NodeId → Type 0
IsOff leaf old new n None = new ≡ old
IsOff leaf old new n (Some m) = IsUnlinked leaf old new (main n) (main m) ⊎ ((new ≡ old) × (Reads old.links (main n) (main m) → ⊥))

-- a main waits again: it is in the heap, unless it was settled, and its right side is off
pub record IsDetached (old new : Work) (n : NodeId) (right : Option NodeId) : Type 0 where
  pub rows : IsRewritten old.rows new.rows (main n) (with_stage Static)
  pub mid : Work
  pub enqueued : IsEnqueued old mid (main n)
  pub rest : mid ≡ record old { graph = mid.graph }
  pub off : IsOff (rowless new) mid.graph new.graph n right
  pub last : new ≡ record mid { graph = new.graph; rows = new.rows }

-- a change was settled on an outcome of its subject: on another one than before a main with a right side waits again
pub record HasTurned (old new : Work) (n : NodeId) (right : Option NodeId) (given : Outcome) : Type 0 where
  pub mid : Work
  pub turned : ((mid ≡ old) × ((outcome_in (at old.rows (change n)) ≡ Some given) ⊎ (IsAttached old n → ⊥)))
      ⊎ (IsDetached old mid n right × IsAttached old n × (outcome_in (at old.rows (change n)) ≢ Some given))
  pub rows : IsRewritten mid.rows new.rows (change n) (with_outcome given old.round)
  pub rest : new ≡ record mid { rows = new.rows }
