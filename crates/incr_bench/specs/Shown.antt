-- What a measured graph has and shows.
use Rattle.std.specs.Prelude.{◌-◌, ◌^◌, ℕ, ℤ, Bool, true, false, List, Option, None, Some, nat_lt, slice_get, unwrap_or}
use Rattle.inc_value.specs.Choice.{and_then}
use Rattle.inc_value.specs.declared.node.NodeId.{NodeId}
use Rattle.inc_value.specs.declared.node.ObsId.{ObsId}
use Rattle.inc_value.specs.declared.outcome.Outcome.{Outcome}
use Rattle.inc_value.specs.declared.outcome.Outcome.TheVariants.{Val}
use Rattle.inc_value.specs.declared.value.Value.TheVariants.{Int}
use Rattle.graph.specs.Standing.{GraphView, node_at, shown_of}

-- the node at a place, or one that no graph has
abbrev pub node_in : List NodeId → ℕ → NodeId
node_in nodes place = unwrap_or (slice_get nodes place) (record { slot = 0; gen_ = 2 ^ 64 - 1 })

-- the number of an outcome; nothing else has one
abbrev pub number_in : Outcome → Option ℤ
number_in (Val (Int number)) = Some number
number_in other = None

-- a number that a graph shows while no stabilize was refused, of an observer that was there at the last one
abbrev pub where_rooted : Bool → Option ℤ → Option ℤ
where_rooted true number = number
where_rooted false number = None

abbrev pub where_unbroken : {R : Type 0} → Option R → Option ℤ → Option ℤ
where_unbroken None number = number
where_unbroken (Some refused) number = None

-- the number that an observer shows, if it shows one
abbrev pub shown_by : {F : Type 0} → GraphView F → ObsId → Option ℤ
shown_by s observer = where_unbroken s.refused (where_rooted (nat_lt observer.0 s.rooted)
    (and_then (node_at s.observers observer) (λ node. and_then (shown_of s node) number_in)))
