-- How faults of the crates below are answered.
use Rattle.std.specs.Prelude.{Result, Err}
use Rattle.clock_nodes.specs.declared.clock.AdvanceFault.{AdvanceFault}
use Rattle.clock_nodes.specs.declared.clock.AdvanceFault.TheVariants as advance
use Rattle.expert_nodes.specs.declared.expert.LinkFault.{LinkFault}
use Rattle.expert_nodes.specs.declared.expert.LinkFault.TheVariants as link
use Rattle.expert_nodes.specs.declared.expert.UnlinkFault.{UnlinkFault}
use Rattle.expert_nodes.specs.declared.expert.UnlinkFault.TheVariants as unlink
use Rattle.graph.specs.declared.fault.Kept.{Kept}
use Rattle.graph.specs.declared.fault.Kept.TheVariants as kept
use Rattle.graph.specs.declared.fault.GraphFault.{GraphFault}
use Rattle.graph.specs.declared.fault.GraphFault.TheVariants as fault
use Rattle.inc_value.specs.declared.ty.Ty.{Ty}
use Rattle.inc_value.specs.declared.ty.Ty.TheVariants as ty
use Rattle.node_arena.specs.declared.arena.AddFault.{AddFault}
use Rattle.node_arena.specs.declared.arena.AddFault.TheVariants as add
use Rattle.node_arena.specs.declared.arena.variable.SetFault.{SetFault}
use Rattle.node_arena.specs.declared.arena.variable.SetFault.TheVariants as set
use Rattle.wiring.specs.declared.refused.Refused.{Refused}
use Rattle.wiring.specs.declared.refused.Refused.TheVariants as refused

-- what breaks a graph
abbrev pub kept_of : Refused → Kept
kept_of (refused.Cycle points) = kept.Cycle
kept_of (refused.Height points) = kept.Height
kept_of refused.Full = kept.Full
kept_of refused.Memory = kept.Memory

-- why a node isn't added
abbrev pub of_add : AddFault → GraphFault
of_add add.Unknown = fault.Unknown
of_add add.WrongType = fault.WrongType
of_add add.Full = fault.Full
of_add add.Memory = fault.Memory

-- why a node isn't added that counts spans and isn't timed: a count is an integer
abbrev pub of_untimed : Ty → GraphFault
of_untimed ty.Int = fault.Span
of_untimed t = fault.WrongType

-- why steps aren't added whose times don't rise, by whether the nodes admit them
abbrev pub of_unordered : {T : Type 0} → Result T AddFault → GraphFault
of_unordered (Err add.Unknown) = fault.Unknown
of_unordered (Err add.WrongType) = fault.WrongType
of_unordered admitted = fault.Order

-- why the time isn't moved on
abbrev pub of_advance : AdvanceFault → GraphFault
of_advance advance.Back = fault.Back
of_advance advance.Memory = fault.Memory

-- why a variable isn't set
abbrev pub of_set : SetFault → GraphFault
of_set set.Unknown = fault.Unknown
of_set set.NotVar = fault.NotVar
of_set set.WrongType = fault.WrongType

-- why a node isn't put behind an expert's list, or taken off it
abbrev pub of_link : LinkFault → GraphFault
of_link link.LinksFull = fault.LinksFull
of_link link.Memory = fault.Memory

abbrev pub of_unlink : UnlinkFault → GraphFault
of_unlink unlink.NotLinked = fault.NotLinked
