-- Why a run stops before its end, and how runs end.
use Rattle.std.specs.Prelude.{◌⊎◌, ◌≡◌, ℕ}
use Rattle.graph.specs.declared.fault.Kept.TheVariants as kept
use Rattle.graph.specs.declared.fault.GraphFault.{GraphFault}
use Rattle.graph.specs.declared.fault.GraphFault.TheVariants as graph
use Rattle.graph.specs.declared.fault.StabilizeFault.{StabilizeFault}
use Rattle.graph.specs.declared.fault.StabilizeFault.TheVariants as stabilize
use Rattle.script_functions.specs.declared.draft.LineFault.{LineFault}
use Rattle.script_functions.specs.declared.draft.LineFault.TheVariants as line
use Rattle.script_io.specs.Causes.{Rose}
use Rattle.incr_bench.specs.declared.fault.Fault.{Fault}
use Rattle.incr_bench.specs.declared.fault.Fault.TheVariants.{Refused, Memory}
use Rattle.incr_bench.specs.declared.report.Ending.{Ending}
use Rattle.incr_bench.specs.declared.report.Ending.TheVariants.{Told, Unwritten, Stopped}

-- why a call of a graph stops a run
abbrev pub of_graph : GraphFault → Fault
of_graph graph.Memory = Memory
of_graph (graph.Broken kept.Memory) = Memory
of_graph _ = Refused

-- why a refused stabilize stops a run
abbrev pub of_stabilize : StabilizeFault → Fault
of_stabilize (stabilize.Refused kept.Memory) = Memory
of_stabilize (stabilize.Broken kept.Memory) = Memory
of_stabilize _ = Refused

-- why a line that isn't added stops a run
abbrev pub of_line : LineFault → Fault
of_line line.Memory = Memory
of_line _ = Refused

-- the status that the program ends with
abbrev pub status_of : Ending → ℕ
status_of Told = 0
status_of (Stopped Refused) = 1
status_of Unwritten = 4
status_of (Stopped Memory) = 5

-- one of two sinks failed where that came, else neither did
pub record SinksTell (Came : Type 0) (out_before out_now notes_before notes_now : ℕ) : Type 0 where
  pub fault : Came → Rose out_before out_now ⊎ Rose notes_before notes_now
  pub out : (Came → ⊥) → out_now ≡ out_before
  pub notes : (Came → ⊥) → notes_now ≡ notes_before
