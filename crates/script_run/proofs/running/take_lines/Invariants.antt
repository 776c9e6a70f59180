-- The lines so far made a run of the model, and nothing failed.
use Rattle.std.proofs.Common.{◌-◌, false}
use Rattle.script_model.specs.Formula.{meanings_of}
use Rattle.script_run.specs.Steps.{desk_of, place_of}
use Rattle.script_run.proofs.Steps.{SoFar}
use Rattle.script_run.proofs.running.take_lines.Given as goal

abbrev pub invariant-loop-so_far : goal.invariant-loop-so_far
invariant-loop-so_far g l = SoFar (λ x. meanings_of (g.L.Library.named x) (g.L.Library.value x)) g.L.Library.known g.L.Library.calls g.R.Report.behind
    l.limit false l.refused
    (place_of l.fn.lines (g.S.Source.left l.fn.src) (g.S.Source.faults l.fn.src)
    (desk_of l.fn.session (g.K.Sink.written l.fn.out) (g.K.Sink.faults l.fn.out) l.fn.buffer.items))
    (place_of l.lines (g.S.Source.left l.src) (g.S.Source.faults l.src)
    (desk_of l.session (g.K.Sink.written l.out) (g.K.Sink.faults l.out) l.buffer.items))

abbrev pub decreases-loop-so_far : goal.decreases-loop-so_far
decreases-loop-so_far g l = l.limit - l.lines.taken
