use Rattle.script_run.proofs.Steps.{so_far_ends, so_far_more, so_far_none}
use Rattle.script_run.proofs.running.take_lines.Goals as goal

pub loop-so_far-init : goal.loop-so_far-init
loop-so_far-init g c = so_far_none _ _ _ _ _ _ _ c.requires

pub loop-so_far-preserved : goal.loop-so_far-preserved
loop-so_far-preserved g c = so_far_more _ _ _ _ _ _ _ _ _ _ c.loop-so_far.invariant _ _ c.in-Ok.is c.take_line.ensures

pub returns-in-Err : goal.returns-in-Err
returns-in-Err g c = so_far_ends _ _ _ _ _ _ _ _ _ _ c.loop-so_far.invariant _ _ c.in-Err.is c.take_line.ensures
