use Rattle.std.proofs.Common.{subst, arith}
use Rattle.script_graph.specs.State.{Stands}
use Rattle.script_model.specs.Formula.{Meanings}
use Rattle.script_model.specs.Step.{Moment}
use Rattle.session.specs.Taken.{Stops}
use Rattle.script_run.specs.Summing.{CountsTurn}
use Rattle.script_run.proofs.Generated.{on_err, sums_more, sums_until}
use Rattle.script_run.proofs.Steps.{keeps_on}
use Rattle.script_run.proofs.summing.count_lines.Goals as goal

pub loop-rest-preserved : goal.loop-rest-preserved
loop-rest-preserved g c =
    let calls = g.L.Library.calls in
    let inv = c.loop-rest.invariant in
    let taken = c.in_ok-again.ensures in
    let turn = subst (λ (f : Meanings). CountsTurn f c.first_line.result.0.now c.loop-rest.session.kept c.count_line.new.session.kept
    (calls c.loop-rest.session.library) (calls c.count_line.new.session.library) c.loop-rest.tally c.count_line.new.tally c.in_ok-again.again)
    inv.library.functions taken.counted in
    let shorter = c.first_line.ensures.shorter in
    let lines = c.count_line.ensures.lines in
    let within = inv.lines in
    record {
      so_far = λ stands empty. sums_more _ _ _ _ c.first_line.result.1.now c.first_line.result.0.now _ _ _ _ _ _ _
          (inv.so_far stands empty) c.first_line.ensures.lines _ turn;
      lines = omega (arith, shorter, lines, within);
      few = taken.few;
      empty = taken.empty;
      library = keeps_on _ _ _ _ _ _ inv.library c.count_line.ensures.library;
    }

pub returns-in_err-again-clause-stopped : goal.returns-in_err-again-clause-stopped
returns-in_err-again-clause-stopped g c = λ stands empty.
    let calls = g.L.Library.calls in
    let inv = c.loop-rest.invariant in
    let stops = subst (λ (f : Meanings). (m : Moment) → Stands f c.loop-rest.session.kept m → Stops f m c.first_line.result.0.now c.count_line.new.session.kept
    (calls c.loop-rest.session.library) (calls c.count_line.new.session.library)) inv.library.functions c.in_err-again.ensures.stopped in
    on_err _ (sums_until _ _ _ _ c.first_line.result.1.now c.first_line.result.0.now _ c.count_line.new.session.kept _ _ _ c.loop-rest.tally _
    (inv.so_far stands empty) c.first_line.ensures.lines stops)
