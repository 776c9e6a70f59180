use Rattle.std.proofs.Common.{◌∙◌, arith, length-drop}
use Rattle.std.proofs.lemmas.List.{take_rest}
use Rattle.script_io.proofs.Writing.{Appends-plus}
use Rattle.script_io.proofs.sink.write_whole.Goals as goal

pub loop-done-preserved : goal.loop-done-preserved
loop-done-preserved g c =
    let e = c.in_ok-done.ensures in
    record {
      within = let n = rw (take_rest, length-drop) at e.bound in omega arith;
      appended = Appends-plus _ _ _ _ _ _ (omega arith) c.loop-done.invariant.appended (rw take_rest at e.bytes);
      unfailed = e.cause.unfailed ∙ c.loop-done.invariant.unfailed;
    }
