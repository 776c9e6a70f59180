use Rattle.std.proofs.Common.{◌≡◌, length, take}
use Rattle.std.proofs.Math.Seq.{take-append_seam}
use Rattle.inc_value.proofs.function.Sig.new.Goals as goal

pub invariant_of-result : goal.invariant_of-result
invariant_of-result c =
    let front : take (length c.args.takes.now) c.filled_up.result ≡ c.args.takes.now = rw c.filled_up.ensures (take-append_seam _ _) in
    (c.requires.some, c.requires.few, rw front, rw front c.filled_up.ensures)
