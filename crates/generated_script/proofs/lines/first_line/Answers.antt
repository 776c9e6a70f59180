use Rattle.std.proofs.Common.{◌≡◌, ℕ, length, take, ap, subst, ◌∙◌, arith}
use Rattle.std.proofs.Math.Seq.{take-length}
use Rattle.script_io.specs.Lines.{HasNoNewline}
use Rattle.generated_script.proofs.Splitting.{line-ends, line-is_last, no_newline-more, slice-at_end, slice-to_end}
use Rattle.generated_script.proofs.lines.first_line.Goals as goal

pub loop-end-preserved : goal.loop-end-preserved
loop-end-preserved c = no_newline-more c.args.text.now c.loop-end.end c.loop-end-test.true c.loop-end.invariant c.if-byte-eq10.false

pub returns-then-byte-eq10-clause-lines : goal.returns-then-byte-eq10-clause-lines
returns-then-byte-eq10-clause-lines c =
    rw slice-to_end (line-ends c.args.text.now c.loop-end.end c.loop-end-test.true c.loop-end.invariant c.if-byte-eq10.true)

pub returns : goal.returns
returns c =
    let text = c.args.text.now in
    let all : c.loop-end.end ≡ length text = omega arith in
    let clear : HasNoNewline text = subst HasNoNewline (ap (λ (n : ℕ). take n text) all ∙ take-length text) c.loop-end.invariant in
    record {
      lines = rw slice-at_end (line-is_last text c.requires clear);
      shorter = rw slice-at_end c.requires;
    }
