use Rattle.std.proofs.Common.{inr, refl, sym, ◌∙◌}
use Rattle.wiring.proofs.work.Work.release.Goals as goal
use Rattle.wiring.proofs.work.Work.release.Goals.{else-is_there-via-then-is_there+else-reads, else-is_there-via-else-is_there}

pub returns-else-is_there-clause-off : goal.returns-else-is_there-clause-off
returns-else-is_there-clause-off c = inr (
  refl,
  λ reads. elim c.else-is_there.branch [
    | else-is_there-via-then-is_there+else-reads w ↦ let h = w.reads.ensures.1 reads in let f = w.if-reads.false in absurd (cc)
    | else-is_there-via-else-is_there w ↦
        let there = (c.requires.step.ends c.args.p c.args.gate reads).0 in
        let f = sym there ∙ (sym c.is_there.ensures ∙ w.if-is_there.false) in
        absurd (cc)
  ],
)
