use Rattle.std.proofs.Common.{List, ℕ, [], ◌++◌, length, ◌∙◌, ap, subst, arith}
use Rattle.generated_script.proofs.Bounds.{text-short}
use Rattle.generated_script.specs.Generated.{generated_text}
use Rattle.script_model.specs.Formula.{meanings_of}
use Rattle.script_model.specs.Run.{transcript}
use Rattle.script_run.specs.Summing.{CountsSoFar}
use Rattle.script_run.proofs.Generated.{sums_all, transcript_ended}
use Rattle.script_run.proofs.summing.sum_up.Goals as goal

pub count_lines-requires-clause-lines : goal.count_lines-requires-clause-lines
count_lines-requires-clause-lines g c =
    let few = text-short c.args.steps c.args.seed c.requires.steps in
    let size = ap length (c.deref.ensures.value ∙ c.in_ok-gen_text.ensures.text ∙ ap (λ (l : List ℕ). l ++ generated_text c.args.steps c.args.seed) c.new-text.ensures.items) in
    let none = c.requires.lines in
    omega (arith, few, size, none)

pub returns-clause-summed : goal.returns-clause-summed
returns-clause-summed g c = λ stands.
    let lib = c.args.session.now.library in
    let so = subst (λ (text : List ℕ). CountsSoFar (meanings_of (g.L.Library.named lib) (g.L.Library.value lib)) text [] (g.L.Library.calls lib)
    c.count_lines.new.session.kept (g.L.Library.calls c.count_lines.new.session.library) c.count_lines.new.tally c.in_ok-refused.refused)
    (c.deref.ensures.value ∙ c.in_ok-gen_text.ensures.text ∙ ap (λ (l : List ℕ). l ++ generated_text c.args.steps c.args.seed) c.new-text.ensures.items) (c.in_ok-refused.ensures.counted stands c.new-tally.ensures) in
    let written = c.in_ok-append_summary.ensures (transcript so.turns) so.sums (transcript_ended so.turns) in
    record {
      sums = sums_all _ _ _ _ _ _ _ so;
      line_is = rw c.in_ok-refused.ensures.empty at written;
      refused = so.refused;
    }
