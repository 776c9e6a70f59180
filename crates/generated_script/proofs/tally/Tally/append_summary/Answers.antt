use Rattle.std.proofs.Common.{◌≡◌, ◌++◌, ◌∙◌, OnOk, ap, subst}
use Rattle.generated_script.specs.Summary.{Summary, summary_line}
use Rattle.generated_script.specs.Counting.{summary_counted}
use Rattle.generated_script.proofs.Counting.{comes_to}
use Rattle.generated_script.proofs.tally.Tally.append_summary.Goals as goal

pub returns : goal.returns
returns c = λ printed is ended.
    subst (λ (s : Summary). OnOk c.append_counts.result (c.append_counts.new.buffer.items ≡ c.args.buffer.now.items ++ summary_line s))
    (ap summary_counted is ∙ comes_to printed ended) c.append_counts.ensures
