use Rattle.line_times.proofs.reasons.is_not_whole.Goals as goal

pub returns-in-Let : goal.returns-in-Let
returns-in-Let c = rw c.in-Let.is (c.holds_top_form.ensures c.in-Let.name)
