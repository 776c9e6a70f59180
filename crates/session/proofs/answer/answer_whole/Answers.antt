use Rattle.std.proofs.Common.{take, ap, arith, ◌∙◌}
use Rattle.std.proofs.lemmas.List.{take_at}
use Rattle.session.proofs.Carried.{carried_back}
use Rattle.session.proofs.answer.answer_whole.Goals as goal

pub returns-in-Err-clause-answered : goal.returns-in-Err-clause-answered
returns-in-Err-clause-answered g c =
    let more = c.in-Err.ensures.extended in
    let held = c.args.out.now.ok.0 in
    let count = c.len-written.ensures in
    let back = c.truncate.ensures.items ∙ ap (take c.len-written.result) more.1
    ∙ take_at c.args.out.now.items more.0 c.len-written.result (omega (arith, held, count)) in
    carried_back _ _ _ _ _ _ _ _ _ _ _ _ c.in-Err.ensures back

-- what was written before stays, and what came behind it is taken back
pub returns-in-Err-clause-unwritten : goal.returns-in-Err-clause-unwritten
returns-in-Err-clause-unwritten g c =
    let more = c.in-Err.ensures.extended in
    let held = c.args.out.now.ok.0 in
    let count = c.len-written.ensures in
    c.truncate.ensures.items ∙ ap (take c.len-written.result) more.1
    ∙ take_at c.args.out.now.items more.0 c.len-written.result (omega (arith, held, count))
