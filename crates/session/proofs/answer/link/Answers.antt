use Rattle.std.proofs.Common.{◌∙◌, ap, arith, take}
use Rattle.std.proofs.lemmas.List.{take_at}
use Rattle.session.proofs.Carried.{carried_done, carried_nothing, carried_refused, carried_unmade, same_script}
use Rattle.session.proofs.Following.{followed_link, refused_link}
use Rattle.session.specs.Replies.{done_line}
use Rattle.session.proofs.answer.link.Goals as goal

pub returns-in-Ok-true : goal.returns-in-Ok-true
returns-in-Ok-true g c = carried_done _ _ _ _ _ _ 0 0 (omega arith) (omega arith) _ _ _ _ c.link.ensures.beside c.requires.unbroken (λ m st.
    let done = c.in-Ok-true.ensures.linked c.in-Ok-true.field-0-test m st.matches in
    followed_link _ m c.args.expert c.args.target c.link.new.self.kept _ _ _ done.1 done.0 c.in-Ok.ensures.ok)

-- the reply that was written is taken back
pub returns-in-Ok-false : goal.returns-in-Ok-false
returns-in-Ok-false g c =
    let full = c.in-Ok-false.ensures.full c.in-Ok-false.field-0-test in
    let held = c.args.out.now.ok.0 in
    let count = c.len-written.ensures in
    let back = c.truncate.ensures.items ∙ ap (take c.len-written.result) c.in-Ok.ensures.ok
    ∙ take_at c.args.out.now.items done_line c.len-written.result (omega (arith, held, count)) in
    rw (same_script c.args.script.now c.link.new.self c.link.ensures.beside full.0)
    (carried_refused _ _ _ _ _ _ _ _ _ 24 _ _ (rw (c.number.ensures, back) at c.refuse.ensures) (λ m st written.
    refused_link _ m c.args.expert c.args.target c.args.script.now.kept st (full.1 m st.matches) _ _ _ written))

pub returns-in-Err-link : goal.returns-in-Err-link
returns-in-Err-link g c = carried_unmade _ _ _ _ _ _ 0 0 (omega arith) (omega arith) _ _ _ _ _ c.link.ensures.beside c.requires.unbroken
    c.in-Err-link.ensures.stopped (_, c.in-Ok.ensures.ok)

pub returns-in-Err : goal.returns-in-Err
returns-in-Err g c = carried_nothing _ _ _ _ _ _ _ _ _ _ c.in-Err.ensures.err
