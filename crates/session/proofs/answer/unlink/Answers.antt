use Rattle.std.proofs.Common.{◌∙◌, ap, arith, take}
use Rattle.std.proofs.lemmas.List.{take_at}
use Rattle.session.proofs.Carried.{carried_done, carried_nothing, carried_refused, same_script}
use Rattle.session.proofs.Following.{followed_unlink, refused_unlink}
use Rattle.session.specs.Replies.{done_line}
use Rattle.session.proofs.answer.unlink.Goals as goal

pub returns-then-unlink : goal.returns-then-unlink
returns-then-unlink g c = carried_done _ _ _ _ _ _ 0 0 (omega arith) (omega arith) _ _ _ _ c.unlink.ensures.beside c.requires.unbroken (λ m st.
    let done = c.unlink.ensures.unlinked c.if-unlink.true m st.matches in
    followed_unlink _ m c.args.expert c.args.target c.unlink.new.self.kept _ _ _ done.1 done.0 c.in-Ok.ensures.ok)

-- the reply that was written is taken back
pub returns-else-unlink : goal.returns-else-unlink
returns-else-unlink g c =
    let absent = c.unlink.ensures.absent c.if-unlink.false in
    let held = c.args.out.now.ok.0 in
    let count = c.len-written.ensures in
    let back = c.truncate.ensures.items ∙ ap (take c.len-written.result) c.in-Ok.ensures.ok
    ∙ take_at c.args.out.now.items done_line c.len-written.result (omega (arith, held, count)) in
    rw (same_script c.args.script.now c.unlink.new.self c.unlink.ensures.beside absent.0)
    (carried_refused _ _ _ _ _ _ _ _ _ 23 _ _ (rw (c.number.ensures, back) at c.refuse.ensures) (λ m st written.
    refused_unlink _ m c.args.expert c.args.target c.args.script.now.kept st (absent.1 m st.matches) _ _ _ written))

pub returns-in-Err : goal.returns-in-Err
returns-in-Err g c = carried_nothing _ _ _ _ _ _ _ _ _ _ c.in-Err.ensures.err
