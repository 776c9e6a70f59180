use Rattle.std.proofs.Common.{arith}
use Rattle.session.proofs.Carried.{carried_done, carried_nothing, carried_refused, carried_unmade}
use Rattle.session.proofs.Failing.{none_from, some_from}
use Rattle.session.proofs.Following.{followed_grab, refused_grab}
use Rattle.session.proofs.answer.grab.Goals as goal

pub returns-in_default : goal.returns-in_default
returns-in_default g c = carried_refused _ _ _ _ _ _ _ _ _ 9 _ _ (rw c.number.ensures at c.refuse.ensures) (λ m st written.
    refused_grab _ c.args.script.now.kept m st c.args.name.now c.args.ty c.args.bind
    (none_from c.right_side.result c.in_default.not-Some c.right_side.ensures.none _ m st.matches) _ _ _ written)

pub returns-in-Ok-grab : goal.returns-in-Ok-grab
returns-in-Ok-grab g c = carried_done _ _ _ _ _ _ 0 0 (omega arith) (omega arith) _ _ _ _ c.grab.ensures.beside c.requires.unbroken (λ m st.
    followed_grab _ c.args.script.now.kept m st c.args.name.now c.args.ty c.args.bind c.grab.new.self.kept _ _ _
    (some_from _ c.right_side.result c.in-Some.root c.in-Some.is c.right_side.ensures.built _ m st.matches)
    (c.in-Ok-grab.ensures.grabbed c.args.bind c.requires.fits
    (some_from _ c.right_side.result c.in-Some.root c.in-Some.is c.right_side.ensures.some) m st)
    c.in-Ok.ensures.ok)

pub returns-in-Err-grab : goal.returns-in-Err-grab
returns-in-Err-grab g c = carried_unmade _ _ _ _ _ _ 0 0 (omega arith) (omega arith) _ _ _ _ _ c.grab.ensures.beside c.requires.unbroken
    (λ m st. rw c.in-Err-grab.ensures.kept st) (_, c.in-Ok.ensures.ok)

pub returns-in-Err : goal.returns-in-Err
returns-in-Err g c = carried_nothing _ _ _ _ _ _ _ _ _ _ c.in-Err.ensures.err
