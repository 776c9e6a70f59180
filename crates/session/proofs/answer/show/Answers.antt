use Rattle.std.proofs.Common.{arith}
use Rattle.session.proofs.Carried.{beside_itself, carried_done, carried_nothing, carried_refused}
use Rattle.session.proofs.Following.{followed_show, refused_show}
use Rattle.session.proofs.answer.show.Goals as goal

pub returns-in-Ok : goal.returns-in-Ok
returns-in-Ok g c = carried_done _ _ _ _ _ _ 0 0 (omega arith) (omega arith) _ _ _ _ (beside_itself _) c.requires.unbroken (λ m st.
    followed_show _ c.args.script.now.kept m c.args.name.now _ c.in-Some.outcome.now _ _ _ st c.requires.unbroken
    (c.in-Some.ensures.some _ m st.matches) c.referred_name.ensures c.in-Ok.ensures.ok)

pub returns-in-Err : goal.returns-in-Err
returns-in-Err g c = carried_nothing _ _ _ _ _ _ _ _ _ _ c.in-Err.ensures.err

pub returns-in-None : goal.returns-in-None
returns-in-None g c = carried_refused _ _ _ _ _ _ _ _ _ 13 _ _ (rw c.number.ensures at c.refuse.ensures) (λ m st written.
    refused_show _ c.args.script.now.kept m c.args.name.now _ _ _ st (c.in-None.ensures.none _ m st.matches) written)
