use Rattle.std.proofs.Common.{refl, arith}
use Rattle.script_model.specs.Check.{Watch}
use Rattle.session.proofs.Carried.{carried_done, carried_nothing}
use Rattle.session.proofs.Following.{followed_done}
use Rattle.session.proofs.answer.watch.Goals as goal

pub returns-in-Ok : goal.returns-in-Ok
returns-in-Ok g c = carried_done _ _ _ _ _ _ 0 0 (omega arith) (omega arith) _ _ _ _ c.watch.ensures.beside c.requires.unbroken (λ m st.
    followed_done _ c.watch.new.self.kept m (Watch c.args.name.now) _ _ _ refl refl
    (c.watch.ensures.watched _ m st.matches) c.in-Ok.ensures.ok)

pub returns-in-Err : goal.returns-in-Err
returns-in-Err g c = carried_nothing _ _ _ _ _ _ _ _ _ _ c.in-Err.ensures.err
