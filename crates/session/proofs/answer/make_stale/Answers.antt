use Rattle.std.proofs.Common.{refl, arith}
use Rattle.script_model.specs.Check.{Stale}
use Rattle.session.proofs.Carried.{carried_done, carried_nothing}
use Rattle.session.proofs.Following.{followed_done}
use Rattle.session.proofs.answer.make_stale.Goals as goal

pub returns-in-Ok : goal.returns-in-Ok
returns-in-Ok g c = carried_done _ _ _ _ _ _ 0 0 (omega arith) (omega arith) _ _ _ _ c.make_stale.ensures.beside c.requires.unbroken (λ m st.
    followed_done _ c.make_stale.new.self.kept m (Stale c.args.expert) _ _ _ refl refl
    (c.make_stale.ensures.stale m st.matches) c.in-Ok.ensures.ok)

pub returns-in-Err : goal.returns-in-Err
returns-in-Err g c = carried_nothing _ _ _ _ _ _ _ _ _ _ c.in-Err.ensures.err
