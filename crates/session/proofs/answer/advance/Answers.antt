use Rattle.std.proofs.Common.{refl, arith}
use Rattle.script_model.specs.Check.{Advance}
use Rattle.session.proofs.Carried.{carried_done, carried_nothing, carried_unmade}
use Rattle.session.proofs.Following.{followed_done}
use Rattle.session.proofs.answer.advance.Goals as goal

pub returns-in-Ok-advance : goal.returns-in-Ok-advance
returns-in-Ok-advance g c = carried_done _ _ _ _ _ _ 0 0 (omega arith) (omega arith) _ _ _ _ c.advance.ensures.beside c.requires.unbroken (λ m st.
    followed_done _ c.advance.new.self.kept m (Advance c.args.time) _ _ _ refl refl (c.in-Ok-advance.ensures.moved m st.matches) c.in-Ok.ensures.ok)

pub returns-in-Err-advance : goal.returns-in-Err-advance
returns-in-Err-advance g c = carried_unmade _ _ _ _ _ _ 0 0 (omega arith) (omega arith) _ _ _ _ _ c.advance.ensures.beside c.requires.unbroken
    c.in-Err-advance.ensures.kept (_, c.in-Ok.ensures.ok)

pub returns-in-Err : goal.returns-in-Err
returns-in-Err g c = carried_nothing _ _ _ _ _ _ _ _ _ _ c.in-Err.ensures.err
