use Rattle.std.proofs.Common.{refl, arith}
use Rattle.script_model.specs.Check.{Observe}
use Rattle.session.proofs.Carried.{carried_done, carried_nothing, carried_unmade}
use Rattle.session.proofs.Following.{followed_done}
use Rattle.session.proofs.answer.observe.Goals as goal

pub returns-in-Ok-observe : goal.returns-in-Ok-observe
returns-in-Ok-observe g c = carried_done _ _ _ _ _ _ 0 1 (omega arith) (omega arith) _ _ _ _ c.observe.ensures.beside c.requires.unbroken (λ m st.
    followed_done _ c.observe.new.self.kept m (Observe c.args.name.now c.args.target) _ _ _ refl refl
    (c.in-Ok-observe.ensures.observed _ m st.matches) c.in-Ok.ensures.ok)

pub returns-in-Err-observe : goal.returns-in-Err-observe
returns-in-Err-observe g c = carried_unmade _ _ _ _ _ _ 0 1 (omega arith) (omega arith) _ _ _ _ _ c.observe.ensures.beside c.requires.unbroken
    (λ m st. rw c.in-Err-observe.ensures.kept st) (_, c.in-Ok.ensures.ok)

pub returns-in-Err : goal.returns-in-Err
returns-in-Err g c = carried_nothing _ _ _ _ _ _ _ _ _ _ c.in-Err.ensures.err
