use Rattle.std.proofs.Common.{refl, arith}
use Rattle.formula_lang.specs.CommandView.{constant_view}
use Rattle.script_model.specs.Check.{Assign}
use Rattle.session.proofs.Carried.{carried_done, carried_nothing, carried_unmade}
use Rattle.session.proofs.Following.{followed_done}
use Rattle.session.proofs.answer.set.Goals as goal

pub returns-in-Ok-set : goal.returns-in-Ok-set
returns-in-Ok-set g c = carried_done _ _ _ _ _ _ 0 0 (omega arith) (omega arith) _ _ _ _ c.set.ensures.beside c.requires.unbroken (λ m st.
    followed_done _ c.set.new.self.kept m (Assign c.args.target (constant_view c.args.value.now)) _ _ _ refl refl
    (c.in-Ok-set.ensures.set m st.matches) c.in-Ok.ensures.ok)

pub returns-in-Err-set : goal.returns-in-Err-set
returns-in-Err-set g c = carried_unmade _ _ _ _ _ _ 0 0 (omega arith) (omega arith) _ _ _ _ _ c.set.ensures.beside c.requires.unbroken
    (λ m st. rw c.in-Err-set.ensures.kept st) (_, c.in-Ok.ensures.ok)

pub returns-in-Err : goal.returns-in-Err
returns-in-Err g c = carried_nothing _ _ _ _ _ _ _ _ _ _ c.in-Err.ensures.err
