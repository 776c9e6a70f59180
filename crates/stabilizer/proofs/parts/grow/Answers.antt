use Rattle.std.proofs.Common.{inl, inr, sym, subst}
use Rattle.inc_value.specs.Choice.{Among}
use Rattle.wiring.specs.declared.work.Work.{Work}
use Rattle.stabilizer.proofs.parts.grow.Goals as goal

pub returns-then-is_needed-clause-still : goal.returns-then-is_needed-clause-still
returns-then-is_needed-clause-still c q a = c.list.ensures.still q (subst (λ (w : Work). Among q w.todo.items) (sym c.schedule.ensures.rest) a)

pub returns-then-is_needed-clause-only : goal.returns-then-is_needed-clause-only
returns-then-is_needed-clause-only c q a = elim (c.list.ensures.only q a) [
  | inl had ↦ inl (subst (λ (w : Work). Among q w.todo.items) c.schedule.ensures.rest had)
  | inr is ↦ inr is
]
