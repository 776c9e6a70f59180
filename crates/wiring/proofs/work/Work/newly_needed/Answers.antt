use Rattle.std.proofs.Common.{ap, sym, ◌∙◌, [], ◌∷◌, ◌++◌}
use Rattle.wiring.specs.declared.work.Work.{Work}
use Rattle.wiring.proofs.Enqueuing.{woken, ghost_woken, leaf_woken}
use Rattle.wiring.proofs.Linking.{none_if}
use Rattle.wiring.proofs.work.Work.newly_needed.Goals as goal

pub returns-then-holds : goal.returns-then-holds
returns-then-holds c =
    let mid = c.enqueue.new.self in
    woken c.args.self.now mid c.push_reserved.new.self c.set_stage.new.rows c.args.p c.set_stage.ensures c.enqueue.ensures.enqueued
    c.enqueue.ensures.rest (sym c.holds.ensures ∙ c.if-holds.true)
    (c.push_reserved.ensures.items ∙ ap (λ (w : Work). w.todo.items ++ c.args.p ∷ []) c.enqueue.ensures.rest)

pub returns-then-holds-2 : goal.returns-then-holds-2
returns-then-holds-2 c =
    ghost_woken c.args.self.now c.args.p c.requires.step (none_if _ (sym c.holds.ensures ∙ c.if-holds.false))
    (sym c.holds-else-holds.ensures ∙ c.if-holds-2.true) c.push_reserved-then-holds-2.new.self c.push_reserved-then-holds-2.ensures.items

pub returns-else-holds-2 : goal.returns-else-holds-2
returns-else-holds-2 c =
    leaf_woken c.args.self.now c.args.p c.requires.step (none_if _ (sym c.holds.ensures ∙ c.if-holds.false))
    (none_if _ (sym c.holds-else-holds.ensures ∙ c.if-holds-2.false))
