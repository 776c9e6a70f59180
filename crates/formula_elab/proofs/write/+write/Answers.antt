use Rattle.std.proofs.Common.{◌+◌, ◌<◌, ◌^◌, List, ◌∷◌, length, map, arith, ap, subst, sym, ◌∙◌}
use Rattle.formula_lang.specs.CommandView.{constant_view, formula_level, formula_view, formulas_of}
use Rattle.formula_lang.specs.declared.command.Formula.TheFolds.{fold-roll-Formula}
use Rattle.formula_lang.specs.declared.command.Formula.TheOpen as level
use Rattle.formula_lang.specs.declared.command.Formula.TheVariants.{rolls-Bind, rolls-If}
use Rattle.inc_value.specs.declared.ty.Ty.{Ty}
use Rattle.script_model.specs.Formula as model
use Rattle.script_model.specs.Formula.{places_in}
use Rattle.formula_elab.specs.Bodies.{size_of}
use Rattle.formula_elab.specs.Names.{EveryName}
use Rattle.formula_elab.specs.Opened.{node_at}
use Rattle.formula_elab.specs.Types.{type_at}
use Rattle.formula_elab.specs.Writing.{IsWrittenBody}
use Rattle.formula_elab.proofs.WrittenInTurn.{bind_answer, fold_answer, if_answer}
use Rattle.formula_elab.proofs.write.+write.Goals as goal

pub write-formula_type-requires : goal.write-formula_type-requires
write-formula_type-requires t c =
    let h = c.in-Bind in
    let is = ap formula_view (h.is ∙ sym (rolls-Bind h.left h.body))
    ∙ fold-roll-Formula model.Formula formula_level (level.Bind h.left h.body) in
    let names = subst (λ (f : model.Formula). EveryName (λ n. n < length c.args.ids.now) (length c.args.tys.now) f) is c.requires.names in
    rw c.deref-in-Bind.ensures record {
      names = subst (λ k. EveryName (λ n. n < k) (length c.args.tys.now) (formula_view h.left.value)) c.requires.one_each (names.0.0, names.1.0);
    }

pub write-add-requires : goal.write-add-requires
write-add-requires t c =
    let h = c.in-If in
    let is = ap formula_view (h.is ∙ sym (rolls-If h.test h.yes h.no))
    ∙ fold-roll-Formula model.Formula formula_level (level.If h.test h.yes h.no) in
    let few = subst (λ (f : model.Formula). size_of c.args.page.now + places_in f < 2 ^ 64) is c.requires.few in
    let size_test = rw c.deref-in-If.ensures at c.in_ok-test-in-If.ensures.size in
    let size_yes = rw c.deref-in-If-2.ensures at c.in_ok-yes-in-If.ensures.size in
    let size_no = rw c.deref-in-If-3.ensures at c.in_ok-no-in-If.ensures.size in
    record { few = omega (arith, few, size_test, size_yes, size_no) }

pub write-add_bind-requires : goal.write-add_bind-requires
write-add_bind-requires t c =
    let h = c.in-Bind in
    let is = ap formula_view (h.is ∙ sym (rolls-Bind h.left h.body))
    ∙ fold-roll-Formula model.Formula formula_level (level.Bind h.left h.body) in
    let few = subst (λ (f : model.Formula). size_of c.args.page.now + places_in f < 2 ^ 64) is c.requires.few in
    let size_left = rw c.deref-in-Bind-2.ensures at c.in_ok-left-in-Bind.ensures.size in
    let size_body = rw c.deref-in-Bind-3.ensures at c.in_ok-body-in-Bind.ensures.size in
    record { few = omega (arith, few, size_left, size_body) }

pub write-returns-in_ok-no-in-If : goal.write-returns-in_ok-no-in-If
write-returns-in_ok-no-in-If t c =
    let h = c.in-If in
    let is = ap formula_view (h.is ∙ sym (rolls-If h.test h.yes h.no))
    ∙ fold-roll-Formula model.Formula formula_level (level.If h.test h.yes h.no) in
    rw is (if_answer (node_at c.args.ids.now) (type_at c.args.names.now) c.args.tys.now (formula_view h.test.value) (formula_view h.yes.value)
    (formula_view h.no.value) c.args.makes.now.items c.write.new.makes.items c.write-in-If.new.makes.items c.write-in-If-2.new.makes.items
    c.args.page.now c.write.new.page c.write-in-If.new.page c.write-in-If-2.new.page c.in_ok-test-in-If.test c.in_ok-yes-in-If.yes c.in_ok-no-in-If.no
    (rw c.deref-in-If.ensures at c.in_ok-test-in-If.ensures) (rw c.deref-in-If-2.ensures at c.in_ok-yes-in-If.ensures)
    (rw c.deref-in-If-3.ensures at c.in_ok-no-in-If.ensures) c.add.new.self c.add.result c.add.ensures.added c.add.ensures.part)

pub write-returns-in_ok-body-in-Bind : goal.write-returns-in_ok-body-in-Bind
write-returns-in_ok-body-in-Bind t c =
    let h = c.in-Bind in
    let is = ap formula_view (h.is ∙ sym (rolls-Bind h.left h.body))
    ∙ fold-roll-Formula model.Formula formula_level (level.Bind h.left h.body) in
    let nodes = node_at c.args.ids.now in
    let tys = type_at c.args.names.now in
    let bounds = c.args.tys.now in
    let ty = rw c.deref-in-Bind.ensures at c.in_ok-formula_type-in-Bind.ensures in
    let inner = c.deref-in-Bind-4.ensures.value ∙ (c.in_ok-inner-in-Bind.ensures ∙ ap (λ (u : Ty). u ∷ bounds) ty) in
    let m1 = c.write-in-Bind.new.makes.items in
    let m2 = c.write_body.new.makes.items in
    let o = c.in_ok-body-in-Bind.body in
    let body = subst (λ (us : List Ty). IsWrittenBody nodes tys us (formula_view h.body.value) m1 m2 o) inner
    (rw c.deref-in-Bind-3.ensures at c.in_ok-body-in-Bind.ensures) in
    rw is (bind_answer nodes tys bounds (formula_view h.left.value) (formula_view h.body.value) c.args.makes.now.items m1 m2 c.args.page.now
    c.write-in-Bind.new.page c.in_ok-left-in-Bind.left o (rw c.deref-in-Bind-2.ensures at c.in_ok-left-in-Bind.ensures) body
    c.add_bind.new.makes.items c.add_bind.new.page c.add_bind.result c.add_bind.ensures)

pub write_fold-returns : goal.write_fold-returns
write_fold-returns t c =
    fold_answer (node_at c.args.ids.now) (type_at c.args.names.now) c.args.tys.now c.args.function (constant_view c.args.first.now)
    (formulas_of (map formula_view c.args.elements.now)) c.args.makes.now.items c.write_each.new.makes.items c.args.page.now
    c.list_named.new.page c.write_each.new.page c.in_ok-first.first c.in_ok-elements.elements c.in_ok-list_named.ensures.listed
    c.in_ok-list_named.ensures.size c.in_ok-first.ensures.value c.in_ok-elements.ensures c.add.new.self c.add.result c.add.ensures.added
    c.add.ensures.part
