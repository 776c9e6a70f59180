use Rattle.std.proofs.Common.{◌<◌, length, ap, subst, sym, ◌∙◌}
use Rattle.formula_lang.specs.CommandView.{formula_level, formula_view}
use Rattle.formula_lang.specs.declared.command.Formula.TheFolds.{fold-roll-Formula}
use Rattle.formula_lang.specs.declared.command.Formula.TheOpen as level
use Rattle.formula_lang.specs.declared.command.Formula.TheVariants.{rolls-If}
use Rattle.script_model.specs.Formula as model
use Rattle.formula_elab.specs.Names.{EveryName}
use Rattle.formula_elab.specs.Opened.{node_at}
use Rattle.formula_elab.specs.Types.{type_at}
use Rattle.formula_elab.proofs.LaidInTurn.{if_answer}
use Rattle.formula_elab.proofs.lay.+lay.Goals as goal

pub lay-formula_type-requires : goal.lay-formula_type-requires
lay-formula_type-requires t c =
    let h = c.in-If in
    let is = ap formula_view (h.is ∙ sym (rolls-If h.test h.yes h.no))
    ∙ fold-roll-Formula model.Formula formula_level (level.If h.test h.yes h.no) in
    let names = subst (λ (f : model.Formula). EveryName (λ n. n < length c.args.ids.now) 0 f) is c.requires.names in
    rw c.deref-in-If.ensures record {
      names = subst (λ k. EveryName (λ n. n < k) 0 (formula_view h.yes.value)) c.requires.one_each (names.0.1, names.1.1);
    }

pub lay-returns-in_ok-no-in-If : goal.lay-returns-in_ok-no-in-If
lay-returns-in_ok-no-in-If t c =
    let h = c.in-If in
    let is = ap formula_view (h.is ∙ sym (rolls-If h.test h.yes h.no))
    ∙ fold-roll-Formula model.Formula formula_level (level.If h.test h.yes h.no) in
    let added = rw (c.in_ok-ty-in-If.ensures, c.deref-in-If.ensures) at c.add_node-in-If.ensures.added in
    rw is (if_answer (node_at c.args.ids.now) (type_at c.args.names.now)
    (formula_view h.test.value) (formula_view h.yes.value) (formula_view h.no.value) c.args.makes.now.items c.lay.new.makes.items
    c.lay-in-If.new.makes.items c.lay-in-If-2.new.makes.items c.in_ok-test-in-If.test c.in_ok-yes-in-If.yes c.in_ok-no-in-If.no
    (rw c.deref-in-If-2.ensures at c.in_ok-test-in-If.ensures) (rw c.deref-in-If-3.ensures at c.in_ok-yes-in-If.ensures)
    (rw c.deref-in-If-4.ensures at c.in_ok-no-in-If.ensures) c.add_node-in-If.new.makes.items c.add_node-in-If.result added c.add_node-in-If.ensures.root)
