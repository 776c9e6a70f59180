use Rattle.std.proofs.Common.{sym, ◌∙◌}
use Rattle.formula_lang.specs.NamesView.{declared_view}
use Rattle.inc_value.proofs.SameTypes.{ty_same, ty_true}
use Rattle.session.proofs.Grabbing.{own_typed}
use Rattle.session.proofs.script.grabbing.own_of_type.Goals as goal

pub returns-then-eq-clause-some : goal.returns-then-eq-clause-some
returns-then-eq-clause-some c =
    let ty = c.get.result.now.ty in
    let same = ty_true ty c.args.ty (sym (c.eq.ensures ∙ ty_same ty c.args.ty) ∙ c.if-eq.true) in
    own_typed c.args.names.now c.args.nodes.now.items c.args.node c.args.ty c.in-Some.position (declared_view c.get.result.now) c.get.ensures.value
    c.in-Some.ensures.some same

pub returns-in_default-clause-none : goal.returns-in_default-clause-none
returns-in_default-clause-none c position is = c.in_default.ensures.none position is.own

pub returns-clause-none : goal.returns-clause-none
returns-clause-none c = rw c.as_slice.ensures at c.search_of_type.ensures.none
