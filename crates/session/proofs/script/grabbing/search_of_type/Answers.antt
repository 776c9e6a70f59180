use Rattle.std.proofs.Common.{◌≡◌, true, false, sym, ap, ◌∙◌, arith}
use Rattle.std.proofs.lemmas.Option.{slice_get_within}
use Rattle.formula_lang.specs.NamesView.{declared_view}
use Rattle.inc_value.proofs.SameTypes.{ty_same, ty_true}
use Rattle.inc_value.specs.Ty.{same_ty}
use Rattle.session.proofs.Grabbing.{none_more, own_typed, type_of_own}
use Rattle.session.proofs.SameMakers.{ty_itself}
use Rattle.session.proofs.script.grabbing.search_of_type.Goals as goal
use Rattle.session.proofs.script.grabbing.search_of_type.Goals.{else-is_own_node-via-then-is_own_node+else-eq, else-is_own_node-via-else-is_own_node}
use Rattle.session.specs.Grabbed.{IsOwnOfType}

pub returns-then-eq-clause-some : goal.returns-then-eq-clause-some
returns-then-eq-clause-some c =
    let ty = c.get.result.now.ty in
    let same = ty_true ty c.args.ty (sym (c.eq.ensures ∙ ty_same ty c.args.ty) ∙ c.if-eq.true) in
    own_typed c.args.names.now c.args.nodes.now c.args.node c.args.ty c.loop-position.position (declared_view c.get.result.now) c.get.ensures.value
    (c.is_own_node.ensures.yes c.if-is_own_node.true) same

pub loop-position-preserved : goal.loop-position-preserved
loop-position-preserved c =
    none_more (IsOwnOfType c.args.names.now c.args.nodes.now c.args.node c.args.ty) c.loop-position.position c.loop-position.invariant
    (λ own. elim c.else-is_own_node.branch [
      | else-is_own_node-via-then-is_own_node+else-eq w ↦
          let ty = w.get.result.now.ty in
          let same = type_of_own c.args.names.now c.args.nodes.now c.args.node c.args.ty c.loop-position.position (declared_view w.get.result.now)
          w.get.ensures.value own in
          let alike : w.eq.result ≡ true = w.eq.ensures ∙ (ty_same ty c.args.ty ∙ (ap (λ t. same_ty t c.args.ty) same ∙ ty_itself c.args.ty)) in
          let e : true ≡ false = sym alike ∙ w.if-eq.false in
          absurd (cc)
      | else-is_own_node-via-else-is_own_node w ↦ c.is_own_node.ensures.no w.if-is_own_node.false own.own
    ])

pub returns-clause-none : goal.returns-clause-none
returns-clause-none c position own =
    let low = slice_get_within c.args.names.now.declared position own.own.declared own.own.is_declared in
    c.loop-position.invariant position (omega (arith, low, c.requires.one_each, c.loop-position-test.false)) own
