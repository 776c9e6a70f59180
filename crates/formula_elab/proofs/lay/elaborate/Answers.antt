use Rattle.std.proofs.Common.{◌≡◌, List, ap, subst, sym, ◌∙◌}
use Rattle.formula_lang.specs.CommandView.{body_view}
use Rattle.formula_elab.specs.Laying.{laid_body}
use Rattle.formula_elab.specs.Made.{ShowsOnceMade}
use Rattle.formula_elab.specs.Opened.{node_at}
use Rattle.formula_elab.specs.Plan.{PlanView}
use Rattle.formula_elab.specs.Types.{type_at}
use Rattle.formula_elab.specs.declared.opened.Part.{Part}
use Rattle.formula_elab.specs.declared.plan.Planned.{Planned}
use Rattle.formula_elab.proofs.InOrder.{body_in_order}
use Rattle.formula_elab.proofs.Places.{few_of_body}
use Rattle.formula_elab.proofs.Showing.{root_declares}
use Rattle.formula_elab.proofs.Typed.{laid_typed}
use Rattle.formula_elab.proofs.Weights.{one_node_each}
use Rattle.formula_elab.proofs.lay.elaborate.Goals as goal

pub new-requires : goal.new-requires
new-requires c =
    let nodes = node_at c.args.ids.now in
    let tys = type_at c.args.names.now in
    let body = body_view c.args.body.now in
    let fits = c.requires.fits in
    let order = body_in_order nodes tys body in
    let typed = laid_typed fits.0 c.args.names.now nodes body fits.1 c.requires.targets fits.2 c.requires.names.0 in
    let laid = rw c.new-makes.ensures.items at c.in_ok-root.ensures in
    rw (laid.makes, laid.root) record { order = order.0; typed = typed; root_within = order.1 }

pub returns-clause-order : goal.returns-clause-order
returns-clause-order c =
    let order = body_in_order (node_at c.args.ids.now) (type_at c.args.names.now) (body_view c.args.body.now) in
    let laid = rw c.new-makes.ensures.items at c.in_ok-root.ensures in
    rw (c.new.ensures, laid.makes) order.0

pub returns-clause-places : goal.returns-clause-places
returns-clause-places c =
    let few = few_of_body (node_at c.args.ids.now) (type_at c.args.names.now) (body_view c.args.body.now) c.requires.names.0 in
    let laid = rw c.new-makes.ensures.items at c.in_ok-root.ensures in
    rw (c.new.ensures, laid.makes) few

pub returns-clause-weight : goal.returns-clause-weight
returns-clause-weight c =
    let each = one_node_each (node_at c.args.ids.now) (type_at c.args.names.now) (body_view c.args.body.now) c.requires.names.0 in
    let laid = rw c.new-makes.ensures.items at c.in_ok-root.ensures in
    rw (c.new.ensures, laid.makes) each

pub returns-clause-declares : goal.returns-clause-declares
returns-clause-declares c =
    let nodes = node_at c.args.ids.now in
    let tys = type_at c.args.names.now in
    let body = body_view c.args.body.now in
    let laid = rw c.new-makes.ensures.items at c.in_ok-root.ensures in
    let makes : c.new.result.makes ≡ (laid_body nodes tys 0 body).makes = ap (λ (p : PlanView). p.makes) c.new.ensures ∙ laid.makes in
    let root : c.new.result.root ≡ (laid_body nodes tys 0 body).root = ap (λ (p : PlanView). p.root) c.new.ensures ∙ laid.root in
    subst (λ (p : Part). ShowsOnceMade nodes body c.new.result.makes p) (sym root)
    (subst (λ (xs : List Planned). ShowsOnceMade nodes body xs (laid_body nodes tys 0 body).root) (sym makes) (root_declares nodes tys body))
