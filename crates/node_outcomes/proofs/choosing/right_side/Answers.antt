use Rattle.std.proofs.Common.{◌≡◌, Some, sym, ap, ◌∙◌}
use Rattle.inc_value.specs.declared.node.Point.{Point}
use Rattle.inc_terms.specs.Code.{def_of}
use Rattle.inc_terms.specs.Depend.{change}
use Rattle.point_map.specs.Rows.{at}
use Rattle.node_outcomes.specs.Choosing.{right_in}
use Rattle.node_outcomes.specs.Progress.{Progress}
use Rattle.node_outcomes.specs.Row.{outcome_in}
use Rattle.node_outcomes.proofs.Held.{bind_right}
use Rattle.node_outcomes.proofs.choosing.right_side.Goals as goal

pub returns-in-Bind : goal.returns-in-Bind
returns-in-Bind c =
    let rows = c.args.rows.now in
    let roots = c.args.roots.now in
    let node = c.args.node in
    let own = c.change-own.ensures in
    let ran : outcome_in (at rows (change node)) ≡ Some c.in_ok-given.given.now =
    let there = ap (λ (p : Point). outcome_in (at rows p)) (sym own) ∙ ap outcome_in (sym c.in_ok-get.ensures) in
    let seen = ap (λ (k : Progress). k.outcome) c.branch.view_is in
    let given = c.in_ok-given.ensures.value in
    cc (there, seen, given) in
    c.copied.ensures ∙ c.get-in-Bind.ensures ∙ ap (λ (p : Point). at roots p) own
    ∙ sym (bind_right rows roots node c.in-Bind.left c.in-Bind.function c.in-Bind.captures c.in_ok-given.given.now ran)
    ∙ sym (ap (λ d. right_in rows roots node (def_of d)) c.in-Bind.is)
