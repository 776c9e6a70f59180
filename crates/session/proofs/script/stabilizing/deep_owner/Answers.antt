use Rattle.std.proofs.Common.{Some, ap, sym, ◌∙◌}
use Rattle.session.proofs.Owned.{none_begins, told_begins}
use Rattle.session.proofs.script.stabilizing.deep_owner.Goals as goal

pub returns-in-Some-clause-found : goal.returns-in-Some-clause-found
returns-in-Some-clause-found g c =
    let h = c.in-Some-Height in
    told_begins c.args.names.now c.args.nodes.now.items c.args.graph.now h.points c.in-Some.point.now (sym h.ensures ∙ ap (λ r. Some r) h.field-0-is)
    (sym (rw c.deref.ensures.value at c.in-Some.ensures.value)) c.owned_by.result c.owned_by.ensures.found

pub returns-in-Some-clause-none : goal.returns-in-Some-clause-none
returns-in-Some-clause-none g c =
    let h = c.in-Some-Height in
    none_begins c.args.names.now c.args.nodes.now.items c.args.graph.now h.points c.in-Some.point.now (sym h.ensures ∙ ap (λ r. Some r) h.field-0-is)
    (sym (rw c.deref.ensures.value at c.in-Some.ensures.value)) c.owned_by.result c.owned_by.ensures.none
