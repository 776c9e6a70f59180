use Rattle.std.proofs.Common.{arith, ◌≡◌, ◌≢◌, Option, None, Some, sym, ap, ◌∙◌}
use Rattle.inc_value.specs.declared.node.NodeId.{NodeId}
use Rattle.inc_terms.specs.Graph.{Row}
use Rattle.node_arena.specs.Arena.{row_at}
use Rattle.language_tests.proofs.bodies.add_bind.Goals as goal

scope_of : Option Row → Option NodeId
scope_of None = None
scope_of (Some r) = r.scope

-- a node that stood in the scope of the bind would have named it before it was given, so it could only be the bind itself
pub returns-in-Ok-clause-empty : goal.returns-in-Ok-clause-empty
unfolding scope_of
returns-in-Ok-clause-empty c n r is scope =
    let other : n ≢ c.in-Ok.bind = (λ (same : n ≡ c.in-Ok.bind).
    (let at_bind = sym (ap (λ (m : NodeId). row_at c.add.new.self m) same) ∙ is in
    let own : None ≡ r.scope = ap scope_of (sym c.in-Ok.ensures.added.changed ∙ at_bind) in
    absurd (cc (own, scope)))) in
    let before = c.requires.arena.scopes n r c.in-Ok.bind (sym (c.in-Ok.ensures.added.others n other) ∙ is) scope in
    let number = c.in-Ok.ensures.id in
    omega (arith, before, number)
