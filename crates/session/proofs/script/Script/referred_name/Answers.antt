use Rattle.std.proofs.Common.{inr, refl, sym, ◌∙◌}
use Rattle.session.proofs.OwnNodes.{have_targets}
use Rattle.session.proofs.script.Script.referred_name.Goals as goal

pub own_declaration-requires-clause-targets : goal.own_declaration-requires-clause-targets
own_declaration-requires-clause-targets g c = have_targets _ c.self.invariant

pub returns-in-None : goal.returns-in-None
returns-in-None g c =
    let none = rw c.in-None.is at c.own_declaration.ensures.none in
    let referred = sym c.referred_node.ensures ∙ c.in-Some.is in
    rw (← c.self.view_is) (rw referred (inr (none, refl)))
