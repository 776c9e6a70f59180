use Rattle.std.proofs.Common.{◌≡◌, None, Some, sym, subst}
use Rattle.inc_terms.specs.Depend.{main}
use Rattle.point_map.specs.Rows.{at, Changes}
use Rattle.node_lists.specs.Deaths.{Deaths, AreDeaths}
use Rattle.node_lists.proofs.Told.{told_added}
use Rattle.node_lists.proofs.deaths.Deaths.add.Goals as goal

pub invariant_of-self : goal.invariant_of-self
invariant_of-self c =
    let changes : Changes c.self.inside.scopes c.insert.new.self (main c.args.node) (Some c.args.scope)
    = subst (λ p. Changes c.self.inside.scopes c.insert.new.self p (Some c.args.scope)) c.main.ensures c.insert.ensures.changes in
    let absent : at c.self.inside.scopes (main c.args.node) ≡ None
    = subst (λ (d : Deaths). at d.scopes (main c.args.node) ≡ None) (sym c.self.view_is) c.requires.absent in
    subst (λ ns. AreDeaths ns c.insert.new.self) (sym c.push_reserved.ensures.items)
    (told_added c.self.inside.nodes.items c.args.node c.args.scope c.self.inside.scopes c.insert.new.self c.self.invariant absent changes)

pub returns-clause-told : goal.returns-clause-told
returns-clause-told c = invariant_of-self c
