use Rattle.std.proofs.Common.{◌∷◌, ◌++◌, [], None, sym, subst}
use Rattle.inc_terms.specs.Depend.{main}
use Rattle.point_map.specs.Rows.{Holds, Changes}
use Rattle.node_lists.specs.Deaths.{AreDeaths}
use Rattle.node_lists.proofs.Told.{last_told, told_popped}
use Rattle.node_lists.proofs.deaths.Deaths.pop.Goals as goal

pub remove-scope-requires : goal.remove-scope-requires
remove-scope-requires c =
    let told : AreDeaths (c.pop.new.self.items ++ c.in_ok-node.node ∷ []) c.self.inside.scopes
    = subst (λ ns. AreDeaths ns c.self.inside.scopes) c.in_ok-node.ensures.items c.self.invariant in
    record {
      there = subst (λ p. Holds c.self.inside.scopes p) (sym c.main.ensures)
          (last_told c.pop.new.self.items c.in_ok-node.node c.self.inside.scopes told);
    }

pub invariant_of-self-2 : goal.invariant_of-self-2
invariant_of-self-2 c =
    let told : AreDeaths (c.pop.new.self.items ++ c.in_ok-node.node ∷ []) c.self.inside.scopes
    = subst (λ ns. AreDeaths ns c.self.inside.scopes) c.in_ok-node.ensures.items c.self.invariant in
    let changes : Changes c.self.inside.scopes c.remove-scope.new.self (main c.in_ok-node.node) None
    = subst (λ p. Changes c.self.inside.scopes c.remove-scope.new.self p None) c.main.ensures c.remove-scope.ensures.changes in
    told_popped c.pop.new.self.items c.in_ok-node.node c.self.inside.scopes c.remove-scope.new.self told changes

pub returns-clause-told : goal.returns-clause-told
returns-clause-told c = invariant_of-self-2 c
