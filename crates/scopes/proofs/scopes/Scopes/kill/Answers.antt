use Rattle.std.proofs.Common.{◌∙◌, ◌↔◌, ap, sym, subst}
use Rattle.inc_value.specs.Choice.{Among}
use Rattle.scopes.specs.Scopes.{node_count, Inside, IsDying, Empties}
use Rattle.scopes.proofs.Dying.{view_of, nodes_counted, lets_from, kill_dying}
use Rattle.scopes.proofs.scopes.Scopes.kill.Goals as goal

pub returns-clause-dying : goal.returns-clause-dying
returns-clause-dying c = λ n.
    let v = c.self.inside.lists in
    let w = c.release.new.lists in
    let scope = c.args.scope in
    let lets = lets_from v w scope c.release.ensures.releases in
    let none = ap (λ s. s.killed) c.self.view_is ∙ c.requires.none in
    subst (λ o. IsDying (view_of w) n ↔ Inside o scope n) c.self.view_is
    (kill_dying (view_of v) (view_of w) scope lets (λ m a. subst (λ l. Among m l) none a) n)

pub returns-clause-standing : goal.returns-clause-standing
returns-clause-standing c =
    let v = c.self.inside.lists in
    let w = c.release.new.lists in
    let lets = lets_from v w c.args.scope c.release.ensures.releases in
    subst (λ o. Empties o (view_of w) c.args.scope) c.self.view_is lets.out

pub returns-clause-count : goal.returns-clause-count
returns-clause-count c =
    nodes_counted c.release.new.lists ∙ c.release.ensures.count ∙ sym (nodes_counted c.self.inside.lists)
    ∙ ap node_count c.self.view_is
