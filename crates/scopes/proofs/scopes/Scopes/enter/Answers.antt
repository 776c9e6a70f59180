use Rattle.std.proofs.Common.{◌≡◌, ◌∙◌, ◌++◌, ◌∷◌, [], ◌+◌, suc, sym, ap, subst, arith, slice_set}
use Rattle.slab.specs.Slab.{get}
use Rattle.index_lists.specs.Lists.{list_at}
use Rattle.scopes.specs.Scopes.{node_count, own_in, member, IsApart, Enters}
use Rattle.scopes.proofs.Dying.{view_of, nodes_counted}
use Rattle.scopes.proofs.Entering.{kept_view, entered_sound, entered}
use Rattle.scopes.proofs.scopes.Scopes.enter.Goals as goal

pub overflow_add-number : goal.overflow_add-number
overflow_add-number c =
    let l = c.number_for.ensures.sound.wide c.args.scope c.in_ok-number.number c.in_ok-number.ensures.own in
    omega (arith, l, c.width-width.ensures, c.width-width.type_inv)

pub invariant_of-self-2 : goal.invariant_of-self-2
invariant_of-self-2 c =
    let x = c.number_for.new.lists in
    let w = c.push_back-place.new.self in
    let k = c.in_ok-number.number in
    let place = c.push_back-place.result in
    let row = member c.args.node c.args.scope in
    let next : k + 1 ≡ suc k = omega arith in
    let pushed = subst (λ n. w.lists ≡ slice_set x.lists n (list_at x n ++ (place, row) ∷ [])) next
    c.push_back-place.ensures.lists in
    let same = kept_view c.self.inside.lists c.reserve.new.self x c.reserve.ensures.lists c.number_for.ensures.rows
    ∙ c.self.view_is in
    let apart = subst (λ s. IsApart s c.args.node) (sym same) c.requires.apart in
    entered_sound x w (own_in c.number_for.new.numbers) (get c.number_for.new.names) c.args.node c.args.scope k place
    c.number_for.ensures.sound c.in_ok-number.ensures.own apart pushed

pub returns-clause-enters : goal.returns-clause-enters
returns-clause-enters c =
    let x = c.number_for.new.lists in
    let w = c.push_back-place.new.self in
    let k = c.in_ok-number.number in
    let place = c.push_back-place.result in
    let row = member c.args.node c.args.scope in
    let next : k + 1 ≡ suc k = omega arith in
    let pushed = subst (λ n. w.lists ≡ slice_set x.lists n (list_at x n ++ (place, row) ∷ [])) next
    c.push_back-place.ensures.lists in
    let same = kept_view c.self.inside.lists c.reserve.new.self x c.reserve.ensures.lists c.number_for.ensures.rows
    ∙ c.self.view_is in
    let apart = subst (λ s. IsApart s c.args.node) (sym same) c.requires.apart in
    subst (λ s. Enters s (view_of w) c.args.node c.args.scope) same
    (entered x w (own_in c.number_for.new.numbers) (get c.number_for.new.names) c.args.node c.args.scope k place
    c.number_for.ensures.sound c.in_ok-number.ensures.own apart pushed)

pub returns-clause-count : goal.returns-clause-count
returns-clause-count c =
    let x = c.number_for.new.lists in
    let w = c.push_back-place.new.self in
    let same = kept_view c.self.inside.lists c.reserve.new.self x c.reserve.ensures.lists c.number_for.ensures.rows
    ∙ c.self.view_is in
    nodes_counted w ∙ c.push_back-place.ensures.count ∙ ap (λ n. n + 1) (sym (nodes_counted x) ∙ ap node_count same)
