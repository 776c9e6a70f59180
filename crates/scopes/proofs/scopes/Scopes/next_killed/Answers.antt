use Rattle.std.proofs.Common.{◌∙◌, ◌<◌, ◌+◌, ap, sym, subst, arith, length}
use Rattle.slab.specs.Slab.{get}
use Rattle.scopes.specs.Scopes.{node_count, own_in, Empties, Gives}
use Rattle.scopes.proofs.Dying.{view_of, nodes_counted}
use Rattle.scopes.proofs.Giving.{popped_sound, given, emptied}
use Rattle.scopes.proofs.scopes.Scopes.next_killed.Goals as goal

pub release-requires : goal.release-requires
release-requires c =
    let s = c.self.inside in
    let got = c.in_ok-_place in
    let wide : 0 < length s.lists.lists = omega (arith, c.if-width-eq0.false, c.width.ensures) in
    let x = c.pop_front.new.self in
    record {
      sound = popped_sound s.lists x (own_in s.numbers) (get s.names) got._place got.row c.self.invariant wide
          got.ensures.popped got.ensures.vacant;
    }

pub returns-clause-gives : goal.returns-clause-gives
returns-clause-gives c =
    let s = c.self.inside in
    let got = c.in_ok-_place in
    let w = c.release.new.lists in
    let wide : 0 < length s.lists.lists = omega (arith, c.if-width-eq0.false, c.width.ensures) in
    subst (λ o. Gives o (view_of w) got.row.node) c.self.view_is
    (given s.lists c.pop_front.new.self (own_in s.numbers) (get s.names) got._place got.row c.self.invariant wide
    got.ensures.popped got.ensures.vacant w c.release.ensures.releases)

pub returns-clause-standing : goal.returns-clause-standing
returns-clause-standing c =
    let s = c.self.inside in
    let got = c.in_ok-_place in
    let w = c.release.new.lists in
    let wide : 0 < length s.lists.lists = omega (arith, c.if-width-eq0.false, c.width.ensures) in
    subst (λ o. Empties o (view_of w) got.row.node) c.self.view_is
    (emptied s.lists c.pop_front.new.self (own_in s.numbers) (get s.names) got._place got.row c.self.invariant wide
    got.ensures.popped got.ensures.vacant w c.release.ensures.releases)

pub returns-clause-count : goal.returns-clause-count
returns-clause-count c =
    ap (λ n. n + 1) (nodes_counted c.release.new.lists ∙ c.release.ensures.count) ∙ c.in_ok-_place.ensures.count
    ∙ sym (nodes_counted c.self.inside.lists) ∙ ap node_count c.self.view_is
