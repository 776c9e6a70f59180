use Rattle.std.proofs.Common.{◌≡◌, ◌∙◌, ◌+◌, [], ◌∷◌, ◌++◌, true, refl, ap, sym, subst, arith}
use Rattle.necessity.specs.declared.need.Need.{Need}
use Rattle.necessity.specs.Counting.{IsUnderWay}
use Rattle.necessity.proofs.Idle.{idle_on}
use Rattle.necessity.proofs.Sound.{one_more, root_on_stays, root_on_turns, root_on}
use Rattle.necessity.proofs.needs.Needs.make_needed.Goals as goal

pub invariant_of-self-then-is_above_zero : goal.invariant_of-self-then-is_above_zero
invariant_of-self-then-is_above_zero c =
    let raised : c.in_ok-roots.roots ≡ c.need_of-need.result.roots + 1 = one_more _ _ _ _ c.checked_add.ensures c.in_ok-roots.ensures.ok_part in
    let is : Need = record { roots = c.in_ok-roots.roots; by = c.need_of-need.result.by } in
    let on = sym c.is_above_zero.ensures ∙ c.if-is_above_zero.true in
    record {
      at_rest = root_on_stays c.self.inside.links c.self.inside.rows c.reserve.new.self c.put.new.rows c.args.p c.need_of-need.result is
          c.self.invariant.at_rest c.reserve.ensures.rows c.put.ensures c.need_of-need.ensures refl raised on;
      acyclic = c.self.invariant.acyclic;
      none_wait = c.self.invariant.none_wait;
      all = c.self.invariant.all;
      fit = c.self.invariant.fit;
      no_idle_row = idle_on c.self.inside.links c.self.inside.rows c.reserve.new.self c.put.new.rows c.put.new.rows c.args.p is
          c.self.invariant.no_idle_row c.reserve.ensures.rows c.put.ensures (omega (arith, raised)) (λ k. refl) (λ k held. held);
    }

pub returns-then-is_above_zero-clause-root : goal.returns-then-is_above_zero-clause-root
returns-then-is_above_zero-clause-root c =
    let raised : c.in_ok-roots.roots ≡ c.need_of-need.result.roots + 1 = one_more _ _ _ _ c.checked_add.ensures c.in_ok-roots.ensures.ok_part in
    let is : Need = record { roots = c.in_ok-roots.roots; by = c.need_of-need.result.by } in
    rw (← ap (λ w. w.roots) c.self.view_is) (
    root_on c.self.inside.links c.self.inside.rows c.reserve.new.self c.put.new.rows c.args.p c.need_of-need.result is
    c.self.invariant.at_rest c.reserve.ensures.rows c.put.ensures c.need_of-need.ensures refl raised c.put.new.rows (λ k. refl))

pub recount_kids-requires-clause-under_way : goal.recount_kids-requires-clause-under_way
recount_kids-requires-clause-under_way c =
    let raised : c.in_ok-roots.roots ≡ c.need_of-need.result.roots + 1 = one_more _ _ _ _ c.checked_add.ensures c.in_ok-roots.ensures.ok_part in
    let is : Need = record { roots = c.in_ok-roots.roots; by = c.need_of-need.result.by } in
    let off = sym c.is_above_zero.ensures ∙ c.if-is_above_zero.false in
    let turns = root_on_turns c.self.inside.links c.self.inside.rows c.reserve.new.self c.put.new.rows c.args.p c.need_of-need.result is
    c.self.invariant.at_rest c.reserve.ensures.rows c.put.ensures c.need_of-need.ensures refl raised off in
    subst (λ w. IsUnderWay true c.self.inside.links c.put.new.rows (w ++ c.args.p ∷ []) []) (sym c.self.invariant.none_wait) turns

pub returns-clause-root : goal.returns-clause-root
returns-clause-root c =
    let raised : c.in_ok-roots.roots ≡ c.need_of-need.result.roots + 1 = one_more _ _ _ _ c.checked_add.ensures c.in_ok-roots.ensures.ok_part in
    let is : Need = record { roots = c.in_ok-roots.roots; by = c.need_of-need.result.by } in
    rw (← ap (λ w. w.roots) c.self.view_is) (
    root_on c.self.inside.links c.self.inside.rows c.reserve.new.self c.put.new.rows c.args.p c.need_of-need.result is
    c.self.invariant.at_rest c.reserve.ensures.rows c.put.ensures c.need_of-need.ensures refl raised
    c.settle.new.rows (λ k. c.settle.ensures.roots k ∙ c.recount_kids.ensures.roots k))

pub invariant_of-self-2 : goal.invariant_of-self-2
invariant_of-self-2 c =
    let raised : c.in_ok-roots.roots ≡ c.need_of-need.result.roots + 1 = one_more _ _ _ _ c.checked_add.ensures c.in_ok-roots.ensures.ok_part in
    let is : Need = record { roots = c.in_ok-roots.roots; by = c.need_of-need.result.by } in
    record {
      at_rest = c.settle.ensures.at_rest;
      acyclic = c.self.invariant.acyclic;
      none_wait = c.settle.ensures.none_wait;
      all = c.self.invariant.all;
      fit = omega (arith, c.self.invariant.fit, c.settle.ensures.capacity, c.recount_kids.ensures.capacity);
      no_idle_row = idle_on c.self.inside.links c.self.inside.rows c.reserve.new.self c.put.new.rows c.settle.new.rows c.args.p is
          c.self.invariant.no_idle_row c.reserve.ensures.rows c.put.ensures (omega (arith, raised))
          (λ k. c.settle.ensures.roots k ∙ c.recount_kids.ensures.roots k)
          (λ k held. c.recount_kids.ensures.rows k (c.settle.ensures.rows k held));
    }
