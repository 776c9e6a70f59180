use Rattle.std.proofs.Common.{◌≡◌, ◌∙◌, ◌+◌, ◌-◌, [], ◌∷◌, ◌++◌, false, refl, ap, sym, subst, arith}
use Rattle.necessity.specs.declared.need.Need.{Need}
use Rattle.necessity.specs.Counting.{IsUnderWay}
use Rattle.necessity.proofs.Reaching.{roots_seen}
use Rattle.necessity.proofs.Idle.{idle_off, idle_needed}
use Rattle.necessity.proofs.Sound.{root_off_stays, root_off_turns, root_off, root_held}
use Rattle.necessity.proofs.needs.Needs.make_unneeded.Goals as goal

pub overflow_sub-left : goal.overflow_sub-left
overflow_sub-left c = rw (c.need_of-need.ensures, ← roots_seen c.self.inside.rows c.args.p) (rw (← c.self.view_is) at c.requires.root)

pub replace-was-requires : goal.replace-was-requires
replace-was-requires c =
    let root = rw (← c.self.view_is, roots_seen c.self.inside.rows c.args.p) at c.requires.root in
    record { there = root_held c.self.inside.rows c.args.p root }

pub invariant_of-self : goal.invariant_of-self
invariant_of-self c =
    let root = rw (← c.self.view_is, roots_seen c.self.inside.rows c.args.p) at c.requires.root in
    let some = ap (λ n. n.roots) c.need_of-need.ensures in
    let is : Need = record { roots = c.need_of-need.result.roots - 1; by = c.need_of-need.result.by } in
    let raised : c.need_of-need.result.roots ≡ is.roots + 1 = omega (arith, root, some) in
    let on = sym c.is_above_zero.ensures ∙ c.if-is_above_zero.true in
    let rest = root_off_stays c.self.inside.links c.self.inside.rows c.replace-was.new.self c.args.p c.need_of-need.result is
    c.self.invariant.at_rest c.replace-was.ensures.changes c.need_of-need.ensures refl raised on in
    record {
      at_rest = rest;
      acyclic = c.self.invariant.acyclic;
      none_wait = c.self.invariant.none_wait;
      all = c.self.invariant.all;
      fit = c.self.invariant.fit;
      no_idle_row = idle_needed c.self.inside.links c.self.inside.rows c.replace-was.new.self c.args.p is c.self.invariant.no_idle_row
          c.replace-was.ensures.changes rest on;
    }

pub invariant_of-self-2 : goal.invariant_of-self-2
invariant_of-self-2 c =
    let is : Need = record { roots = c.need_of-need.result.roots - 1; by = c.need_of-need.result.by } in
    record {
      at_rest = c.forget.ensures.at_rest;
      acyclic = c.self.invariant.acyclic;
      none_wait = c.settle.ensures.none_wait;
      all = c.self.invariant.all;
      fit = omega (arith, c.self.invariant.fit, c.settle.ensures.capacity, c.recount_kids.ensures.capacity);
      no_idle_row = idle_off c.self.inside.links c.self.inside.rows c.replace-was.new.self c.settle.new.rows c.forget.new.rows c.args.p is
          c.self.invariant.no_idle_row c.replace-was.ensures.changes
          (λ k. c.settle.ensures.roots k ∙ c.recount_kids.ensures.roots k)
          (λ k held. c.recount_kids.ensures.rows k (c.settle.ensures.rows k held))
          c.forget.ensures.gone c.forget.ensures.needs c.forget.ensures.rows;
    }

pub returns-then-is_above_zero-clause-root : goal.returns-then-is_above_zero-clause-root
returns-then-is_above_zero-clause-root c =
    let root = rw (← c.self.view_is, roots_seen c.self.inside.rows c.args.p) at c.requires.root in
    let some = ap (λ n. n.roots) c.need_of-need.ensures in
    let is : Need = record { roots = c.need_of-need.result.roots - 1; by = c.need_of-need.result.by } in
    let raised : c.need_of-need.result.roots ≡ is.roots + 1 = omega (arith, root, some) in
    rw (← ap (λ w. w.roots) c.self.view_is) (
    root_off c.self.inside.links c.self.inside.rows c.replace-was.new.self c.args.p c.need_of-need.result is
    c.self.invariant.at_rest c.replace-was.ensures.changes c.need_of-need.ensures refl raised c.replace-was.new.self (λ k. refl))

pub recount_kids-requires-clause-under_way : goal.recount_kids-requires-clause-under_way
recount_kids-requires-clause-under_way c =
    let root = rw (← c.self.view_is, roots_seen c.self.inside.rows c.args.p) at c.requires.root in
    let some = ap (λ n. n.roots) c.need_of-need.ensures in
    let is : Need = record { roots = c.need_of-need.result.roots - 1; by = c.need_of-need.result.by } in
    let raised : c.need_of-need.result.roots ≡ is.roots + 1 = omega (arith, root, some) in
    let off = sym c.is_above_zero.ensures ∙ c.if-is_above_zero.false in
    let turns = root_off_turns c.self.inside.links c.self.inside.rows c.replace-was.new.self c.args.p c.need_of-need.result is
    c.self.invariant.at_rest c.replace-was.ensures.changes c.need_of-need.ensures refl raised off in
    subst (λ w. IsUnderWay false c.self.inside.links c.replace-was.new.self (w ++ c.args.p ∷ []) []) (sym c.self.invariant.none_wait) turns

pub forget-requires : goal.forget-requires
forget-requires c = record { at_rest = c.settle.ensures.at_rest }

pub returns-clause-root : goal.returns-clause-root
returns-clause-root c =
    let root = rw (← c.self.view_is, roots_seen c.self.inside.rows c.args.p) at c.requires.root in
    let some = ap (λ n. n.roots) c.need_of-need.ensures in
    let is : Need = record { roots = c.need_of-need.result.roots - 1; by = c.need_of-need.result.by } in
    let raised : c.need_of-need.result.roots ≡ is.roots + 1 = omega (arith, root, some) in
    rw (← ap (λ w. w.roots) c.self.view_is) (
    root_off c.self.inside.links c.self.inside.rows c.replace-was.new.self c.args.p c.need_of-need.result is
    c.self.invariant.at_rest c.replace-was.ensures.changes c.need_of-need.ensures refl raised
    c.forget.new.rows (λ k. ap (λ n. n.roots) (c.forget.ensures.needs k) ∙ c.settle.ensures.roots k ∙ c.recount_kids.ensures.roots k))
