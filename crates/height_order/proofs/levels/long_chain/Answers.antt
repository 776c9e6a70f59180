use Rattle.std.proofs.Common.{◌<◌, ◌≤◌, ◌+◌, [], ◌∷◌, ◌++◌, length, length-append, sym, subst, arith}
use Rattle.std.specs.Prelude.{IfSome}
use Rattle.link_table.specs.Links.{Reads}
use Rattle.height_order.specs.Chains.{IsChain, EndsAt}
use Rattle.height_order.specs.Levels.{level}
use Rattle.height_order.proofs.Chaining.{chain_push, ends_push}
use Rattle.height_order.proofs.Levelling.{kid_some}
use Rattle.height_order.proofs.levels.long_chain.Goals as goal

pub unwrap-last-requires : goal.unwrap-last-requires
unwrap-last-requires g c =
    let web = g.T.HeightTable.web c.args.table.now in
    kid_some web.links c.args.levels.now c.loop-last.last c.kid_below.result c.requires.next
    (let h = c.loop-last.invariant.high in let t = c.loop-last-test.true in let n = c.len.ensures in let ok = c.loop-last.list.ok.0 in omega (arith, h, t, n, ok))
    c.kid_below.ensures.none

pub loop-last-preserved : goal.loop-last-preserved
loop-last-preserved g c =
    let web = g.T.HeightTable.web c.args.table.now in
    let reads = Reads web.links in
    let so = c.loop-last.invariant in
    let xs = c.loop-last.list.items in
    let next = c.unwrap-last.result in
    let below = subst (λ o. IfSome o (λ k. reads c.loop-last.last k × (level c.args.levels.now c.loop-last.last ≤ level c.args.levels.now k + 1)))
    c.unwrap-last.ensures c.kid_below.ensures.kid in
    let items = sym c.in_ok-push-2.ensures.items in
    let long = length-append xs (next ∷ []) in
    let near = below.1 in
    let high = so.high in
    let few = (let t = c.loop-last-test.true in let n = c.len.ensures in let ok = c.loop-last.list.ok.0 in
    let e : length (xs ++ next ∷ []) ≤ 130 = omega (arith, t, n, ok, long) in e) in
    record {
      chain = subst (IsChain reads) items (chain_push reads xs c.loop-last.last next so.chain so.ends below.0);
      ends = subst (λ ys. EndsAt ys next) items (ends_push reads xs next);
      high = subst (λ ys. 129 < level c.args.levels.now next + length ys) items (omega (arith, long, near, high));
      few = subst (λ ys. length ys ≤ 130) items few;
    }
