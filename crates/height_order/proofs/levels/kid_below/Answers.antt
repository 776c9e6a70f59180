use Rattle.std.proofs.Common.{◌<◌, ◌+◌, ap, sym, subst, arith}
use Rattle.link_table.specs.Links.{Reads}
use Rattle.link_table.specs.Walks.{kids_left}
use Rattle.height_order.specs.Levels.{level}
use Rattle.height_order.proofs.Covering.{Covers, kids_cover, covers_next, covers_end, occurs_first}
use Rattle.height_order.proofs.levels.kid_below.Goals as goal

pub loop-kid-init : goal.loop-kid-init
loop-kid-init g c =
    let web = g.T.HeightTable.web c.args.table.now in
    let levels = c.args.levels.now in
    let p = c.args.p in
    let left = kids_left c.kids-kid-items.result in
    record {
      covers = subst (Covers (Reads web.links p) (λ k. level levels k + 1 < level levels p)) (ap kids_left (sym c.into_iter-kid-iterator.ensures.into_iter_gives))
          (kids_cover (λ k. level levels k + 1 < level levels p) web.links p left c.kids-kid-items.ensures);
    }

pub returns-then-saturating_sub-level_of-clause-kid : goal.returns-then-saturating_sub-level_of-clause-kid
returns-then-saturating_sub-level_of-clause-kid g c =
    let web = g.T.HeightTable.web c.args.table.now in
    let levels = c.args.levels.now in
    let p = c.args.p in
    let covers = subst (Covers (Reads web.links p) (λ k. level levels k + 1 < level levels p)) c.in-Some.ensures.steps c.loop-kid.invariant.covers in (
      covers.among c.in-Some.kid (occurs_first c.in-Some.kid (kids_left c.next.new.self)),
      (let a = c.level_of-level.ensures in let b = c.saturating_sub.ensures in let d = c.level_of.ensures in
          let t = c.if-saturating_sub-level_of.true in omega (arith, a, b, d, t)),
    )

pub loop-kid-preserved : goal.loop-kid-preserved
loop-kid-preserved g c =
    let web = g.T.HeightTable.web c.args.table.now in
    let levels = c.args.levels.now in
    let p = c.args.p in
    let covers = subst (Covers (Reads web.links p) (λ k. level levels k + 1 < level levels p)) c.in-Some.ensures.steps c.loop-kid.invariant.covers in
    record {
      covers = covers_next (Reads web.links p) (λ k. level levels k + 1 < level levels p) (λ k. level levels k + 1 < level levels p) c.in-Some.kid
          (kids_left c.next.new.self) covers (λ k low. low)
          (let a = c.level_of-level.ensures in let b = c.saturating_sub.ensures in let d = c.level_of.ensures in
          let t = c.if-saturating_sub-level_of.false in omega (arith, a, b, d, t));
    }

pub returns-clause-none : goal.returns-clause-none
returns-clause-none g c =
    let web = g.T.HeightTable.web c.args.table.now in
    let levels = c.args.levels.now in
    let p = c.args.p in
    let covers = subst (Covers (Reads web.links p) (λ k. level levels k + 1 < level levels p)) c.in-None.ensures.steps.0 c.loop-kid.invariant.covers in
    covers_end (Reads web.links p) (λ k. level levels k + 1 < level levels p) covers
