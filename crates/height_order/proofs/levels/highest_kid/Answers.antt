use Rattle.std.proofs.Common.{◌≤◌, ap, sym, subst, arith}
use Rattle.std.specs.Prelude.{option_copied}
use Rattle.link_table.specs.Links.{Reads}
use Rattle.link_table.specs.Walks.{kids_left}
use Rattle.height_order.specs.Levels.{bound}
use Rattle.height_order.proofs.Covering.{Covers, kids_cover, covers_next, covers_end, occurs_first}
use Rattle.height_order.proofs.levels.highest_kid.Goals as goal

pub returns-in_default-clause-none : goal.returns-in_default-clause-none
returns-in_default-clause-none g c =
    let web = g.T.HeightTable.web c.args.table.now in
    let links = web.links in
    let p = c.args.p in
    let covers = kids_cover (λ _. ⊥) links p (kids_left c.kids-kids.result) c.kids-kids.ensures in
    covers_end (Reads links p) (λ _. ⊥) (subst (Covers (Reads links p) (λ _. ⊥)) c.in_default.ensures.steps.0 covers)

pub loop-kid-init : goal.loop-kid-init
loop-kid-init g c =
    let web = g.T.HeightTable.web c.args.table.now in
    let links = web.links in
    let p = c.args.p in
    let limit = bound web.heights (option_copied c.args.free) in
    let first = c.in-Some.highest in
    let rest = kids_left c.next.new.self in
    let covers = subst (Covers (Reads links p) (λ k. limit k ≤ c.bound_of-most.result)) c.in-Some.ensures.steps
    (kids_cover (λ k. limit k ≤ c.bound_of-most.result) links p (kids_left c.kids-kids.result) c.kids-kids.ensures) in
    record {
      kid = covers.among first (occurs_first first rest);
      most = c.bound_of-most.ensures;
      covers = subst (Covers (Reads links p) (λ k. limit k ≤ c.bound_of-most.result)) (ap kids_left (sym c.into_iter-kid-iterator.ensures.into_iter_gives))
          (covers_next (Reads links p) (λ k. limit k ≤ c.bound_of-most.result) (λ k. limit k ≤ c.bound_of-most.result) first rest covers (λ k l. l)
          (let e = c.bound_of-most.ensures in omega (arith, e)));
    }

pub loop-kid-preserved-then-bound-most : goal.loop-kid-preserved-then-bound-most
loop-kid-preserved-then-bound-most g c =
    let web = g.T.HeightTable.web c.args.table.now in
    let links = web.links in
    let p = c.args.p in
    let limit = bound web.heights (option_copied c.args.free) in
    let so = c.loop-kid.invariant in
    let covers = subst (Covers (Reads links p) (λ k. limit k ≤ c.loop-kid.most)) c.in-Some-kid.ensures.steps so.covers in
    record {
      kid = so.kid;
      most = so.most;
      covers = covers_next (Reads links p) (λ k. limit k ≤ c.loop-kid.most) (λ k. limit k ≤ c.loop-kid.most) c.in-Some-kid.kid (kids_left c.next-in-loop-kid.new.self) covers (λ k l. l)
          (let e = c.bound_of-bound.ensures in let t = c.if-bound-most.true in omega (arith, e, t));
    }

pub loop-kid-preserved : goal.loop-kid-preserved
loop-kid-preserved g c =
    let web = g.T.HeightTable.web c.args.table.now in
    let links = web.links in
    let p = c.args.p in
    let limit = bound web.heights (option_copied c.args.free) in
    let so = c.loop-kid.invariant in
    let covers = subst (Covers (Reads links p) (λ k. limit k ≤ c.loop-kid.most)) c.in-Some-kid.ensures.steps so.covers in
    let next = c.bound_of-bound.result in
    record {
      kid = covers.among c.in-Some-kid.kid (occurs_first c.in-Some-kid.kid (kids_left c.next-in-loop-kid.new.self));
      most = c.bound_of-bound.ensures;
      covers = covers_next (Reads links p) (λ k. limit k ≤ c.loop-kid.most) (λ k. limit k ≤ next) c.in-Some-kid.kid (kids_left c.next-in-loop-kid.new.self) covers
          (λ k l. let t = c.if-bound-most.false in omega (arith, l, t)) (let e = c.bound_of-bound.ensures in omega (arith, e));
    }

pub returns-clause-highest : goal.returns-clause-highest
returns-clause-highest g c q reads =
    let web = g.T.HeightTable.web c.args.table.now in
    let links = web.links in
    let p = c.args.p in
    let limit = bound web.heights (option_copied c.args.free) in
    let so = c.loop-kid.invariant in
    let most = so.most in
    let under = covers_end (Reads links p) (λ k. limit k ≤ c.loop-kid.most) (subst (Covers (Reads links p) (λ k. limit k ≤ c.loop-kid.most)) c.in-None.ensures.steps.0 so.covers)
    q reads in omega (arith, most, under)

pub returns-clause-kid : goal.returns-clause-kid
returns-clause-kid g c = c.loop-kid.invariant.kid
