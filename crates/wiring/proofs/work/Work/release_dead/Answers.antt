use Rattle.std.proofs.Common.{◌≡◌, length, refl, ap, subst, ◌∙◌, ◌+◌, arith}
use Rattle.inc_value.specs.declared.node.Point.{Point}
use Rattle.inc_terms.specs.Depend.{main, change}
use Rattle.link_table.proofs.Lists.{length_more}
use Rattle.wiring.specs.Graph.{rowless}
use Rattle.wiring.specs.declared.work.Work.{Work}
use Rattle.wiring.proofs.Releasing.{IsOffAt, releasing_first, deaths_now, else_kept, release_more, release_last, else_last}
use Rattle.wiring.proofs.work.Work.release_dead.Goals as goal

pub loop-death-init : goal.loop-death-init
loop-death-init c = record { releasing = releasing_first c.args.self.now c.requires.step; rest = refl }

pub release-requires : goal.release-requires
release-requires c = record { step = c.loop-death.invariant.releasing.swept.step }

pub loop-death-smaller : goal.loop-death-smaller
loop-death-smaller c =
    let now = c.loop-death.self in
    let d = c.pop.new.self in
    let inv = c.loop-death.invariant in
    let e : length now.deaths.nodes ≡ length d.nodes + 1 = ap length c.in-Some.ensures.last ∙ length_more d.nodes c.in-Some.death.node in
    let f = ap length (ap (λ x. x.nodes) (deaths_now c.args.self.now now c.release.new.self c.release-in-Some.new.self d inv.releasing inv.rest
    c.release.ensures.rest c.release-in-Some.ensures.rest)) in
    omega (arith, e, f)

pub loop-death-preserved : goal.loop-death-preserved
loop-death-preserved c =
    let old = c.args.self.now in
    let now = c.loop-death.self in
    let d = c.pop.new.self in
    let popped : Work = record now { deaths = d } in
    let mid = c.release.new.self in
    let new = c.release-in-Some.new.self in
    let n = c.in-Some.death.node in
    let b = c.in-Some.death.scope in
    let inv = c.loop-death.invariant in
    let gate = c.change-gate.ensures in
    let one : IsOffAt (rowless popped) now.graph mid.graph (main n) (change b) =
    subst (λ (x : Point). IsOffAt (rowless popped) now.graph mid.graph x (change b)) c.main.ensures
    (subst (λ (y : Point). IsOffAt (rowless popped) now.graph mid.graph c.main.result y) gate c.release.ensures.off) in
    let two : IsOffAt (rowless mid) mid.graph new.graph (change n) (change b) =
    subst (λ (x : Point). IsOffAt (rowless mid) mid.graph new.graph x (change b)) c.change.ensures
    (subst (λ (y : Point). IsOffAt (rowless mid) mid.graph new.graph c.change.result y) gate c.release-in-Some.ensures.off) in record {
      releasing = release_more old now mid new d inv.releasing inv.rest c.release.ensures.rest c.release-in-Some.ensures.rest n b c.in-Some.ensures.scope
          c.in-Some.ensures.scopes one c.release.ensures.step two c.release-in-Some.ensures.step;
      rest = else_kept old now mid new d inv.releasing inv.rest c.release.ensures.rest c.release-in-Some.ensures.rest;
    }

pub returns : goal.returns
returns c =
    let old = c.args.self.now in
    let now = c.loop-death.self in
    let inv = c.loop-death.invariant in record {
      released = release_last old now c.pop.new.self inv.releasing c.in_default.ensures.unchanged c.in_default.ensures.none c.pop.ensures.told;
      step = inv.releasing.swept.step;
      rest = else_last old now c.pop.new.self inv.rest;
    }
