use Rattle.std.proofs.Common.{◌<◌, ap, arith}
use Rattle.inc_terms.specs.Depend.{main, change}
use Rattle.node_outcomes.specs.Row.{outcome_in}
use Rattle.graph.proofs.Seeing.{needed_out, beside_as, built_still}
use Rattle.graph.proofs.TakingBack.{sound_back, scoped_before, fit_back}
use Rattle.graph.proofs.graph.Graph.back_to.Goals as goal

pub back_to-requires-clause-unneeded : goal.back_to-requires-clause-unneeded
back_to-requires-clause-unneeded g c p since need =
    let whole = rw (← c.self.view_is) at c.in_ok-check.ensures.unbroken in
    let low = (rw (← c.self.view_is) at c.requires.unneeded) whole p (needed_out c.self.inside.functions c.self.inside.parts
    c.self.inside.observers c.self.inside.rooted c.self.inside.since c.self.inside.refused p need) in omega (arith, low, since)

pub back_to-requires-clause-unscoped : goal.back_to-requires-clause-unscoped
back_to-requires-clause-unscoped g c =
    let whole = rw (← c.self.view_is) at c.in_ok-check.ensures.unbroken in
    scoped_before c.self.inside.parts.arena c.self.inside.parts.work c.args.mark.given c.self.invariant.0.kept.work
    ((rw (← c.self.view_is) at c.requires.unscoped) whole)

pub invariant_of-self : goal.invariant_of-self
invariant_of-self g c = (
  (let whole = rw (← c.self.view_is) at c.in_ok-check.ensures.unbroken in
      let low = (rw (← c.self.view_is) at c.requires.unneeded) whole in
      let b = c.back_to.ensures in
      sound_back _ c.self.inside.parts c.back_to.new.self c.self.inside.observers.made c.self.inside.rooted c.self.inside.since c.self.inside.refused c.self.invariant.0
      c.args.mark.given b.older b.dropped whole (b.ready _) b.roots b.given (λ n older. b.rows (main n) older)
      (λ p need. low p (needed_out c.self.inside.functions c.self.inside.parts c.self.inside.observers c.self.inside.rooted c.self.inside.since
      c.self.inside.refused p need))),
  c.self.invariant.1,
  (let b = c.back_to.ensures in
      fit_back (g.F.Functions.known c.self.inside.functions) (g.F.Functions.right c.self.inside.functions) c.self.inside.parts.arena
      c.back_to.new.self.arena c.args.mark.given b.older b.dropped b.given c.self.invariant.2),
)

pub returns-clause-taken : goal.returns-clause-taken
returns-clause-taken g c =
    let b = c.back_to.ensures in
    rw (← c.self.view_is) (record {
      beside = beside_as c.self.inside.functions c.self.inside.parts c.back_to.new.self c.self.inside.observers c.self.inside.rooted c.self.inside.since
          c.self.inside.refused (λ n. n.gen_ < c.args.mark.given) (ap (λ v. v.items) b.ran) b.links b.roots b.rows
          (λ n low. built_still c.self.inside.parts c.back_to.new.self n (b.older n low) (ap outcome_in (b.rows (change n) low))
          (b.right_sides n low)) b.experts b.other_cutoffs;
      older = b.older;
      dropped = b.dropped;
      given = b.given;
      time = b.time;
    })
