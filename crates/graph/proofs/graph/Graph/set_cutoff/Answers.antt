use Rattle.std.proofs.Common.{sym, ap, subst}
use Rattle.stabilizer.specs.Weights.{SidesFit}
use Rattle.stabilizer.specs.declared.parts.Parts.{Parts}
use Rattle.graph.proofs.Cutting.{sound_cut, sets_cutoff}
use Rattle.graph.proofs.graph.Graph.set_cutoff.Goals as goal

pub invariant_of-self : goal.invariant_of-self
invariant_of-self g c = (
  (let a = c.set_cutoff.ensures in
      sound_cut c.self.inside.parts c.set_cutoff.new.self c.args.node c.args.cutoff a.cutoff a.rest _ c.self.inside.observers.made
      c.self.inside.rooted c.self.inside.since c.self.inside.refused c.self.invariant.0 (rw (← c.self.view_is) at c.in_ok-check.ensures.unbroken) (a.ready _)),
  c.self.invariant.1,
  (let a = c.set_cutoff.ensures in
      subst (SidesFit (g.F.Functions.known c.self.inside.functions) (g.F.Functions.right c.self.inside.functions))
      (sym (ap (λ (p : Parts). p.arena) a.rest)) c.self.invariant.2),
)

pub returns-clause-set : goal.returns-clause-set
returns-clause-set g c =
    let a = c.set_cutoff.ensures in
    rw (← c.self.view_is) (sets_cutoff c.self.inside.parts c.set_cutoff.new.self c.args.node c.args.cutoff a.cutoff a.rest c.self.inside.functions
    c.self.inside.observers c.self.inside.rooted c.self.inside.since c.self.inside.refused c.self.invariant.0.kept.work a.dead)
