use Rattle.std.proofs.Common.{ap, sym, subst}
use Rattle.stabilizer.specs.Weights.{SidesFit}
use Rattle.stabilizer.specs.declared.parts.Parts.{Parts}
use Rattle.graph.proofs.Linking.{sound_stale, is_made_stale}
use Rattle.graph.proofs.graph.Graph.make_stale.Goals as goal

pub invariant_of-self : goal.invariant_of-self
invariant_of-self g c = (
  sound_stale _ c.self.inside.parts c.make_stale.new.self c.self.inside.observers.made c.self.inside.rooted c.self.inside.since c.self.inside.refused
      c.self.invariant.0 (rw (← c.self.view_is) at c.in_ok-check.ensures.unbroken) c.args.expert c.args.expert c.make_stale.ensures,
  c.self.invariant.1,
  subst (SidesFit (g.F.Functions.known c.self.inside.functions) (g.F.Functions.right c.self.inside.functions))
      (sym (ap (λ (p : Parts). p.arena) c.make_stale.ensures.rest)) c.self.invariant.2,
)

pub returns-clause-marked : goal.returns-clause-marked
returns-clause-marked g c = rw (← c.self.view_is) (is_made_stale c.self.inside.functions c.self.inside.parts c.make_stale.new.self
    c.self.inside.observers c.self.inside.rooted c.self.inside.since c.self.inside.refused c.args.expert c.args.expert c.make_stale.ensures)
