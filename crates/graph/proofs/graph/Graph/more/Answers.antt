use Rattle.inc_terms.specs.Within.{FunctionLaws}
use Rattle.node_arena.proofs.RightSides.{sides_are_lawful}
use Rattle.stabilizer.specs.Weights.{SidesFit}
use Rattle.node_outcomes.specs.Meaning.{Meaning, meaning_of}
use Rattle.graph.proofs.Fitting.{fit_more}
use Rattle.graph.proofs.Knowing.{ready_more, sound_more}
use Rattle.graph.proofs.graph.Graph.more.Goals as goal

pub invariant_of-self : goal.invariant_of-self
invariant_of-self g c =
    let m = c.more.ensures in
    let f = c.self.inside.functions in
    let f' = c.more.new.self in
    let M' : Meaning = meaning_of g.F.Functions f' in
    let laws : FunctionLaws M'.functions M'.known M'.ids
    = sides_are_lawful _ _ _ (g.met.F.Functions.no_reference f' m.sound) (g.met.F.Functions.sides f' m.sound) in
    let fit : SidesFit (g.F.Functions.known f') (g.F.Functions.right f') c.self.inside.parts.arena
    = fit_more (g.F.Functions.known f) (g.F.Functions.known f') (g.F.Functions.right f) (g.F.Functions.right f') c.self.inside.parts.arena (record { keeps = m.keeps_meanings.known; same = m.keeps_meanings.sides })
    c.self.invariant.2 in (
      sound_more (meaning_of g.F.Functions f) M' c.self.inside.parts c.self.inside.observers.made c.self.inside.rooted c.self.inside.since c.self.inside.refused
          c.self.invariant.0 (rw (← c.self.view_is) at c.in-Ok.ensures.unbroken) (ready_more (g.F.Functions.named f) (g.F.Functions.named f') (g.F.Functions.known f) (g.F.Functions.known f') (g.F.Functions.value f) (g.F.Functions.value f')
          (g.F.Functions.right f) (g.F.Functions.right f') m.keeps_meanings laws c.self.inside.parts c.self.invariant.2.all fit.all),
      m.sound,
      fit,
    )
