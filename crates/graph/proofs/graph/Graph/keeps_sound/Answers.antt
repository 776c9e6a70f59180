use Rattle.node_outcomes.specs.Meaning.{meaning_of}
use Rattle.graph.proofs.Dead.{dead_equal}
use Rattle.graph.proofs.Grouping.{few_live}
use Rattle.graph.proofs.Nesting.{scopes_few}
use Rattle.graph.proofs.Sound.{sound_of}
use Rattle.graph.proofs.graph.Graph.keeps_sound.Goals as goal

pub returns : goal.returns
returns g c =
    let inside = c.self.inside in
    let fits = c.self.invariant.0 in
    let right = g.F.Functions.right inside.functions in
    rw (← c.self.view_is) (record {
      sound = sound_of inside.functions (meaning_of g.F.Functions inside.functions) inside.parts inside.observers inside.rooted inside.since inside.refused fits;
      functions = c.self.invariant.1;
      few = few_live right inside.parts.arena c.self.invariant.2.scopes fits.kept.work.scopes;
      scopes = scopes_few right inside.parts.arena inside.parts.work c.self.invariant.2.scopes fits.kept.work;
      dead = dead_equal inside.parts.arena inside.parts.work fits.kept.work;
    })
