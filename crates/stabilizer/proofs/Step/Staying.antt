-- What stays in each step of a round, and what the next may begin with.
use Rattle.std.proofs.Common.{◌≡◌, None, refl, ◌∙◌}
use Rattle.inc_value.specs.declared.node.Point.{Point}
use Rattle.necessary_graph.specs.Part.{NecessaryPart}
use Rattle.necessity.specs.Need.{KeepsRoots}
use Rattle.node_arena.specs.declared.functions.Functions.{Ghosts}
use Rattle.point_map.specs.Rows.{Changes}
use Rattle.wiring.specs.Kept.{IsKept}
use Rattle.wiring.specs.declared.work.Work.{Work}
use Rattle.stabilizer.specs.Staying.{MayStep, RoundStays}
use Rattle.stabilizer.specs.declared.parts.Parts.{Parts}
use Rattle.stabilizer.proofs.Change.Again.{parts_with}
use Rattle.stabilizer.proofs.Step.Carrying.{taken_kept}
use Rattle.stabilizer.proofs.Step.MeaningKept.{nothing_meant, meaning_on, stays_flat}

module _ {K More : Type 0} (keeper : Ghosts K More) (fs : K) where
  -- where nothing is done all stays
  pub nothing_done : (parts : Parts) → MayStep keeper fs parts → RoundStays keeper fs fs parts parts
  nothing_done parts may = record {
    kept = may.kept;
    fit = may.fit;
    functions = nothing_meant keeper fs may.sound;
    flat = λ none. refl;
    roots = λ p. refl;
    round = refl;
    ran = refl;
  }

  -- once a point was taken from the heap it may go on
  pub taken_may : (old : Parts) (g : NecessaryPart) (p : Point) → MayStep keeper fs old → g ≡ record old.work.graph { heap = g.heap }
      → Changes old.work.graph.heap g.heap p None → MayStep keeper fs (record old { work = record old.work { graph = g } })
  taken_may old g p may rest removed = record {
    kept = record { work = taken_kept old.arena old.work g rest p may.kept.work removed; scopes = may.kept.scopes; dying = may.kept.dying; clock = may.kept.clock; listing = may.kept.listing };
    quiet = may.quiet;
    sound = may.sound;
    fit = may.fit;
  }

  -- or where only the work changed then, and its roots and its round stay
  pub work_moved : {fs' : K} (old mid : Parts) (work : Work) → RoundStays keeper fs fs' old mid → IsKept mid.arena work
      → KeepsRoots mid.work.graph.roots work.graph.roots → work.round ≡ mid.work.round → RoundStays keeper fs fs' old (record mid { work = work })
  work_moved old mid work stays kept roots round = record {
    kept = parts_with mid work stays.kept kept;
    fit = stays.fit;
    functions = stays.functions;
    flat = stays.flat;
    roots = λ p. roots p ∙ stays.roots p;
    round = round ∙ stays.round;
    ran = stays.ran;
  }

-- what stayed, and stays on, stays
pub stays_on : {K More : Type 0} (keeper : Ghosts K More) (fs fs' fs'' : K) (old mid new : Parts) → RoundStays keeper fs fs' old mid
    → RoundStays keeper fs' fs'' mid new → RoundStays keeper fs fs'' old new
stays_on keeper fs fs' fs'' old mid new first then = record {
  kept = then.kept;
  fit = then.fit;
  functions = meaning_on keeper fs fs' fs'' first.functions then.functions;
  flat = stays_flat old.arena mid.arena new.arena first.flat then.flat;
  roots = λ p. then.roots p ∙ first.roots p;
  round = then.round ∙ first.round;
  ran = then.ran ∙ first.ran;
}
