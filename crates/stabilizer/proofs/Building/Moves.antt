-- Parts in which a bind was built anew, or couldn't be: from each state of a round that the parts stood for the machine's moves lead there.
use Rattle.std.proofs.Common.{◌≡◌, ℕ, ◌-◌, true, List, Option, None, Some, refl, sym, ap, subst, ◌∙◌}
use Rattle.std.specs.Prelude.{is_some}
use Rattle.inc_value.specs.declared.function.FnRef.{FnRef}
use Rattle.inc_value.specs.declared.node.NodeId.{NodeId}
use Rattle.inc_value.specs.declared.outcome.Outcome.{Outcome}
use Rattle.inc_value.specs.Choice.{Reaches}
use Rattle.inc_terms.specs.Depend.{change}
use Rattle.inc_terms.specs.Graph as graph
use Rattle.inc_terms.specs.Graph.{Graph, Row}
use Rattle.inc_terms.specs.Rebuild.{IsDue}
use Rattle.inc_terms.specs.Term.{Functions}
use Rattle.inc_terms.proofs.Local.{reach_more}
use Rattle.point_map.specs.Rows.{Holds}
use Rattle.node_arena.specs.Arena.{Arena, row_at}
use Rattle.node_arena.specs.Graph.{AllCallFit}
use Rattle.node_arena.specs.RightSide.{IsEmpty}
use Rattle.stabilize_round.specs.Counts.{RoseBy, RoseAtMost}
use Rattle.stabilize_round.specs.Machine as move
use Rattle.stabilize_round.specs.Machine.{Move, Moves, Stops}
use Rattle.stabilize_round.specs.Moves.{Quiet}
use Rattle.stabilize_round.specs.Rebuilding.{builds_of}
use Rattle.stabilize_round.specs.State.{State, Start}
use Rattle.stabilize_round.specs.Steps.{Preparing, Settles}
use Rattle.stabilize_round.proofs.Ids.{moves_given}
use Rattle.stabilize_round.proofs.Machine.{moves_keep}
use Rattle.stabilize_round.proofs.Parts.{reaches_map}
use Rattle.node_outcomes.specs.Meaning.{Meaning}
use Rattle.wiring.specs.Began.{IsRoundOf}
use Rattle.wiring.specs.Kept.{IsKept}
use Rattle.wiring.specs.Stands.{MatchesState, Counts}
use Rattle.wiring.specs.Wiring.{IsTurnedIn}
use Rattle.wiring.specs.declared.work.Work.{Work}
use Rattle.stabilizer.specs.Building.{HasGrown}
use Rattle.stabilizer.specs.Dying.{StandsBefore, CutsTo, IsCutOff, HasDied}
use Rattle.stabilizer.specs.Rebuilding.{IsToBuild, BuildsAnew}
use Rattle.stabilizer.specs.declared.parts.Parts.{Parts}
use Rattle.stabilizer.proofs.Building.Anew.{IsRebuilt, HasRoot, prepared, rebuilds, turned, settles, turned_in}
use Rattle.stabilizer.proofs.Building.Remade.{bare_state, bare_stands, bare_anew, bare_heap, unbuilt_now, IsAnew}
use Rattle.stabilizer.proofs.Building.ToBuild.{due, due_unsettled, gates_wait}

-- preparing is moving
prepares_move : (F : Functions) (z : Start) (b : NodeId) (s t : State) → Reaches (Preparing F z (change b)) s t → Moves F z s t
prepares_move F z b s t run = reaches_map (Preparing F z (change b)) (Move F z) (λ x y m. m.0) s t run

module _ (M : Meaning) (old cut died grown : Parts) (b : NodeId) (f : FnRef) (captures : List NodeId) (now : Outcome) (before : Counts)
    (kept : IsKept old.arena old.work) (to : IsToBuild old b f captures now) (own : Holds old.work.rows (change b)) (cuts : IsCutOff old cut b)
    (dead : HasDied cut died b) (grew : HasGrown died grown b) (lasts : IsKept grown.arena grown.work)
    (fit : AllCallFit M.known M.ids grown.arena) where
  abbrev F : Functions
  F = M.functions

  module _ (z : Start) (s : State) (begun : IsRoundOf M z s) (quiet : Quiet s) (stands : StandsBefore old before s b) where
    due_s : IsDue F s.graph b now
    due_s = due F z s begun.holds quiet old before b kept stands f captures now to

    abbrev found : (t : State) × CutsTo F z s b cut before t
    found = cuts.cuts F z s before begun.holds quiet (gates_wait F z s begun.holds b now due_s)
        (due_unsettled F z s begun.holds b now due_s) stands

    abbrev t : State
    t = found.0

    moved : Moves F z s t
    moved = prepares_move F z b s t found.1.prepared

    is_anew : IsAnew F z t b now cut died grown before
    is_anew = record {
      holds = moves_keep F z s t moved begun.holds;
      given = moves_given F z s t begun.given moved;
      quiet = found.1.quiet;
      least = found.1.least;
      stands = found.1.stands;
      due = subst (λ (G : Graph). IsDue F G b now) (sym found.1.graph) due_s;
      own = ap is_some cuts.own ∙ own;
      kept = cuts.kept;
      gated = cuts.gated;
      right = cuts.right;
      died = dead;
      grown = grew;
      lasts = lasts;
      fit = subst (λ (k : _). AllCallFit k z.ids grown.arena) (sym begun.knows)
          (subst (λ (i : _). AllCallFit M.known i grown.arena) (sym begun.names) fit);
    }

    module _ (after : Counts) (calls : after.calls ≡ before.calls) (adds : RoseBy before.adds (grown.arena.given - died.arena.given) after.adds) where
      -- the bind is built for nothing, nobody stands in its scope, and the round stops
      stopped : IsEmpty grown.arena b → (most : RoseAtMost before.builds (builds_of now) after.builds)
          → (ready stopped : State) × Reaches (Preparing F z (change b)) s ready × Stops F z ready stopped
          × MatchesState grown.arena grown.work after None stopped × (stopped.heap (change b) ≡ true)
      stopped empty most = (
        t,
        bare_state F z t b now cut died grown before is_anew after calls adds,
        found.1.prepared,
        move.unbuilt (bare_anew F z t b now cut died grown before is_anew after calls adds)
            (unbuilt_now F z t b now cut died grown before is_anew) empty
            (subst (λ (k : ℕ). RoseAtMost k (builds_of now) after.builds) (sym (ap (λ (c : Counts). c.builds) is_anew.stands.counts)) most) refl,
        bare_stands F z t b now cut died grown before is_anew after calls adds,
        bare_heap F z t b now cut died grown before is_anew after calls adds,
      )

      -- or it is built, and its change settled
      module _ (builds : RoseBy before.builds (builds_of now) after.builds) (new : Work) (root : Option NodeId)
          (run : IsRebuilt grown.work new b now root) (there : Holds grown.work.rows (change b))
          (has_root : HasRoot F grown.arena b f captures now root) where
        root_as : HasRoot F grown.arena b is_anew.due.function is_anew.due.captures now root
        root_as =
            let d = is_anew.due in
            let row : t.graph.row b ≡ Some to.row =
            ap (λ (G : Graph). G.row b) is_anew.stands.graph ∙ (ap (λ (a : Arena). row_at a b) cuts.arena ∙ to.is_row) in
            let same : d.row ≡ to.row = (let x = d.is_row in cc) in
            let defs : graph.Bind d.left d.function d.captures ≡ graph.Bind to.left f captures =
            sym d.is_bind ∙ (ap (λ (r : Row). r.def) same ∙ to.is_bind) in
            let fs : d.function ≡ f = cc in
            let cs : d.captures ≡ captures = cc in
            subst (λ (g : FnRef). HasRoot F grown.arena b g d.captures now root) (sym fs)
            (subst (λ (c : List NodeId). HasRoot F grown.arena b f c now root) (sym cs) has_root)

        anew : (ready turned : State) × Reaches (Preparing F z (change b)) s ready × (m : Move F z ready turned)
            × Settles (change b) m × IsTurnedIn F z turned grown.arena new after b
        anew = (
          prepared F z t b now cut died grown before is_anew after calls adds builds new root there run root_as,
          turned F z t b now cut died grown before is_anew after calls adds builds new root there run root_as,
          reach_more (Preparing F z (change b)) s t _ found.1.prepared
              (rebuilds F z t b now cut died grown before is_anew after calls adds builds new root there run root_as, refl),
          settles F z t b now cut died grown before is_anew after calls adds builds new root there run root_as,
          refl,
          turned_in F z t b now cut died grown before is_anew after calls adds builds new root there run root_as,
        )

  -- where it couldn't be built
  pub stops_unbuilt : IsEmpty grown.arena b → (after : Counts) → after.calls ≡ before.calls → RoseBy before.adds (grown.arena.given - died.arena.given) after.adds
      → RoseAtMost before.builds (builds_of now) after.builds
      → (z : Start) (s : State) → IsRoundOf M z s → Quiet s → StandsBefore old before s b
      → (ready stopped : State) × Reaches (Preparing M.functions z (change b)) s ready × Stops M.functions z ready stopped
      × MatchesState grown.arena grown.work after None stopped × (stopped.heap (change b) ≡ true)
  stops_unbuilt empty after calls adds most z s begun quiet stands = stopped z s begun quiet stands after calls adds empty most

  -- where it was
  pub builds_anew : (after : Counts) → after.calls ≡ before.calls → RoseBy before.adds (grown.arena.given - died.arena.given) after.adds
      → RoseBy before.builds (builds_of now) after.builds → (new : Parts) → new.arena ≡ grown.arena → (root : Option NodeId)
      → IsRebuilt grown.work new.work b now root → Holds grown.work.rows (change b) → HasRoot M.functions grown.arena b f captures now root
      → BuildsAnew M old new b before after
  builds_anew after calls adds builds new same root run there has_root z s begun quiet stands =
      let k = anew z s begun quiet stands after calls adds builds new.work root run there has_root in (
        k.0,
        k.1,
        k.2,
        k.3,
        k.4,
        subst (λ (a : Arena). IsTurnedIn M.functions z k.1 a new.work after b) (sym same) k.5,
      )
