-- What binds are built for where a round stops, in the parts' words.
use Rattle.std.proofs.Common.{◌≡◌, inl, inr, ℕ, List, Option, None, Some, sym, subst}
use Rattle.std.proofs.lemmas.Option.{none-some}
use Rattle.inc_value.specs.declared.node.NodeId.{NodeId}
use Rattle.inc_value.specs.declared.node.Point.{Point}
use Rattle.inc_terms.specs.Depend.{change}
use Rattle.inc_terms.specs.Graph.{Graph}
use Rattle.inc_terms.specs.Term.{Functions}
use Rattle.node_arena.specs.Arena.{Arena}
use Rattle.node_outcomes.specs.Meaning.{Meaning}
use Rattle.stabilize_round.specs.Invariant.{MetNow}
use Rattle.stabilize_round.specs.State.{State}
use Rattle.wiring.specs.Stands.{PointInHand, MatchesState, Counts}
use Rattle.wiring.specs.declared.refused.Refused.{Refused}
use Rattle.wiring.specs.declared.refused.Refused.TheVariants.{Height, Cycle, Full, Memory}
use Rattle.stabilizer.specs.Left.{BuildsRightIn, IsMetIn, RefusesBuild}
use Rattle.stabilizer.specs.Look.{look_between}
use Rattle.stabilizer.specs.Building.{StopsBuilding}
use Rattle.stabilizer.specs.Kept.{graph_in}
use Rattle.stabilizer.specs.Round.{Pauses, died_by}
use Rattle.stabilizer.specs.declared.parts.Parts.{Parts}
use Rattle.stabilizer.proofs.Round.Beginning.{Begun}
use Rattle.stabilizer.proofs.Round.Ending.{as_graph}
use Rattle.stabilizer.proofs.Round.Lawful.{AreListed, met_as}
use Rattle.stabilizer.proofs.Round.Paused.{IsPaused, paused_died}
use Rattle.stabilizer.proofs.Round.Stopped.{BuildsLeft, moves_build, stops_build, called_on}

-- with this graph, and so many ids given, the state is so by itself
as_given : (G : Graph) (count : ℕ) (s : State) → s.graph ≡ G → s.given ≡ count → s ≡ record s { graph = G; given = count }
as_given G count s graph given = λ i. record s { graph = graph i; given = given i }

module _ (F : Functions) (old new : Parts) (before after : Counts) (b : Begun F old before) (left : Option PointInHand) (u : State)
    (stands : MatchesState new.arena new.work after left u) (died : u.died ≡ died_by old new) (observed : List NodeId)
    (all : AreListed new observed) where
  abbrev G : Graph
  G = graph_in new

  abbrev D : NodeId → Option NodeId
  D = died_by old new

  abbrev first : State
  first = record b.state { graph = graph_in old; given = old.arena.given }

  abbrev last : State
  last = record u { graph = G; died = D }

  is_met : (p : Point) → MetNow F b.start G D u.root p → IsMetIn F G D (look_between old) observed p
  is_met p h = met_as F old new before after b left u stands observed all p h

  -- over the graph that is left
  abbrev Builds : Option NodeId → Type 0
  Builds x = BuildsRightIn F G D (look_between old) observed x

  told : (x : Option NodeId) → BuildsLeft F b.start b.state u x → BuildsLeft F b.start first last x
  told x k = subst (λ (y : State). BuildsLeft F b.start first y x) (as_graph G D u stands.graph died)
      (subst (λ (y : State). BuildsLeft F b.start y u x) (as_given (graph_in old) old.arena.given b.state b.stands.graph b.stands.given) k)

  in_parts : (x : Option NodeId) → BuildsLeft F b.start first last x → Builds x
  in_parts x k = record {
    stays = λ c r given row. elim (k.stays c r given row) [
      | inl same ↦ inl same
      | inr (inl h) ↦ inr (inl (record { right = h.0; met = is_met (change c) h.1 }))
      | inr (inr is) ↦ inr (inr is)
    ];
    made = λ c r late row. elim (k.made c r late row) [
      | inl none ↦ inl none
      | inr h ↦ inr (record { right = h.0; met = is_met (change c) h.1 })
    ];
    refused = λ c e. record { none = k.none c e; differs = k.differs c e; met = is_met (change c) (k.met c e) };
    was = k.was;
    scoped = k.scoped;
  }

  -- what the machine says of what binds are built for is so of the parts
  pub builds_by_parts : (x : Option NodeId) → BuildsLeft F b.start b.state u x
      → BuildsRightIn F (graph_in new) (died_by old new) (look_between old) observed x
  builds_by_parts x k = in_parts x (told x k)

-- ---- a round that was refused

stops_so : (count : ℕ) (arena : Arena) (e : Refused) → StopsBuilding count arena e → RefusesBuild e
stops_so count arena Full h = tt
stops_so count arena Memory h = tt
stops_so count arena (Height points) h = h
stops_so count arena (Cycle points) h = h

module _ (M : Meaning) (old new : Parts) (before after : Counts) (e : Refused) (p : IsPaused M old new before after e) (observed : List NodeId)
    (all : AreListed new observed) where
  abbrev F : Functions
  F = M.functions

  abbrev b : Begun M.functions old before
  b = p.begins.begun

  abbrev k : Pauses M.functions p.begins.begun.start p.begins.begun.state new after e
  k = p.pauses

  -- over the graph that is left
  abbrev pub BuildsIn : Option NodeId → Type 0
  BuildsIn x = BuildsRightIn M.functions (graph_in new) (died_by old new) (look_between old) observed x

  so : (x : Option NodeId) → BuildsLeft F b.start b.state k.state x → BuildsIn x
  so x h = builds_by_parts F old new before after b k.left k.state k.stands (paused_died M old new before after e p) observed all x h

  pub paused_built : (unbuilt : Option NodeId) × BuildsRightIn M.functions (graph_in new) (died_by old new) (look_between old) observed unbuilt
      × ((c : NodeId) → unbuilt ≡ Some c → RefusesBuild e)
  paused_built = elim k.told [
    | inl why ↦ (
      None,
      so None (subst (λ (x : State). BuildsLeft F b.start b.state x None) (sym why.0)
          (called_on F b.start b.state k.before after.calls (moves_build F b.start b.state k.before b.entry p.begins.round.given k.moves))),
      λ c h. absurd (none-some c h),
    )
    | inr full ↦
        let s = stops_build F b.start b.state k.before k.state b.entry p.begins.round.given k.moves k.stops in
        (s.0, so s.0 s.1, λ c h. stops_so full.0 new.arena e full.2)
  ]
