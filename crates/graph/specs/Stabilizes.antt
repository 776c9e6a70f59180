-- What a stabilize does.
use Rattle.std.specs.Prelude.{◌≡◌, ◌⊎◌, ℕ, false, List, length, Option, None, Some, IsSome, Result, Ok, Err}
use Rattle.inc_value.specs.Choice.{Among, NoRepeats}
use Rattle.inc_value.specs.Counts.{raised}
use Rattle.inc_value.specs.declared.node.NodeId.{NodeId}
use Rattle.inc_value.specs.declared.node.ObsId.{ObsId}
use Rattle.inc_value.specs.declared.outcome.Outcome.{Outcome}
use Rattle.inc_terms.specs.Depend.{died_in, main}
use Rattle.inc_terms.specs.Evaluate.{NodeGives}
use Rattle.inc_terms.specs.Graph.{Graph, Row}
use Rattle.inc_terms.specs.Need.{left_by_call}
use Rattle.inc_terms.specs.Term.{Functions}
use Rattle.inc_terms.specs.Within.{Given}
use Rattle.observers.specs.Observers.{in_use, node_at, notices_of, told_by}
use Rattle.stabilize_round.specs.Counts.{RoseAtMost}
use Rattle.stabilize_round.specs.Laws.{GraphStays}
use Rattle.stabilize_round.specs.Runs.{WasBuilt}
use Rattle.stabilizer.specs.Left as left
use Rattle.stabilizer.specs.Left.{BuildsRightIn, IsBuiltMetIn, IsUpToDateIn, IsLawfulIn, ShowsStillIn, HasCalledMetIn, RefusesBuild, LeavesTried}
use Rattle.stabilizer.specs.Round.{IsFullBy}
use Rattle.wiring.specs.Stands.{Counts}
use Rattle.wiring.specs.declared.refused.Refused.{Refused}
use Rattle.graph.specs.Fault.{kept_of}
use Rattle.graph.specs.Standing.{GraphView, frozen_at, is_marked, look, graph, shown_of, shows_now, cutoff_of, IsUnbroken}
use Rattle.graph.specs.declared.fault.Kept.{Kept}
use Rattle.graph.specs.declared.fault.Kept.TheVariants as kept
use Rattle.graph.specs.declared.fault.StabilizeFault.{StabilizeFault}
use Rattle.graph.specs.declared.fault.StabilizeFault.TheVariants as fault

-- the count of calls that found no memory: it stays, but that one which finds none refuses the stabilize as want of memory, and is counted
abbrev pub WantsTell : {T : Type 0} → Result T StabilizeFault → ℕ → ℕ → Type 0
WantsTell (Ok v) old new = new ≡ old
WantsTell (Err e) old new = (new ≡ old) ⊎ ((e ≡ fault.Refused kept.Memory) × (new ≡ raised old))

module _ {F : Type 0} where
  -- the graph that a stabilize left, as it read it: a freeze that got its value still follows its child
  abbrev pub left_by : GraphView F → GraphView F → Graph
  left_by old new = left_by_call (graph old) (graph new)

  -- the scope in which a node stood that died in it
  abbrev pub died_by : GraphView F → GraphView F → NodeId → Option NodeId
  died_by old new = died_in (graph old) (graph new)

  -- ---- over the graph that a stabilize left, and those who died in it

  module _ (M : Functions) (G : Graph) (died : NodeId → Option NodeId) where
    -- an accepted stabilize: each observer in use shows what its node gives, evaluated from scratch, and of those that are watched it is told, in the order
    -- in which they were made; of nodes what a round leaves stays; each bind could be built that was due; and what is needed, linked, shown, called, kept by
    -- freezes and stale is right. Need begins from now on at all freezes that keep no value
    pub record StabilizesIn (after : Graph) (old new : GraphView F) : Type 0 where
      pub was : IsUnbroken old
      pub unbroken : IsUnbroken new
      pub stays : GraphStays old.nodes.given new.nodes.given (graph old) (left_by old new)
      pub builds : BuildsRightIn M G died (look old) (in_use old.observers) None
      pub observers : new.observers ≡ told_by (shows_now new) old.observers
      pub notices : new.notices ≡ notices_of (shows_now new) 0 old.observers
      pub rooted : new.rooted ≡ length new.observers
      pub since : new.since ≡ new.nodes.given
      pub shows : (o : ObsId) (n : NodeId) → node_at new.observers o ≡ Some n → (x : Outcome) × (shown_of new n ≡ Some x) × NodeGives M G n x
      pub right : IsUpToDateIn M G died after (look old) (look new) (in_use old.observers) new.ran

    -- a bind was built anew: its left gave another outcome than it was built for; it lives, with a root for what its left gives, and its change is met. What
    -- one that was given before is built for isn't what it was
    pub record IsBuiltAnewIn (old : GraphView F) (b : NodeId) : Type 0 where
      pub was : WasBuilt M old.nodes.given (graph old) G None b
      pub met : IsBuiltMetIn M G died (look old) (in_use old.observers) b
      pub rooted : IsSome met.right.built.root
      pub other : Given old.nodes.given b → G.built b ≡ (graph old).built b → ⊥

    -- a count rose by at most one for each of some binds, none twice, that were built anew
    pub record BuildsAnewIn (old : GraphView F) (before after : ℕ) : Type 0 where
      pub binds : List NodeId
      pub once : NoRepeats binds
      pub anew : (b : NodeId) → Among b binds → IsBuiltAnewIn old b
      pub count : RoseAtMost before (length binds) after

    -- a refused stabilize: the graph is broken, with what was met, which is so in the graph, and was tried on what was confirmed; where it met that the
    -- nodes are full, a build in it found no room for a further node. Freezes keep what they kept, and none a value more; what wasn't settled is stale if it
    -- was. Observers stay, also what they show and what was told of them last, and cutoffs of nodes that live, and of nodes what a round leaves; what is shown
    -- of a node that was given before is what was before, or what it gives. One bind couldn't be built, for want of room or of memory, or none
    pub record IsRefusedIn (old new : GraphView F) (cause : Kept) : Type 0 where
      pub was : IsUnbroken old
      pub stays : GraphStays old.nodes.given new.nodes.given (graph old) (left_by old new)
      pub observers : new.observers ≡ old.observers
      pub rooted : new.rooted ≡ old.rooted
      pub since : new.since ≡ old.since
      pub frozen : (n : NodeId) → frozen_at new n ≡ frozen_at old n
      pub marks : (n : NodeId) → (look new).settled (main n) ≡ false → is_marked new n ≡ is_marked old n
      pub notices : new.notices ≡ old.notices
      pub ran : new.ran ≡ old.ran
      pub cutoff : (n : NodeId) (r : Row) → G.row n ≡ Some r → cutoff_of new n ≡ cutoff_of old n
      pub shows : (n : NodeId) → Given old.nodes.given n → ShowsStillIn M G died (look old) (look new) n
      pub met : Refused
      pub broken : new.refused ≡ Some met
      pub is_cause : kept_of met ≡ cause
      pub lawful : IsLawfulIn M G died (look old) (in_use old.observers) met
      pub tried : LeavesTried (look new) met
      pub unbuilt : Option NodeId
      pub builds : BuildsRightIn M G died (look old) (in_use old.observers) unbuilt
      pub build : (b : NodeId) → unbuilt ≡ Some b → RefusesBuild met
      pub full : IsFullBy old.nodes new.nodes met

  -- ---- of a stabilize from one standing to another

  module _ (M : Functions) (old new : GraphView F) where
    abbrev pub Stabilizes : Type 0
    Stabilizes = StabilizesIn M (left_by old new) (died_by old new) (graph new) old new

    abbrev pub BuildsAnew : ℕ → ℕ → Type 0
    BuildsAnew before after = BuildsAnewIn M (left_by old new) (died_by old new) old before after

    abbrev pub IsRefusedFor : Kept → Type 0
    IsRefusedFor cause = IsRefusedIn M (left_by old new) (died_by old new) old new cause

    -- a refused one made at most the calls that it takes to compute each of some live nodes once, all of which were due
    abbrev pub HasCalledMet : ℕ → ℕ → Type 0
    HasCalledMet before after = HasCalledMetIn M (left_by old new) (died_by old new) (look old) (look new) (in_use old.observers) before after

    -- of nodes it left, accepted or refused, what a round leaves
    abbrev pub LeavesNodes : Counts → Counts → Type 0
    LeavesNodes before after = left.LeavesNodes M old.nodes.given new.nodes.given (graph old) (left_by old new) before after
