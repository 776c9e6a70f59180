-- What was held when a call began, by the pair as the last round left it.
use Rattle.std.specs.Prelude.{◌≡◌, ◌⊎◌, ℕ, true, List, [], map, None, Some}
use Rattle.inc_value.specs.declared.node.NodeId.{NodeId}
use Rattle.inc_value.specs.declared.node.Point.{Point}
use Rattle.inc_value.specs.Choice.{Among}
use Rattle.map_nodes.specs.Cutoff.{TellsAgain}
use Rattle.inc_terms.specs.Depend.{Depends, none_died}
use Rattle.inc_terms.specs.Graph.{Graph, Row, Built}
use Rattle.inc_terms.specs.Need.{Beside, Holder, Observed, Linked, Held as GraphHeld, StillHolds}
use Rattle.inc_terms.specs.Rebuilding.{outcome_of}
use Rattle.inc_terms.specs.Term.{Term}
use Rattle.script_model.specs.Formula.{Entry, entry_at}
use Rattle.script_model.specs.Need.{Named, Needed, Visit, IsVisit, roots, stamp_of}
use Rattle.script_model.specs.Valid.{Valid, KeepToTypes}
use Rattle.transfer.specs.Both.{Both, graph_value}
use Rattle.transfer.specs.Items.{node_at, node_of, FormulasStay}
use Rattle.transfer.specs.Shows.{plain, Fits}

-- of the rows that formulas may have just those are gone that stood in scopes of binds that are gone or are built for
-- another outcome; a bind that is built for the outcome that it was is built as it was
pub record ScopesStay (G G' : Graph) : Type 0 where
  pub rows : (n : NodeId) (r : Row) (u : Term) → G.row n ≡ Some r → plain r.def ≡ Some u
      → (G'.row n ≡ Some r) ⊎ (G'.row n ≡ None)
  pub tops : (n : NodeId) (r : Row) (u : Term) → G.row n ≡ Some r → plain r.def ≡ Some u → r.scope ≡ None
      → G'.row n ≡ Some r
  pub within : (n b : NodeId) (r q : Row) (u : Term) → G.row n ≡ Some r → plain r.def ≡ Some u → r.scope ≡ Some b
      → G'.row b ≡ Some q → outcome_of (G'.built b) ≡ outcome_of (G.built b) → G'.row n ≡ Some r
  pub scopes : (n b : NodeId) (r q : Row) (u : Term) → G.row n ≡ Some r → plain r.def ≡ Some u → r.scope ≡ Some b
      → G'.row n ≡ Some q → outcome_of (G'.built b) ≡ outcome_of (G.built b)
  pub roots : (b : NodeId) (r q : Row) (w w' : Built) → G.row b ≡ Some r → G'.row b ≡ Some q → G.built b ≡ Some w
      → G'.built b ≡ Some w' → w'.outcome ≡ w.outcome → w' ≡ w

-- a later pair, as a call leaves it: formulas stay, and so do the names and their nodes; of the rows those that scopes
-- keep
pub record Later (x then : Both) : Type 0 where
  pub meanings : then.meanings ≡ x.meanings
  pub formulas : FormulasStay x.state then.state
  pub targets : (k : ℕ) (e : Entry) → entry_at x.state k ≡ Some e
      → (d : Entry) × (entry_at then.state k ≡ Some d) × (d.target ≡ e.target)
  pub names : (k : ℕ)
      → (then.nodes k ≡ x.nodes k) ⊎ ((entry_at x.state k ≡ None) × (then.graph.row (x.nodes k) ≡ None))
  pub wholes : (owner : ℕ) (n : NodeId) → node_at x owner [] ≡ Some n → node_at then owner [] ≡ Some n
  pub scopes : ScopesStay x.graph then.graph

-- who still asks for a node asks for that of a name which was a root and is one
abbrev pub HoldersAre : Both → Both → Beside → List Observed → Type 0
HoldersAre x then beside observers =
    (holder : Holder) (n : NodeId) → beside.roots holder ≡ Some n → StillHolds observers holder
    → (k : ℕ) × (n ≡ x.nodes k) × Among (Named k) (roots x.state) × Among (Named k) (roots then.state)

-- attached links of what is held are of what points depend on
abbrev pub LinksDepend : Both → Beside → List Observed → Type 0
LinksDepend x beside observers =
    (p q : Point) → GraphHeld beside observers p → Linked beside p q → Depends x.functions x.graph none_died p q

-- each visit of what was needed has a node that was last called on its values
abbrev pub LastKept : Both → Beside → Type 0
LastKept x beside =
    (v : Visit) → IsVisit x.meanings x.state v → Needed x.meanings x.state v.item
    → (n : NodeId) × (node_of x v.item ≡ Some n) × (beside.last n ≡ Some (map (graph_value x.nodes) v.values))

-- what is marked was asked to run anew since
abbrev pub MarksAreNew : Both → Both → Beside → Type 0
MarksAreNew x then beside =
    (v : Visit) (n : NodeId) → IsVisit x.meanings x.state v → Needed x.meanings x.state v.item
    → node_of x v.item ≡ Some n → beside.stale n ≡ true → v.stamp ≡ stamp_of then.state v.item → ⊥

-- what a session keeps of the last round: the pair that it left, and what stands beside the graph by it
pub record Remembers (x then : Both) (beside : Beside) (observers : List Observed) : Type 0 where
  pub keep : KeepToTypes x.meanings
  pub valid : Valid x.meanings x.state
  pub fits : Fits x
  pub later : Later x then
  pub holders : HoldersAre x then beside observers
  pub links : LinksDepend x beside observers
  pub last : LastKept x beside
  pub marks : MarksAreNew x then beside
  pub cutoffs : (n : NodeId) → TellsAgain (beside.cutoff n) → ⊥
