-- Rows, or places, by the points of a node.
use Rattle.std.specs.Prelude.{◌≡◌, ◌≢◌, ◌++◌, List, [], ◌∷◌, Option, None, Some, option_map}
use Rattle.inc_value.specs.declared.node.NodeId.{NodeId}
use Rattle.inc_value.specs.declared.node.Part.{Part}
use Rattle.inc_value.specs.declared.node.Part.TheVariants.{Main, Change}
use Rattle.inc_value.specs.declared.node.Point.{Point}
use Rattle.inc_terms.specs.Depend.{subject_of}
use Rattle.inc_terms.specs.Graph.{Def}
use Rattle.point_map.specs.Rows.{Rows, at}

-- just the rows of a node's points changed, to these
pub record ChangesNode {A : Type 0} (old new : Rows A) (n : NodeId) (rows : Part → Option A) : Type 0 where
  pub now : (part : Part) → at new (record { node = n; part = part }) ≡ rows part
  pub others : (p : Point) → p.node ≢ n → at new p ≡ at old p

-- a row for each point that a node so defined has: a main, and a change where it has a subject
abbrev pub for_parts : {A : Type 0} → Def → (Part → A) → Part → Option A
for_parts def rows Main = Some (rows Main)
for_parts def rows Change = option_map (λ m. rows Change) (subject_of def)

-- the nodes of two points, with this one where it is one
abbrev pub pairs_after : Option NodeId → List NodeId → NodeId → List NodeId
pairs_after None pairs n = pairs
pairs_after (Some m) pairs n = pairs ++ n ∷ []

abbrev pub pairs_with : Def → List NodeId → NodeId → List NodeId
pairs_with def pairs n = pairs_after (subject_of def) pairs n
