-- Lines over nodes: what the nodes of a right side are.
use Rattle.std.specs.Prelude.{List, [], map, option_map, slice_get, unwrap_or}
use Rattle.inc_value.specs.declared.node.NodeId.{NodeId}
use Rattle.inc_value.specs.declared.ty.Ty.{Ty}
use Rattle.inc_terms.specs.Graph as graph
use Rattle.inc_terms.specs.Graph.{Def}
use Rattle.node_arena.specs.Arena.{NamesGiven}
use Rattle.node_arena.specs.Building.{Building}
use Rattle.node_arena.specs.Listing.{Listed}
use Rattle.node_arena.specs.Typing.{Makes}
use Rattle.script_functions.specs.declared.line.Line as lines
use Rattle.script_functions.specs.declared.line.Line.TheVariants.{Const, Map, Fold, If, Join, Bind, At, Steps, Now}
use Rattle.script_functions.specs.declared.line.Part as parts
use Rattle.script_functions.specs.declared.line.Part.TheVariants as part

-- the node of a part that isn't there
abbrev pub nowhere : NodeId
nowhere = record { slot = 0; gen_ = 0 }

-- the node that a part stands for, among the listed ones, the captures and those of the lines before
abbrev pub node_of : List Listed → List NodeId → List NodeId → parts.Part → NodeId
node_of listed captures made (part.Listed i) = unwrap_or (option_map (λ (x : Listed). x.node) (slice_get listed i)) nowhere
node_of listed captures made (part.Captured i) = unwrap_or (slice_get captures i) nowhere
node_of listed captures made (part.Line i) = unwrap_or (slice_get made i) nowhere

-- the parts of a line that stand in a list
abbrev pub parts_in_list : lines.Line → List parts.Part
parts_in_list (Map f ps) = ps
parts_in_list (Fold f v ps) = ps
parts_in_list (Bind l f most ps) = ps
parts_in_list line = []

-- what the node of a line is
abbrev pub filled : List Listed → List NodeId → List NodeId → lines.Line → Def
filled listed captures made (Const v) = graph.Const v
filled listed captures made (Map f ps) = graph.Map f (map (node_of listed captures made) ps)
filled listed captures made (Fold f v ps) = graph.Fold f v (map (node_of listed captures made) ps)
filled listed captures made (If c a b) =
    graph.If (node_of listed captures made c) (node_of listed captures made a) (node_of listed captures made b)
filled listed captures made (Join p) = graph.Join (node_of listed captures made p)
filled listed captures made (Bind l f most ps) =
    graph.Bind (node_of listed captures made l) f (map (node_of listed captures made) ps)
filled listed captures made (At time) = graph.At time
filled listed captures made (Steps first steps) = graph.Steps first steps
filled listed captures made Now = graph.Now

-- a node that is so defined names given nodes, and is of the type that it makes
pub record IsReady (b : Building) (def : Def) (t : Ty) : Type 0 where
  pub names : NamesGiven b.arena.given def
  pub types : Makes b.arena def t
