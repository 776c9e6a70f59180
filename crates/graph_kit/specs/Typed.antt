-- Nodes that are made of the types of others.
use Rattle.std.specs.Prelude.{Result, IsErrOf}
use Rattle.inc_value.specs.declared.node.NodeId.{NodeId}
use Rattle.inc_value.specs.declared.ty.Base.{Base}
use Rattle.inc_value.specs.declared.ty.Ty.{Ty}
use Rattle.inc_value.specs.declared.ty.Ty.TheVariants as ty
use Rattle.inc_terms.specs.Graph.{Def}
use Rattle.inc_terms.specs.Within.{Given}
use Rattle.node_arena.specs.Arena.{Arena}
use Rattle.node_arena.specs.Typing.{Fits, Makes}
use Rattle.graph.specs.Effects.{AnswersAdd}
use Rattle.graph.specs.Standing.{GraphView}
use Rattle.graph.specs.declared.fault.GraphFault.{GraphFault}
use Rattle.graph.specs.declared.fault.GraphFault.TheVariants as fault

-- both nodes were given, and each is of the type or dead
pub record AreOf (a : Arena) (left right : NodeId) (t : Ty) : Type 0 where
  pub left_given : Given a.given left
  pub right_given : Given a.given right
  pub left_fits : Fits a left t
  pub right_fits : Fits a right t

-- the node was given, and its values are references to nodes of the base type, or it is dead
abbrev pub IsReference : Arena → NodeId → Base → Type 0
IsReference a kid b = Given a.given kid × Fits a kid (ty.Node b)

-- what the call answers that adds a node of a definition with some type: it is refused for its types only where no type would do
pub record AnswersTyped {F : Type 0} (old new : GraphView F) (def : Def) (answer : Result NodeId GraphFault) : Type 0 where
  pub type : Ty
  pub answers : AnswersAdd old new def type answer
  pub untyped : IsErrOf answer fault.WrongType → (t : Ty) → ¬ Makes old.nodes def t
