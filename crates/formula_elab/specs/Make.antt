-- What is to be made in a graph, and what was made.
use Rattle.std.specs.Prelude.{ℕ, List, [], slice_index_or}
use Rattle.inc_value.specs.declared.function.FnKind.TheVariants as function
use Rattle.inc_value.specs.declared.function.FnRef.{FnRef}
use Rattle.inc_value.specs.declared.node.NodeId.{NodeId}
use Rattle.inc_value.specs.declared.ty.Ty.{Ty}
use Rattle.inc_value.specs.declared.ty.Ty.TheVariants as types
use Rattle.inc_terms.specs.Code.{def_of}
use Rattle.inc_terms.specs.Graph.{Def}
use Rattle.script_functions.specs.Bodies.{Body}
use Rattle.formula_elab.specs.declared.make.Make as code
use Rattle.formula_elab.specs.declared.make.Make.TheVariants as kind
use Rattle.formula_elab.specs.declared.make.Made.{Made}
use Rattle.formula_elab.specs.declared.make.Made.TheVariants as made

-- what is to be made: the function of the right sides of a body, or a node of the type that is so defined
pub data Make : Type 0 where
  Right : (body : Body) → Make
  Node : (def : Def) (ty : Ty) → Make

-- the code's
abbrev pub make_view : code.Make → Make
make_view (kind.Body body) = Right body
make_view (kind.Node def ty) = Node (def_of def) ty

-- what is read where no node was made
abbrev pub no_node : NodeId
no_node = record { slot = 0; gen_ = 0 }

-- what is read where no function was made
abbrev pub no_function : FnRef
no_function = record { id = record { kind = function.Rhs; number = 0 }; sig = record { takes = []; gives = types.Int } }

-- a node was made
abbrev pub IsNode : Made → Type 0
IsNode (made.Node n) = Unit {0}
IsNode (made.Fn f) = ⊥

-- a function was made
abbrev pub IsFunction : Made → Type 0
IsFunction (made.Fn f) = Unit {0}
IsFunction (made.Node n) = ⊥

-- the node that was made
abbrev pub node_made : Made → NodeId
node_made (made.Node n) = n
node_made (made.Fn f) = no_node

-- the function that was made
abbrev pub function_made : Made → FnRef
function_made (made.Fn f) = f
function_made (made.Node n) = no_function

-- what was made as the i-th
abbrev pub made_at : List Made → ℕ → Made
made_at row i = slice_index_or row i (made.Node no_node)
