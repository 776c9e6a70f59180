-- A body while its lines are built.
use Rattle.std.specs.Prelude.{◌≡◌, ◌+◌, ◌++◌, ℕ, List, [], ◌∷◌, Some, map}
use Rattle.std.specs.List.{AllZip}
use Rattle.inc_value.specs.Choice.{Among}
use Rattle.inc_value.specs.declared.node.NodeId.{NodeId}
use Rattle.inc_value.specs.declared.ty.Ty.{Ty}
use Rattle.inc_value.specs.declared.value.Value.{Value}
use Rattle.inc_terms.specs.Graph.{Def}
use Rattle.inc_terms.specs.Term.{Term}
use Rattle.inc_terms.specs.Unfold.{Unfolds}
use Rattle.inc_terms.specs.Within.{Given}
use Rattle.node_arena.specs.Building.{Building, Adds, Use, Grows}
use Rattle.node_arena.specs.Graph.{graph_of, nothing_held}
use Rattle.node_arena.specs.Sound.{IsSoundArena}
use Rattle.node_arena.specs.Typing.{Fits}
use Rattle.script_functions.specs.Bodies.{Body, captured, line_types, all_terms, size_of}
use Rattle.script_functions.specs.Lines.{AreTyped, sizes, terms_after, uses_of}
use Rattle.script_functions.specs.declared.line.TypedLine.{TypedLine}

-- a node that was given and reads back as the term
pub record Reads (b : Building) (captures : List NodeId) (n : NodeId) (t : Term) : Type 0 where
  pub given : Given b.arena.given n
  pub unfolds : Unfolds (graph_of b.arena nothing_held) (Some b.scope) captures n t

-- the nodes that were made read back as the terms, and are of the types or dead
pub record AreMade (b : Building) (captures made : List NodeId) (terms : List Term) (types : List Ty) : Type 0 where
  pub read : AllZip (Reads b captures) made terms
  pub fit : AllZip (Fits b.arena) made types

-- the nodes that were made are those of all lines
abbrev pub AreBuilt : Building → Body → Value → List NodeId → List NodeId → Type 0
AreBuilt b body left captures made =
    AreMade b captures made (all_terms body.draft left) (line_types body.draft.sig.takes body.draft.lines)

-- one more node was made, and noted
pub record IsNoted (old new : Building) (made made' : List NodeId) (def : Def) (t : Ty) : Type 0 where
  pub id : NodeId
  pub adds : Adds old new id def t
  pub noted : made' ≡ made ++ id ∷ []

-- the lines before those that are left were built: together they are all of the body's; the nodes are as every arena keeps them
pub record IsUnderWay (start b : Building) (body : Body) (left : Value) (captures made : List NodeId)
    (todo : List TypedLine) : Type 0 where
  pub terms : List Term
  pub types : List Ty
  pub taken : ℕ
  pub grows : Grows (uses_of body.draft.lines) start b taken
  pub sound : IsSoundArena b.arena
  pub made_so_far : AreMade b captures made terms types
  pub typed : AreTyped body.draft.listed (captured body.draft.sig.takes) types todo
  pub called : (u : Use) → Among u (uses_of todo) → Among u (uses_of body.draft.lines)
  pub all_terms : terms_after body.draft.listed terms todo ≡ all_terms body.draft left
  pub all_types : types ++ map (λ (x : TypedLine). x.ty) todo ≡ line_types body.draft.sig.takes body.draft.lines
  pub all_taken : taken + sizes todo ≡ size_of body.draft
