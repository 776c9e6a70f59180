-- What calls promise that build terms.
use Rattle.std.specs.Prelude.{ℕ, List, [], ◌∷◌, Result, Ok, Err, IfOk, IsErrOf}
use Rattle.inc_value.specs.declared.node.NodeId.{NodeId}
use Rattle.inc_value.specs.declared.ty.Base.TheVariants as base
use Rattle.inc_value.specs.declared.ty.Ty.TheVariants as ty
use Rattle.inc_terms.specs.Term.{Term}
use Rattle.inc_terms.specs.Within.{Given}
use Rattle.node_arena.specs.declared.arena.AddFault.{AddFault}
use Rattle.node_arena.specs.declared.arena.AddFault.TheVariants as add
use Rattle.node_arena.specs.declared.stored.BuildFault.{BuildFault}
use Rattle.node_arena.specs.declared.stored.BuildFault.TheVariants as build
use Rattle.node_arena.specs.Arena.{IsFull}
use Rattle.node_arena.specs.Building.{Building, Use, Grows}
use Rattle.node_arena.specs.RightSide.{IsEmpty, IsRoot}
use Rattle.node_arena.specs.Typing.{Fits}
use Rattle.closure_examples.specs.declared.table.Captured.{Captured}

-- the captures in order
abbrev pub captured : Captured → List NodeId
captured k = k.x ∷ k.c ∷ k.h ∷ []

-- the scope is empty, and the captures were given and are of their types
pub record IsReady (b : Building) (k : Captured) : Type 0 where
  pub empty : IsEmpty b.arena b.scope
  pub x_given : Given b.arena.given k.x
  pub c_given : Given b.arena.given k.c
  pub h_given : Given b.arena.given k.h
  pub x_fits : Fits b.arena k.x ty.Int
  pub c_fits : Fits b.arena k.c ty.Bool
  pub h_fits : Fits b.arena k.h (ty.Node base.Int)

-- the answer to a node that was to be added, as one to what was to be built
abbrev pub build_answer : Result NodeId AddFault → Result NodeId BuildFault
build_answer (Ok id) = Ok id
build_answer (Err add.Full) = Err build.Full
build_answer (Err fault) = Err build.Memory

-- a call adds nodes of the scope that count as no more than the size, and gives a root that reads back as the term of an
-- integer. It is refused as full only where no further node can be added
pub record BuildsTerm (uses : List Use) (size : ℕ) (old new : Building) (captures : List NodeId) (t : Term)
    (answer : Result NodeId BuildFault) : Type 0 where
  pub grows : Grows uses old new size
  pub root : IfOk answer (λ n. IsRoot new captures n t ty.Int)
  pub full : IsErrOf answer build.Full → IsFull new.arena
