-- What calls promise that build terms.
use Rattle.std.specs.Prelude.{ℕ, List, [], Result, Ok, Err, IfOk, IsErrOf}
use Rattle.inc_value.specs.declared.node.NodeId.{NodeId}
use Rattle.inc_value.specs.declared.ty.Ty.{Ty}
use Rattle.inc_terms.specs.Term.{Term}
use Rattle.node_arena.specs.declared.arena.AddFault.{AddFault}
use Rattle.node_arena.specs.declared.arena.AddFault.TheVariants as add
use Rattle.node_arena.specs.declared.stored.BuildFault.{BuildFault}
use Rattle.node_arena.specs.declared.stored.BuildFault.TheVariants as build
use Rattle.node_arena.specs.Arena.{IsFull}
use Rattle.node_arena.specs.Building.{Building, Grows}
use Rattle.node_arena.specs.RightSide.{IsRoot}

-- the answer to a node that was to be added, as one to what was to be built
abbrev pub build_answer : Result NodeId AddFault → Result NodeId BuildFault
build_answer (Ok id) = Ok id
build_answer (Err add.Full) = Err build.Full
build_answer (Err fault) = Err build.Memory

-- a call adds nodes of the scope that call no function and count as no more than the size, and gives a root that reads back as the term
-- and is of the type. It is refused as full only where no further node can be added
pub record BuildsTerm (size : ℕ) (old new : Building) (captures : List NodeId) (t : Term) (type : Ty)
    (answer : Result NodeId BuildFault) : Type 0 where
  pub grows : Grows [] old new size
  pub root : IfOk answer (λ n. IsRoot new captures n t type)
  pub full : IsErrOf answer build.Full → IsFull new.arena
