-- A constant that is built.
use Rattle.std.proofs.Common.{arith, ◌≡◌, Result, Ok, Err, IfOk, OnErr, List, [], refl, subst}
use Rattle.inc_value.specs.Value.{type_of}
use Rattle.inc_value.specs.declared.node.NodeId.{NodeId}
use Rattle.inc_value.specs.declared.ty.Ty.{Ty}
use Rattle.inc_value.specs.declared.value.Value.{Value}
use Rattle.inc_terms.specs.Graph as graph
use Rattle.inc_terms.specs.Term.{Const}
use Rattle.node_arena.specs.declared.arena.AddFault.{AddFault}
use Rattle.node_arena.specs.declared.arena.AddFault.TheVariants as add
use Rattle.node_arena.specs.Building.{Building, Answers, Adds}
use Rattle.node_arena.specs.Typing.{Fits}
use Rattle.node_arena.proofs.Growing.{grown_none, grown_more, grown_most, value_any, in_added, given_added, fits_added}
use Rattle.function_kit.specs.Making.{BuildsTerm, build_answer}

-- the answer to it
pub constant_added : (old new : Building) (captures : List NodeId) (v : Value) (t : Ty) → type_of v ≡ t → (answer : Result NodeId AddFault)
    → Answers old.arena (graph.Const v) (type_of v) answer → IfOk answer (λ id. Adds old new id (graph.Const v) (type_of v))
    → OnErr answer (new ≡ old) → BuildsTerm 1 old new captures (Const v) t (build_answer answer)
constant_added old new captures v t e (Ok id) tells adds same = record {
  grows = grown_more [] old old new 0 (grown_none [] old) id (graph.Const v) (type_of v) adds (value_any v) 1 (omega arith);
  root = record {
    unfolds = in_added old new id _ _ adds;
    given = given_added old new id _ _ adds;
    fits = subst (λ u. Fits new.arena id u) e (fits_added old new id _ _ adds);
  };
  full = λ h. absurd cc;
}
constant_added old new captures v t e (Err add.Full) tells adds same =
    rw same (record { grows = grown_most [] old old 0 1 (grown_none [] old) (omega arith); root = tt; full = λ h. (tells.full refl).2 })
constant_added old new captures v t e (Err add.Memory) tells adds same =
    rw same (record { grows = grown_most [] old old 0 1 (grown_none [] old) (omega arith); root = tt; full = λ h. absurd cc })
constant_added old new captures v t e (Err add.Unknown) tells adds same =
    rw same (record { grows = grown_most [] old old 0 1 (grown_none [] old) (omega arith); root = tt; full = λ h. absurd cc })
constant_added old new captures v t e (Err add.WrongType) tells adds same =
    rw same (record { grows = grown_most [] old old 0 1 (grown_none [] old) (omega arith); root = tt; full = λ h. absurd cc })
