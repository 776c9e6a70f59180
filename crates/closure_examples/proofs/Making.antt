-- Terms that are built.
use Rattle.std.proofs.Common.{arith, pos, ◌≡◌, ◌≤◌, ◌+◌, ◌↔◌, ℕ, List, Some, Result, Ok, Err, IfOk, OnErr, refl, sym, ap, subst}
use Rattle.inc_value.specs.Choice.{Among}
use Rattle.inc_value.specs.declared.function.FnKind.{FnKind}
use Rattle.inc_value.specs.declared.function.FnRef.{FnRef}
use Rattle.inc_value.specs.declared.node.NodeId.{NodeId}
use Rattle.inc_value.specs.declared.ty.Ty.{Ty}
use Rattle.inc_value.specs.declared.ty.Ty.TheVariants as ty
use Rattle.inc_value.specs.declared.value.Value.TheVariants.{Int}
use Rattle.inc_terms.specs.Graph as graph
use Rattle.inc_terms.specs.Graph.{Def}
use Rattle.inc_terms.specs.Term.{Term, Step, Steps, Cap}
use Rattle.inc_terms.specs.Unfold.{Unfolds}
use Rattle.node_arena.specs.declared.arena.AddFault.{AddFault}
use Rattle.node_arena.specs.declared.arena.AddFault.TheVariants as add
use Rattle.node_arena.specs.declared.stored.BuildFault.{BuildFault}
use Rattle.node_arena.specs.declared.stored.BuildFault.TheVariants as build
use Rattle.node_arena.specs.Arena.{IsFull}
use Rattle.node_arena.specs.Building.{Building, Use, Answers, Adds, IsListed, CallsListed, Weighs, Grows}
use Rattle.node_arena.specs.Graph.{graph_of, nothing_held}
use Rattle.node_arena.specs.Typing.{Fits}
use Rattle.node_arena.proofs.Growing.{grown_none, grown_more, in_added, grown_most, given_added, fits_added, outside_grown}
use Rattle.closure_examples.specs.declared.table.Captured.{Captured}
use Rattle.closure_examples.specs.Making.{BuildsTerm, IsReady, build_answer, captured}
use Rattle.closure_examples.specs.Sides.{late_two}

-- a function that is among those listed
pub is_listed : (uses : List Use) (k : FnKind) (f : FnRef) (most : ℕ)
    → Among (record { function = f; most = most }) uses → f.id.kind ≡ k → IsListed uses k f
is_listed uses k f most among kind =
    record { listed = record { function = f; most = most }; among = among; function = refl; kind = kind }

-- the fault of an answer, where there is one
abbrev fault_of : Result NodeId BuildFault → BuildFault
fault_of (Ok id) = build.Memory
fault_of (Err e) = e

-- ---- one node more

module _ (uses : List Use) (size : ℕ) (old mid : Building) (k : ℕ) (grows : Grows uses old mid k)
    (captures : List NodeId) (t : Term) (few : k ≤ size) where
  -- a node that wasn't added
  not_added : (new : Building) (fault : AddFault) → new ≡ mid → (fault ≡ add.Full → IsFull mid.arena)
      → BuildsTerm uses size old new captures t (build_answer (Err fault))
  not_added new add.Full same full =
      rw same (record { grows = grown_most uses old mid k size grows few; root = tt; full = λ h. full refl })
  not_added new add.Memory same full =
      rw same (record { grows = grown_most uses old mid k size grows few; root = tt; full = λ h. absurd cc })
  not_added new add.Unknown same full =
      rw same (record { grows = grown_most uses old mid k size grows few; root = tt; full = λ h. absurd cc })
  not_added new add.WrongType same full =
      rw same (record { grows = grown_most uses old mid k size grows few; root = tt; full = λ h. absurd cc })

  -- where a call stops for that
  pub stopped : (new : Building) (def : Def) (type : Ty) (fault : AddFault) (e : BuildFault)
      → Answers mid.arena def type (Err fault) → new ≡ mid → ((e ≡ build.Full) ↔ (fault ≡ add.Full))
      → BuildsTerm uses size old new captures t (Err e)
  stopped new def type fault e tells same told = rw same (record {
    grows = grown_most uses old mid k size grows few;
    root = tt;
    full = λ h. (tells.full (rw (told.0 (ap fault_of h)) refl)).2;
  })

module _ (uses : List Use) (size : ℕ) (old mid new : Building) (k : ℕ) (grows : Grows uses old mid k)
    (captures : List NodeId) (t : Term) (def : Def) (type : Ty) (is_int : type ≡ ty.Int)
    (w : ℕ) (calls : CallsListed uses def) (weighs : Weighs uses def w) (few : k + w ≤ size)
    (unfolds : (id : NodeId) → Adds mid new id def type → Grows uses old new (k + w)
    → Unfolds (graph_of new.arena nothing_held) (Some new.scope) captures id t) where
  -- a node that was
  is_added : (id : NodeId) → Adds mid new id def type → BuildsTerm uses size old new captures t (Ok id)
  is_added id adds =
      let more = grown_more uses old mid new k grows id def type adds calls w weighs in
      record {
        grows = grown_most uses old new (k + w) size more few;
        root = record {
          unfolds = unfolds id adds more;
          given = given_added mid new id def type adds;
          fits = subst (λ u. Fits new.arena id u) is_int (fits_added mid new id def type adds);
        };
        full = λ h. absurd cc;
      }

  -- the answer to it
  pub one_added : (answer : Result NodeId AddFault) → Answers mid.arena def type answer
      → IfOk answer (λ id. Adds mid new id def type) → OnErr answer (new ≡ mid)
      → BuildsTerm uses size old new captures t (build_answer answer)
  one_added (Ok id) tells adds same = is_added id adds
  one_added (Err fault) tells adds same =
      not_added uses size old mid k grows captures t (omega (arith, few)) new fault same
      (λ e. (tells.full (rw e refl)).2)

-- the steps from 1 to 2 were to be added, in a list that is just that
pub stepped_added : (uses : List Use) (old new : Building) (captures : List NodeId) (steps : List Step) → steps ≡ late_two
    → (answer : Result NodeId AddFault) → Answers old.arena (graph.Steps (Int (pos 1)) steps) ty.Int answer
    → IfOk answer (λ id. Adds old new id (graph.Steps (Int (pos 1)) steps) ty.Int) → OnErr answer (new ≡ old)
    → BuildsTerm uses 4 old new captures (Steps (Int (pos 1)) late_two) (build_answer answer)
stepped_added uses old new captures steps same answer =
    subst (λ (xs : List Step). Answers old.arena (graph.Steps (Int (pos 1)) xs) ty.Int answer
    → IfOk answer (λ id. Adds old new id (graph.Steps (Int (pos 1)) xs) ty.Int) → OnErr answer (new ≡ old)
    → BuildsTerm uses 4 old new captures (Steps (Int (pos 1)) late_two) (build_answer answer)) (sym same)
    (one_added uses 4 old old new 0 (grown_none uses old) captures _ _ _ refl 1 (tt, (tt, tt)) (omega arith) (omega arith)
    (λ id adds grows. in_added old new id _ _ adds) answer)

-- ---- captures

module _ (uses : List Use) (old new : Building) (k : ℕ) (grows : Grows uses old new k)
    (c : Captured) (ready : IsReady old c) where
  pub x_read : Unfolds (graph_of new.arena nothing_held) (Some new.scope) (captured c) c.x (Cap 0)
  x_read = (refl, outside_grown uses old new k grows ready.empty c.x ready.x_given)

  pub c_read : Unfolds (graph_of new.arena nothing_held) (Some new.scope) (captured c) c.c (Cap 1)
  c_read = (refl, outside_grown uses old new k grows ready.empty c.c ready.c_given)

  pub h_read : Unfolds (graph_of new.arena nothing_held) (Some new.scope) (captured c) c.h (Cap 2)
  h_read = (refl, outside_grown uses old new k grows ready.empty c.h ready.h_given)
