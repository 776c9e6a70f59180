-- A graph takes a welcome definition, unless there is no memory.
use Rattle.std.proofs.Common.{◌≡◌, inl, inr, ◌-◌, ◌^◌, ◌<◌, Bool, None, Some, Result, Ok, Err, IfOk, IfErr, IsErr, refl, ap, sym, subst, ◌∙◌, arith}
use Rattle.graph.specs.Effects.{top, Adds, KeepsAll, IsAddFault, AnswersAdd}
use Rattle.graph.specs.Standing.{GraphView, IsUnbroken, IsBroken}
use Rattle.graph.specs.declared.fault.GraphFault.{GraphFault}
use Rattle.graph.specs.declared.fault.GraphFault.TheVariants as fault
use Rattle.graph.specs.declared.fault.Kept.{Kept}
use Rattle.inc_value.specs.declared.function.FnRef.{FnRef}
use Rattle.inc_value.specs.declared.node.NodeId.{NodeId}
use Rattle.inc_value.specs.declared.ty.Ty.{Ty}
use Rattle.inc_terms.specs.Graph.{Def}
use Rattle.node_arena.specs.Arena.{live, IsFull}
use Rattle.node_arena.specs.RightSide.{RightSide}
use Rattle.script_graph.specs.Growing.{IsWelcome}

module _ {F : Type 0} (s t : GraphView F) (known : FnRef → Bool) (right : FnRef → RightSide) (d : Def) (ty : Ty)
    (whole : IsUnbroken s) (welcome : IsWelcome known right s.nodes d ty)
    (room : live s.nodes < 1048576) (ids : s.nodes.given < 2 ^ 64 - 1) where
  not_broken : (cause : Kept) → IsBroken s cause → ⊥
  not_broken cause (r, is, of) = let clash : None ≡ Some r = sym whole ∙ is in cc

  not_full : IsFull s.nodes → ⊥
  not_full (inl many) = omega (arith, many, room)
  not_full (inr all) = omega (arith, all, ids)

  memory_alone : (r : Result NodeId GraphFault) (e : GraphFault) → r ≡ Err e → IsAddFault e → AnswersAdd s t d ty r → e ≡ fault.Memory
  memory_alone r e is (inl (cause, same)) a = absurd (not_broken cause ((a.broken cause).0 (is ∙ ap (λ (x : GraphFault). Err x) same)))
  memory_alone r e is (inr (inl same)) a = absurd ((a.unknown.0 (is ∙ ap (λ (x : GraphFault). Err x) same)).1 welcome.named)
  memory_alone r e is (inr (inr (inl same))) a = absurd ((a.wrong_type.0 (is ∙ ap (λ (x : GraphFault). Err x) same)).1.1 welcome.makes)
  memory_alone r e is (inr (inr (inr (inl same)))) a = absurd ((a.span.0 (is ∙ ap (λ (x : GraphFault). Err x) same)).1.2 welcome.timed)
  memory_alone r e is (inr (inr (inr (inr (inl same))))) a = absurd (not_full (a.full.0 (is ∙ ap (λ (x : GraphFault). Err x) same)).1.3)
  memory_alone r e is (inr (inr (inr (inr (inr same))))) a = same

  -- only memory may be wanting
  pub only_memory : (r : Result NodeId GraphFault) → AnswersAdd s t d ty r → IfErr r (λ e. e ≡ fault.Memory)
  only_memory (Ok n) a = tt
  only_memory (Err e) a = memory_alone (Err e) e refl a.adding a

module _ {F : Type 0} (s t : GraphView F) (d : Def) (ty : Ty) where
  -- the node was added
  pub was_added : (r : Result NodeId GraphFault) (n : NodeId) → r ≡ Ok n → AnswersAdd s t d ty r → Adds s t n (top d ty)
  was_added r n is a = subst (λ (x : Result NodeId GraphFault). IfOk x (λ (m : NodeId). Adds s t m (top d ty))) is a.added

  -- it was refused
  pub was_refused : (r : Result NodeId GraphFault) → IsErr r → AnswersAdd s t d ty r → KeepsAll s t
  was_refused (Ok n) err a = absurd (cc)
  was_refused (Err e) err a = a.err
