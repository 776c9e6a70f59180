-- What commands on the lists of experts leave of a graph, and what follows where they are done or aren't.
use Rattle.std.proofs.Common.{◌≡◌, ◌↔◌, ◌⊎◌, inl, inr, ◌<◌, ◌≤◌, ℕ, Bool, true, false, List, [], ◌∷◌, ◌++◌, Result, Ok, Err, IsTrue, IsFalse, refl, sym, subst, arith}
use Rattle.std.specs.Result.{IfOk, OnErr}
use Rattle.expert_nodes.specs.Experts.{without_first}
use Rattle.graph.specs.Effects.{KeepsAll, KeepsNeed, KeepsTop, MakesStale, Relists}
use Rattle.graph.specs.Standing.{GraphView, listed_by}
use Rattle.inc_value.specs.declared.node.NodeId.{NodeId}

-- the nodes and observers stay, and what stands at the top
pub record StaysBeside {F : Type 0} (old new : GraphView F) : Type 0 where
  pub top : KeepsTop old new
  pub nodes : new.nodes ≡ old.nodes
  pub observers : new.observers ≡ old.observers

module _ {F : Type 0} (old new : GraphView F) (expert node : NodeId) where
  stays_relisted : (list : List NodeId) → Relists old new expert list → StaysBeside old new
  stays_relisted list h = record { top = h.top; nodes = h.nodes; observers = h.observers }

  stays_itself : StaysBeside old old
  stays_itself = record {
    top = record { functions = refl; rooted = refl; since = refl; refused = refl; ran = refl; notices = refl };
    nodes = refl;
    observers = refl;
  }

  stays_same : new ≡ old → StaysBeside old new
  stays_same same = subst (λ (g : GraphView F). StaysBeside old g) (sym same) stays_itself

  pub stays_stale : MakesStale old new expert → StaysBeside old new
  stays_stale h = record { top = h.top; nodes = h.nodes; observers = h.observers }

  -- however a node is put behind the list
  pub stays_linked : {E : Type 0} (r : Result Bool E)
      → IfOk r (λ done. IsTrue done → Relists old new expert (listed_by old expert ++ node ∷ []) × KeepsNeed old new)
      → IfOk r (λ done. IsFalse done → new ≡ old) → OnErr r (KeepsAll old new) → StaysBeside old new
  stays_linked (Ok true) linked same err = stays_relisted (listed_by old expert ++ node ∷ []) (linked refl).0
  stays_linked (Ok false) linked same err = stays_same (same refl)
  stays_linked (Err e) linked same err = record { top = err.beside.top; nodes = err.nodes; observers = err.beside.observers }

  -- whether one is taken off it or not
  pub stays_unlinked : (r : Bool) → (IsTrue r → Relists old new expert (without_first node (listed_by old expert))) → (IsFalse r → new ≡ old)
      → StaysBeside old new
  stays_unlinked true unlinked same = stays_relisted (without_first node (listed_by old expert)) (unlinked refl)
  stays_unlinked false unlinked same = stays_same (same refl)

-- what follows where it is done, and where it isn't
pub if_done : {E P Q R : Type 0} (r : Result Bool E) → IfOk r (λ done. IsTrue done → P) → IfOk r (λ done. IsTrue done ↔ Q) → (P → Q → R)
    → IfOk r (λ done. IsTrue done → R)
if_done (Ok true) does how then = λ done. then (does refl) (how.0 refl)
if_done (Ok false) does how then = λ done. absurd (cc)
if_done (Err e) does how then = tt

pub if_undone : {E P Q R : Type 0} (r : Result Bool E) → IfOk r (λ done. IsFalse done → P) → IfOk r (λ done. IsTrue done ↔ Q) → (P → (Q → ⊥) → R)
    → IfOk r (λ done. IsFalse done → R)
if_undone (Ok true) leaves how then = λ undone. absurd (cc)
if_undone (Ok false) leaves how then = λ undone. then (leaves refl) (λ q. let is = how.1 q in absurd (cc))
if_undone (Err e) leaves how then = tt

below_or : (i j : ℕ) → (i < j) ⊎ (j ≤ i)
below_or i j = grind arith

pub is_full : (count most : ℕ) → (count < most → ⊥) → most ≤ count
is_full count most no_room = elim (below_or count most) [
  | inl room ↦ absurd (no_room room)
  | inr full ↦ full
]
