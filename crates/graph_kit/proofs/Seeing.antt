-- Maps that are seen are right, and what is seen stays.
use Rattle.std.proofs.Common.{◌≡◌, ◌∙◌, inl, inr, ℕ, zero, suc, Bool, true, false, List, [], ◌∷◌, Option, None, Some, Result, Ok, Err, OnOk, slice_get, refl, ap, subst}
use Rattle.std.specs.List.{AllZip}
use Rattle.inc_value.specs.declared.function.FnRef.{FnRef}
use Rattle.inc_value.specs.declared.node.NodeId.{NodeId}
use Rattle.inc_value.specs.declared.node.ObsId.{ObsId}
use Rattle.inc_value.specs.declared.outcome.Outcome.{Outcome}
use Rattle.inc_value.specs.declared.outcome.Outcome.TheVariants.{Val, Invalid}
use Rattle.inc_value.specs.declared.value.Value.{Value}
use Rattle.inc_terms.specs.Evaluate.{Of, answer, GiveAll, NodeGives}
use Rattle.inc_terms.specs.Graph as graph
use Rattle.inc_terms.specs.Graph.{Graph, Row}
use Rattle.inc_terms.specs.Term.{Ref, Functions}
use Rattle.inc_terms.specs.Work.{Visit, IsVisit}
use Rattle.inc_terms.proofs.Evaluation.{one_outcome}
use Rattle.inc_terms.proofs.Visiting.{map_visits}
use Rattle.node_arena.specs.Sound.{IsSoundArena}
use Rattle.observers.specs.Observers.{after, looked_at, told_by}
use Rattle.observers.specs.declared.observer.Observer.{Observer}
use Rattle.observers.specs.declared.observer.Watch.{Watch}
use Rattle.graph.specs.Stabilizes.{Stabilizes, left_by}
use Rattle.graph.specs.Standing.{GraphView, node_at, shows_now}
use Rattle.graph.specs.declared.fault.StabilizeFault.{StabilizeFault}
use Rattle.graph_kit.specs.Settled.{MapsAreRight, Sees, SeenStay}

-- ---- a map gives what its function gives of what its children give

map_gives : (M : Functions) (G : Graph) (n : NodeId) (r : Row) (f : FnRef) (ns : List NodeId) → G.row n ≡ Some r → r.def ≡ graph.Map f ns
    → (w : Value) (vs : List Value) → NodeGives M G n (Val w) → GiveAll M G ns vs → w ≡ M.value f vs
map_gives M G n r f ns row def w vs gives all =
    let laws = map_visits M G n r f ns row def in
    let v = laws.1 w gives in
    let at_n : G.row v.0.node ≡ Some r = rw v.2 row in
    let rows : v.1.row ≡ r = (let x = v.1.is_row in cc) in
    let mine : Visit = record { node = n; values = vs; cost = 1 } in
    let visit : IsVisit M G mine = record { row = r; is_row = row; stands = rw (← rows) v.1.stands; values = rw def all; cost = rw def refl } in
    let two = one_outcome M G (Of (Ref n)) (Val w) (Val (M.value f vs)) gives (laws.0 mine visit refl) in
    cc

-- ---- a dead node gives no value

no_value : (v : Value) → Some Invalid ≡ Some (Val v) → ⊥
no_value v e = cc

dead_gives : (M : Functions) (G : Graph) (n : NodeId) (v : Value) → G.row n ≡ None → NodeGives M G n (Val v) → ⊥
unfolding answer
dead_gives M G n v none (zero, e) = cc
dead_gives M G n v none (suc d, e) = no_value v (rw none at e)

-- ---- observers look at what they looked at

look_after : (n : NodeId) (u : Bool) (s : Option Outcome) (w : Watch) (now : Outcome)
    → looked_at (Some (after now (record { node = n; in_use = u; shown = s; watch = w })))
    ≡ looked_at (Some (record { node = n; in_use = u; shown = s; watch = w }))
look_after n true s w now = refl
look_after n false s w now = refl

looks_told : (shows : NodeId → Outcome) (os : List Observer) (i : ℕ) → looked_at (slice_get (told_by shows os) i) ≡ looked_at (slice_get os i)
looks_told shows [] i = refl
looks_told shows (o ∷ os) zero = look_after o.node o.in_use o.shown o.watch (shows o.node)
looks_told shows (o ∷ os) (suc i) = looks_told shows os i

module _ {F : Type 0} (M : Functions) (old new : GraphView F) (round : Stabilizes M old new) where
  seen_gives : (n : NodeId) (v : Value) → Sees new n v → NodeGives M (left_by old new) n (Val v)
  seen_gives n v sees =
      let x = round.shows sees.observer n sees.looks in
      let same : x.0 ≡ Val v = (let a = x.1 in let b = sees.shows in cc) in
      subst (λ o. NodeGives M (left_by old new) n o) same x.2

  all_give : (ns : List NodeId) (vs : List Value) → AllZip (Sees new) ns vs → GiveAll M (left_by old new) ns vs
  all_give [] [] all = tt
  all_give [] (v ∷ vs) all = absurd all
  all_give (n ∷ ns) [] all = absurd all
  all_give (n ∷ ns) (v ∷ vs) all = (seen_gives n v all.0, all_give ns vs all.1)

  pub maps_right : MapsAreRight M.value new
  maps_right n r f kids v vs row def seen all =
      map_gives M (left_by old new) n r f kids row def v vs (seen_gives n v seen) (all_give kids vs all)

  pub seen_stay : IsSoundArena old.nodes → SeenStay old new
  seen_stay sound n r v is sees = elim (round.stays.rows n (sound.given n (rw is refl))) [
    | inl same ↦ same ∙ is
    | inr dead ↦ absurd (dead_gives M (left_by old new) n v dead (seen_gives n v sees))
  ]

  pub looks_same : (o : ObsId) → node_at new.observers o ≡ node_at old.observers o
  looks_same o = ap (λ (os : List Observer). looked_at (slice_get os o.0)) round.observers ∙ looks_told (shows_now new) old.observers o.0

-- ---- the same of a stabilize that may have been refused

module _ {F : Type 0} (M : Functions) (old new : GraphView F) (answer : Result (Unit {0}) StabilizeFault) where
  pub settled_maps : OnOk answer (Stabilizes M old new) → OnOk answer (MapsAreRight M.value new)
  settled_maps brought = go answer brought
    where
      go : (r : Result (Unit {0}) StabilizeFault) → OnOk r (Stabilizes M old new) → OnOk r (MapsAreRight M.value new)
      go (Ok v) round = maps_right M old new round
      go (Err e) round = tt

  pub settled_rows : IsSoundArena old.nodes → OnOk answer (Stabilizes M old new) → OnOk answer (SeenStay old new)
  settled_rows sound brought = go answer brought
    where
      go : (r : Result (Unit {0}) StabilizeFault) → OnOk r (Stabilizes M old new) → OnOk r (SeenStay old new)
      go (Ok v) round = seen_stay M old new round sound
      go (Err e) round = tt

  pub settled_looks : OnOk answer (Stabilizes M old new) → OnOk answer ((o : ObsId) → node_at new.observers o ≡ node_at old.observers o)
  settled_looks brought = go answer brought
    where
      go : (r : Result (Unit {0}) StabilizeFault) → OnOk r (Stabilizes M old new)
          → OnOk r ((o : ObsId) → node_at new.observers o ≡ node_at old.observers o)
      go (Ok v) round = looks_same M old new round
      go (Err e) round = tt
