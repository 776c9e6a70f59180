-- What becomes of experts where a node is added.
use Rattle.std.proofs.Common.{◌≡◌, true, false, List, Option, None, Some, Ok, Err, refl, ap, ◌∙◌, arith}
use Rattle.std.specs.Prelude.{Result, IfOk, OnErr, is_some}
use Rattle.inc_value.specs.declared.node.NodeId.{NodeId}
use Rattle.inc_terms.specs.Graph as graph
use Rattle.inc_terms.specs.Graph.{Def}
use Rattle.inc_terms.specs.Within.{Given}
use Rattle.expert_nodes.specs.Experts.{Expert, ExpertPlace, expert_at, expert_in, expert_of, unlinked}
use Rattle.node_arena.specs.Arena.{Arena, row_at}
use Rattle.node_arena.specs.declared.arena.AddFault.{AddFault}
use Rattle.node_outcomes.specs.Computing.{AreExperts, is_expert}
use Rattle.stabilizer.specs.Between.{KeepsWork}
use Rattle.stabilizer.specs.declared.parts.Parts.{Parts}
use Rattle.wiring.specs.Experts.{ExpertIsAdded}

others_stay : (def : Def) (old new : List ExpertPlace) (id n : NodeId) → ExpertIsAdded def old new id → (n ≡ id → ⊥) → expert_at new n ≡ expert_at old n
others_stay (graph.Expert f v ns) old new id n a other = a.others n other
others_stay _ old new id n a other = ap (λ (e : List ExpertPlace). expert_at e n) a

own_is : (def : Def) (old new : List ExpertPlace) (id : NodeId) → ExpertIsAdded def old new id → expert_at old id ≡ None → expert_of new id ≡ unlinked
own_is (graph.Expert f v ns) old new id a none = ap expert_in a.changed
own_is _ old new id a none = ap expert_in (ap (λ (e : List ExpertPlace). expert_at e id) a ∙ none)

-- a dead node has no list
pub absent : (arena : Arena) (experts : List ExpertPlace) (id : NodeId) → AreExperts arena experts → row_at arena id ≡ None → expert_at experts id ≡ None
absent arena experts id are dead = go (expert_at experts id) refl (are id ∙ ap is_expert dead)
  where
    go : (x : Option Expert) → expert_at experts id ≡ x → is_some x ≡ false → expert_at experts id ≡ None
    go None is h = is
    go (Some e) is h = absurd (let bad : true ≡ false = h in cc)

module _ (old new : Parts) (def : Def) where
  -- all that were given keep theirs
  pub added_others : (r : Result NodeId AddFault) → IfOk r (λ (id : NodeId). ExpertIsAdded def old.work.experts new.work.experts id)
      → OnErr r (KeepsWork old.work new.work) → IfOk r (λ (id : NodeId). id.gen_ ≡ old.arena.given) → (n : NodeId) → Given old.arena.given n
      → expert_at new.work.experts n ≡ expert_at old.work.experts n
  added_others (Ok id) added err fresh n given = others_stay def old.work.experts new.work.experts id n added
      (λ e. let same = ap (λ (m : NodeId). m.gen_) e in absurd (omega (arith, given, same, fresh)))
  added_others (Err e) added err fresh n given = err.experts n

  -- the new one has none, or an empty one
  pub added_own : (r : Result NodeId AddFault) → AreExperts old.arena old.work.experts
      → IfOk r (λ (id : NodeId). ExpertIsAdded def old.work.experts new.work.experts id) → IfOk r (λ (id : NodeId). row_at old.arena id ≡ None)
      → IfOk r (λ (id : NodeId). expert_of new.work.experts id ≡ unlinked)
  added_own (Ok id) are added fresh = own_is def old.work.experts new.work.experts id added (absent old.arena old.work.experts id are fresh)
  added_own (Err e) are added fresh = tt
