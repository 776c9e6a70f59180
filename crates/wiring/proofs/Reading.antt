-- Experts that read what they read.
use Rattle.std.proofs.Common.{◌≡◌, ◌≢◌, inl, inr, false, List, [], Option, None, Some, refl, sym, ap, subst, ◌∙◌, append-nil}
use Rattle.std.specs.Prelude.{is_some}
use Rattle.inc_value.specs.declared.node.NodeId.{NodeId}
use Rattle.stabilize_round.proofs.Points.{node_or_other}
use Rattle.expert_nodes.specs.Experts.{Expert, ExpertChanges, ExpertPlace, IsCreated, KeepsExperts, expert_at, expert_in}
use Rattle.expert_nodes.specs.Experts.{expert_of, fresh_at, is_stale_at, kids_at, kids_of_expert, taken_up}
use Rattle.wiring.specs.Experts.{ReadSame}

-- the very experts do
pub read_as : (old new : List ExpertPlace) → new ≡ old → ReadSame old new
read_as old new e = record {
  there = λ n. ap (λ (x : List ExpertPlace). is_some (expert_at x n)) e;
  kids = λ n. ap (λ (x : List ExpertPlace). kids_at x n) e;
  stale = λ n. ap (λ (x : List ExpertPlace). is_stale_at x n) e;
}

pub read_still : (experts : List ExpertPlace) → ReadSame experts experts
read_still experts = read_as experts experts refl

-- so do those of which is seen what was seen
pub read_kept : (old new : List ExpertPlace) → KeepsExperts old new → ReadSame old new
read_kept old new k = record {
  there = λ n. ap is_some (k n);
  kids = λ n. ap (λ (x : Option Expert). kids_of_expert (expert_in x)) (k n);
  stale = λ n. ap (λ (x : Option Expert). (expert_in x).stale) (k n);
}

-- one after the other
pub read_then : (old mid new : List ExpertPlace) → ReadSame old mid → ReadSame mid new → ReadSame old new
read_then old mid new a b = record { there = λ n. b.there n ∙ a.there n; kids = λ n. b.kids n ∙ a.kids n; stale = λ n. b.stale n ∙ a.stale n }

-- so it is where one was taken up
module _ (old new : List ExpertPlace) (n : NodeId) (created : IsCreated old n) (up : ExpertChanges old new n (Some (taken_up (expert_of old n)))) where
  by_node : {A : Type 0} (f : Option Expert → A) → f (Some (taken_up (expert_of old n))) ≡ f (expert_at old n) → (m : NodeId)
      → f (expert_at new m) ≡ f (expert_at old m)
  by_node f same m = elim (node_or_other n m) [
    | inl e ↦ subst (λ (x : NodeId). f (expert_at new x) ≡ f (expert_at old x)) e (ap f up.changed ∙ same)
    | inr ne ↦ ap f (up.others m (λ e. ne (sym e)))
  ]

  pub read_taken_up : ReadSame old new
  read_taken_up = record {
    there = by_node is_some (sym created);
    kids = by_node (λ (x : Option Expert). kids_of_expert (expert_in x)) (append-nil (kids_at old n));
    stale = by_node (λ (x : Option Expert). (expert_in x).stale) refl;
  }

  -- nothing of it is fresh any more
  pub none_fresh : fresh_at new n ≡ []
  none_fresh = ap (λ (x : Option Expert). (expert_in x).fresh) up.changed

  pub fresh_of_others : (m : NodeId) → m ≢ n → fresh_at new m ≡ fresh_at old m
  fresh_of_others m ne = ap (λ (x : Option Expert). (expert_in x).fresh) (up.others m ne)

-- what wasn't created has nothing fresh
pub absent_fresh : (experts : List ExpertPlace) (n : NodeId) → is_some (expert_at experts n) ≡ false → fresh_at experts n ≡ []
absent_fresh experts n gone = by (expert_at experts n) gone
  where
    by : (x : Option Expert) → is_some x ≡ false → (expert_in x).fresh ≡ []
    by None e = refl
    by (Some x) e = absurd (cc)
