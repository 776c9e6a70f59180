-- Which nodes are experts, and what is seen of experts once a node was computed.
use Rattle.std.proofs.Common.{◌≡◌, ◌≢◌, ◌⊎◌, inl, inr, refl, sym, ap, ◌∙◌, true, false, List, Option, None, Some}
use Rattle.std.specs.Prelude.{Result, Ok, Err, is_some}
use Rattle.inc_value.specs.declared.node.NodeId.{NodeId}
use Rattle.inc_value.specs.declared.node.Point.{Point}
use Rattle.inc_value.specs.declared.outcome.Outcome.{Outcome}
use Rattle.inc_value.specs.declared.value.Value.{Value}
use Rattle.inc_terms.specs.Clock.{reads_clock}
use Rattle.inc_terms.specs.Code.{def_of}
use Rattle.inc_terms.specs.Depend.{main}
use Rattle.inc_terms.specs.Graph as graph
use Rattle.inc_terms.specs.Graph.{Row, Def}
use Rattle.inc_terms.specs.declared.def.Def as declared
use Rattle.inc_terms.specs.declared.def.Def.TheVariants as form
use Rattle.expert_nodes.specs.Experts.{Expert, ExpertChanges, ExpertPlace, IsCreated, SameExperts, SameLinks, Unmarks}
use Rattle.expert_nodes.specs.Experts.{expert_at, expert_in, expert_of, fresh_at, is_stale_at, is_tidy_at, kids_at, kids_of_expert, marked, taken_at, tidied}
use Rattle.point_map.proofs.Places.{point_cases}
use Rattle.node_arena.specs.Arena.{Arena, row_at}
use Rattle.node_outcomes.specs.Computing.{AreExperts, ExpertsFollow, is_expert, is_expert_def}
use Rattle.node_outcomes.proofs.Pairs.{IsPair}

-- what reads the clock is no expert
pub plain_clock : (def : Def) → reads_clock def ≡ true → is_expert_def def ≡ false
plain_clock (graph.Expert f v ns) h = absurd (let e : false ≡ true = h in cc)
plain_clock (graph.Const v) h = refl
plain_clock (graph.Var v) h = refl
plain_clock (graph.Map f ns) h = refl
plain_clock (graph.Fold f v ns) h = refl
plain_clock (graph.If t a b) h = refl
plain_clock (graph.Join k) h = refl
plain_clock (graph.Bind l f caps) h = refl
plain_clock (graph.At t) h = refl
plain_clock (graph.Steps v steps) h = refl
plain_clock graph.Now h = refl
plain_clock (graph.Every base span) h = refl
plain_clock (graph.Freeze k f) h = refl

-- nor is a node of two points
pub plain_pair : (def : Def) → IsPair def → is_expert_def def ≡ false
plain_pair (graph.Expert f v ns) pair = absurd (let e = pair.subject in cc)
plain_pair (graph.Const v) pair = refl
plain_pair (graph.Var v) pair = refl
plain_pair (graph.Map f ns) pair = refl
plain_pair (graph.Fold f v ns) pair = refl
plain_pair (graph.If t a b) pair = refl
plain_pair (graph.Join k) pair = refl
plain_pair (graph.Bind l f caps) pair = refl
plain_pair (graph.At t) pair = refl
plain_pair (graph.Steps v steps) pair = refl
plain_pair graph.Now pair = refl
plain_pair (graph.Every base span) pair = refl
plain_pair (graph.Freeze k f) pair = refl

-- nor what holds a value
pub plain_holder : (d : declared.Def) (v : Value) → (d ≡ form.Const v) ⊎ (d ≡ form.Var v) → is_expert_def (def_of d) ≡ false
plain_holder d v (inl h) = ap (λ (x : declared.Def). is_expert_def (def_of x)) h
plain_holder d v (inr h) = ap (λ (x : declared.Def). is_expert_def (def_of x)) h

module _ (arena : Arena) (experts : List ExpertPlace) (n : NodeId) (row : Row) (are : AreExperts arena experts) (is_row : row_at arena n ≡ Some row) where
  -- an expert was created
  pub created : is_expert_def row.def ≡ true → IsCreated experts n
  created expert = are n ∙ ap is_expert is_row ∙ expert

  -- what is none isn't stale
  pub not_stale : is_expert_def row.def ≡ false → is_stale_at experts n ≡ false
  not_stale plain = go (expert_at experts n) refl (are n ∙ ap is_expert is_row ∙ plain)
    where
      go : (o : Option Expert) → expert_at experts n ≡ o → is_some o ≡ false → is_stale_at experts n ≡ false
      go None is h = ap (λ (x : Option Expert). (expert_in x).stale) is
      go (Some e) is h = absurd (let bad : true ≡ false = h in cc)

  same_links : SameLinks experts experts
  same_links = record { there = λ id. refl; taken = λ id. refl; fresh = λ id. refl }

  -- where another node was computed the experts are as they were
  pub untouched_ok : is_expert_def row.def ≡ false → Unmarks experts experts n
  untouched_ok plain = record { links = same_links; off = not_stale plain; others = λ other d. refl }

  pub untouched_err : SameExperts experts experts
  untouched_err = record { links = same_links; stale = λ id. refl }

  pub untouched : is_expert_def row.def ≡ false → {E : Type 0} (result : Result Outcome E) → ExpertsFollow experts experts n result
  untouched plain (Ok o) = untouched_ok plain
  untouched plain (Err e) = untouched_err

-- ---- an expert that is computed

node_cases : (a b : NodeId) → (a ≡ b) ⊎ (a ≢ b)
node_cases a b = elim (point_cases (main a) (main b)) [
  | inl same ↦ inl (ap (λ (p : Point). p.node) same)
  | inr d ↦ inr (λ e. d (ap main e))
]

module _ (v w : List ExpertPlace) (id : NodeId) (e : Expert) (changes : ExpertChanges v w id (Some e)) (created_there : IsCreated v id) where
  -- one expert is seen otherwise, with the same links
  links_after : e.taken ≡ taken_at v id → e.fresh ≡ fresh_at v id → SameLinks v w
  links_after taken fresh = record {
    there = λ n. elim (node_cases n id) [
      | inl same ↦ ap (λ (m : NodeId). is_some (expert_at w m)) same ∙ ap is_some changes.changed ∙ sym created_there
          ∙ sym (ap (λ (m : NodeId). is_some (expert_at v m)) same)
      | inr d ↦ ap is_some (changes.others n d)
    ];
    taken = λ n. elim (node_cases n id) [
      | inl same ↦ ap (taken_at w) same ∙ ap (λ (x : Option Expert). (expert_in x).taken) changes.changed ∙ taken ∙ sym (ap (taken_at v) same)
      | inr d ↦ ap (λ (x : Option Expert). (expert_in x).taken) (changes.others n d)
    ];
    fresh = λ n. elim (node_cases n id) [
      | inl same ↦ ap (fresh_at w) same ∙ ap (λ (x : Option Expert). (expert_in x).fresh) changes.changed ∙ fresh ∙ sym (ap (fresh_at v) same)
      | inr d ↦ ap (λ (x : Option Expert). (expert_in x).fresh) (changes.others n d)
    ];
  }

  stale_here : is_stale_at w id ≡ e.stale
  stale_here = ap (λ (x : Option Expert). (expert_in x).stale) changes.changed

  stale_others : (n : NodeId) → n ≢ id → is_stale_at w n ≡ is_stale_at v n
  stale_others n d = ap (λ (x : Option Expert). (expert_in x).stale) (changes.others n d)

-- an expert that was made tidy is what it was
pub tidy_same : (v w : List ExpertPlace) (id : NodeId) → IsCreated v id → ExpertChanges v w id (Some (tidied (expert_of v id))) → SameExperts v w
tidy_same v w id there changes = record {
  links = links_after v w id (tidied (expert_of v id)) changes there refl refl;
  stale = λ n. elim (node_cases n id) [
    | inl same ↦ ap (is_stale_at w) same ∙ stale_here v w id (tidied (expert_of v id)) changes there ∙ sym (ap (is_stale_at v) same)
    | inr d ↦ stale_others v w id (tidied (expert_of v id)) changes there n d
  ];
}

-- it can be read
pub tidy_there : (v w : List ExpertPlace) (id : NodeId) → ExpertChanges v w id (Some (tidied (expert_of v id))) → IsCreated w id
tidy_there v w id changes = ap is_some changes.changed

pub tidy_is : (v w : List ExpertPlace) (id : NodeId) → ExpertChanges v w id (Some (tidied (expert_of v id))) → is_tidy_at w id ≡ true
tidy_is v w id changes = ap (λ (x : Option Expert). (expert_in x).tidy) changes.changed

pub tidy_kids : (v w : List ExpertPlace) (id : NodeId) → ExpertChanges v w id (Some (tidied (expert_of v id))) → kids_at w id ≡ kids_at v id
tidy_kids v w id changes = ap (λ (x : Option Expert). kids_of_expert (expert_in x)) changes.changed

pub tidy_stale : (v w : List ExpertPlace) (id : NodeId) → ExpertChanges v w id (Some (tidied (expert_of v id))) → is_stale_at w id ≡ is_stale_at v id
tidy_stale v w id changes = ap (λ (x : Option Expert). (expert_in x).stale) changes.changed

-- and then isn't stale any more
pub unmarked : (v w x : List ExpertPlace) (id : NodeId) → IsCreated v id → ExpertChanges v w id (Some (tidied (expert_of v id)))
    → ExpertChanges w x id (Some (marked false (expert_of w id))) → Unmarks v x id
unmarked v w x id there tidies clears =
    let before = tidy_same v w id there tidies in
    let after = links_after w x id (marked false (expert_of w id)) clears (tidy_there v w id tidies) refl refl in
    record {
      links = record {
        there = λ n. after.there n ∙ before.links.there n;
        taken = λ n. after.taken n ∙ before.links.taken n;
        fresh = λ n. after.fresh n ∙ before.links.fresh n;
      };
      off = stale_here w x id (marked false (expert_of w id)) clears (tidy_there v w id tidies);
      others = λ n d. stale_others w x id (marked false (expert_of w id)) clears (tidy_there v w id tidies) n d ∙ before.stale n;
    }
