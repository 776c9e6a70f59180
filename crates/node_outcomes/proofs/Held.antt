-- What the graph of an arena holds, by what is kept, and the right sides that are read off it.
use Rattle.std.proofs.Common.{◌≡◌, refl, sym, ap, ◌∙◌, Bool, true, false, List, Option, None, Some}
use Rattle.std.proofs.Math.Path.{fun_ext}
use Rattle.std.proofs.lemmas.Option.{none-some, same_Some}
use Rattle.std.specs.Prelude.{cond}
use Rattle.inc_value.specs.Choice.{and_then}
use Rattle.inc_value.specs.declared.node.NodeId.{NodeId}
use Rattle.inc_value.specs.declared.function.FnRef.{FnRef}
use Rattle.inc_value.specs.declared.outcome.Outcome.{Outcome}
use Rattle.inc_value.specs.declared.outcome.Outcome.TheVariants.{Invalid}
use Rattle.inc_value.specs.declared.value.Value.{Value}
use Rattle.expert_nodes.specs.Experts.{ExpertPlace, kids_at}
use Rattle.inc_terms.specs.Depend.{change, main, right_of, root_for}
use Rattle.inc_terms.specs.Graph as graph
use Rattle.inc_terms.specs.Graph.{Graph, Row, Built, Def}
use Rattle.inc_terms.specs.Same.{same_outcome}
use Rattle.inc_terms.proofs.Crossing.{same_choice}
use Rattle.inc_terms.proofs.Same.{outcome_decides}
use Rattle.point_map.specs.Rows.{Rows, at}
use Rattle.node_arena.specs.Arena.{Arena, row_at}
use Rattle.node_outcomes.specs.Choosing.{built_by, built_in, built_alone, held_in, right_in}
use Rattle.node_outcomes.specs.Row.{kept_in, outcome_in}
use Rattle.node_outcomes.specs.Progress.{Progress}

and_then_same : {A B : Type 0} (x : Option A) (f g : A → Option B) → ((a : A) → f a ≡ g a) → and_then x f ≡ and_then x g
and_then_same None f g h = refl
and_then_same (Some a) f g h = h a

-- what is built for Invalid and has no root chooses none for Invalid
rootless_for : (x : Option Built) → ((w : Built) → x ≡ Some w → w.outcome ≡ Invalid → w.root ≡ None) → root_for x Invalid ≡ None
rootless_for None h = refl
rootless_for (Some w) h = told (same_outcome Invalid w.outcome) refl
  where
    told : (b : Bool) → same_outcome Invalid w.outcome ≡ b → cond b w.root None ≡ None
    told true e = h w refl (sym ((outcome_decides Invalid w.outcome).0 e))
    told false e = refl

-- there an outcome of the subject that is Invalid chooses nothing
pub invalid_chooses_none : (G : Graph) (n : NodeId) (def : Def) → ((w : Built) → G.built n ≡ Some w → w.outcome ≡ Invalid → w.root ≡ None)
    → right_of G n def Invalid ≡ None
invalid_chooses_none G n (graph.Bind l f caps) h = rootless_for (G.built n) h
invalid_chooses_none G n def h = refl

module _ (rows : Rows Progress) (roots : Rows NodeId) (n : NodeId) where
  -- a bind's right side is its root, where its change ran
  pub bind_right : (l : NodeId) (f : FnRef) (caps : List NodeId) (o : Outcome) → outcome_in (at rows (change n)) ≡ Some o
      → right_in rows roots n (graph.Bind l f caps) ≡ at roots (change n)
  bind_right l f caps o e =
      let same : same_outcome o o ≡ true = (outcome_decides o o).1 refl in
      rw (e, same) refl

  -- the right side is the one in each graph in which the node is built so
  pub right_is : (G : Graph) (def : Def) → G.built n ≡ built_by def (outcome_in (at rows (change n))) (at roots (change n))
      → right_in rows roots n def ≡ and_then (outcome_in (at rows (change n))) (λ (c : Outcome). right_of G n def c)
  right_is G def e =
      let alone : Graph = built_alone (built_by def (outcome_in (at rows (change n))) (at roots (change n))) in
      and_then_same (outcome_in (at rows (change n))) (λ (c : Outcome). right_of alone n def c) (λ (c : Outcome). right_of G n def c)
      (λ c. sym (same_choice alone G n def c e))

  -- what a live node is built for
  pub built_live : (arena : Arena) (experts : List ExpertPlace) (r : Row) → row_at arena n ≡ Some r
      → (held_in arena rows roots experts).built n ≡ built_by r.def (outcome_in (at rows (change n))) (at roots (change n))
  built_live arena experts r is = ap (λ (x : Option Row). built_in x (outcome_in (at rows (change n))) (at roots (change n))) is

-- where as much is kept of changes, of roots and of freezes, and the links of experts are the same, as much is held
pub same_held : (arena : Arena) (rows rows' : Rows Progress) (roots roots' : Rows NodeId) (experts experts' : List ExpertPlace)
    → ((n : NodeId) → outcome_in (at rows' (change n)) ≡ outcome_in (at rows (change n))) → ((n : NodeId) → at roots' (change n) ≡ at roots (change n))
    → ((n : NodeId) → kept_in (at rows' (main n)) ≡ kept_in (at rows (main n))) → ((n : NodeId) → kids_at experts' n ≡ kids_at experts n)
    → held_in arena rows' roots' experts' ≡ held_in arena rows roots experts
same_held arena rows rows' roots roots' experts experts' outcomes same frozen lists =
    ap (λ (b : NodeId → Option Built). record { built = b; frozen = λ n. kept_in (at rows' (main n)); lists = kids_at experts' }) (fun_ext (λ n.
    ap (λ (o : Option Outcome). built_in (row_at arena n) o (at roots' (change n))) (outcomes n)
    ∙ ap (λ (m : Option NodeId). built_in (row_at arena n) (outcome_in (at rows (change n))) m) (same n)))
    ∙ ap (λ (k : NodeId → Option Value). record { built = (held_in arena rows roots experts).built; frozen = k; lists = kids_at experts' }) (fun_ext frozen)
    ∙ ap (λ (l : NodeId → List NodeId). record { built = (held_in arena rows roots experts).built; frozen = (held_in arena rows roots experts).frozen; lists = l }) (fun_ext lists)

-- what is built is so for the outcome that its change keeps, and its root is its right side
pub built_parts : (def : Def) (x : Option Outcome) (root : Option NodeId) (w : Built) → built_by def x root ≡ Some w
    → (x ≡ Some w.outcome) × ((G : Graph) (n : NodeId) (o : Outcome) → G.built n ≡ Some w → right_of G n def o ≡ root_for (Some w) o)
built_parts (graph.Bind l f caps) None root w e = absurd (none-some w e)
built_parts (graph.Bind l f caps) (Some o) root w e =
    (ap (λ (x : Built). Some x.outcome) (same_Some _ w e), λ G n c built. ap (λ (x : Option Built). root_for x c) built)
built_parts def x root w e = absurd (none-some w e)
