-- Two graphs that agree give the same.
use Rattle.std.proofs.Common.{◌≡◌, ◌⊎◌, inl, inr, ℕ, zero, suc, Option, None, Some, Bool, true, false, cond, refl, sym, ◌∙◌}
use Rattle.inc_value.specs.declared.function.FnKind.{FnKind}
use Rattle.inc_value.specs.declared.function.FnRef.{FnRef}
use Rattle.inc_value.specs.declared.node.NodeId.{NodeId}
use Rattle.inc_value.specs.declared.outcome.Outcome.{Outcome}
use Rattle.inc_value.specs.declared.outcome.Outcome.TheVariants.{Val, Invalid}
use Rattle.inc_value.specs.declared.value.Value.TheVariants as value
use Rattle.inc_value.specs.Choice.{and_then}
use Rattle.inc_terms.specs.Same.{same_outcome}
use Rattle.inc_terms.specs.Term.{Term, Ref, Functions}
use Rattle.inc_terms.specs.Graph as graph
use Rattle.inc_terms.specs.Graph.{Graph, Row, Built, Def, present, present_def}
use Rattle.inc_terms.specs.Within.{ValueWithin, OutcomeWithin, TermWithin, FunctionsWithin}
use Rattle.inc_terms.specs.Evaluate.{Query, Of, Around, as_built, left_holds, bind_holds, scope_level, node_level, level, answer, Gives, NodeGives}
use Rattle.inc_terms.specs.Agree.{Agree}
use Rattle.inc_terms.proofs.Evaluation.{at_depth, one_outcome}
use Rattle.inc_terms.proofs.Follows.{Follows, Stays, with_follows, After, lifted}
use Rattle.inc_terms.proofs.Simulation.{Like, base, self_like, level_after}

pub then_follows : (P : NodeId → Type 0) (f : ℕ → Option Outcome) (a : Option Outcome) (next : Outcome → Option Outcome)
    → ((o p : Outcome) → next o ≡ Some p → OutcomeWithin P p) → Follows P f a → Follows P (λ d. and_then (f d) next) (and_then a next)
then_follows P f None next ok h = tt
then_follows P f (Some o) next ok h = after (next o) refl
  where
    after : (b : Option Outcome) → next o ≡ b → Follows P (λ d. and_then (f d) next) b
    after None e = tt
    after (Some p) e = ((h.0.0, rw (h.0.1, e) refl), ok o p e)

as_built_fine : (P : NodeId → Type 0) (built : Option Built) (o p : Outcome) → as_built built o ≡ Some p → OutcomeWithin P p
as_built_fine P None o (Val v) e = absurd (cc)
as_built_fine P built o Invalid e = tt
as_built_fine P (Some b) o (Val v) e = picked (same_outcome o b.outcome) e
  where
    picked : (t : Bool) → cond t (Some (Val (value.Bool true))) (Some Invalid) ≡ Some (Val v) → ValueWithin P v
    picked true e = let same : value.Bool true ≡ v = cc in rw (← same) tt
    picked false e = absurd (cc)

-- a name of the set stands for itself
abbrev pub Itself : (NodeId → Type 0) → Term → Term → Type 0
Itself P t u = (n : NodeId) × P n × (t ≡ Ref n) × (u ≡ Ref n)

module _ (F : Functions) (P : NodeId → Type 0) (Q : FnKind → FnRef → Type 0) (K : NodeId → Type 0) (G G' : Graph)
    (fine : FunctionsWithin F P Q) (agree : Agree F P Q K G G') where
  itself : (n : NodeId) → P n → Itself P (Ref n) (Ref n)
  itself n p = (n, p, refl, refl)

  abbrev Then : Query → Option Outcome → Type 0
  Then q a = After F G' P q a

  -- a scope that both graphs judge alike
  abbrev pub GoodScope : Option NodeId → Type 0
  GoodScope None = Unit {0}
  GoodScope (Some b) = K b × (G'.built b ≡ G.built b)

  pub good_scope : (n : NodeId) (r : Row) → K n → G.row n ≡ Some r → (s : Option NodeId) → r.scope ≡ s → GoodScope s
  good_scope n r k e None es = tt
  good_scope n r k e (Some b) es = agree.scope n r b k e es

  abbrev TermsAt : ℕ → Type 0
  TermsAt d = (t u : Term) → Like P Q (Itself P) t u → Then (Of u) (answer F G d (Of t))

  abbrev ScopesAt : ℕ → Type 0
  ScopesAt d = (s : Option NodeId) → GoodScope s → Then (Around s) (answer F G d (Around s))

  -- an answer that is Invalid in both
  both_invalid : (q : Query) (d : ℕ) → Gives F G q Invalid → Gives F G' q Invalid → (a : Option Outcome) → answer F G d q ≡ a → Then q a
  both_invalid q d g g' None e = tt
  both_invalid q d g g' (Some o) e = let same : o ≡ Invalid = one_outcome F G q o Invalid (d, e) g in rw same (g', tt)

  module _ (d : ℕ) (terms : TermsAt d) (scopes : ScopesAt d) where
    node_after : (n : NodeId) → K n → (row row' : Option Row) → G.row n ≡ row → row' ≡ row
        → Follows P (λ e. node_level (answer F G' e) G' n row') (node_level (answer F G d) G n row)
    node_after n k None row' e e' = rw e' ((0, refl), tt)
    node_after n k (Some r) row' e e' =
        let read = agree.reads n r k e in
        let like : Like P Q (Itself P) (present G n r) (present G' n r) = rw read.0 (self_like F P Q (Itself P) itself (present G n r) read.1) in
        rw e' (with_follows P (λ x. answer F G' x (Around r.scope)) (λ x v. answer F G' x (Of (present G' n r)))
        (answer F G d (Around r.scope)) (λ v. answer F G d (Of (present G n r)))
        (λ a b o le h. at_depth F G' a b (Around r.scope) o le h) (λ v a b o le h. at_depth F G' a b (Of (present G' n r)) o le h)
        (scopes r.scope (good_scope n r k e r.scope refl)) (λ v hv x. terms (present G n r) (present G' n r) like))

    left_after : (b : NodeId) (built built' : Option Built) → built' ≡ built → (def : Def) → TermWithin P Q (present_def G b def)
        → Follows P (λ e. left_holds (answer F G' e) built' def) (left_holds (answer F G d) built def)
    left_after b built built' e (graph.Bind l f caps) h =
        rw e (then_follows P (λ x. answer F G' x (Of (Ref l))) (answer F G d (Of (Ref l))) (as_built built)
        (as_built_fine P built) (terms (Ref l) (Ref l) (base (itself l h.1))))
    left_after b built built' e _ h = ((0, refl), tt)

    left_stays : (built : Option Built) (def : Def) → Stays (λ e. left_holds (answer F G' e) built def)
    left_stays built (graph.Bind l f caps) x y o le h = rw (kept (answer F G' x (Of (Ref l))) refl h) h
      where
        kept : (a : Option Outcome) → answer F G' x (Of (Ref l)) ≡ a → and_then a (as_built built) ≡ Some o
            → answer F G' y (Of (Ref l)) ≡ answer F G' x (Of (Ref l))
        kept None e h = absurd (cc)
        kept (Some p) e h = at_depth F G' x y (Of (Ref l)) p le e ∙ sym e
    left_stays built _ x y o le h = h

    bind_after : (b : NodeId) → K b → (built built' : Option Built) → built' ≡ built → (row row' : Option Row) → G.row b ≡ row → row' ≡ row
        → Follows P (λ e. bind_holds (answer F G' e) built' row') (bind_holds (answer F G d) built row)
    bind_after b k built built' eb None row' e e' = rw e' ((0, refl), tt)
    bind_after b k built built' eb (Some r) row' e e' =
        rw e' (with_follows P (λ x. answer F G' x (Around r.scope)) (λ x v. left_holds (answer F G' x) built' r.def)
        (answer F G d (Around r.scope)) (λ v. left_holds (answer F G d) built r.def)
        (λ a b o le h. at_depth F G' a b (Around r.scope) o le h) (λ v. left_stays built' r.def)
        (scopes r.scope (good_scope b r k e r.scope refl)) (λ v hv x. left_after b built built' eb r.def (agree.reads b r k e).1))

    scope_after : (s : Option NodeId) → GoodScope s → Follows P (λ e. scope_level (answer F G' e) G' s) (scope_level (answer F G d) G s)
    scope_after None h = ((0, refl), tt)
    scope_after (Some b) h = bind_after b h.0 (G.built b) (G'.built b) h.1 (G.row b) (G'.row b) refl (agree.row b h.0)

    at_name : (n : NodeId) → P n → (NodeGives F G n Invalid × NodeGives F G' n Invalid) ⊎ K n
        → Then (Of (Ref n)) (level F G (answer F G d) (Of (Ref n)))
    unfolding answer
    at_name n p (inl gone) = both_invalid (Of (Ref n)) (suc d) gone.0 gone.1 (answer F G (suc d) (Of (Ref n))) refl
    at_name n p (inr k) = lifted F G' P (Of (Ref n)) _ (node_after n k (G.row n) (G'.row n) refl (agree.row n k))

    at_names : (t u : Term) → Itself P t u → Then (Of u) (level F G (answer F G d) (Of t))
    at_names t u i = rw (i.2, i.3) (at_name i.0 i.1 (agree.either i.0 i.1))

  all_after : (d : ℕ) → TermsAt d × ScopesAt d
  unfolding answer
  all_after zero = ((λ t u l. tt), (λ s h. tt))
  all_after (suc d) = let h = all_after d in (
    (λ t u l. level_after F G G' P Q (Itself P) fine agree.now itself (answer F G d) h.0 t u l (at_names d h.0 h.1 t u)),
    (λ s g. lifted F G' P (Around s) _ (scope_after d h.0 h.1 s g)),
  )

  -- what a node of the set gives it gives in the other graph, and that names nodes of the set
  pub node_agrees : (n : NodeId) → P n → (o : Outcome) → NodeGives F G n o → NodeGives F G' n o × OutcomeWithin P o
  node_agrees n p o g = rw g.1 at ((all_after g.0).0 (Ref n) (Ref n) (base (itself n p)))

  -- a scope of a kept bind stands in both or in neither
  pub scope_agrees : (s : Option NodeId) → GoodScope s → (o : Outcome) → Gives F G (Around s) o → Gives F G' (Around s) o
  scope_agrees s h o g = (rw g.1 at ((all_after g.0).1 s h)).0
