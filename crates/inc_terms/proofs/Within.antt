-- What the functions promise is enough, whatever the set of nodes.
use Rattle.std.proofs.Common.{◌≡◌, refl, Option, None, Some, inl, inr, Bool, List, [], ◌∷◌}
use Rattle.inc_value.specs.declared.function.FnKind.{FnKind}
use Rattle.inc_value.specs.declared.function.FnKind.TheVariants as kind
use Rattle.inc_value.specs.declared.function.FnRef.{FnRef}
use Rattle.inc_value.specs.declared.node.NodeId.{NodeId}
use Rattle.inc_value.specs.declared.value.Value.{Value}
use Rattle.inc_value.specs.declared.value.Value.TheVariants as value
use Rattle.inc_value.specs.Choice.{Every}
use Rattle.inc_terms.specs.Term.{Term, Terms, Step, Const, Ref, Cap, Map, Fold, If, Join, Bind, At, Steps, Now, End, More, Functions, refs}
use Rattle.inc_terms.specs.Graph as graph
use Rattle.inc_terms.specs.Graph.{Graph, Def, present_def, frozen_or}
use Rattle.inc_terms.specs.Rebuild.{Names, Keeping}
use Rattle.inc_terms.specs.Within.{DefWithin, ValueWithin, TermWithin, TermsWithin, FunctionsWithin, NamedBy, MayName, MayHold, FunctionLaws, IsFit}

module _ (P P' : NodeId → Type 0) (Q Q' : FnKind → FnRef → Type 0) (p : (n : NodeId) → P n → P' n) (q : (k : FnKind)
    (f : FnRef) → Q k f → Q' k f) where
  value_more : (v : Value) → ValueWithin P v → ValueWithin P' v
  value_more (value.Node n base) h = p n h
  value_more (value.Int z) h = tt
  value_more (value.Bool z) h = tt
  value_more (value.Text z) h = tt

  steps_more : (ss : List Step) → Every (λ (s : Step). ValueWithin P s.value) ss → Every (λ (s : Step). ValueWithin P' s.value) ss
  steps_more [] h = tt
  steps_more (s ∷ ss) h = (value_more s.value h.0, steps_more ss h.1)

  mutual
    pub term_more : (t : Term) → TermWithin P Q t → TermWithin P' Q' t
    term_more (Const v) h = value_more v h
    term_more (Ref n) h = p n h
    term_more (Cap i) h = tt
    term_more (Map f ts) h = (q kind.Map f h.0, terms_more ts h.1)
    term_more (Fold f v ts) h = (q kind.Map f h.0, value_more v h.1, terms_more ts h.2)
    term_more (If t a b) h = (term_more t h.0, term_more a h.1, term_more b h.2)
    term_more (Join t) h = term_more t h
    term_more (Bind l f ts) h = (q kind.Rhs f h.0, term_more l h.1, terms_more ts h.2)
    term_more (At t) h = tt
    term_more (Steps v ss) h = (value_more v h.0, steps_more ss h.1)
    term_more Now h = tt

    pub terms_more : (ts : Terms) → TermsWithin P Q ts → TermsWithin P' Q' ts
    terms_more End h = tt
    terms_more (More t ts) h = (term_more t h.0, terms_more ts h.1)

named_within : (P : NodeId → Type 0) (v : Value) (n : NodeId) → ValueWithin P v → NamedBy v n → P n
named_within P (value.Node m base) n h e = rw e h
named_within P (value.Int z) n h e = absurd e
named_within P (value.Bool z) n h e = absurd e
named_within P (value.Text z) n h e = absurd e

pub functions_within : (F : Functions) (known : FnRef → Bool) (ids : FnRef → List NodeId) (P : NodeId → Type 0)
    → FunctionLaws F known ids → FunctionsWithin F P (IsFit P known ids)
functions_within F known ids P laws = record {
  values =
      λ f vs q h. value_more (λ (n : NodeId). ⊥) P (λ (k : FnKind) (f : FnRef). Unit {0})
      (λ (k : FnKind) (f : FnRef). Unit {0}) (λ n e. absurd e) (λ k f u. tt) (F.value f vs) (laws.values f vs q.0);
  terms = λ f v q h. term_more (MayName ids f v) P (MayHold known ids f) (IsFit P known ids)
      (λ n e. elim e [ inl i ↦ named_within P v n h i | inr i ↦ q.1 n i ]) (λ k g m. (m.0, λ n i. q.1 n (m.1 n i))) (F.term f v) (laws.terms f v q.0);
}

-- ---- rows

module _ (P : NodeId → Type 0) (Q : FnKind → FnRef → Type 0) where
  refs_within : (ns : List NodeId) → Every P ns → TermsWithin P Q (refs ns)
  refs_within [] h = tt
  refs_within (n ∷ ns) h = (h.0, refs_within ns h.1)

  module _ (G : Graph) (keeping : Keeping P Q G) where
    frozen_within : (n kid : NodeId) → P kid → (x : Option Value) → G.frozen n ≡ x → TermWithin P Q (frozen_or kid x)
    frozen_within n kid p None e = p
    frozen_within n kid p (Some v) e = keeping.frozen n v e

    present_within : (n : NodeId) (def : Def) → DefWithin P Q def → TermWithin P Q (present_def G n def)
    present_within n (graph.Const v) h = h
    present_within n (graph.Var v) h = h
    present_within n (graph.Map f ns) h = (h.0, refs_within ns h.1)
    present_within n (graph.Fold f v ns) h = (h.0, h.1, refs_within ns h.2)
    present_within n (graph.If t a b) h = h
    present_within n (graph.Join k) h = h
    present_within n (graph.Bind l f ns) h = (h.0, h.1, refs_within ns h.2)
    present_within n (graph.At t) h = tt
    present_within n (graph.Steps v ss) h = h
    present_within n graph.Now h = tt
    present_within n (graph.Every base span) h = tt
    present_within n (graph.Freeze k f) h = frozen_within n k h.1 (G.frozen n) refl
    present_within n (graph.Expert f v ns) h = (h.0, h.1, refs_within (G.lists n) (keeping.lists n))

    pub names_kept : Names P Q G
    names_kept = record { live = keeping.live; reads = λ n r e. present_within n r.def (keeping.defs n r e); scope = keeping.scope }
