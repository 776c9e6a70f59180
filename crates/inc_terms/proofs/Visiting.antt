-- Visits of maps are their evaluation.
use Rattle.std.proofs.Common.{◌≡◌, ◌⊎◌, inl, inr, ℕ, zero, suc, List, [], ◌∷◌, Option, None, Some, Bool, true}
use Rattle.std.proofs.Common.{false, cond, refl}
use Rattle.inc_value.specs.declared.function.FnRef.{FnRef}
use Rattle.inc_value.specs.declared.node.NodeId.{NodeId}
use Rattle.inc_value.specs.declared.outcome.Outcome.{Outcome}
use Rattle.inc_value.specs.declared.outcome.Outcome.TheVariants.{Val, Invalid}
use Rattle.inc_value.specs.declared.value.Value.{Value}
use Rattle.inc_value.specs.declared.value.Value.TheVariants as value
use Rattle.inc_value.specs.Choice.{and_then}
use Rattle.inc_terms.specs.Same.{same_outcome}
use Rattle.inc_terms.specs.Term.{Ref, Map, Functions, refs}
use Rattle.inc_terms.specs.Graph as graph
use Rattle.inc_terms.specs.Graph.{Graph, Row, Built, Def, present}
use Rattle.inc_terms.specs.Evaluate.{Query, Of, Around, Gathered, Unknown, SomeInvalid, Values, joined, gathered, given}
use Rattle.inc_terms.specs.Evaluate.{with_value, as_built, left_holds, bind_holds, answer, Gives}
use Rattle.inc_terms.specs.Evaluate.{NodeGives, Stands, GiveAll}
use Rattle.inc_terms.specs.Work.{Visit, IsVisit, MapVisits}
use Rattle.inc_terms.proofs.Follows.{GathersAfter, joined_after}
use Rattle.inc_terms.proofs.Local.{present_gives}
use Rattle.inc_terms.proofs.Unfolding.{Any, any_value}

-- ---- a scope answers true or Invalid

abbrev ScopeOutcome : Option Outcome → Type 0
ScopeOutcome None = Unit {0}
ScopeOutcome (Some o) = (o ≡ Val (value.Bool true)) ⊎ (o ≡ Invalid)

built_outcome : (w : Option Built) (o : Outcome) → ScopeOutcome (as_built w o)
built_outcome None o = inr refl
built_outcome (Some w) o = picked (same_outcome o w.outcome)
  where
    picked : (t : Bool) → ScopeOutcome (cond t (Some (Val (value.Bool true))) (Some Invalid))
    picked true = inl refl
    picked false = inr refl

left_outcome : (part : Query → Option Outcome) (w : Option Built) (def : Def) → ScopeOutcome (left_holds part w def)
left_outcome part w (graph.Bind l f caps) = after (part (Of (Ref l)))
  where
    after : (a : Option Outcome) → ScopeOutcome (and_then a (as_built w))
    after None = tt
    after (Some o) = built_outcome w o
left_outcome part w _ = inr refl

bind_outcome : (part : Query → Option Outcome) (w : Option Built) (x : Option Row) → ScopeOutcome (bind_holds part w x)
bind_outcome part w None = inr refl
bind_outcome part w (Some r) = after (part (Around r.scope))
  where
    after : (a : Option Outcome) → ScopeOutcome (with_value a (λ (t : Value). left_holds part w r.def))
    after None = tt
    after (Some Invalid) = inr refl
    after (Some (Val v)) = left_outcome part w r.def

scope_outcome : (F : Functions) (G : Graph) (d : ℕ) (S : Option NodeId) → ScopeOutcome (answer F G d (Around S))
unfolding answer
scope_outcome F G zero S = tt
scope_outcome F G (suc d) None = inl refl
scope_outcome F G (suc d) (Some b) = bind_outcome (answer F G d) (G.built b) (G.row b)

-- ---- what arguments give

module _ (F : Functions) (G : Graph) where
  gather_all : (ns : List NodeId) (vs : List Value) → GiveAll F G ns vs → GathersAfter F G Any (refs ns) (Values vs)
  gather_all [] [] h = ((0, refl), tt)
  gather_all [] (v ∷ vs) h = absurd h
  gather_all (n ∷ ns) [] h = absurd h
  gather_all (n ∷ ns) (v ∷ vs) h =
      joined_after F G Any (Ref n) (refs ns) (Some (Val v)) (Values vs) ((h.0.0, h.0.1), any_value v) (gather_all ns vs h.1)

  one_more : (d : ℕ) (n : NodeId) (ns : List NodeId) (a : Option Outcome) → answer F G d (Of (Ref n)) ≡ a → (g : Gathered)
      → ((ws : List Value) → g ≡ Values ws → GiveAll F G ns ws) → (vs : List Value) → joined a g ≡ Values vs → GiveAll F G (n ∷ ns) vs
  one_more d n ns None ea g ih vs e = absurd (cc)
  one_more d n ns (Some Invalid) ea Unknown ih vs e = absurd (cc)
  one_more d n ns (Some Invalid) ea SomeInvalid ih vs e = absurd (cc)
  one_more d n ns (Some Invalid) ea (Values ws) ih vs e = absurd (cc)
  one_more d n ns (Some (Val v)) ea Unknown ih vs e = absurd (cc)
  one_more d n ns (Some (Val v)) ea SomeInvalid ih vs e = absurd (cc)
  one_more d n ns (Some (Val v)) ea (Values ws) ih [] e = absurd (cc)
  one_more d n ns (Some (Val v)) ea (Values ws) ih (x ∷ xs) e =
      let first : v ≡ x = cc in
      let rest : ws ≡ xs = cc in
      ((d, rw (← first) ea), rw (← rest) (ih ws refl))

  all_given : (d : ℕ) (ns : List NodeId) (vs : List Value) → gathered (answer F G d) (refs ns) ≡ Values vs → GiveAll F G ns vs
  all_given d [] [] e = tt
  all_given d [] (v ∷ vs) e = absurd (cc)
  all_given d (n ∷ ns) vs e =
      one_more d n ns (answer F G d (Of (Ref n))) refl (gathered (answer F G d) (refs ns)) (λ ws ew. all_given d ns ws ew) vs e

  -- ---- a map

  module _ (n : NodeId) (r : Row) (f : FnRef) (ns : List NodeId) (row : G.row n ≡ Some r) (def : r.def ≡ graph.Map f ns) where
    called : (vs : List Value) → GiveAll F G ns vs → Gives F G (Of (Map f (refs ns))) (Val (F.value f vs))
    unfolding answer
    called vs h = let g = gather_all ns vs h in (suc g.0.0, rw g.0.1 refl)

    evaluated : (vs : List Value) → Stands F G r.scope → GiveAll F G ns vs → NodeGives F G n (Val (F.value f vs))
    evaluated vs st h = present_gives F G n r (Val (F.value f vs)) row st (rw def (called vs h))

    pub visit_gives : (v : Visit) → IsVisit F G v → v.node ≡ n → NodeGives F G n (Val (F.value f v.values))
    visit_gives v visit at_n =
        let row' : G.row v.node ≡ Some r = rw at_n row in
        let rows : visit.row ≡ r = (let x = visit.is_row in cc) in
        evaluated v.values (rw (← rows) visit.stands) (let x = visit.values in rw (rows, def) at x)

    abbrev Visits : Value → Type 0
    Visits w = (v : Visit) × IsVisit F G v × (v.node ≡ n) × (F.value f v.values ≡ w)

    visited : (w : Value) (vs : List Value) → Stands F G r.scope → GiveAll F G ns vs → F.value f vs ≡ w → Visits w
    visited w vs st h e =
        (record { node = n; values = vs; cost = 1 }, record { row = r; is_row = row; stands = st; values = rw def h; cost = rw def refl }, refl, e)

    by_arguments : (d : ℕ) (w : Value) → Stands F G r.scope → (g : Gathered) → gathered (answer F G d) (refs ns) ≡ g
        → given (F.value f) g ≡ Some (Val w) → Visits w
    by_arguments d w st Unknown eg e = absurd (cc)
    by_arguments d w st SomeInvalid eg e = absurd (cc)
    by_arguments d w st (Values vs) eg e = visited w vs st (all_given d ns vs eg) (cc)

    by_present : (d : ℕ) (w : Value) → Stands F G r.scope → answer F G d (Of (Map f (refs ns))) ≡ Some (Val w) → Visits w
    unfolding answer
    by_present zero w st e = absurd (cc)
    by_present (suc d) w st e = by_arguments d w st (gathered (answer F G d) (refs ns)) refl e

    by_scope : (d : ℕ) (w : Value) (a : Option Outcome) → answer F G d (Around r.scope) ≡ a → ScopeOutcome a
        → with_value a (λ (t : Value). answer F G d (Of (present G n r))) ≡ Some (Val w) → Visits w
    by_scope d w None ea so e = absurd (cc)
    by_scope d w (Some Invalid) ea so e = absurd (cc)
    by_scope d w (Some (Val t)) ea (inr i) e = absurd (cc)
    by_scope d w (Some (Val t)) ea (inl i) e = by_present d w (d, rw ea (rw i refl)) (let x = e in rw def at x)

    pub gives_visit : (w : Value) → NodeGives F G n (Val w) → Visits w
    unfolding answer
    gives_visit w (zero, e) = absurd (cc)
    gives_visit w (suc d, e) = by_scope d w (answer F G d (Around r.scope)) refl (scope_outcome F G d r.scope) (rw row at e)

pub map_visits : MapVisits
map_visits F G n r f ns row def = ((λ v visit e. visit_gives F G n r f ns row def v visit e), (λ w g. gives_visit F G n r f ns row def w g))
