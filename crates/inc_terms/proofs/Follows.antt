-- What one graph answers at some depth, where another has an answer.
use Rattle.std.proofs.Common.{◌≡◌, ℕ, suc, ◌+◌, ◌≤◌, List, Option, None, Some, refl, arith}
use Rattle.inc_value.specs.declared.node.NodeId.{NodeId}
use Rattle.inc_value.specs.declared.outcome.Outcome.{Outcome}
use Rattle.inc_value.specs.declared.outcome.Outcome.TheVariants.{Val, Invalid}
use Rattle.inc_value.specs.declared.value.Value.{Value}
use Rattle.inc_value.specs.Choice.{Every}
use Rattle.inc_terms.specs.Term.{Term, Terms, More, Functions}
use Rattle.inc_terms.specs.Graph.{Graph}
use Rattle.inc_terms.specs.Within.{ValueWithin, OutcomeWithin}
use Rattle.inc_terms.specs.Evaluate.{Query, Of, Gathered, Unknown, SomeInvalid, Values, joined, gathered, given, with_value, chosen, level, answer}
use Rattle.inc_terms.proofs.Evaluation.{at_depth, gathered_at}

-- what is answered at some depth of f, where there is an answer
abbrev pub Follows : (NodeId → Type 0) → (ℕ → Option Outcome) → Option Outcome → Type 0
Follows P f None = Unit {0}
Follows P f (Some o) = ((d : ℕ) × (f d ≡ Some o)) × OutcomeWithin P o

abbrev pub Stays : (ℕ → Option Outcome) → Type 0
Stays f = (d e : ℕ) (o : Outcome) → d ≤ e → f d ≡ Some o → f e ≡ Some o

pub with_follows : (P : NodeId → Type 0) (f : ℕ → Option Outcome) (g : ℕ → Value → Option Outcome) (a : Option Outcome)
    (next : Value → Option Outcome)
    → Stays f → ((v : Value) → Stays (λ d. g d v)) → Follows P f a
    → ((v : Value) → ValueWithin P v → a ≡ Some (Val v) → Follows P (λ d. g d v) (next v))
    → Follows P (λ d. with_value (f d) (g d)) (with_value a next)
with_follows P f g None next sf sg p q = tt
with_follows P f g (Some Invalid) next sf sg p q = ((p.0.0, rw p.0.1 refl), tt)
with_follows P f g (Some (Val v)) next sf sg p q = after (next v) (q v p.1 refl)
  where
    after : (b : Option Outcome) → Follows P (λ d. g d v) b → Follows P (λ d. with_value (f d) (g d)) b
    after None h = tt
    after (Some o) h =
        let d : ℕ = p.0.0 + h.0.0 in
        let le : p.0.0 ≤ d = omega arith in
        let le' : h.0.0 ≤ d = omega arith in
        let first : f d ≡ Some (Val v) = sf p.0.0 d (Val v) le p.0.1 in
        let second : g d v ≡ Some o = sg v h.0.0 d o le' h.0.1 in
        ((d, rw (first, second) refl), h.1)

module _ (F : Functions) (G' : Graph) (P : NodeId → Type 0) where
  -- what the second graph answers follows what the first answered
  abbrev pub After : Query → Option Outcome → Type 0
  After q a = Follows P (λ d. answer F G' d q) a

  abbrev pub GathersAfter : Terms → Gathered → Type 0
  GathersAfter us Unknown = Unit {0}
  GathersAfter us SomeInvalid = (d : ℕ) × (gathered (answer F G' d) us ≡ SomeInvalid)
  GathersAfter us (Values vs) = ((d : ℕ) × (gathered (answer F G' d) us ≡ Values vs)) × Every (ValueWithin P) vs

  pub joined_after : (u : Term) (us : Terms) (a : Option Outcome) (g : Gathered) → After (Of u) a → GathersAfter us g
      → GathersAfter (More u us) (joined a g)
  joined_after u us None g p q = tt
  joined_after u us (Some Invalid) Unknown p q = tt
  joined_after u us (Some Invalid) SomeInvalid p q =
      let d : ℕ = p.0.0 + q.0 in
      let first = at_depth F G' p.0.0 d (Of u) Invalid (omega arith) p.0.1 in
      let second = rw q.1 at (gathered_at F G' q.0 d us (omega arith)) in
      (d, rw (first, second) refl)
  joined_after u us (Some Invalid) (Values vs) p q =
      let d : ℕ = p.0.0 + q.0.0 in
      let first = at_depth F G' p.0.0 d (Of u) Invalid (omega arith) p.0.1 in
      let second = rw q.0.1 at (gathered_at F G' q.0.0 d us (omega arith)) in
      (d, rw (first, second) refl)
  joined_after u us (Some (Val v)) Unknown p q = tt
  joined_after u us (Some (Val v)) SomeInvalid p q =
      let d : ℕ = p.0.0 + q.0 in
      let first = at_depth F G' p.0.0 d (Of u) (Val v) (omega arith) p.0.1 in
      let second = rw q.1 at (gathered_at F G' q.0 d us (omega arith)) in
      (d, rw (first, second) refl)
  joined_after u us (Some (Val v)) (Values vs) p q =
      let d : ℕ = p.0.0 + q.0.0 in
      let first = at_depth F G' p.0.0 d (Of u) (Val v) (omega arith) p.0.1 in
      let second = rw q.0.1 at (gathered_at F G' q.0.0 d us (omega arith)) in
      ((d, rw (first, second) refl), (p.1, q.1))

  -- one depth more
  pub lifted : (q : Query) (a : Option Outcome) → Follows P (λ d. level F G' (answer F G' d) q) a → After q a
  unfolding answer
  lifted q None h = tt
  lifted q (Some o) h = ((suc h.0.0, h.0.1), h.1)

  pub given_after : (f : List Value → Value) → ((vs : List Value) → Every (ValueWithin P) vs → ValueWithin P (f vs))
      → (us : Terms) (g : Gathered) → GathersAfter us g
      → Follows P (λ d. given f (gathered (answer F G' d) us)) (given f g)
  given_after f ok us Unknown h = tt
  given_after f ok us SomeInvalid h = ((h.0, rw h.1 refl), tt)
  given_after f ok us (Values vs) h = ((h.0.0, rw h.0.1 refl), ok vs h.1)

pub chosen_stays : (F : Functions) (G : Graph) (c : Option Term) → Stays (λ d. chosen (answer F G d) c)
chosen_stays F G None d e o le h = h
chosen_stays F G (Some t) d e o le h = at_depth F G d e (Of t) o le h
