-- An item makes one visit at most.
use Rattle.std.proofs.Common.{◌≡◌, inl, inr, ℕ, ◌≤◌, List, [], ◌∷◌, length, Option, None, Some, sym, subst, ◌∙◌, arith}
use Rattle.std.proofs.lemmas.Bool.{cases_lt}
use Rattle.inc_value.specs.Choice.{Among}
use Rattle.script_model.specs.Evaluate.{Gathered, Unknown, SomeInvalid, Values, gathered, each_of, value_at}
use Rattle.script_model.specs.Formula.{Formula, Body, State, Meanings, body_at, Apply, Fold, Freeze, Expert}
use Rattle.script_model.specs.Laws.{OneVisit}
use Rattle.script_model.specs.Need.{Item, Named, Place, environment, formula_at, Visit, once, visit_with, formula_visits, body_visits, visits_at}
use Rattle.script_model.specs.Values.{Value}
use Rattle.script_model.proofs.Evaluation.{GathersUnder, gathered_under, each_under, links_under, value_more}

-- ---- a visit stays at every greater depth

with_more : (s : State) (i : Item) (cost : List Value → ℕ) (g h : Gathered) (v : Visit) → GathersUnder g h → Among v (visit_with s i cost g)
    → Among v (visit_with s i cost h)
with_more s i cost Unknown h v under none = absurd none
with_more s i cost SomeInvalid h v under none = absurd none
with_more s i cost (Values values) h v under is = rw under is

module _ (F : Meanings) (s : State) (d e : ℕ) (le : d ≤ e) (v : Visit) where
  formula_more : (i : Item) (E : List Value) (f : Option Formula) → Among v (formula_visits s i (value_at F s d E) f)
      → Among v (formula_visits s i (value_at F s e E) f)
  formula_more i E (Some (Apply f fs)) is =
      with_more s i once _ _ v
      (gathered_under (each_of (value_at F s d E) fs) (each_of (value_at F s e E) fs)
      (each_under F s (value_at F s d) (value_at F s e) (λ E f. value_more F s d e E f le) E fs)) is
  formula_more i E (Some (Fold f first fs)) is =
      with_more s i length _ _ v
      (gathered_under (each_of (value_at F s d E) fs) (each_of (value_at F s e E) fs)
      (each_under F s (value_at F s d) (value_at F s e) (λ E f. value_more F s d e E f le) E fs)) is
  formula_more i E f none = absurd none

  body_more : (i : Item) (b : Option Body) → Among v (body_visits F s d i b) → Among v (body_visits F s e i b)
  body_more i (Some (Freeze child predicate None)) is =
      with_more s i once _ _ v (gathered_under (value_at F s d [] child ∷ []) (value_at F s e [] child ∷ []) (value_more F s d e [] child le, tt)) is
  body_more i (Some (Expert f first links stale)) is =
      with_more s i length _ _ v (gathered_under _ _ (links_under F s (value_at F s d) (value_at F s e) (λ E f. value_more F s d e E f le) links)) is
  body_more i b none = absurd none

  visits_more : (i : Item) → Among v (visits_at F s d i) → Among v (visits_at F s e i)
  visits_more (Named n) is = body_more (Named n) (body_at s n) is
  visits_more (Place owner path) is = formula_more (Place owner path) (environment path) (formula_at s owner path) is

-- ---- and is one of one

one_with : (s : State) (i : Item) (cost : List Value → ℕ) (g : Gathered) (v w : Visit) → Among v (visit_with s i cost g)
    → Among w (visit_with s i cost g) → v ≡ w
one_with s i cost (Values values) v w (inl a) (inl b) = a ∙ sym b
one_with s i cost (Values values) v w (inr a) b = absurd a
one_with s i cost (Values values) v w a (inr b) = absurd b
one_with s i cost g v w a b = absurd a

module _ (F : Meanings) (s : State) (d : ℕ) (v w : Visit) where
  one_of_formula : (i : Item) (part : Formula → Option _) (f : Option Formula) → Among v (formula_visits s i part f)
      → Among w (formula_visits s i part f) → v ≡ w
  one_of_formula i part (Some (Apply f fs)) a b = one_with s i once (gathered (each_of part fs)) v w a b
  one_of_formula i part (Some (Fold f first fs)) a b = one_with s i length (gathered (each_of part fs)) v w a b
  one_of_formula i part f a b = absurd a

  one_of_body : (i : Item) (body : Option Body) → Among v (body_visits F s d i body) → Among w (body_visits F s d i body) → v ≡ w
  one_of_body i (Some (Freeze child predicate None)) a b = one_with s i once _ v w a b
  one_of_body i (Some (Expert f first links stale)) a b = one_with s i length _ v w a b
  one_of_body i body a b = absurd a

  one_of_item : (i : Item) → Among v (visits_at F s d i) → Among w (visits_at F s d i) → v ≡ w
  one_of_item (Named n) a b = one_of_body (Named n) (body_at s n) a b
  one_of_item (Place owner path) a b = one_of_formula (Place owner path) (value_at F s d (environment path)) (formula_at s owner path) a b

one_at : (F : Meanings) (s : State) (v w : Visit) (d e : ℕ) (i : Item) → Among v (visits_at F s d i) → Among w (visits_at F s e i) → v ≡ w
one_at F s v w d e i a b = elim (cases_lt d e) [
  | inl below ↦ one_of_item F s e v w i (visits_more F s d e (omega arith) v i a) b
  | inr above ↦ one_of_item F s d v w i a (visits_more F s e d above w i b)
]

pub one_visit : OneVisit
one_visit F s v w a b same = one_at F s v w a.0 b.0 w.item (subst (λ i. Among v (visits_at F s a.0 i)) same a.1) b.1
