-- What evaluation gives stays the same at every greater depth.
use Rattle.std.proofs.Common.{◌≡◌, inl, inr, ℕ, zero, suc, ◌≤◌, Bool, true, false, List, [], ◌∷◌, map, Option, None, Some, refl, ◌∙◌, arith}
use Rattle.std.proofs.lemmas.Bool.{cases_lt}
use Rattle.inc_value.specs.Choice.{and_then}
use Rattle.script_model.specs.Values.{Value, Outcome, Val, Invalid, same_value}
use Rattle.script_model.specs.Formula.{Formula, Formulas, Body, Entry, State, Meanings, entry_at, bind_at, Literal, Name, Bound, Apply, Fold, If, Join, Bind, At, Steps, Now, End, More, Variable, Computed, Freeze, After, Every, Expert, Grab}
use Rattle.script_model.specs.Evaluate.{Gathered, Unknown, SomeInvalid, Values, joined, gathered, each_of, given, fold_from, with_value, while_built, or_invalid, chosen, truth_of, target_of, level, body_level, name_level, value_at}
use Rattle.script_model.specs.Laws.{EveryDepthAgrees, OneOutcome}

-- where there is an answer, it stays
abbrev pub Under : {A : Type 0} → Option A → Option A → Type 0
Under None b = Unit {0}
Under (Some x) b = b ≡ Some x

abbrev pub GathersUnder : Gathered → Gathered → Type 0
GathersUnder Unknown b = Unit {0}
GathersUnder SomeInvalid b = b ≡ SomeInvalid
GathersUnder (Values values) b = b ≡ Values values

abbrev pub EachUnder : List (Option Outcome) → List (Option Outcome) → Type 0
EachUnder [] [] = Unit {0}
EachUnder [] (b ∷ bs) = ⊥
EachUnder (a ∷ rest) [] = ⊥
EachUnder (a ∷ rest) (b ∷ bs) = Under a b × EachUnder rest bs

pub under_refl : {A : Type 0} (a : Option A) → Under a a
under_refl None = tt
under_refl (Some x) = refl

pub under_trans : {A : Type 0} (a b c : Option A) → Under a b → Under b c → Under a c
under_trans None b c p q = tt
under_trans (Some x) None c p q = absurd (cc)
under_trans (Some x) (Some y) c p q = q ∙ p

joined_under : (a b : Option Outcome) (g h : Gathered) → Under a b → GathersUnder g h → GathersUnder (joined a g) (joined b h)
joined_under None b g h p q = tt
joined_under (Some Invalid) b Unknown h p q = tt
joined_under (Some Invalid) b SomeInvalid h p q = rw (p, q) refl
joined_under (Some Invalid) b (Values vs) h p q = rw (p, q) refl
joined_under (Some (Val v)) b Unknown h p q = tt
joined_under (Some (Val v)) b SomeInvalid h p q = rw (p, q) refl
joined_under (Some (Val v)) b (Values vs) h p q = rw (p, q) refl

pub gathered_under : (xs ys : List (Option Outcome)) → EachUnder xs ys → GathersUnder (gathered xs) (gathered ys)
gathered_under [] [] h = refl
gathered_under [] (y ∷ ys) h = absurd h
gathered_under (x ∷ xs) [] h = absurd h
gathered_under (x ∷ xs) (y ∷ ys) h = joined_under x y (gathered xs) (gathered ys) h.0 (gathered_under xs ys h.1)

given_under : (f : List Value → Value) (g h : Gathered) → GathersUnder g h → Under (given f g) (given f h)
given_under f Unknown h q = tt
given_under f SomeInvalid h q = rw q refl
given_under f (Values vs) h q = rw q refl

pub each_given_under : (f : List Value → Value) (xs ys : List (Option Outcome)) → EachUnder xs ys → Under (given f (gathered xs)) (given f (gathered ys))
each_given_under f xs ys h = given_under f (gathered xs) (gathered ys) (gathered_under xs ys h)

with_value_under : (a b : Option Outcome) (f g : Value → Option Outcome) → Under a b → ((v : Value) → Under (f v) (g v)) → Under (with_value a f) (with_value b g)
with_value_under None b f g p next = tt
with_value_under (Some Invalid) b f g p next = rw p refl
with_value_under (Some (Val v)) b f g p next = rw p (next v)

and_then_under : {A : Type 0} (o : Option A) (f g : A → Option Outcome) → ((x : A) → Under (f x) (g x)) → Under (and_then o f) (and_then o g)
and_then_under None f g next = tt
and_then_under (Some x) f g next = next x

or_invalid_under : {A : Type 0} (o : Option A) (f g : A → Option Outcome) → ((x : A) → Under (f x) (g x)) → Under (or_invalid o f) (or_invalid o g)
or_invalid_under None f g next = refl
or_invalid_under (Some x) f g next = next x

chosen_under : (c : Bool) (a b o p : Option Outcome) → Under a o → Under b p → Under (chosen c a b) (chosen c o p)
chosen_under true a b o p h k = h
chosen_under false a b o p h k = k

while_built_under : (v : Value) (a b x y : Option Outcome) → Under a b → Under x y → Under (while_built v a x) (while_built v b y)
while_built_under v None b x y p q = tt
while_built_under v (Some Invalid) b x y p q = rw p refl
while_built_under v (Some (Val w)) b x y p q = rw p (chosen_under (same_value v w) x (Some Invalid) y (Some Invalid) q refl)

module _ (F : Meanings) (s : State) (r r' : List Value → Formula → Option Outcome) (part : (E : List Value) (f : Formula) → Under (r E f) (r' E f)) where
  pub each_under : (E : List Value) (fs : Formulas) → EachUnder (each_of (r E) fs) (each_of (r' E) fs)
  each_under E End = tt
  each_under E (More f rest) = (part E f, each_under E rest)

  pub links_under : (links : List ℕ) → EachUnder (map (λ n. r [] (Name n)) links) (map (λ n. r' [] (Name n)) links)
  links_under [] = tt
  links_under (n ∷ links) = (part [] (Name n), links_under links)

  body_under : (b : Body) → Under (body_level F s r b) (body_level F s r' b)
  body_under (Variable v) = refl
  body_under (Computed f kept) = part [] f
  body_under (Freeze child p None) = part [] child
  body_under (Freeze child p (Some v)) = refl
  body_under (After t) = refl
  body_under (Every base span) = refl
  body_under (Expert f first links stale) = each_given_under (fold_from F f first) _ _ (links_under links)
  body_under (Grab bind v true) = and_then_under (bind_at s bind) _ _ (λ b. while_built_under v (r [] b.0) (r' [] b.0) (r (v ∷ []) b.1) (r' (v ∷ []) b.1) (part [] b.0) (part (v ∷ []) b.1))
  body_under (Grab bind v false) = refl

  name_under : (e : Option Entry) → Under (name_level F s r e) (name_level F s r' e)
  name_under None = refl
  name_under (Some e) = body_under e.body

  pub level_under : (E : List Value) (f : Formula) → Under (level F s r E f) (level F s r' E f)
  level_under E (Literal v) = refl
  level_under E (Name n) = name_under (entry_at s n)
  level_under E (Bound k) = under_refl (level F s r E (Bound k))
  level_under E (Apply f arguments) = each_given_under (F.value f) _ _ (each_under E arguments)
  level_under E (Fold f first elements) = each_given_under (fold_from F f first) _ _ (each_under E elements)
  level_under E (If test a b) = with_value_under (r E test) (r' E test) _ _ (part E test) (λ v. or_invalid_under (truth_of v) _ _ (λ t. part E (chosen t a b)))
  level_under E (Join child) = with_value_under (r E child) (r' E child) _ _ (part E child) (λ v. or_invalid_under (target_of v) _ _ (λ n. part [] (Name n)))
  level_under E (Bind left body) = with_value_under (r E left) (r' E left) _ _ (part E left) (λ v. part (v ∷ E) body)
  level_under E (At t) = refl
  level_under E (Steps first steps) = refl
  level_under E Now = refl

value_deeper : (F : Meanings) (s : State) (d : ℕ) (E : List Value) (f : Formula) → Under (value_at F s d E f) (value_at F s (suc d) E f)
unfolding value_at
value_deeper F s zero E f = tt
value_deeper F s (suc d) E f = level_under F s (value_at F s d) (value_at F s (suc d)) (value_deeper F s d) E f

-- every greater depth gives the same
pub value_more : (F : Meanings) (s : State) (d e : ℕ) (E : List Value) (f : Formula) → d ≤ e → Under (value_at F s d E f) (value_at F s e E f)
value_more F s zero zero E f le = under_refl (value_at F s zero E f)
value_more F s (suc d) zero E f le = absurd (omega arith)
value_more F s d (suc e) E f le = elim (cases_lt e d) [
  | inl past ↦ let same : suc e ≡ d = omega arith in rw same (under_refl (value_at F s d E f))
  | inr within ↦ under_trans (value_at F s d E f) (value_at F s e E f) (value_at F s (suc e) E f) (value_more F s d e E f within) (value_deeper F s e E f)
]

pub every_depth_agrees : EveryDepthAgrees
every_depth_agrees F s d e E f o le gives = rw gives at (value_more F s d e E f le)

-- at some depth where both answer
pub one_outcome : OneOutcome
one_outcome F s E f o p g h = elim (cases_lt g.0 h.0) [
  | inl below ↦ let le : g.0 ≤ h.0 = omega arith in let more = every_depth_agrees F s g.0 h.0 E f o le g.1 in let k = h.1 in cc
  | inr above ↦ let more = every_depth_agrees F s h.0 g.0 E f p above h.1 in let k = g.1 in cc
]
