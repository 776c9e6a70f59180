-- What evaluation gives has the type of what gives it.
use Rattle.std.proofs.Common.{◌≡◌, ℕ, zero, suc, ◌<◌, ◌≤◌, ◌^◌, ◌-◌, ◌/◌, pos, cond, Bool, true, false, nat_le, List, [], ◌∷◌, map, length, slice_get, Option, None, Some, option_map, refl, ◌∙◌, arith}
use Rattle.std.proofs.lemmas.Option.{slice_get_within}
use Rattle.inc_value.specs.Ty.{IsBase, type_of_base}
use Rattle.inc_value.specs.declared.function.FnRef.{FnRef}
use Rattle.inc_value.specs.declared.ty.Base.{Base}
use Rattle.inc_value.specs.declared.ty.Ty.TheVariants as ty
use Rattle.inc_value.specs.declared.ty.Ty.{Ty}
use Rattle.inc_value.specs.Choice as choice
use Rattle.inc_value.specs.Choice.{and_then}
use Rattle.script_model.specs.Values as value
use Rattle.script_model.specs.Values.{Value, Reference, Outcome, Val, Invalid, type_of, IsProper, same_value}
use Rattle.script_model.specs.Formula.{Formula, Formulas, TimedValue, Body, Entry, State, Meanings, entry_at, bind_at, Literal, Name, Bound, Apply, Fold, If, Join, Bind, At, Steps, Now, End, More, Variable, Computed, Freeze, After, Every, Expert, Grab}
use Rattle.script_model.specs.Evaluate.{Gathered, Unknown, SomeInvalid, Values, joined, gathered, each_of, given, fold_from, with_value, while_built, or_invalid, chosen, truth_of, target_of, stepped, level, body_level, name_level, value_at}
use Rattle.script_model.specs.Laws.{ValuesHaveTypes, DeclarationsHaveTypes}
use Rattle.script_model.specs.Valid.{NameHasType, IsKnown, ValueHasType, OutcomeHasType, StepsHaveType, BoundsFit, IsNamed, FoldsOver, HasType, ArgumentsHaveTypes, ElementsHaveType, GrabFits, BodyHasType, Valid, HaveTypes, KeepToTypes}
use Rattle.script_model.proofs.Places.{same_values}

-- ---- what is known

-- what a value names stands among all declarations
known_wider : (s : State) (n : ℕ) (v : Value) → IsKnown s n v → IsKnown s (length s.entries) v
known_wider s n (Reference target base) h =
    record { entry = h.entry; earlier = slice_get_within s.entries target h.entry h.stands; stands = h.stands; typed = h.typed; own = h.own }
known_wider s n v h = h

pub typed_wider : (s : State) (n : ℕ) (v : Value) (t : Ty) → ValueHasType s n v t → ValueHasType s (length s.entries) v t
typed_wider s n v t h = (h.0, known_wider s n v h.1)

known_is_proper : (s : State) (n : ℕ) (v : Value) → IsKnown s n v → IsProper v
known_is_proper s n (Reference target base) h = tt
known_is_proper s n v h = h

proper_is_known : (s : State) (n : ℕ) (v : Value) → IsBase (type_of v) → IsProper v → IsKnown s n v
proper_is_known s n (Reference target base) is_base proper = absurd is_base
proper_is_known s n v is_base proper = proper

-- a value of the type, among all declarations
abbrev pub Has : State → Value → Ty → Type 0
Has s v t = ValueHasType s (length s.entries) v t

pub fits_have : (s : State) (vs : List Value) (tys : List Ty) → BoundsFit s vs tys → HaveTypes vs tys
fits_have s [] [] h = tt
fits_have s [] (t ∷ tys) h = absurd h
fits_have s (v ∷ vs) [] h = absurd h
fits_have s (v ∷ vs) (t ∷ tys) h = (h.0.0, known_is_proper s (length s.entries) v h.0.1, fits_have s vs tys h.1)

bound_has : (s : State) (E : List Value) (bounds : List Ty) (k : ℕ) (t : Ty) (o : Outcome) → BoundsFit s E bounds
    → slice_get bounds k ≡ Some t → option_map (λ v. Val v) (slice_get E k) ≡ Some o → OutcomeHasType s o t
bound_has s [] bounds k t o fit there is = absurd (cc)
bound_has s (v ∷ E) [] k t o fit there is = absurd fit
bound_has s (v ∷ E) (u ∷ bounds) zero t o fit there is = let same : o ≡ Val v = cc in let types : u ≡ t = cc in rw (same, ← types) fit.0
bound_has s (v ∷ E) (u ∷ bounds) (suc k) t o fit there is = bound_has s E bounds k t o fit.1 there is

-- ---- times

clock_is_typed : (s : State) (x : ℕ) → x ≤ s.now → s.now < 2 ^ 63 → Has s (value.Int (pos x)) ty.Int
clock_is_typed s x le now = (refl, grind arith)

stepped_has : (s : State) (n now : ℕ) (v : Value) (steps : List TimedValue) (t : Ty) → ValueHasType s n v t
    → StepsHaveType s n steps t → ValueHasType s n (stepped now v steps) t
stepped_has s n now v [] t first h = first
stepped_has s n now v (a ∷ []) t first h = go (nat_le a.time now)
  where
    go : (c : Bool) → ValueHasType s n (cond c a.value v) t
    go true = h
    go false = first
stepped_has s n now v (a ∷ b ∷ steps) t first h = go (nat_le a.time now) (stepped_has s n now a.value (b ∷ steps) t h.0 h.2)
  where
    go : (c : Bool) → ValueHasType s n (stepped now a.value (b ∷ steps)) t → ValueHasType s n (cond c (stepped now a.value (b ∷ steps)) v) t
    go true later = later
    go false later = first

-- ---- functions

pub applied_has : (F : Meanings) (s : State) → KeepToTypes F → (f : FnRef) (t : Ty) (vs : List Value) → IsNamed F f
    → f.sig.gives ≡ t → HaveTypes vs f.sig.takes → Has s (F.value f vs) t
applied_has F s keep f t vs named gives have =
    let kept = keep named.0 f named.1 in
    let given = kept.2 vs have in
    (given.0 ∙ gives, proper_is_known s (length s.entries) (F.value f vs) (rw given.0 kept.0) given.1)

pub pair_has : (s : State) (f : FnRef) (t element : Ty) (v w : Value) → FoldsOver f t element → Has s v t → Has s w element
    → HaveTypes (v ∷ w ∷ []) f.sig.takes
pair_has s f t element v w over first second = rw over.0 (fits_have s (v ∷ w ∷ []) (t ∷ element ∷ []) (first, (second, tt)))

folded_has : (F : Meanings) (s : State) → KeepToTypes F → (f : FnRef) (t element : Ty) → IsNamed F f → FoldsOver f t element
    → (v : Value) (vs : List Value)
    → Has s v t → choice.Every (λ w. Has s w element) vs → Has s (fold_from F f v vs) t
folded_has F s keep f t element named over v [] first rest = first
folded_has F s keep f t element named over v (w ∷ vs) first rest =
    let next = applied_has F s keep f t (v ∷ w ∷ []) named over.1 (pair_has s f t element v w over first rest.0) in
    folded_has F s keep f t element named over (F.value f (v ∷ w ∷ [])) vs next rest.1

-- ---- several outcomes

-- the property holds of the values, where all of them are there
abbrev pub GatheredAre : (List Value → Type 0) → Gathered → Type 0
GatheredAre P Unknown = Unit {0}
GatheredAre P SomeInvalid = Unit {0}
GatheredAre P (Values vs) = P vs

pub joined_are : (P Q : List Value → Type 0) (a : Option Outcome) (g : Gathered)
    → ((v : Value) (vs : List Value) → a ≡ Some (Val v) → P vs → Q (v ∷ vs)) → GatheredAre P g → GatheredAre Q (joined a g)
joined_are P Q None g more h = tt
joined_are P Q (Some Invalid) Unknown more h = tt
joined_are P Q (Some Invalid) SomeInvalid more h = tt
joined_are P Q (Some Invalid) (Values vs) more h = tt
joined_are P Q (Some (Val v)) Unknown more h = tt
joined_are P Q (Some (Val v)) SomeInvalid more h = tt
joined_are P Q (Some (Val v)) (Values vs) more h = more v vs refl h

given_has : (s : State) (P : List Value → Type 0) (f : List Value → Value) (t : Ty) (g : Gathered) (o : Outcome)
    → ((vs : List Value) → P vs → Has s (f vs) t) → GatheredAre P g → given f g ≡ Some o → OutcomeHasType s o t
given_has s P f t Unknown o has h is = absurd (cc)
given_has s P f t SomeInvalid o has h is = let same : o ≡ Invalid = cc in rw same tt
given_has s P f t (Values vs) o has h is = let same : o ≡ Val (f vs) = cc in rw same (has vs h)

-- ---- one outcome

with_value_has : (P : Outcome → Type 0) (a : Option Outcome) (next : Value → Option Outcome) (o : Outcome) → P Invalid
    → ((v : Value) → a ≡ Some (Val v) → next v ≡ Some o → P o) → with_value a next ≡ Some o → P o
with_value_has P None next o invalid h is = absurd (cc)
with_value_has P (Some Invalid) next o invalid h is = let same : o ≡ Invalid = cc in rw same invalid
with_value_has P (Some (Val v)) next o invalid h is = h v refl is

or_invalid_has : {A : Type 0} (P : Outcome → Type 0) (a : Option A) (next : A → Option Outcome) (o : Outcome) → P Invalid
    → ((x : A) → next x ≡ Some o → P o) → or_invalid a next ≡ Some o → P o
or_invalid_has P None next o invalid h is = let same : o ≡ Invalid = cc in rw same invalid
or_invalid_has P (Some x) next o invalid h is = h x is

while_built_has : (P : Outcome → Type 0) (v : Value) (left right : Option Outcome) (o : Outcome) → P Invalid
    → (left ≡ Some (Val v) → right ≡ Some o → P o) → while_built v left right ≡ Some o → P o
while_built_has P v None right o invalid h is = absurd (cc)
while_built_has P v (Some Invalid) right o invalid h is = let same : o ≡ Invalid = cc in rw same invalid
while_built_has P v (Some (Val w)) right o invalid h is = go (same_value v w) refl is
  where
    go : (c : Bool) → same_value v w ≡ c → chosen c right (Some Invalid) ≡ Some o → P o
    go true e is = h (rw (same_values v w e) refl) is
    go false e is = let same : o ≡ Invalid = cc in rw same invalid

-- ---- one level

-- in a valid state what the parts give has its type, within some depth
abbrev pub GiveTyped : Meanings → State → (List Value → Formula → Option Outcome) → Type 0
GiveTyped F s r =
    (n : ℕ) (E : List Value) (bounds : List Ty) (f : Formula) (t : Ty) (o : Outcome) → BoundsFit s E bounds → HasType F s n bounds f t
    → r E f ≡ Some o → OutcomeHasType s o t

module _ (F : Meanings) (s : State) (keep : KeepToTypes F) (valid : Valid F s)
    (r : List Value → Formula → Option Outcome) (part : GiveTyped F s r) where
  pub arguments_fit : (n : ℕ) (E : List Value) (bounds : List Ty) → BoundsFit s E bounds → (fs : Formulas) (tys : List Ty)
      → ArgumentsHaveTypes F s n bounds fs tys
      → GatheredAre (λ vs. BoundsFit s vs tys) (gathered (each_of (r E) fs))
  arguments_fit n E bounds fit End [] h = tt
  arguments_fit n E bounds fit End (t ∷ tys) h = absurd h
  arguments_fit n E bounds fit (More f rest) [] h = absurd h
  arguments_fit n E bounds fit (More f rest) (t ∷ tys) h =
      joined_are (λ vs. BoundsFit s vs tys) (λ vs. BoundsFit s vs (t ∷ tys)) (r E f) (gathered (each_of (r E) rest))
      (λ v vs gives all. (part n E bounds f t (Val v) fit h.0 gives, all))
      (arguments_fit n E bounds fit rest tys h.1)

  pub elements_fit : (n : ℕ) (E : List Value) (bounds : List Ty) → BoundsFit s E bounds → (fs : Formulas) (t : Ty)
      → ElementsHaveType F s n bounds fs t
      → GatheredAre (choice.Every (λ w. Has s w t)) (gathered (each_of (r E) fs))
  elements_fit n E bounds fit End t h = tt
  elements_fit n E bounds fit (More f rest) t h =
      joined_are (choice.Every (λ w. Has s w t)) (choice.Every (λ w. Has s w t)) (r E f) (gathered (each_of (r E) rest))
      (λ v vs gives all. (part n E bounds f t (Val v) fit h.0 gives, all))
      (elements_fit n E bounds fit rest t h.1)

  pub links_fit : (t : Ty) (links : List ℕ) → choice.Every (λ m. NameHasType s (length s.entries) m t) links
      → GatheredAre (choice.Every (λ w. Has s w t)) (gathered (map (λ m. r [] (Name m)) links))
  links_fit t [] h = tt
  links_fit t (m ∷ links) h =
      joined_are (choice.Every (λ w. Has s w t)) (choice.Every (λ w. Has s w t)) (r [] (Name m)) (gathered (map (λ m. r [] (Name m)) links))
      (λ v vs gives all. (part (length s.entries) [] [] (Name m) t (Val v) tt h.0 gives, all)) (links_fit t links h.1)

  grab_has : (n bind : ℕ) (v : Value) (t : Ty) (o : Outcome) (b : Option (Formula × Formula)) → bind_at s bind ≡ b
      → GrabFits F s n bind v true t
      → and_then b (λ b. while_built v (r [] b.0) (r (v ∷ []) b.1)) ≡ Some o → OutcomeHasType s o t
  grab_has n bind v t o None at fits is = absurd (cc)
  grab_has n bind v t o (Some b) at fits is =
      let stands = fits.stands in
      let lefts : b.0 ≡ fits.left = cc in
      let bodies : b.1 ≡ fits.body = cc in
      while_built_has (λ p. OutcomeHasType s p t) v (r [] b.0) (r (v ∷ []) b.1) o tt
      (λ left right.
      let first = part bind [] [] fits.left fits.typed.0 (Val v) tt fits.typed.1 (rw lefts at left) in
      part bind (v ∷ []) (fits.typed.0 ∷ []) fits.body t o (first, tt) fits.typed.2 (rw bodies at right))
      is

  body_has : (n : ℕ) (b : Body) (t : Ty) (o : Outcome) → BodyHasType F s n b t → body_level F s r b ≡ Some o → OutcomeHasType s o t
  body_has n (Variable v) t o h is = let same : o ≡ Val v = cc in rw same h
  body_has n (Computed f kept) t o h is = part n [] [] f t o tt h.0 is
  body_has n (Freeze child p None) t o h is = part n [] [] child t o tt h.0 is
  body_has n (Freeze child p (Some v)) t o h is = let same : o ≡ Val v = cc in rw same (h.4 v refl)
  body_has n (After time) t o h is = let same : o ≡ Val (value.Bool (nat_le time s.now)) = cc in rw (same, h) (refl, tt)
  body_has n (Every base span) t o h is =
      let same : o ≡ Val (value.Int (pos ((s.now - base) / span))) = cc in
      rw (same, h.0) (clock_is_typed s ((s.now - base) / span) (grind arith) valid.now)
  body_has n (Expert f first links stale) t o h is =
      given_has s (choice.Every (λ w. Has s w h.0)) (fold_from F f first) t (gathered (map (λ m. r [] (Name m)) links)) o
      (λ vs all. folded_has F s keep f t h.0 h.1 h.2 first vs h.3 all)
      (links_fit h.0 links h.4) is
  body_has n (Grab bind v true) t o h is = grab_has n bind v t o (bind_at s bind) refl h is
  body_has n (Grab bind v false) t o h is = let same : o ≡ Invalid = cc in rw same tt

  name_has : (n : ℕ) (e : Entry) (o : Outcome) → entry_at s n ≡ Some e → name_level F s r (entry_at s n) ≡ Some o → OutcomeHasType s o e.ty
  name_has n e o stands is = body_has n e.body e.ty o (valid.entries n e stands).typed (rw stands at is)

  chosen_typed : (n : ℕ) (bounds : List Ty) (c : Bool) (a b : Formula) (t : Ty) → HasType F s n bounds a t
      → HasType F s n bounds b t → HasType F s n bounds (chosen c a b) t
  chosen_typed n bounds true a b t first second = first
  chosen_typed n bounds false a b t first second = second

  joined_has : (v : Value) (base : Base) (o : Outcome) → Has s v (ty.Node base)
      → or_invalid (target_of v) (λ m. r [] (Name m)) ≡ Some o → OutcomeHasType s o (type_of_base base)
  joined_has (Reference target b) base o h is =
      let same : b ≡ base = let e = h.0 in cc in
      part (length s.entries) [] [] (Name target) (type_of_base base) o tt (rw same at h.1) is
  joined_has v base o h is = let same : o ≡ Invalid = cc in rw same tt

  level_has : (n : ℕ) (E : List Value) (bounds : List Ty) (f : Formula) (t : Ty) (o : Outcome) → BoundsFit s E bounds
      → HasType F s n bounds f t → level F s r E f ≡ Some o → OutcomeHasType s o t
  level_has n E bounds (Literal v) t o fit h is = let same : o ≡ Val v = cc in rw same (typed_wider s n v t h)
  level_has n E bounds (Name m) t o fit h is = rw h.typed at (name_has m h.entry o h.stands is)
  level_has n E bounds (Bound k) t o fit h is = bound_has s E bounds k t o fit h is
  level_has n E bounds (Apply f fs) t o fit h is =
      given_has s (λ vs. BoundsFit s vs f.sig.takes) (F.value f) t (gathered (each_of (r E) fs)) o
      (λ vs all. applied_has F s keep f t vs h.0 h.2 (fits_have s vs f.sig.takes all)) (arguments_fit n E bounds fit fs f.sig.takes h.1) is
  level_has n E bounds (Fold f first fs) t o fit h is =
      given_has s (choice.Every (λ w. Has s w h.0)) (fold_from F f first) t (gathered (each_of (r E) fs)) o
      (λ vs all. folded_has F s keep f t h.0 h.1 h.2 first vs (typed_wider s n first t h.3) all) (elements_fit n E bounds fit fs h.0 h.4) is
  level_has n E bounds (If test a b) t o fit h is =
      with_value_has (λ p. OutcomeHasType s p t) (r E test) _ o tt
      (λ v gives next.
      or_invalid_has (λ p. OutcomeHasType s p t) (truth_of v) _ o tt
      (λ c is. part n E bounds (chosen c a b) t o fit (chosen_typed n bounds c a b t h.1 h.2) is) next)
      is
  level_has n E bounds (Join child) t o fit h is =
      with_value_has (λ p. OutcomeHasType s p t) (r E child) _ o tt
      (λ v gives next. rw h.2 at (joined_has v h.0 o (part n E bounds child (ty.Node h.0) (Val v) fit h.1 gives) next)) is
  level_has n E bounds (Bind left body) t o fit h is =
      with_value_has (λ p. OutcomeHasType s p t) (r E left) _ o tt
      (λ v gives next. part n (v ∷ E) (h.0 ∷ bounds) body t o (part n E bounds left h.0 (Val v) fit h.1 gives, fit) h.2 next) is
  level_has n E bounds (At time) t o fit h is = let same : o ≡ Val (value.Bool (nat_le time s.now)) = cc in rw (same, h) (refl, tt)
  level_has n E bounds (Steps first steps) t o fit h is =
      let same : o ≡ Val (stepped s.now first steps) = cc in
      rw same (typed_wider s n (stepped s.now first steps) t (stepped_has s n s.now first steps t h.0 h.1))
  level_has n E bounds Now t o fit h is =
      let same : o ≡ Val (value.Int (pos s.now)) = cc in rw (same, h) (clock_is_typed s s.now (omega arith) valid.now)

-- ---- every depth

pub value_has : (F : Meanings) (s : State) → KeepToTypes F → Valid F s → (d : ℕ) → GiveTyped F s (value_at F s d)
unfolding value_at
value_has F s keep valid zero n E bounds f t o fit h is = absurd (cc)
value_has F s keep valid (suc d) n E bounds f t o fit h is =
    level_has F s keep valid (value_at F s d) (value_has F s keep valid d) n E bounds f t o fit h is

pub values_have_types : ValuesHaveTypes
values_have_types F s keep valid n E bounds f t o fit h g = value_has F s keep valid g.0 n E bounds f t o fit h g.1

-- and of a declaration
pub declared_has : (F : Meanings) (s : State) → KeepToTypes F → Valid F s → (d n : ℕ) (e : Entry) (o : Outcome)
    → entry_at s n ≡ Some e → value_at F s d [] (Name n) ≡ Some o → OutcomeHasType s o e.ty
unfolding value_at
declared_has F s keep valid zero n e o stands is = absurd (cc)
declared_has F s keep valid (suc d) n e o stands is = name_has F s keep valid (value_at F s d) (value_has F s keep valid d) n e o stands is

pub declarations_have_types : DeclarationsHaveTypes
declarations_have_types F s keep valid n e o stands g = declared_has F s keep valid g.0 n e o stands g.1
