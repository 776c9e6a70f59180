-- What lasts where a state grows: types and targets of declarations stay, so what has a type keeps it.
use Rattle.std.proofs.Common.{◌≡◌, ◌⊎◌, inl, inr, ℕ, ◌≤◌, true, List, [], ◌∷◌, length, Some, refl, ◌∙◌, arith}
use Rattle.std.specs.Prelude as std
use Rattle.inc_value.specs.declared.ty.Ty.{Ty}
use Rattle.inc_value.specs.Ty.{type_of_base}
use Rattle.inc_value.specs.Choice.{Every}
use Rattle.script_model.specs.Values as value
use Rattle.script_model.specs.Values.{Value, Outcome, Val, Invalid}
use Rattle.script_model.specs.Formula as model
use Rattle.script_model.specs.Formula.{Formula, Formulas, TimedValue, Kept, Body, Entry, Observer, Watch, State, Meanings, entry_at, bind_at, built_at, Literal, Name, Bound, Apply, Fold, If, Join, Bind, At, Steps, Now, End, More, Variable, Computed, Freeze, After, Expert, Grab, Unwatched, Fresh, Told}
use Rattle.script_model.specs.Valid.{NameHasType, IsKnown, ValueHasType, OutcomeHasType, StepsHaveType, HasType, ArgumentsHaveTypes, ElementsHaveType, BuiltFits, GrabFits, BodyHasType, ValidEntry, WatchFits, ValidObserver}

-- a declaration of the same type and target
pub record StillStands (s : State) (n : ℕ) (e : Entry) : Type 0 where
  pub entry : Entry
  pub stands : entry_at s n ≡ Some entry
  pub same_type : entry.ty ≡ e.ty
  pub same_target : entry.target ≡ e.target

-- a live grab at the position, of the bind and for the value
pub record LiveGrab (s : State) (n bind : ℕ) (v : Value) : Type 0 where
  pub entry : Entry
  pub stands : entry_at s n ≡ Some entry
  pub is : entry.body ≡ Grab bind v true

-- no grab of the bind lives
abbrev pub NoneLives : State → ℕ → Type 0
NoneLives s bind = (n : ℕ) (v : Value) → LiveGrab s n bind v → ⊥

-- the declarations of s stay in s', with their types, targets and binds; the clock doesn't go back, and a live grab of s'
-- lives in s, or no other grab of its bind does
pub record Grows (s s' : State) : Type 0 where
  pub keeps : (n : ℕ) (e : Entry) → entry_at s n ≡ Some e → StillStands s' n e
  pub longer : length s.entries ≤ length s'.entries
  pub later : s.now ≤ s'.now
  pub binds : (n : ℕ) (p : Formula × Formula) → bind_at s n ≡ Some p → bind_at s' n ≡ Some p
  pub live : (n bind : ℕ) (v : Value) → LiveGrab s' n bind v → LiveGrab s n bind v ⊎ NoneLives s bind

-- what binds were last built for stays
abbrev pub BuiltStay : State → State → Type 0
BuiltStay s s' = (n : ℕ) (o : Outcome) → built_at s n ≡ Some o → built_at s' n ≡ Some o

-- ---- lists

pub every_lasts : {A : Type 0} (P Q : A → Type 0) → ((x : A) → P x → Q x) → (xs : List A) → Every P xs → Every Q xs
every_lasts P Q more [] h = tt
every_lasts P Q more (x ∷ xs) h = (more x h.0, every_lasts P Q more xs h.1)

module _ (s s' : State) (grows : Grows s s') where
  -- ---- names and values

  pub name_lasts : (n k m : ℕ) (t : Ty) → n ≤ k → NameHasType s n m t → NameHasType s' k m t
  name_lasts n k m t more h =
      let still = grows.keeps m h.entry h.stands in
      record {
        entry = still.entry;
        earlier = omega (arith, more, h.earlier);
        stands = still.stands;
        typed = still.same_type ∙ h.typed;
        own = still.same_target ∙ h.own;
      }

  known_lasts : (n k : ℕ) (v : Value) → n ≤ k → IsKnown s n v → IsKnown s' k v
  known_lasts n k (value.Reference target base) more h = name_lasts n k target (type_of_base base) more h
  known_lasts n k (value.Int z) more h = h
  known_lasts n k (value.Bool b) more h = h
  known_lasts n k (value.Text bytes) more h = h

  pub value_lasts : (n k : ℕ) (v : Value) (t : Ty) → n ≤ k → ValueHasType s n v t → ValueHasType s' k v t
  value_lasts n k v t more h = (h.0, known_lasts n k v more h.1)

  -- the values of the whole state
  pub held_lasts : (v : Value) (t : Ty) → ValueHasType s (length s.entries) v t → ValueHasType s' (length s'.entries) v t
  held_lasts v t h = value_lasts (length s.entries) (length s'.entries) v t grows.longer h

  pub outcome_lasts : (o : Outcome) (t : Ty) → OutcomeHasType s o t → OutcomeHasType s' o t
  outcome_lasts (Val v) t h = held_lasts v t h
  outcome_lasts Invalid t h = tt

  steps_last : (n : ℕ) (steps : List TimedValue) (t : Ty) → StepsHaveType s n steps t → StepsHaveType s' n steps t
  steps_last n [] t h = tt
  steps_last n (a ∷ []) t h = value_lasts n n a.value t (omega arith) h
  steps_last n (a ∷ b ∷ steps) t h = (value_lasts n n a.value t (omega arith) h.0, h.1, steps_last n (b ∷ steps) t h.2)

  -- ---- formulas

  module _ (F : Meanings) (n : ℕ) where
    mutual
      pub type_lasts : (bounds : List Ty) (f : Formula) (t : Ty) → HasType F s n bounds f t → HasType F s' n bounds f t
      type_lasts bounds (Literal v) t h = value_lasts n n v t (omega arith) h
      type_lasts bounds (Name m) t h = name_lasts n n m t (omega arith) h
      type_lasts bounds (Bound k) t h = h
      type_lasts bounds (Apply f arguments) t h = (h.0, types_last bounds arguments f.sig.takes h.1, h.2)
      type_lasts bounds (Fold f first elements) t h =
          (h.0, h.1, h.2, value_lasts n n first t (omega arith) h.3, elements_last bounds elements h.0 h.4)
      type_lasts bounds (If test a b) t h = (type_lasts bounds test _ h.0, type_lasts bounds a t h.1, type_lasts bounds b t h.2)
      type_lasts bounds (Join child) t h = (h.0, type_lasts bounds child _ h.1, h.2)
      type_lasts bounds (Bind left body) t h = (h.0, type_lasts bounds left h.0 h.1, type_lasts (h.0 ∷ bounds) body t h.2)
      type_lasts bounds (At time) t h = h
      type_lasts bounds (Steps first steps) t h = (value_lasts n n first t (omega arith) h.0, steps_last n steps t h.1)
      type_lasts bounds Now t h = h

      types_last : (bounds : List Ty) (fs : Formulas) (tys : List Ty) → ArgumentsHaveTypes F s n bounds fs tys
          → ArgumentsHaveTypes F s' n bounds fs tys
      types_last bounds End [] h = tt
      types_last bounds End (t ∷ tys) h = absurd h
      types_last bounds (More f rest) [] h = absurd h
      types_last bounds (More f rest) (t ∷ tys) h = (type_lasts bounds f t h.0, types_last bounds rest tys h.1)

      elements_last : (bounds : List Ty) (fs : Formulas) (t : Ty) → ElementsHaveType F s n bounds fs t → ElementsHaveType F s' n bounds fs t
      elements_last bounds End t h = tt
      elements_last bounds (More f rest) t h = (type_lasts bounds f t h.0, elements_last bounds rest t h.1)

    -- ---- declarations

    pub built_lasts : (f : Formula) (kept : Kept) → BuiltFits F s n f kept → BuiltFits F s' n f kept
    built_lasts (Bind left body) kept h = λ o is. let typed = h o is in (typed.0, type_lasts [] left typed.0 typed.1, outcome_lasts o typed.0 typed.2)
    built_lasts f kept h = h

  pub grab_lasts : (F : Meanings) (n bind : ℕ) (v : Value) (was is_live : std.Bool) (t : Ty)
      → (is_live ≡ true → (was ≡ true) × (built_at s bind ≡ Some (Val v) → built_at s' bind ≡ Some (Val v))) → (was ≡ true → LiveGrab s n bind v)
      → GrabFits F s n bind v was t → GrabFits F s' n bind v is_live t
  grab_lasts F n bind v was is_live t still lives h = record {
    left = h.left;
    body = h.body;
    earlier = h.earlier;
    stands = grows.binds bind (h.left, h.body) h.stands;
    typed = type_lasts F bind [] (Bind h.left h.body) t h.typed;
    built = λ live. let then = still live in then.1 (h.built then.0);
    alone = λ live m w e stands is.
        let was_live = (still live).0 in
        elim (grows.live m bind w (record { entry = e; stands = stands; is = is })) [
          | inl before ↦ h.alone was_live m w before.entry before.stands before.is
          | inr none ↦ absurd (none n v (lives was_live))
        ];
  }

  -- a body at position n; where it is a grab that lives, it stands there
  pub body_lasts : (F : Meanings) (n : ℕ) (b : Body) (t : Ty) → BuiltStay s s' → ((bind : ℕ) (v : Value) → b ≡ Grab bind v true → LiveGrab s n bind v)
      → BodyHasType F s n b t → BodyHasType F s' n b t
  body_lasts F n (Variable v) t built lives h = held_lasts v t h
  body_lasts F n (Computed f kept) t built lives h = (type_lasts F n [] f t h.0, built_lasts F n f kept h.1)
  body_lasts F n (Freeze child predicate frozen) t built lives h = (type_lasts F n [] child t h.0, h.1, h.2, h.3, λ v is. held_lasts v t (h.4 v is))
  body_lasts F n (After time) t built lives h = h
  body_lasts F n (model.Every base span) t built lives h = (h.0, h.1, omega (arith, h.2, grows.later))
  body_lasts F n (Expert f first links stale) t built lives h = (
    h.0,
    h.1,
    h.2,
    held_lasts first t h.3,
    every_lasts _ _ (λ m named. name_lasts (length s.entries) (length s'.entries) m
        h.0 grows.longer named) links h.4,
    h.5,
  )
  body_lasts F n (Grab bind v is_live) t built lives h =
      grab_lasts F n bind v is_live is_live t (λ live. (live, λ is. built bind (Val v) is)) (λ live. lives bind v (rw live refl)) h

  -- a declaration that stays as it is
  pub entry_lasts : (F : Meanings) (n : ℕ) (e : Entry) → BuiltStay s s' → entry_at s n ≡ Some e → ValidEntry F s n e → ValidEntry F s' n e
  entry_lasts F n e built stands h = record {
    typed = body_lasts F n e.body e.ty built (λ bind v is. record { entry = e; stands = stands; is = is }) h.typed;
    target_is = h.target_is;
  }

  -- ---- observers

  pub watch_lasts : (t : Ty) (w : Watch) → WatchFits s t w → WatchFits s' t w
  watch_lasts t Unwatched h = tt
  watch_lasts t Fresh h = tt
  watch_lasts t (Told o) h = outcome_lasts o t h

  pub observer_lasts : (o : Observer) → ValidObserver s o → ValidObserver s' o
  observer_lasts o h = record {
    ty = h.ty;
    target = name_lasts (length s.entries) (length s'.entries) o.target h.ty grows.longer h.target;
    shown = λ p is. outcome_lasts p h.ty (h.shown p is);
    watch = watch_lasts h.ty o.watch h.watch;
  }
