-- What an accepted stabilize leaves, and what it tells.
use Rattle.std.specs.Prelude.{◌≡◌, ◌⊎◌, ℕ, suc, ◌+◌, true, false, ◌&&◌, List, [], ◌∷◌, ◌++◌, Option, None, Some}
use Rattle.inc_value.specs.declared.function.FnRef.{FnRef}
use Rattle.script_model.specs.Values.{Value, Outcome, Val, Invalid, same_outcome, same_kept}
use Rattle.script_model.specs.Formula as model
use Rattle.script_model.specs.Formula.{Formula, Body, Entry, Kept, Watch, Observer, State, Meanings, built_at, Bind, Variable, Computed, Freeze, After, Expert, Grab, Unwatched, Fresh, Told}
use Rattle.script_model.specs.Evaluate.{Gives, NameGives, truth_of}
use Rattle.script_model.specs.Need.{Place, Left, ItemGives, Needed, Met}

-- ---- observers

-- what a watched observer tells once a stabilize is over
pub data Notice : Type 0 where
  First : (observer : List ℕ) (outcome : Outcome) → Notice
  Changed : (observer : List ℕ) (was : Outcome) (value : Value) → Notice
  TurnedInvalid : (observer : List ℕ) → Notice

-- what is told of a new outcome where another one was told last
abbrev pub told_anew : List ℕ → Outcome → Outcome → List Notice
told_anew name was Invalid = TurnedInvalid name ∷ []
told_anew name was (Val v) = Changed name was v ∷ []

-- what an observer tells of the outcome that it shows now
abbrev pub notices_of : List ℕ → Watch → Outcome → List Notice
notices_of name Unwatched o = []
notices_of name Fresh o = First name o ∷ []
notices_of name (Told was) o = elim (same_outcome was o) [ true ↦ [] | false ↦ told_anew name was o ]

-- what it told last
abbrev pub watch_after : Watch → Outcome → Watch
watch_after Unwatched o = Unwatched
watch_after watch o = Told o

-- the observer that shows the outcome
abbrev pub showing : Observer → Outcome → Observer
showing x o = record x { shown = Some o; watch = watch_after x.watch o }

-- each observer shows what its target gives, and in their order they tell it
abbrev pub ShowAll : Meanings → State → List Observer → List Observer → List Notice → Type 0
ShowAll F s [] [] notices = notices ≡ []
ShowAll F s [] (y ∷ ys) notices = ⊥
ShowAll F s (x ∷ xs) [] notices = ⊥
ShowAll F s (x ∷ xs) (y ∷ ys) notices =
    (o : Outcome) × (rest : List Notice) × NameGives F s x.target o × (y ≡ showing x o) × (notices ≡ notices_of x.name x.watch o ++ rest) × ShowAll F s xs ys rest

-- ---- declarations

-- the record of a freeze whose child gives the outcome: a value on which the predicate is true, for good
abbrev pub recorded : Meanings → FnRef → Outcome → Option Value
recorded F predicate Invalid = None
recorded F predicate (Val v) = elim (truth_of (F.value predicate (v ∷ []))) [ Some true ↦ Some v | _ ↦ None ]

-- what a bind was last built for, afterwards: its left's outcome where its left is needed; that or what it was where it
-- is met alone; else what it was
pub record BuildsFor (F : Meanings) (before s : State) (n : ℕ) (was now : Option Outcome) : Type 0 where
  pub needed : Needed F s (Place n (Left ∷ [])) → (o : Outcome) × ItemGives F s (Place n (Left ∷ [])) o × (now ≡ Some o)
  pub either : (now ≡ was)
      ⊎ ((o : Outcome) × Met F before s (Place n (Left ∷ [])) × ItemGives F s (Place n (Left ∷ [])) o × (now ≡ Some o))

-- what the whole formula of a `let` was last built for
abbrev pub Builds : Meanings → State → State → ℕ → Formula → Option Outcome → Option Outcome → Type 0
Builds F before s n (Bind left body) was now = BuildsFor F before s n was now
Builds F before s n f was now = now ≡ was

-- what is kept of a `let`
pub record Keeps (F : Meanings) (before s : State) (n : ℕ) (f : Formula) (was now : Kept) : Type 0 where
  pub built : Builds F before s n f was.built now.built

-- what becomes of a declaration, where a stabilize leaves the state `after`
abbrev pub Becomes : Meanings → State → State → State → ℕ → Body → Body → Type 0
Becomes F before s after n (Variable v) body = body ≡ Variable v
Becomes F before s after n (Computed f was) body = (now : Kept) × (body ≡ Computed f now) × Keeps F before s n f was now
Becomes F before s after n (Freeze child predicate (Some v)) body = body ≡ Freeze child predicate (Some v)
Becomes F before s after n (Freeze child predicate None) body = (o : Outcome) × Gives F s [] child o × (body ≡ Freeze child predicate (recorded F predicate o))
Becomes F before s after n (After t) body = body ≡ After t
Becomes F before s after n (model.Every base span) body = body ≡ model.Every base span
Becomes F before s after n (Expert f first links stale) body = body ≡ Expert f first links stale
Becomes F before s after n (Grab bind v is_live) body = body ≡ Grab bind v (is_live && same_kept (built_at s bind) (built_at after bind))

-- what becomes of the declarations from the n-th on
abbrev pub BecomeAll : Meanings → State → State → State → ℕ → List Entry → List Entry → Type 0
BecomeAll F before s after n [] [] = Unit {0}
BecomeAll F before s after n [] (y ∷ ys) = ⊥
BecomeAll F before s after n (x ∷ xs) [] = ⊥
BecomeAll F before s after n (x ∷ xs) (y ∷ ys) =
    ((body : Body) × (y ≡ record x { body = body }) × Becomes F before s after n x.body body) × BecomeAll F before s after (suc n) xs ys

-- the state after an accepted stabilize, and what it tells
pub record Settles (F : Meanings) (before s after : State) (notices : List Notice) : Type 0 where
  pub observers : ShowAll F s s.observers after.observers notices
  pub entries : BecomeAll F before s after 0 s.entries after.entries
  pub now : after.now ≡ s.now
  pub accepted : after.accepted ≡ s.accepted + 1
