-- States without what was built: they evaluate, refuse and print alike.
use Rattle.std.proofs.Common.{◌≡◌, ℕ, zero, suc, ◌+◌, Bool, true, false, ◌||◌, List, [], ◌∷◌, ◌++◌, map, length, Option, None, Some, option_map, refl, sym, ◌∙◌, arith}
use Rattle.std.proofs.lemmas.Option.{slice_get-map}
use Rattle.std.proofs.lemmas.List.Sums.{sum_by-cons}
use Rattle.std.specs.List.{sum_by}
use Rattle.script_model.specs.Check as check
use Rattle.script_model.specs.Check.{Command, Names, Reason, SessionBroken, NotStabilized, NotLinked, TooManyLinks, TooManyPlaces, command_of, names_of, kind_of_body, declared_of, target_of_body, first_that, is_against}
use Rattle.inc_value.specs.Choice.{and_then}
use Rattle.script_model.specs.Evaluate.{level, body_level, name_level, value_at, Gives}
use Rattle.script_model.specs.Formula as model
use Rattle.script_model.specs.Formula.{Formula, Body, Entry, State, Meanings, entry_at, bind_at, bind_of, links_at, places_of_body, Name, Bind, Variable, Computed, Freeze, After, Expert, Grab}
use Rattle.script_model.specs.Grammar.{Line}
use Rattle.script_model.specs.Laws.{forget_body, forget_entry, forget_all, forget, forget_moment}
use Rattle.script_model.specs.Step.{Moment, with_body, linked, unlinked, staled, effect, is_barred, bars, holds, order, verdict_for, verdict_of, name_of}
use Rattle.script_model.specs.Values.{Value, Outcome}
use Rattle.script_model.proofs.Evaluation.{Under, level_under, one_outcome}

-- ---- states

twice : (b : Body) → forget_body (forget_body b) ≡ forget_body b
twice (Computed f kept) = refl
twice b = refl

pub all_twice : (es : List Entry) → forget_all (forget_all es) ≡ forget_all es
all_twice [] = refl
all_twice (e ∷ es) = rw (twice e.body, all_twice es) refl

entry_forgotten : (s : State) (n : ℕ) → entry_at (forget s) n ≡ option_map forget_entry (entry_at s n)
entry_forgotten s n = slice_get-map forget_entry s.entries n

-- ---- evaluation

bind_forgotten : (s : State) (n : ℕ) → bind_at (forget s) n ≡ bind_at s n
bind_forgotten s n = rw (entry_forgotten s n) (in_entry (entry_at s n))
  where
    in_body : (b : Body) → bind_of (forget_body b) ≡ bind_of b
    in_body (Computed (Bind left body) kept) = refl
    in_body (Computed f kept) = refl
    in_body b = refl

    in_entry : (e : Option Entry)
        → and_then (and_then (option_map forget_entry e) (λ e. Some e.body)) bind_of ≡ and_then (and_then e (λ e. Some e.body)) bind_of
    in_entry None = refl
    in_entry (Some e) = in_body e.body

module _ (F : Meanings) (s : State) (part : List Value → Formula → Option Outcome) where
  body_forgotten : (b : Body) → body_level F (forget s) part (forget_body b) ≡ body_level F s part b
  body_forgotten (Variable v) = refl
  body_forgotten (Computed f kept) = refl
  body_forgotten (Freeze child predicate None) = refl
  body_forgotten (Freeze child predicate (Some v)) = refl
  body_forgotten (After t) = refl
  body_forgotten (model.Every base span) = refl
  body_forgotten (Expert f first links stale) = refl
  body_forgotten (Grab bind v true) = rw (bind_forgotten s bind) refl
  body_forgotten (Grab bind v false) = refl

  name_forgotten : (e : Option Entry) → name_level F (forget s) part (option_map forget_entry e) ≡ name_level F s part e
  name_forgotten None = refl
  name_forgotten (Some e) = body_forgotten e.body

  level_forgotten : (E : List Value) (f : Formula) → level F (forget s) part E f ≡ level F s part E f
  level_forgotten E (Name n) = rw (entry_forgotten s n) (name_forgotten (entry_at s n))
  level_forgotten E f = refl

value_forgotten : (F : Meanings) (s : State) (d : ℕ) (E : List Value) (f : Formula) → Under (value_at F s d E f) (value_at F (forget s) d E f)
unfolding value_at
value_forgotten F s zero E f = tt
value_forgotten F s (suc d) E f =
    rw (level_forgotten F s (value_at F (forget s) d) E f) (level_under F s (value_at F s d) (value_at F (forget s) d) (value_forgotten F s d) E f)

gives_forgotten : (F : Meanings) (s : State) (E : List Value) (f : Formula) (o : Outcome) → Gives F s E f o → Gives F (forget s) E f o
gives_forgotten F s E f o gives = (gives.0, rw gives.1 at (value_forgotten F s gives.0 E f))

-- states that differ by what was built give the same outcomes
pub same_outcomes : (F : Meanings) (s t : State) (E : List Value) (f : Formula) (o p : Outcome) → forget s ≡ forget t → Gives F s E f o
    → Gives F t E f p → o ≡ p
same_outcomes F s t E f o p same g h = one_outcome F (forget t) E f o p (rw same at (gives_forgotten F s E f o g)) (gives_forgotten F t E f p h)

-- ---- names

kind_forgotten : (b : Body) → kind_of_body (forget_body b) ≡ kind_of_body b
kind_forgotten (Computed (Bind left body) kept) = refl
kind_forgotten (Computed f kept) = refl
kind_forgotten b = refl

declared_forgotten : (es : List Entry) → map declared_of (forget_all es) ≡ map declared_of es
declared_forgotten [] = refl
declared_forgotten (e ∷ es) = rw (kind_forgotten e.body, declared_forgotten es) refl

names_forgotten : (s : State) → names_of (forget s) ≡ names_of s
names_forgotten s = rw (declared_forgotten s.entries) refl

pub name_of_forgotten : (s : State) (n : ℕ) → name_of (forget s) n ≡ name_of s n
name_of_forgotten s n = rw (name_of, entry_forgotten s n) (go (entry_at s n))
  where
    go : (e : Option Entry) → ◌≡◌ {A = List ℕ} (elim (option_map forget_entry e) [ None ↦ [] | Some e ↦ e.name ])
        (elim e [ None ↦ [] | Some e ↦ e.name ])
    go None = refl
    go (Some e) = refl

pub extensional : {A B : Type 0} (f g : A → B) → ((x : A) → f x ≡ g x) → f ≡ g
extensional f g h = λ i x. h x i

-- ---- refusals

links_forgotten : (s : State) (n : ℕ) → links_at (forget s) n ≡ links_at s n
links_forgotten s n = rw (links_at, entry_forgotten s n) (go (entry_at s n))
  where
    in_body : (b : Body) → model.links_of (forget_body b) ≡ model.links_of b
    in_body (Computed f kept) = refl
    in_body b = refl

    go : (e : Option Entry) → ◌≡◌ {A = List ℕ}
        (elim (and_then (option_map forget_entry e) (λ e. Some e.body)) [ None ↦ [] | Some body ↦ model.links_of body ])
        (elim (and_then e (λ e. Some e.body)) [ None ↦ [] | Some body ↦ model.links_of body ])
    go None = refl
    go (Some e) = in_body e.body

both_sums : (a b c d : ℕ) → a ≡ b → c ≡ d → a + c ≡ b + d
both_sums a b c d e f = omega (arith, e, f)

places_forgotten : (es : List Entry)
    → sum_by (λ (e : Entry). places_of_body e.body) (forget_all es) ≡ sum_by (λ (e : Entry). places_of_body e.body) es
places_forgotten [] = refl
places_forgotten (e ∷ es) =
    sum_by-cons (λ (e : Entry). places_of_body e.body) (forget_entry e) (forget_all es)
    ∙ both_sums (places_of_body (forget_body e.body)) (places_of_body e.body) _ _ (in_body e.body) (places_forgotten es)
    ∙ sym (sum_by-cons (λ (e : Entry). places_of_body e.body) e es)
  where
    in_body : (b : Body) → places_of_body (forget_body b) ≡ places_of_body b
    in_body (Computed f kept) = refl
    in_body b = refl

-- neither a grab nor the declaration of one
abbrev pub NoGrab : Body → Type 0
NoGrab (Grab bind v is_live) = ⊥
NoGrab body = Unit {0}

abbrev pub GrabsNone : Option Command → Type 0
GrabsNone (Some (check.Take name t bind)) = ⊥
GrabsNone (Some (check.Declare name t body)) = NoGrab body
GrabsNone command = Unit {0}

barred_forgotten : (s : State) (c : Command) (r : Reason) → GrabsNone (Some c) → is_barred (forget s) c r ≡ is_barred s c r
barred_forgotten s (check.Take name t bind) r none = absurd none
barred_forgotten s (check.Unlink expert target) NotLinked none = rw (links_forgotten s expert) refl
barred_forgotten s (check.Link expert target) TooManyLinks none = rw (links_forgotten s expert) refl
barred_forgotten s (check.Declare name t body) TooManyPlaces none = rw (places_forgotten s.entries) refl
barred_forgotten s (check.Show observer) NotStabilized none = refl
barred_forgotten s c r none = refl

bars_forgotten : (s : State) (c : Option Command) (r : Reason) → GrabsNone c → bars (forget s) c r ≡ bars s c r
bars_forgotten s None r none = refl
bars_forgotten s (Some c) r none = barred_forgotten s c r none

holds_forgotten : (F : Meanings) (m : Moment) (l : Line) (r : Reason) → GrabsNone (command_of F (names_of m.present) l)
    → holds F (forget_moment m) l r ≡ holds F m l r
holds_forgotten F m l SessionBroken none = refl
holds_forgotten F m l r none = go (names_of (forget m.present)) (names_forgotten m.present)
  where
    go : (names : Names) → names ≡ names_of m.present
        → (is_against F names l r || bars (forget m.present) (command_of F names l) r) ≡
        (is_against F (names_of m.present) l r || bars m.present (command_of F (names_of m.present) l) r)
    go names same = rw (same, bars_forgotten m.present (command_of F (names_of m.present) l) r none) refl

first_alike : (p q : Reason → Bool) (rs : List Reason) → ((r : Reason) → p r ≡ q r) → first_that p rs ≡ first_that q rs
first_alike p q [] same = refl
first_alike p q (r ∷ rs) same = rw (same r, first_alike p q rs same) refl

verdict_for_forgotten : (m : Moment) (c : Option Command) (why : Option Reason) → verdict_for (forget_moment m) c why ≡ verdict_for m c why
verdict_for_forgotten m c None = refl
verdict_for_forgotten m c (Some SessionBroken) = refl
verdict_for_forgotten m c (Some why) = refl

pub verdict_forgotten : (F : Meanings) (m : Moment) (l : Line) → GrabsNone (command_of F (names_of m.present) l)
    → verdict_of F (forget_moment m) l ≡ verdict_of F m l
verdict_forgotten F m l none =
    go (names_of (forget m.present)) (first_that (holds F (forget_moment m) l) order) (names_forgotten m.present)
    (first_alike (holds F (forget_moment m) l) (holds F m l) order (λ r. holds_forgotten F m l r none))
  where
    go : (names : Names) (why : Option Reason) → names ≡ names_of m.present → why ≡ first_that (holds F m l) order
        → verdict_for (forget_moment m) (command_of F names l) why ≡ verdict_of F m l
    go names why same is = rw (same, is) (verdict_for_forgotten m (command_of F (names_of m.present) l) (first_that (holds F m l) order))

-- ---- effects

length_forgotten : (es : List Entry) → length (forget_all es) ≡ length es
length_forgotten [] = refl
length_forgotten (e ∷ es) = rw (length_forgotten es) refl

append_forgotten : (es fs : List Entry) → forget_all (es ++ fs) ≡ forget_all es ++ forget_all fs
append_forgotten [] fs = refl
append_forgotten (e ∷ es) fs = rw (append_forgotten es fs) refl

changed_forgotten : (change : Body → Body) → ((b : Body) → forget_body (change (forget_body b)) ≡ forget_body (change b)) → (es : List Entry) (n : ℕ)
    → forget_all (with_body change (forget_all es) n) ≡ forget_all (with_body change es n)
changed_forgotten change same [] n = refl
changed_forgotten change same (e ∷ es) zero = rw (same e.body, all_twice es) refl
changed_forgotten change same (e ∷ es) (suc n) = rw (twice e.body, changed_forgotten change same es n) refl

pub effect_forgotten : (s : State) (c : Command) → GrabsNone (Some c) → forget (effect (forget s) c) ≡ forget (effect s c)
effect_forgotten s (check.Take name t bind) none = absurd none
effect_forgotten s (check.Declare name t body) none =
    rw (
      length_forgotten s.entries,
      append_forgotten (forget_all s.entries) (record { name = name; ty = t; target = target_of_body (length s.entries) body; body = body } ∷ []),
      append_forgotten s.entries (record { name = name; ty = t; target = target_of_body (length s.entries) body; body = body } ∷ []),
      all_twice s.entries,
    ) refl
effect_forgotten s (check.Assign target v) none = rw (changed_forgotten (λ body. Variable v) (λ b. refl) s.entries target) refl
effect_forgotten s (check.Link expert target) none = rw (changed_forgotten (linked target) (λ b. link_twice b) s.entries expert) refl
  where
    link_twice : (b : Body) → forget_body (linked target (forget_body b)) ≡ forget_body (linked target b)
    link_twice (Computed f kept) = refl
    link_twice b = refl
effect_forgotten s (check.Unlink expert target) none = rw (changed_forgotten (unlinked target) (λ b. unlink_twice b) s.entries expert) refl
  where
    unlink_twice : (b : Body) → forget_body (unlinked target (forget_body b)) ≡ forget_body (unlinked target b)
    unlink_twice (Computed f kept) = refl
    unlink_twice b = refl
effect_forgotten s (check.Stale expert) none = rw (changed_forgotten staled (λ b. stale_twice b) s.entries expert) refl
  where
    stale_twice : (b : Body) → forget_body (staled (forget_body b)) ≡ forget_body (staled b)
    stale_twice (Computed f kept) = refl
    stale_twice b = refl
effect_forgotten s c none = rw (all_twice s.entries) refl
