-- The state that an accepted stabilize leaves, by what each bind was built for in it, and which value each freeze keeps.
use Rattle.std.proofs.Common.{◌≡◌, ℕ, zero, suc, ◌+◌, ◌&&◌, true, List, [], ◌∷◌, map, length, Option, None, Some, option_map, refl, ap, sym, subst, ◌∙◌, arith, slice_get}
use Rattle.std.specs.List.{sum_by}
use Rattle.std.proofs.lemmas.List.Sums.{sum_by-cons}
use Rattle.inc_value.specs.Choice.{and_then}
use Rattle.inc_value.specs.declared.function.FnRef.{FnRef}
use Rattle.inc_value.specs.declared.node.NodeId.{NodeId}
use Rattle.inc_value.specs.declared.outcome.Outcome.{Outcome as GraphOutcome}
use Rattle.inc_value.specs.declared.value.Value.{Value as GraphValue}
use Rattle.script_model.specs.Check.{Declared, declared_of, kind_of_body, target_of_body}
use Rattle.script_model.specs.Formula.{State, Entry, Body, Observer, Meanings, body_at, built_at, built_of_body, entry_at, places_of, places_of_body, Name, Bind, Variable, Computed, Freeze, After, Every, Expert, Grab}
use Rattle.script_model.specs.Evaluate.{Gives, truth_of}
use Rattle.script_model.specs.Settle.{Becomes, BecomeAll, BuildsFor, recorded}
use Rattle.script_model.specs.Values.{Value, Outcome, Val, same_kept}
use Rattle.transfer.specs.Both.{graph_outcome, graph_value}

-- what becomes of a body, where this is what its whole formula was last built for, those what binds were, and this what it keeps as a freeze
abbrev pub body_then : State → (ℕ → Option Outcome) → Body → Option Outcome → Option Value → Body
body_then s N (Computed f kept) now keeps = Computed f (record { built = now })
body_then s N (Freeze child predicate frozen) now keeps = Freeze child predicate keeps
body_then s N (Grab bind v is_live) now keeps = Grab bind v (is_live && same_kept (built_at s bind) (N bind))
body_then s N b now keeps = b

same_kind : (s : State) (N : ℕ → Option Outcome) (b : Body) (now : Option Outcome) (keeps : Option Value)
    → kind_of_body (body_then s N b now keeps) ≡ kind_of_body b
same_kind s N (Computed (Bind left body) kept) now keeps = refl
same_kind s N (Computed f kept) now keeps = refl
same_kind s N b now keeps = refl

pub same_target : (s : State) (N : ℕ → Option Outcome) (n : ℕ) (b : Body) (now : Option Outcome) (keeps : Option Value)
    → target_of_body n (body_then s N b now keeps) ≡ target_of_body n b
same_target s N n (Computed (Name t) kept) now keeps = refl
same_target s N n (Computed f kept) now keeps = refl
same_target s N n b now keeps = refl

same_places : (s : State) (N : ℕ → Option Outcome) (b : Body) (now : Option Outcome) (keeps : Option Value)
    → places_of_body (body_then s N b now keeps) ≡ places_of_body b
same_places s N (Computed f kept) now keeps = refl
same_places s N b now keeps = refl

-- what a freeze whose predicate gives a value of what its child gives keeps of that
pub recorded_of : (F : Meanings) (predicate : FnRef) (w x : Value) → F.value predicate (w ∷ []) ≡ x
    → recorded F predicate (Val w) ≡ elim (truth_of x) [ Some true ↦ Some w | _ ↦ None ]
recorded_of F predicate w x is = ap (λ (y : Value). elim (truth_of y) [ Some true ↦ Some w | _ ↦ None ]) is

module _ (F : Meanings) (before s : State) (nodes : ℕ → NodeId) (at : ℕ → Option GraphOutcome) (frozen_at : ℕ → Option GraphValue) where
  -- what a bind is built for afterwards is what the script may build it for, and what it is built for there; of all else it is what it was
  abbrev pub BuiltThen : ℕ → Body → Option Outcome → Type 0
  BuiltThen n (Computed (Bind left body) kept) now = BuildsFor F before s n kept.built now × (at n ≡ option_map (graph_outcome nodes) now)
  BuiltThen n (Computed f kept) now = now ≡ kept.built
  BuiltThen n b now = now ≡ None

  -- a freeze keeps what it kept, or else the value that its child gives, if its predicate is true of that; and it keeps that there
  abbrev pub FrozenThen : ℕ → Body → Option Value → Type 0
  FrozenThen n (Freeze child predicate None) keeps =
      ((o : Outcome) × Gives F s [] child o × (keeps ≡ recorded F predicate o)) × (frozen_at n ≡ option_map (graph_value nodes) keeps)
  FrozenThen n (Freeze child predicate (Some v)) keeps = (keeps ≡ Some v) × (frozen_at n ≡ option_map (graph_value nodes) keeps)
  FrozenThen n b keeps = Unit {0}

  abbrev pub IsThen : ℕ → Body → Option Outcome → Option Value → Type 0
  IsThen n b now keeps = BuiltThen n b now × FrozenThen n b keeps

  -- so of each declaration from the n-th on
  abbrev pub AllBuilt : ℕ → List Entry → Type 0
  AllBuilt n [] = Unit {0}
  AllBuilt n (e ∷ es) = ((now : Option Outcome) × (keeps : Option Value) × IsThen n e.body now keeps) × AllBuilt (suc n) es

  pub all_built : (n : ℕ) (es : List Entry)
      → ((j : ℕ) (e : Entry) → slice_get es j ≡ Some e → (m : ℕ) → m ≡ n + j → (now : Option Outcome) × (keeps : Option Value) × IsThen m e.body now keeps)
      → AllBuilt n es
  all_built n [] each = tt
  all_built n (e ∷ es) each =
      (each 0 e refl n (omega arith), all_built (suc n) es (λ j x is m same. each (suc j) x is m (omega (arith, same))))

  -- what the j-th of them was built for
  abbrev pub now_from : (n : ℕ) (es : List Entry) → AllBuilt n es → ℕ → Option Outcome
  now_from n [] all j = None
  now_from n (e ∷ es) all zero = all.0.0
  now_from n (e ∷ es) all (suc j) = now_from (suc n) es all.1 j

  -- what it keeps as a freeze
  abbrev pub keeps_from : (n : ℕ) (es : List Entry) → AllBuilt n es → ℕ → Option Value
  keeps_from n [] all j = None
  keeps_from n (e ∷ es) all zero = all.0.1
  keeps_from n (e ∷ es) all (suc j) = keeps_from (suc n) es all.1 j

  abbrev pub entries_from : (ℕ → Option Outcome) → (n : ℕ) (es : List Entry) → AllBuilt n es → List Entry
  entries_from N n [] all = []
  entries_from N n (e ∷ es) all = record e { body = body_then s N e.body all.0.0 all.0.1 } ∷ entries_from N (suc n) es all.1

  entry_from : (N : ℕ → Option Outcome) (n : ℕ) (es : List Entry) (all : AllBuilt n es) (j : ℕ) (e : Entry) → slice_get es j ≡ Some e → (m : ℕ) → m ≡ n + j
      → (slice_get (entries_from N n es all) j ≡ Some (record e { body = body_then s N e.body (now_from n es all j) (keeps_from n es all j) }))
      × IsThen m e.body (now_from n es all j) (keeps_from n es all j)
  entry_from N n [] all j e is m same = absurd (cc)
  entry_from N n (d ∷ es) all zero e is m same =
      let one : d ≡ e = cc in
      let index : n ≡ m = omega (arith, same) in (
        ap (λ (z : Entry). Some (record z { body = body_then s N z.body all.0.0 all.0.1 })) one,
        subst (λ (z : Entry). IsThen m z.body all.0.0 all.0.1) one (subst (λ (i : ℕ). IsThen i d.body all.0.0 all.0.1) index all.0.2),
      )
  entry_from N n (d ∷ es) all (suc j) e is m same = entry_from N (suc n) es all.1 j e is m (omega (arith, same))

  none_from : (N : ℕ → Option Outcome) (n : ℕ) (es : List Entry) (all : AllBuilt n es) (j : ℕ) → slice_get es j ≡ None
      → (slice_get (entries_from N n es all) j ≡ None) × (now_from n es all j ≡ None)
  none_from N n [] all j is = (is, refl)
  none_from N n (d ∷ es) all zero is = absurd (cc)
  none_from N n (d ∷ es) all (suc j) is = none_from N (suc n) es all.1 j is

  length_from : (N : ℕ → Option Outcome) (n : ℕ) (es : List Entry) (all : AllBuilt n es) → length (entries_from N n es all) ≡ length es
  length_from N n [] all = refl
  length_from N n (e ∷ es) all = ap suc (length_from N (suc n) es all.1)

  declared_from : (N : ℕ → Option Outcome) (n : ℕ) (es : List Entry) (all : AllBuilt n es) → map declared_of (entries_from N n es all) ≡ map declared_of es
  declared_from N n [] all = refl
  declared_from N n (e ∷ es) all =
      ap (λ (ds : List Declared). declared_of (record e { body = body_then s N e.body all.0.0 all.0.1 }) ∷ ds) (declared_from N (suc n) es all.1)
      ∙ ap (λ (d : Declared). d ∷ map declared_of es)
      (ap (λ z. record { name = e.name; ty = e.ty; kind = z; target = e.target }) (same_kind s N e.body all.0.0 all.0.1))

  places_from : (N : ℕ → Option Outcome) (n : ℕ) (es : List Entry) (all : AllBuilt n es)
      → sum_by (λ (e : Entry). places_of_body e.body) (entries_from N n es all) ≡ sum_by (λ (e : Entry). places_of_body e.body) es
  places_from N n [] all = refl
  places_from N n (e ∷ es) all =
      let rest = places_from N (suc n) es all.1 in
      let first =
      sum_by-cons (λ (e : Entry). places_of_body e.body) (record e { body = body_then s N e.body all.0.0 all.0.1 }) (entries_from N (suc n) es all.1) in
      let second = sum_by-cons (λ (e : Entry). places_of_body e.body) e es in
      let one = same_places s N e.body all.0.0 all.0.1 in
      omega (arith, rest, first, second, one)

  module _ (all : AllBuilt 0 s.entries) (observers : List Observer) (accepted : ℕ) where
    abbrev pub now_at : ℕ → Option Outcome
    now_at j = now_from 0 s.entries all j

    abbrev pub keeps_at : ℕ → Option Value
    keeps_at j = keeps_from 0 s.entries all j

    -- the state that is left, with these observers
    abbrev pub then : State
    then = record s { entries = entries_from now_at 0 s.entries all; observers = observers; accepted = accepted }

    pub entry_then : (n : ℕ) (e : Entry) → entry_at s n ≡ Some e
        → (entry_at then n ≡ Some (record e { body = body_then s now_at e.body (now_at n) (keeps_at n) })) × IsThen n e.body (now_at n) (keeps_at n)
    entry_then n e is = entry_from now_at 0 s.entries all n e is n (omega arith)

    -- each declaration was one
    pub entry_was : (n : ℕ) (z : Entry) → entry_at then n ≡ Some z
        → (e : Entry) × (entry_at s n ≡ Some e) × (z ≡ record e { body = body_then s now_at e.body (now_at n) (keeps_at n) })
    entry_was n z is = go (entry_at s n) refl
      where
        go : (o : Option Entry) → entry_at s n ≡ o
            → (e : Entry) × (entry_at s n ≡ Some e) × (z ≡ record e { body = body_then s now_at e.body (now_at n) (keeps_at n) })
        go None none = absurd (let gone = (none_from now_at 0 s.entries all n none).0 in let clash : None ≡ Some z = sym gone ∙ is in cc)
        go (Some e) there = (
          e,
          there,
          (
              let both : Some z ≡ Some (record e { body = body_then s now_at e.body (now_at n) (keeps_at n) }) = sym is ∙ (entry_then n e there).0 in cc),
        )

    pub body_of_then : (n : ℕ) (b : Body) → body_at s n ≡ Some b
        → (body_at then n ≡ Some (body_then s now_at b (now_at n) (keeps_at n))) × IsThen n b (now_at n) (keeps_at n)
    body_of_then n b is = go (entry_at s n) refl is
      where
        go : (o : Option Entry) → entry_at s n ≡ o → and_then o (λ (e : Entry). Some e.body) ≡ Some b
            → (body_at then n ≡ Some (body_then s now_at b (now_at n) (keeps_at n))) × IsThen n b (now_at n) (keeps_at n)
        go None none at = absurd (cc)
        go (Some e) there at =
            let same : e.body ≡ b = cc in
            let h = entry_then n e there in (
              ap (λ (o : Option Entry). and_then o (λ (d : Entry). Some d.body)) h.0
                  ∙ ap (λ (d : Body). Some (body_then s now_at d (now_at n) (keeps_at n))) same,
              subst (λ (d : Body). IsThen n d (now_at n) (keeps_at n)) same h.1,
            )

    pub body_none : (n : ℕ) → body_at s n ≡ None → (body_at then n ≡ None) × (now_at n ≡ None)
    body_none n is = go (entry_at s n) refl is
      where
        go : (o : Option Entry) → entry_at s n ≡ o → and_then o (λ (e : Entry). Some e.body) ≡ None → (body_at then n ≡ None) × (now_at n ≡ None)
        go None none at =
            let h = none_from now_at 0 s.entries all n none in (ap (λ (o : Option Entry). and_then o (λ (d : Entry). Some d.body)) h.0, h.1)
        go (Some e) there at = absurd (cc)

    pub body_was : (n : ℕ) (b : Body) → body_at then n ≡ Some b → (d : Body) × (body_at s n ≡ Some d) × (b ≡ body_then s now_at d (now_at n) (keeps_at n))
    body_was n b is = go (body_at s n) refl
      where
        go : (o : Option Body) → body_at s n ≡ o → (d : Body) × (body_at s n ≡ Some d) × (b ≡ body_then s now_at d (now_at n) (keeps_at n))
        go None none = absurd (let gone = (body_none n none).0 in let clash : None ≡ Some b = sym gone ∙ is in cc)
        go (Some d) there = (d, there, (let both : Some b ≡ Some (body_then s now_at d (now_at n) (keeps_at n)) = sym is ∙ (body_of_then n d there).0 in cc))

    -- what a bind was built for is kept
    pub built_then : (n : ℕ) → built_at then n ≡ now_at n
    built_then n = go (body_at s n) refl
      where
        by_body : (b : Body) → BuiltThen n b (now_at n) → built_of_body (body_then s now_at b (now_at n) (keeps_at n)) ≡ now_at n
        by_body (Computed f kept) h = refl
        by_body b h = sym h

        go : (o : Option Body) → body_at s n ≡ o → built_at then n ≡ now_at n
        go None none = let h = body_none n none in ap (λ (o : Option Body). and_then o built_of_body) h.0 ∙ sym h.1
        go (Some b) there =
            let h = body_of_then n b there in ap (λ (o : Option Body). and_then o built_of_body) h.0 ∙ by_body b h.1.0

    pub length_then : length then.entries ≡ length s.entries
    length_then = length_from now_at 0 s.entries all

    pub declared_then : map declared_of then.entries ≡ map declared_of s.entries
    declared_then = declared_from now_at 0 s.entries all

    pub places_then : places_of then ≡ places_of s
    places_then = places_from now_at 0 s.entries all

    becomes : (n : ℕ) (b : Body) (now : Option Outcome) (keeps : Option Value) → IsThen n b now keeps
        → Becomes F before s then n b (body_then s now_at b now keeps)
    becomes n (Variable v) now keeps h = refl
    becomes n (Computed (Bind left body) kept) now keeps h = (record { built = now }, refl, record { built = h.0.0 })
    becomes n (Computed f kept) now keeps h = (record { built = now }, refl, record { built = h.0 })
    becomes n (Freeze child predicate None) now keeps h =
        (h.1.0.0, h.1.0.1, ap (λ (v : Option Value). Freeze child predicate v) h.1.0.2)
    becomes n (Freeze child predicate (Some v)) now keeps h = ap (λ (w : Option Value). Freeze child predicate w) h.1.0
    becomes n (Grab bind v is_live) now keeps h =
        ap (λ (o : Option Outcome). Grab bind v (is_live && same_kept (built_at s bind) o)) (sym (built_then bind))
    becomes n (After time) now keeps h = refl
    becomes n (Every base span) now keeps h = refl
    becomes n (Expert f first links stale) now keeps h = refl

    become_from : (n : ℕ) (es : List Entry) (some : AllBuilt n es) → BecomeAll F before s then n es (entries_from now_at n es some)
    become_from n [] some = tt
    become_from n (e ∷ es) some = (
      (body_then s now_at e.body some.0.0 some.0.1, refl, becomes n e.body some.0.0 some.0.1 some.0.2),
      become_from (suc n) es some.1,
    )

    -- so it is what becomes of the declarations
    pub become_all : BecomeAll F before s then 0 s.entries then.entries
    become_all = become_from 0 s.entries all
