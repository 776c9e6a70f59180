-- What gives an outcome is on no cycle.
use Rattle.std.proofs.Common.{◌≡◌, inl, inr, ℕ, zero, suc, ◌+◌, ◌<◌, ◌≤◌, true, false, List, [], ◌∷◌, map, Option, None, Some, refl, sym, ap, subst, ◌∙◌, arith}
use Rattle.std.specs.Prelude as std
use Rattle.inc_value.specs.Choice.{and_then, Among, Reaches, here, step}
use Rattle.script_model.specs.Blocked.{ReadsName, at_once, through, NameReads, OnCycle}
use Rattle.script_model.specs.Evaluate.{Gathered, Unknown, SomeInvalid, Values, gathered, each_of, given, with_value, or_invalid, truth_of, target_of, while_built, chosen, level, body_level, name_level, value_at}
use Rattle.script_model.specs.Formula as model
use Rattle.script_model.specs.Formula.{Formula, Formulas, Body, Entry, State, Meanings, entry_at, body_at, bind_at, Literal, Name, Bound, Apply, Fold, If, Join, Bind, At, Steps, Now, End, More, Variable, Computed, Freeze, After, Expert, Grab}
use Rattle.script_model.specs.Laws.{GivenIsOnNoCycle}
use Rattle.script_model.specs.Need.{Edge, Argument, Test, Then, Else, Child, Left, Inside, Item, Named, Place, environment, bind_around, argument_at, part_at, formula_at, outcome_at, argument_places, chosen_place, named_place, inside_place, part_reads, left_of, scope_reads, place_reads, grab_reads, body_reads, name_reads, Reads}
use Rattle.script_model.specs.Values.{Value, Outcome, Bool, Reference, Val, Invalid, same_value}
use Rattle.script_model.proofs.Evaluation.{one_outcome}
use Rattle.script_model.proofs.NeededStands.{bind_stands}
use Rattle.script_model.proofs.Places.{among_either, part_below}

-- ---- arguments

known : (f : List Value → Value) (g : Gathered) (o : Outcome) → given f g ≡ Some o → g ≡ Unknown → ⊥
known f g o e u = let e' = rw u at e in cc

each_known : (part : Formula → Option Outcome) (fs : Formulas) → (gathered (each_of part fs) ≡ Unknown → ⊥) → (j : ℕ) (h : Formula)
    → argument_at fs j ≡ Some h → (p : Outcome) × (part h ≡ Some p)
each_known part End all j h e = absurd (cc)
each_known part (More f rest) all j h e = by_first (part f) refl (gathered (each_of part rest)) refl j e
    (λ i more e'. each_known part rest more i h e')
  where
    by_first : (o : Option Outcome) → part f ≡ o → (g : Gathered) → gathered (each_of part rest) ≡ g → (j : ℕ)
        → argument_at (More f rest) j ≡ Some h
        → ((i : ℕ) → (gathered (each_of part rest) ≡ Unknown → ⊥) → argument_at rest i ≡ Some h → (p : Outcome) × (part h ≡ Some p))
        → (p : Outcome) × (part h ≡ Some p)
    by_first None is g rest_is j e more = absurd (all (rw is refl))
    by_first (Some p) is g rest_is zero e more = let same : f ≡ h = cc in (p, rw (← same) is)
    by_first (Some Invalid) is Unknown rest_is (suc j) e more = absurd (all (rw (is, rest_is) refl))
    by_first (Some (Val v)) is Unknown rest_is (suc j) e more = absurd (all (rw (is, rest_is) refl))
    by_first (Some p) is SomeInvalid rest_is (suc j) e more = more j (λ u. (let x = rw rest_is at u in cc)) e
    by_first (Some p) is (Values vs) rest_is (suc j) e more = more j (λ u. (let x = rw rest_is at u in cc)) e

links_known : (part : ℕ → Option Outcome) (links : List ℕ) → (gathered (map part links) ≡ Unknown → ⊥) → (m : ℕ) → Among m links
    → (p : Outcome) × (part m ≡ Some p)
links_known part [] all m none = absurd none
links_known part (n ∷ links) all m among = by_first (part n) refl (gathered (map part links)) refl among
    (λ more later. links_known part links more m later)
  where
    by_first : (o : Option Outcome) → part n ≡ o → (g : Gathered) → gathered (map part links) ≡ g → Among m (n ∷ links)
        → ((gathered (map part links) ≡ Unknown → ⊥) → Among m links → (p : Outcome) × (part m ≡ Some p))
        → (p : Outcome) × (part m ≡ Some p)
    by_first None is g rest_is among more = absurd (all (rw is refl))
    by_first (Some p) is g rest_is (inl e) more = (p, rw e is)
    by_first (Some Invalid) is Unknown rest_is (inr later) more = absurd (all (rw (is, rest_is) refl))
    by_first (Some (Val v)) is Unknown rest_is (inr later) more = absurd (all (rw (is, rest_is) refl))
    by_first (Some p) is SomeInvalid rest_is (inr later) more = more (λ u. (let x = rw rest_is at u in cc)) later
    by_first (Some p) is (Values vs) rest_is (inr later) more = more (λ u. (let x = rw rest_is at u in cc)) later

-- ---- binds round places

abbrev IsSide : Edge → Type 0
IsSide (Inside v) = ⊥
IsSide edge = Unit {0}

passes : (k : ℕ) (edge : Edge) (path : List Edge) → IsSide edge → bind_around k (edge ∷ path) ≡ bind_around k path
passes zero (Inside v) path h = absurd h
passes (suc k) (Inside v) path h = absurd h
passes zero edge path h = refl
passes (suc k) edge path h = refl

same_values_round : (edge : Edge) (path : List Edge) → IsSide edge → environment (edge ∷ path) ≡ environment path
same_values_round (Inside v) path h = absurd h
same_values_round edge path h = refl

beyond : (path bind : List Edge) (k : ℕ) → bind_around 0 path ≡ Some bind → bind_around (suc k) path ≡ bind_around k bind
beyond [] bind k e = absurd (cc)
beyond (Inside v ∷ path) bind k e = let same : path ≡ bind = cc in rw same refl
beyond (Argument j ∷ path) bind k e = beyond path bind k e
beyond (Test ∷ path) bind k e = beyond path bind k e
beyond (Then ∷ path) bind k e = beyond path bind k e
beyond (Else ∷ path) bind k e = beyond path bind k e
beyond (Child ∷ path) bind k e = beyond path bind k e
beyond (Left ∷ path) bind k e = beyond path bind k e

module _ (F : Meanings) (s : State) (d : ℕ) where
  -- the item gives within a smaller depth
  abbrev Gave : Item → Type 0
  Gave i = (e : ℕ) × (e < d) × (o : Outcome) × (outcome_at F s e i ≡ Some o)

  abbrev Around : ℕ → List Edge → Type 0
  Around owner path = (k : ℕ) (bind : List Edge) → bind_around k path ≡ Some bind → Gave (Place owner (Left ∷ bind))

  -- and so do the lefts round it
  abbrev Fine : Item → Type 0
  Fine (Named k) = Gave (Named k)
  Fine (Place owner path) = Gave (Place owner path) × Around owner path

  abbrev AllFine : List Item → Type 0
  AllFine items = (j : Item) → Among j items → Fine j

  none_fine : AllFine []
  none_fine j none = absurd none

  more_fine : (i : Item) (items : List Item) → Fine i → AllFine items → AllFine (i ∷ items)
  more_fine i items first rest j (inl e) = rw e first
  more_fine i items first rest j (inr later) = rest j later

  no_around : (k : ℕ) (bind : List Edge) → bind_around k [] ≡ Some bind → ⊥
  no_around zero bind e = cc
  no_around (suc k) bind e = cc

  gave_at : (owner : ℕ) (path : List Edge) (f : Formula) (e : ℕ) (o : Outcome) → formula_at s owner path ≡ Some f → e < d
      → value_at F s e (environment path) f ≡ Some o → Gave (Place owner path)
  gave_at owner path f e o is low gives = (e, low, o, rw is gives)

  side_fine : (owner : ℕ) (path : List Edge) (edge : Edge) (f g : Formula) (e : ℕ) (o : Outcome) → IsSide edge
      → formula_at s owner path ≡ Some f → part_at f edge ≡ Some g → e < d → value_at F s e (environment path) g ≡ Some o
      → Around owner path → Fine (Place owner (edge ∷ path))
  side_fine owner path edge f g e o side is part low gives around = (
    gave_at owner (edge ∷ path) g e o (part_below s owner path f edge is ∙ part) low
        (subst (λ (E : List Value). value_at F s e E g ≡ Some o) (sym (same_values_round edge path side)) gives),
    λ k bind at. around k bind (sym (passes k edge path side) ∙ at),
  )

  arguments_fine : (owner : ℕ) (path : List Edge) (k : ℕ) (fs : Formulas)
      → ((j : ℕ) (g : Formula) → argument_at fs j ≡ Some g → Fine (Place owner (Argument (k + j) ∷ path)))
      → AllFine (argument_places owner path k fs)
  arguments_fine owner path k End each = none_fine
  arguments_fine owner path k (More f rest) each =
      let first : k + 0 ≡ k = omega arith in
      more_fine (Place owner (Argument k ∷ path)) _
      (subst (λ (n : ℕ). Fine (Place owner (Argument n ∷ path))) first (each 0 f refl))
      (arguments_fine owner path (suc k) rest (λ j g e.
      let next : k + suc j ≡ suc k + j = omega arith in
      subst (λ (n : ℕ). Fine (Place owner (Argument n ∷ path))) next (each (suc j) g e)))

  name_gives : (e n : ℕ) (o : Outcome) → name_level F s (value_at F s e) (entry_at s n) ≡ Some o
      → value_at F s (suc e) [] (Name n) ≡ Some o
  unfolding value_at
  name_gives e n o h = h

  module _ (owner : ℕ) (path : List Edge) (e : ℕ) (lower : suc e < d) (around : Around owner path) where
    low : e < d
    low = omega (arith, lower)

    abbrev part : Formula → Option Outcome
    part f = value_at F s e (environment path) f

    all_arguments : (f : Formula) (fs : Formulas) → formula_at s owner path ≡ Some f
        → ((j : ℕ) → part_at f (Argument j) ≡ argument_at fs j) → (gathered (each_of part fs) ≡ Unknown → ⊥)
        → AllFine (argument_places owner path 0 fs)
    all_arguments f fs is parts all = arguments_fine owner path 0 fs (λ j g at.
        let zero_more : 0 + j ≡ j = omega arith in
        let p = each_known part fs all j g at in
        subst (λ (n : ℕ). Fine (Place owner (Argument n ∷ path))) (sym zero_more)
        (side_fine owner path (Argument j) f g e p.0 tt is (parts j ∙ at) low p.1 around))

    -- what a part gives at another depth it gives
    agree : (f : Formula) (d' : ℕ) (o p : Outcome) → value_at F s d' (environment path) f ≡ Some o → part f ≡ Some p → p ≡ o
    agree f d' o p g h = one_outcome F s (environment path) f p o (e, h) (d', g)

    chosen_fine : (test a b : Formula) (d' : ℕ) (t : Option Outcome) (o : Outcome) → formula_at s owner path ≡ Some (If test a b)
        → value_at F s d' (environment path) test ≡ t
        → with_value (part test) (λ v. or_invalid (truth_of v) (λ t. part (chosen t a b))) ≡ Some o
        → AllFine (chosen_place owner path t)
    chosen_fine test a b d' (Some (Val (Bool true))) o is at gives =
        more_fine (Place owner (Then ∷ path)) [] (by_test (part test) refl gives) none_fine
      where
        by_test : (p : Option Outcome) → part test ≡ p
            → with_value p (λ v. or_invalid (truth_of v) (λ t. part (chosen t a b))) ≡ Some o → Fine (Place owner (Then ∷ path))
        by_test None p_is g = absurd (cc)
        by_test (Some p) p_is g =
            let same = agree test d' (Val (Bool true)) p at p_is in
            side_fine owner path Then (If test a b) a e o tt is refl low (rw same at g) around
    chosen_fine test a b d' (Some (Val (Bool false))) o is at gives =
        more_fine (Place owner (Else ∷ path)) [] (by_test (part test) refl gives) none_fine
      where
        by_test : (p : Option Outcome) → part test ≡ p
            → with_value p (λ v. or_invalid (truth_of v) (λ t. part (chosen t a b))) ≡ Some o → Fine (Place owner (Else ∷ path))
        by_test None p_is g = absurd (cc)
        by_test (Some p) p_is g =
            let same = agree test d' (Val (Bool false)) p at p_is in
            side_fine owner path Else (If test a b) b e o tt is refl low (rw same at g) around
    chosen_fine test a b d' t o is at gives = none_fine

    named_fine : (child : Formula) (d' : ℕ) (t : Option Outcome) (o : Outcome)
        → value_at F s d' (environment path) child ≡ t
        → with_value (part child) (λ v. or_invalid (target_of v) (λ n. value_at F s e [] (Name n))) ≡ Some o
        → AllFine (named_place t)
    named_fine child d' (Some (Val (Reference n b))) o at gives =
        more_fine (Named n) [] (by_child (part child) refl gives) none_fine
      where
        by_child : (p : Option Outcome) → part child ≡ p
            → with_value p (λ v. or_invalid (target_of v) (λ n. value_at F s e [] (Name n))) ≡ Some o → Fine (Named n)
        by_child None p_is g = absurd (cc)
        by_child (Some p) p_is g =
            let same = agree child d' (Val (Reference n b)) p at p_is in (e, low, o, rw same at g)
    named_fine child d' t o at gives = none_fine

    inside_fine : (left body : Formula) (d' : ℕ) (t : Option Outcome) (o : Outcome) → formula_at s owner path ≡ Some (Bind left body)
        → value_at F s d' (environment path) left ≡ t
        → with_value (part left) (λ v. value_at F s e (v ∷ environment path) body) ≡ Some o
        → Gave (Place owner (Left ∷ path)) → AllFine (inside_place owner path t)
    inside_fine left body d' (Some (Val v)) o is at gives gave =
        more_fine (Place owner (Inside v ∷ path)) [] (by_left (part left) refl gives) none_fine
      where
        by_around : (k : ℕ) (bind : List Edge) → bind_around k (Inside v ∷ path) ≡ Some bind → Gave (Place owner (Left ∷ bind))
        by_around zero bind same = let paths : path ≡ bind = cc in rw (← paths) gave
        by_around (suc k) bind same = around k bind same

        by_left : (p : Option Outcome) → part left ≡ p
            → with_value p (λ v. value_at F s e (v ∷ environment path) body) ≡ Some o → Fine (Place owner (Inside v ∷ path))
        by_left None p_is g = absurd (cc)
        by_left (Some p) p_is g =
            let same = agree left d' (Val v) p at p_is in (
              gave_at owner (Inside v ∷ path) body e o (part_below s owner path (Bind left body) (Inside v) is) low (rw same at g),
              by_around,
            )
    inside_fine left body d' None o is at gives gave = none_fine
    inside_fine left body d' (Some Invalid) o is at gives gave = none_fine

    known_first : (a : Option Outcome) (next : Value → Option Outcome) (o : Outcome) → with_value a next ≡ Some o
        → (p : Outcome) × (a ≡ Some p)
    known_first None next o h = absurd (cc)
    known_first (Some p) next o h = (p, refl)

    parts_fine : (f : Formula) (d' : ℕ) (o : Outcome) → formula_at s owner path ≡ Some f
        → level F s (value_at F s e) (environment path) f ≡ Some o
        → AllFine (part_reads (value_at F s d' (environment path)) owner path f)
    parts_fine (Literal v) d' o is gives = none_fine
    parts_fine (Bound k) d' o is gives = none_fine
    parts_fine (At t) d' o is gives = none_fine
    parts_fine (Steps v ss) d' o is gives = none_fine
    parts_fine Now d' o is gives = none_fine
    parts_fine (Apply g fs) d' o is gives = all_arguments (Apply g fs) fs is (λ j. refl) (known _ _ o gives)
    parts_fine (Fold g v fs) d' o is gives = all_arguments (Fold g v fs) fs is (λ j. refl) (known _ _ o gives)
    parts_fine (If test a b) d' o is gives =
        let p = known_first (part test) _ o gives in
        more_fine (Place owner (Test ∷ path)) _
        (side_fine owner path Test (If test a b) test e p.0 tt is refl low p.1 around)
        (chosen_fine test a b d' (value_at F s d' (environment path) test) o is refl gives)
    parts_fine (Join child) d' o is gives =
        let p = known_first (part child) _ o gives in
        more_fine (Place owner (Child ∷ path)) _
        (side_fine owner path Child (Join child) child e p.0 tt is refl low p.1 around)
        (named_fine child d' (value_at F s d' (environment path) child) o refl gives)
    parts_fine (Bind left body) d' o is gives =
        let p = known_first (part left) _ o gives in
        let first = side_fine owner path Left (Bind left body) left e p.0 tt is refl low p.1 around in
        more_fine (Place owner (Left ∷ path)) _ first
        (inside_fine left body d' (value_at F s d' (environment path) left) o is refl gives first.0)
    parts_fine (Name n) d' o is gives = more_fine (Named n) [] (suc e, lower, o, name_gives e n o gives) none_fine

    lefts_fine : (b : Option (List Edge)) → bind_around 0 path ≡ b → AllFine (left_of owner b)
    lefts_fine None at = none_fine
    lefts_fine (Some bind) at =
        more_fine (Place owner (Left ∷ bind)) []
        (around 0 bind at, λ k b is. around (suc k) b (beyond path bind k at ∙ (sym (passes k Left bind tt) ∙ is))) none_fine

    scope_fine : (f : Formula) → AllFine (scope_reads owner path f)
    scope_fine (Name n) = none_fine
    scope_fine (Bound (suc k)) = none_fine
    scope_fine f = lefts_fine (bind_around 0 path) refl

    place_fine : (f : Formula) (d' : ℕ) (o : Outcome) → formula_at s owner path ≡ Some f
        → level F s (value_at F s e) (environment path) f ≡ Some o → AllFine (place_reads F s d' owner path (Some f))
    place_fine f d' o is gives j among = elim (among_either j (part_reads (value_at F s d' (environment path)) owner path f)
        (scope_reads owner path f) among) [
          | inl part ↦ parts_fine f d' o is gives j part
          | inr scope ↦ scope_fine f j scope
        ]

  -- what a place reads that gives within a smaller depth
  place_reads_fine : (owner : ℕ) (path : List Edge) (j : Item) → Fine (Place owner path) → Reads F s (Place owner path) j → Fine j
  unfolding value_at
  place_reads_fine owner path j ((zero, low, o, gives), around) (d', among) = absurd (none_yet (formula_at s owner path) gives)
    where
      none_yet : (f : Option Formula) → and_then f (λ f. value_at F s zero (environment path) f) ≡ Some o → ⊥
      none_yet None h = cc
      none_yet (Some f) h = cc
  place_reads_fine owner path j ((suc e, low, o, gives), around) (d', among) = go (formula_at s owner path) refl gives among
    where
      go : (f : Option Formula) → formula_at s owner path ≡ f → and_then f (λ f. value_at F s (suc e) (environment path) f) ≡ Some o
          → Among j (place_reads F s d' owner path f) → Fine j
      go None is h none = absurd none
      go (Some f) is h among = place_fine owner path e low around f d' o is h j among

  -- what a name reads that gives at the depth itself
  whole_fine : (n : ℕ) (f : Formula) (e : ℕ) (o : Outcome) → formula_at s n [] ≡ Some f → e < d → value_at F s e [] f ≡ Some o
      → Fine (Place n [])
  whole_fine n f e o is low gives = (gave_at n [] f e o is low gives, λ k bind at. absurd (no_around k bind at))

  grab_fine : (n b : ℕ) (v : Value) (e d' : ℕ) (o : Outcome) (left body : Formula) → bind_at s b ≡ Some (left, body) → e < d
      → while_built v (value_at F s e [] left) (value_at F s e (v ∷ []) body) ≡ Some o
      → (t : Option Outcome) → outcome_at F s d' (Place b (Left ∷ [])) ≡ t → AllFine (grab_reads b v t)
  grab_fine n b v e d' o left body is low gives t at = by_outcome t at
    where
      whole : formula_at s b [] ≡ Some (Bind left body)
      whole = bind_stands s b left body is

      left_is : formula_at s b (Left ∷ []) ≡ Some left
      left_is = part_below s b [] (Bind left body) Left whole

      by_left : (p : Option Outcome) → value_at F s e [] left ≡ p → while_built v p (value_at F s e (v ∷ []) body) ≡ Some o
          → (p : Outcome) × (value_at F s e [] left ≡ Some p)
      by_left None p_is h = absurd (cc)
      by_left (Some p) p_is h = (p, p_is)

      given_left : (p : Outcome) × (value_at F s e [] left ≡ Some p)
      given_left = by_left (value_at F s e [] left) refl gives

      at_left : Fine (Place b (Left ∷ []))
      at_left = (gave_at b (Left ∷ []) left e given_left.0 left_is low given_left.1, λ k bind a. absurd (none k bind a))
        where
          none : (k : ℕ) (bind : List Edge) → bind_around k (Left ∷ []) ≡ Some bind → ⊥
          none zero bind a = cc
          none (suc k) bind a = cc

      inside : (w : Value) → same_value v w ≡ true → value_at F s e [] left ≡ Some (Val w) → Fine (Place b (Inside v ∷ []))
      inside w same w_is = (
        gave_at b (Inside v ∷ []) body e o (part_below s b [] (Bind left body) (Inside v) whole) low
            (let h = rw w_is at gives in rw same at h),
        by_around,
      )
        where
          by_around : (k : ℕ) (bind : List Edge) → bind_around k (Inside v ∷ []) ≡ Some bind → Gave (Place b (Left ∷ bind))
          by_around zero bind a = let paths : [] ≡ bind = cc in rw (← paths) at_left.0
          by_around (suc k) bind a = absurd (no_around k bind a)

      by_test : (w : Value) (t : std.Bool) → same_value v w ≡ t → value_at F s e [] left ≡ Some (Val w) → AllFine (elim t
          [ true ↦ Place b (Left ∷ []) ∷ Place b (Inside v ∷ []) ∷ [] | false ↦ Place b (Left ∷ []) ∷ [] ])
      by_test w true same w_is =
          more_fine (Place b (Left ∷ [])) (Place b (Inside v ∷ []) ∷ []) at_left
          (more_fine (Place b (Inside v ∷ [])) [] (inside w same w_is) none_fine)
      by_test w false same w_is = more_fine (Place b (Left ∷ [])) [] at_left none_fine

      by_outcome : (t : Option Outcome) → outcome_at F s d' (Place b (Left ∷ [])) ≡ t → AllFine (grab_reads b v t)
      by_outcome None at = more_fine (Place b (Left ∷ [])) [] at_left none_fine
      by_outcome (Some Invalid) at = more_fine (Place b (Left ∷ [])) [] at_left none_fine
      by_outcome (Some (Val w)) at =
          let there : value_at F s d' [] left ≡ Some (Val w) = rw left_is at at in
          let same = one_outcome F s [] left given_left.0 (Val w) (e, given_left.1) (d', there) in
          by_test w (same_value v w) refl (rw same at given_left.1)

  links_fine : (links all : List ℕ) (e : ℕ) → e < d
      → ((m : ℕ) → Among m links → (p : Outcome) × (value_at F s e [] (Name m) ≡ Some p)) → AllFine (map (λ m. Named m) links)
  links_fine [] all e _ each = none_fine
  links_fine (m ∷ links) all e low each =
      let p = each m (inl refl) in
      more_fine (Named m) _ (e, low, p.0, p.1) (links_fine links all e low (λ n among. each n (inr among)))

  body_fine : (n e d' : ℕ) (b : Body) (o : Outcome) → body_at s n ≡ Some b → e < d → body_level F s (value_at F s e) b ≡ Some o
      → AllFine (body_reads F s d' n b)
  body_fine n e d' (Variable v) o is low gives = none_fine
  body_fine n e d' (Computed f kept) o is low gives =
      more_fine (Place n []) [] (whole_fine n f e o (rw is refl) low gives) none_fine
  body_fine n e d' (Freeze child p None) o is low gives =
      more_fine (Place n []) [] (whole_fine n child e o (rw is refl) low gives) none_fine
  body_fine n e d' (Freeze child p (Some v)) o is low gives = none_fine
  body_fine n e d' (After t) o is low gives = none_fine
  body_fine n e d' (model.Every base span) o is low gives = none_fine
  body_fine n e d' (Expert f first links stale) o is low gives =
      links_fine links links e low (links_known (λ m. value_at F s e [] (Name m)) links (known _ _ o gives))
  body_fine n e d' (Grab b v false) o is low gives = none_fine
  body_fine n e d' (Grab b v true) o is low gives = go (bind_at s b) refl gives
    where
      go : (p : Option (Formula × Formula)) → bind_at s b ≡ p
          → and_then p (λ (b : Formula × Formula). while_built v (value_at F s e [] b.0) (value_at F s e (v ∷ []) b.1)) ≡ Some o
          → AllFine (grab_reads b v (outcome_at F s d' (Place b (Left ∷ []))))
      go None p_is h = absurd (cc)
      go (Some (left, body)) p_is h = grab_fine n b v e d' o left body p_is low h (outcome_at F s d' (Place b (Left ∷ []))) refl

  name_reads_fine : (n e : ℕ) (o : Outcome) (j : Item) → e < d → name_level F s (value_at F s e) (entry_at s n) ≡ Some o
      → Reads F s (Named n) j → Fine j
  name_reads_fine n e o j low gives (d', among) = go (entry_at s n) refl gives among
    where
      go : (x : Option Entry) → entry_at s n ≡ x → name_level F s (value_at F s e) x ≡ Some o
          → Among j (name_reads F s d' n (and_then x (λ (y : Entry). Some y.body))) → Fine j
      go None is h none = absurd none
      go (Some x) is h among =
          body_fine n e d' x.body o (ap (λ y. and_then y (λ (y : Entry). Some y.body)) is) low h j among

  -- a name that such an item reads through places gives within a smaller depth
  reads_gave : (y : ℕ) (owner : ℕ) (path : List Edge) → Fine (Place owner path) → ReadsName F s y (Place owner path) → Gave (Named y)
  reads_gave y owner path fine (at_once r) = place_reads_fine owner path (Named y) fine r
  reads_gave y owner path fine (through o p r on) =
      reads_gave y o p (place_reads_fine owner path (Place o p) fine r) on

  first_gave : (x y e : ℕ) (o : Outcome) → e < d → name_level F s (value_at F s e) (entry_at s x) ≡ Some o → NameReads F s x y
      → Gave (Named y)
  first_gave x y e o low gives (at_once r) = name_reads_fine x e o (Named y) low gives r
  first_gave x y e o low gives (through o' p r on) =
      reads_gave y o' p (name_reads_fine x e o (Place o' p) low gives r) on

-- ---- cycles

module _ (F : Meanings) (s : State) where
  -- what a name that gives within a depth reads gives within a smaller one
  next_gives : (x y d : ℕ) (o : Outcome) → value_at F s d [] (Name x) ≡ Some o → NameReads F s x y
      → (e : ℕ) × (e < d) × (p : Outcome) × (value_at F s e [] (Name y) ≡ Some p)
  unfolding value_at
  next_gives x y zero o gives read = absurd (cc)
  next_gives x y (suc d) o gives read = first_gave F s (suc d) x y d o (omega arith) gives read

  reached_gives : (x y d : ℕ) (o : Outcome) → value_at F s d [] (Name x) ≡ Some o → Reaches (NameReads F s) x y
      → (e : ℕ) × (e ≤ d) × (p : Outcome) × (value_at F s e [] (Name y) ≡ Some p)
  reached_gives x y d o gives here = (d, omega arith, o, gives)
  reached_gives x y d o gives (step {b = z} r on) =
      let n = next_gives x z d o gives r in
      let more = reached_gives z y n.0 n.2 n.3 on in
      (more.0, (let a = n.1 in let b = more.1 in omega (arith, a, b)), more.2, more.3)

  falls : (bound x d : ℕ) (o : Outcome) → d < bound → value_at F s d [] (Name x) ≡ Some o → OnCycle F s x → ⊥
  falls zero x d o low gives cycle = omega (arith, low)
  falls (suc bound) x d o low gives (y, r, on) =
      let n = next_gives x y d o gives r in
      let more = reached_gives y x n.0 n.2 n.3 on in
      falls bound x more.0 more.2 (let a = n.1 in let b = more.1 in omega (arith, low, a, b)) more.3 (y, r, on)

pub given_is_on_no_cycle : GivenIsOnNoCycle
given_is_on_no_cycle F s n o (d, gives) cycle = falls F s (suc d) n d o (omega arith) gives cycle
