-- What reads the left of a bind is the bind, a live grab of it, or is in its body: so one of the first two is met where the left is. Of the
-- script alone.
use Rattle.std.proofs.Common.{◌≡◌, ◌⊎◌, inl, inr, ℕ, zero, suc, true, false, List, [], ◌∷◌, ◌++◌, map, Option, None, Some, refl, sym, ◌∙◌}
use Rattle.std.specs.Prelude as std
use Rattle.inc_value.specs.Choice.{Among, Reaches, here, step}
use Rattle.script_model.specs.Values.{Value, Outcome, Bool, Reference, Val, Invalid, same_value}
use Rattle.script_model.specs.Formula.{Formula, Formulas, Body, State, Meanings, body_at, Literal, Name, Bound, Apply, Fold, If, Join, Bind, At, Steps, Now, End, More, Variable, Computed, Freeze, After, Every, Expert, Grab}
use Rattle.script_model.specs.Evaluate.{value_at}
use Rattle.script_model.specs.Need.{Edge, Argument, Test, Then, Else, Child, Left, Inside, Item, Named, Place, environment, bind_around, formula_at, outcome_at, argument_places, chosen_place, named_place, inside_place, part_reads, left_of, scope_reads, place_reads, grab_reads, name_reads, Reads, Held, Met, from_root, from_held, StillStands}
use Rattle.script_model.proofs.Places.{among_either}
use Rattle.transfer.specs.Items.{GrabsStay}
use Rattle.transfer.proofs.Enclosed.{beyond, pass, tail_stands, root_named, met_reads, held_reads}

module _ (F : Meanings) (s : State) (Z : Item → Type 0) where
  -- the bind is of the set, or a live grab of it is
  abbrev pub Reader : ℕ → List Edge → Type 0
  Reader owner bind = Z (Place owner bind)
      ⊎ ((bind ≡ []) × (k : ℕ) × (v : Value) × Z (Named k) × (body_at s k ≡ Some (Grab owner v true)))

  -- of a place the binds round it are so, and of a left its bind
  abbrev pub Entered : Item → Type 0
  Entered (Named k) = Unit {0}
  Entered (Place owner path) = ((k : ℕ) (bind : List Edge) → bind_around k path ≡ Some bind → Reader owner bind)
      × ((bind : List Edge) → path ≡ Left ∷ bind → Reader owner bind)

  abbrev AllEntered : List Item → Type 0
  AllEntered items = (j : Item) → Among j items → Entered j

  none_entered : AllEntered []
  none_entered j none = absurd none

  more_entered : (i : Item) (items : List Item) → Entered i → AllEntered items → AllEntered (i ∷ items)
  more_entered i items first rest j (inl e) = rw e first
  more_entered i items first rest j (inr later) = rest j later

  both_entered : (xs ys : List Item) → AllEntered xs → AllEntered ys → AllEntered (xs ++ ys)
  both_entered xs ys a b j among = elim (among_either j xs ys among) [ inl x ↦ a j x | inr y ↦ b j y ]

  no_around : (k : ℕ) (bind : List Edge) → bind_around k [] ≡ Some bind → ⊥
  no_around zero bind e = cc
  no_around (suc k) bind e = cc

  whole_entered : (n : ℕ) → Entered (Place n [])
  whole_entered n = (λ k bind e. absurd (no_around k bind e), λ bind e. absurd (cc))

  arguments_entered : (owner : ℕ) (path : List Edge) (k : ℕ) (fs : Formulas) → Entered (Place owner path)
      → AllEntered (argument_places owner path k fs)
  arguments_entered owner path k End h = none_entered
  arguments_entered owner path k (More f rest) h =
      more_entered (Place owner (Argument k ∷ path)) _
      (λ j bind e. h.0 j bind (sym (pass j (Argument k) path tt) ∙ e), λ bind e. absurd (cc))
      (arguments_entered owner path (suc k) rest h)

  chosen_entered : (owner : ℕ) (path : List Edge) (o : Option Outcome) → Entered (Place owner path)
      → AllEntered (chosen_place owner path o)
  chosen_entered owner path (Some (Val (Bool true))) h =
      more_entered (Place owner (Then ∷ path)) []
      (λ j bind e. h.0 j bind (sym (pass j Then path tt) ∙ e), λ bind e. absurd (cc)) none_entered
  chosen_entered owner path (Some (Val (Bool false))) h =
      more_entered (Place owner (Else ∷ path)) []
      (λ j bind e. h.0 j bind (sym (pass j Else path tt) ∙ e), λ bind e. absurd (cc)) none_entered
  chosen_entered owner path o h = none_entered

  named_entered : (o : Option Outcome) → AllEntered (named_place o)
  named_entered (Some (Val (Reference t b))) = more_entered (Named t) [] tt none_entered
  named_entered o = none_entered

  -- the body of a bind of the set, or that a grab of the set reads
  inside_entered : (owner : ℕ) (path : List Edge) (v : Value) → Reader owner path
      → ((k : ℕ) (bind : List Edge) → bind_around k path ≡ Some bind → Reader owner bind)
      → Entered (Place owner (Inside v ∷ path))
  inside_entered owner path v reader outer = (by_around, λ bind e. absurd (cc))
    where
      by_around : (k : ℕ) (bind : List Edge) → bind_around k (Inside v ∷ path) ≡ Some bind → Reader owner bind
      by_around zero bind e = let same : path ≡ bind = cc in rw (← same) reader
      by_around (suc k) bind e = outer k bind e

  insides_entered : (owner : ℕ) (path : List Edge) (o : Option Outcome) → Z (Place owner path)
      → Entered (Place owner path) → AllEntered (inside_place owner path o)
  insides_entered owner path None is h = none_entered
  insides_entered owner path (Some Invalid) is h = none_entered
  insides_entered owner path (Some (Val v)) is h =
      more_entered (Place owner (Inside v ∷ path)) [] (inside_entered owner path v (inl is) h.0) none_entered

  -- the left of such a bind
  left_entered : (owner : ℕ) (path : List Edge) → Reader owner path
      → ((k : ℕ) (bind : List Edge) → bind_around k path ≡ Some bind → Reader owner bind) → Entered (Place owner (Left ∷ path))
  left_entered owner path reader outer = (
    λ k bind e. outer k bind (sym (pass k Left path tt) ∙ e),
    λ bind e. let same : path ≡ bind = cc in rw (← same) reader,
  )

  parts_entered : (owner : ℕ) (path : List Edge) (part : Formula → Option Outcome) (f : Formula) → Z (Place owner path)
      → Entered (Place owner path) → AllEntered (part_reads part owner path f)
  parts_entered owner path part (Literal v) is h = none_entered
  parts_entered owner path part (Name n) is h = more_entered (Named n) [] tt none_entered
  parts_entered owner path part (Bound k) is h = none_entered
  parts_entered owner path part (Apply g fs) is h = arguments_entered owner path 0 fs h
  parts_entered owner path part (Fold g v fs) is h = arguments_entered owner path 0 fs h
  parts_entered owner path part (If test a b) is h =
      more_entered (Place owner (Test ∷ path)) _
      (λ j bind e. h.0 j bind (sym (pass j Test path tt) ∙ e), λ bind e. absurd (cc))
      (chosen_entered owner path (part test) h)
  parts_entered owner path part (Join child) is h =
      more_entered (Place owner (Child ∷ path)) _
      (λ j bind e. h.0 j bind (sym (pass j Child path tt) ∙ e), λ bind e. absurd (cc)) (named_entered (part child))
  parts_entered owner path part (Bind left body) is h =
      more_entered (Place owner (Left ∷ path)) _ (left_entered owner path (inl is) h.0)
      (insides_entered owner path (part left) is h)
  parts_entered owner path part (At t) is h = none_entered
  parts_entered owner path part (Steps v ss) is h = none_entered
  parts_entered owner path part Now is h = none_entered

  lefts_entered : (owner : ℕ) (path : List Edge) (o : Option (List Edge)) → bind_around 0 path ≡ o
      → Entered (Place owner path) → AllEntered (left_of owner o)
  lefts_entered owner path None e h = none_entered
  lefts_entered owner path (Some bind) e h =
      more_entered (Place owner (Left ∷ bind)) []
      (left_entered owner bind (h.0 0 bind e) (λ k b around. h.0 (suc k) b (beyond path bind k e ∙ around))) none_entered

  scope_entered : (owner : ℕ) (path : List Edge) (f : Formula) → Entered (Place owner path)
      → AllEntered (scope_reads owner path f)
  scope_entered owner path (Name n) h = none_entered
  scope_entered owner path (Bound (suc k)) h = none_entered
  scope_entered owner path f h = lefts_entered owner path (bind_around 0 path) refl h

  place_entered : (owner : ℕ) (path : List Edge) (d : ℕ) (f : Option Formula) → Z (Place owner path)
      → Entered (Place owner path) → AllEntered (place_reads F s d owner path f)
  place_entered owner path d None is h = none_entered
  place_entered owner path d (Some f) is h =
      both_entered (part_reads (value_at F s d (environment path)) owner path f) (scope_reads owner path f)
      (parts_entered owner path (value_at F s d (environment path)) f is h) (scope_entered owner path f h)

  links_entered : (links : List ℕ) → AllEntered (map (λ m. Named m) links)
  links_entered [] = none_entered
  links_entered (m ∷ links) = more_entered (Named m) _ tt (links_entered links)

  grab_entered : (n b : ℕ) (v : Value) (o : Option Outcome) → Z (Named n) → body_at s n ≡ Some (Grab b v true)
      → AllEntered (grab_reads b v o)
  grab_entered n b v o is at = by_outcome o
    where
      reader : Reader b []
      reader = inr (refl, n, v, is, at)

      at_left : Entered (Place b (Left ∷ []))
      at_left = left_entered b [] reader (λ k bind e. absurd (no_around k bind e))

      inside : Entered (Place b (Inside v ∷ []))
      inside = inside_entered b [] v reader (λ k bind e. absurd (no_around k bind e))

      by_test : (t : std.Bool) → AllEntered (elim t
          [ true ↦ Place b (Left ∷ []) ∷ Place b (Inside v ∷ []) ∷ [] | false ↦ Place b (Left ∷ []) ∷ [] ])
      by_test true =
          more_entered (Place b (Left ∷ [])) (Place b (Inside v ∷ []) ∷ []) at_left
          (more_entered (Place b (Inside v ∷ [])) [] inside none_entered)
      by_test false = more_entered (Place b (Left ∷ [])) [] at_left none_entered

      by_outcome : (o : Option Outcome) → AllEntered (grab_reads b v o)
      by_outcome None = more_entered (Place b (Left ∷ [])) [] at_left none_entered
      by_outcome (Some Invalid) = more_entered (Place b (Left ∷ [])) [] at_left none_entered
      by_outcome (Some (Val w)) = by_test (same_value v w)

  name_entered : (n d : ℕ) (b : Option Body) → Z (Named n) → body_at s n ≡ b → AllEntered (name_reads F s d n b)
  name_entered n d None is at = none_entered
  name_entered n d (Some (Variable v)) is at = none_entered
  name_entered n d (Some (Computed f kept)) is at = more_entered (Place n []) [] (whole_entered n) none_entered
  name_entered n d (Some (Freeze child p None)) is at = more_entered (Place n []) [] (whole_entered n) none_entered
  name_entered n d (Some (Freeze child p (Some v))) is at = none_entered
  name_entered n d (Some (After t)) is at = none_entered
  name_entered n d (Some (Every t u)) is at = none_entered
  name_entered n d (Some (Expert g v links st)) is at = links_entered links
  name_entered n d (Some (Grab b v true)) is at = grab_entered n b v (outcome_at F s d (Place b (Left ∷ []))) is at
  name_entered n d (Some (Grab b v false)) is at = none_entered

  reads_entered : (i j : Item) → Z i → Entered i → Reads F s i j → Entered j
  reads_entered (Named n) j is h (d, among) = name_entered n d (body_at s n) is refl j among
  reads_entered (Place owner path) j is h (d, among) =
      place_entered owner path d (formula_at s owner path) is h j among

  pub reached_entered : ((i j : Item) → Z i → Reads F s i j → Z j) → (i j : Item) → Z i → Entered i
      → Reaches (Reads F s) i j → Entered j
  reached_entered closed i j is h here = h
  reached_entered closed i j is h (step {b = b} r on) =
      reached_entered closed b j (closed i b is r) (reads_entered i b is h r) on

-- ---- what is met

held_entered : (F : Meanings) (before s : State) (h : Item) → Held F before s h → Entered F before (Held F before s) h
held_entered F before s h held =
    let name = root_named before held.root held.was in
    reached_entered F before (Held F before s) (held_reads F before s) held.root h
    (record { root = held.root; was = held.was; is_still = held.is_still; reached = here }) (rw name.1 tt) held.reached

start_entered : (F : Meanings) (before s : State) → GrabsStay before s → (h : Item)
    → Entered F before (Held F before s) h → StillStands F s h → Entered F s (Met F before s) h
start_entered F before s stay (Named k) h stands = tt
start_entered F before s stay (Place owner path) h stands = (
  λ k bind e. later bind (tail_stands F s owner path k bind e stands) (h.0 k bind e),
  λ bind e. later bind (rw e at stands) (h.1 bind e),
)
  where
    later : (bind : List Edge) → StillStands F s (Place owner (Left ∷ bind))
        → Reader F before (Held F before s) owner bind → Reader F s (Met F before s) owner bind
    later bind still (inl held) = inl (from_held held still here)
    later bind still (inr (top, k, v, held, is)) = inr (top, k, v, from_held held tt here, stay k owner v is)

met_entered : (F : Meanings) (before s : State) → GrabsStay before s → (i : Item) → Met F before s i
    → Entered F s (Met F before s) i
met_entered F before s stay i (from_root (root, is, on)) =
    let name = root_named s root is in
    reached_entered F s (Met F before s) (met_reads F before s) root i (from_root (root, is, here)) (rw name.1 tt) on
met_entered F before s stay i (from_held {h = h} held stands on) =
    reached_entered F s (Met F before s) (met_reads F before s) h i (from_held held stands here)
    (start_entered F before s stay h (held_entered F before s h held) stands) on

-- where the left of a bind is met, so is the bind, or a live grab of it
pub left_has_reader : (F : Meanings) (before s : State) → GrabsStay before s → (owner : ℕ) (bind : List Edge)
    → Met F before s (Place owner (Left ∷ bind)) → Reader F s (Met F before s) owner bind
left_has_reader F before s stay owner bind met = (met_entered F before s stay (Place owner (Left ∷ bind)) met).1 bind refl
