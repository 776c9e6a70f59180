-- What is read from where the lefts of the binds round are read too. Of the script alone.
use Rattle.std.proofs.Common.{◌≡◌, ◌⊎◌, inl, inr, ℕ, zero, suc, ◌+◌, true, false, List, [], ◌∷◌, ◌++◌, map, Option, None, Some, refl, subst, arith}
use Rattle.std.specs.Prelude as std
use Rattle.inc_value.specs.Choice.{Among, Reaches, here, step}
use Rattle.script_model.specs.Values.{Value, Outcome, Bool, Reference, Val, Invalid, same_value}
use Rattle.script_model.specs.Formula as script
use Rattle.script_model.specs.Formula.{Formula, Formulas, Body, Entry, Observer, State, Meanings, body_at, Literal, Name, Bound, Apply, Fold, If, Join, Bind, At, Steps, Now, End, More, Variable, Computed, Freeze, After, Every, Expert, Grab}
use Rattle.script_model.specs.Evaluate.{value_at}
use Rattle.script_model.specs.Need.{Edge, Argument, Test, Then, Else, Child, Left, Inside, Item, Named, Place, environment, bind_around, part_at, formula_at, outcome_at, argument_at, argument_places, chosen_place, named_place, inside_place, part_reads, left_of, scope_reads, place_reads, grab_reads, name_reads, Reads, own_root, own_roots, roots, Needed, Held, Met, from_root, from_held, StillStands}
use Rattle.inc_terms.proofs.Local.{reach_more}
use Rattle.script_model.proofs.NeededStands.{among_left}
use Rattle.script_model.proofs.TypedCalls.{part_is}
use Rattle.transfer.specs.Items.{FormulasStay, GrabsBind}

either_list : {A : Type 0} (a : A) (xs ys : List A) → Among a (xs ++ ys) → Among a xs ⊎ Among a ys
either_list a [] ys h = inr h
either_list a (x ∷ xs) ys (inl e) = inl (inl e)
either_list a (x ∷ xs) ys (inr h) = elim (either_list a xs ys h) [ inl l ↦ inl (inr l) | inr r ↦ inr r ]

-- the bind of the innermost round, and those round that
pub beyond : (path bind : List Edge) (k : ℕ) → bind_around 0 path ≡ Some bind
    → bind_around (suc k) path ≡ bind_around k bind
beyond [] bind k e = absurd (cc)
beyond (Inside v ∷ path) bind k e = let same : path ≡ bind = cc in rw same refl
beyond (Argument j ∷ path) bind k e = beyond path bind k e
beyond (Test ∷ path) bind k e = beyond path bind k e
beyond (Then ∷ path) bind k e = beyond path bind k e
beyond (Else ∷ path) bind k e = beyond path bind k e
beyond (Child ∷ path) bind k e = beyond path bind k e
beyond (Left ∷ path) bind k e = beyond path bind k e

-- an edge that enters no bind's body
abbrev pub IsPlain : Edge → Type 0
IsPlain (Inside v) = ⊥
IsPlain edge = Unit {0}

pub pass : (k : ℕ) (edge : Edge) (path : List Edge) → IsPlain edge → bind_around k (edge ∷ path) ≡ bind_around k path
pass zero (Inside v) path h = absurd h
pass (suc k) (Inside v) path h = absurd h
pass zero edge path h = refl
pass (suc k) edge path h = refl

module _ (F : Meanings) (s : State) (X : Item → Type 0) where
  -- the place has a formula, and the lefts of the binds round it are of the set and have one
  abbrev pub Lefts : ℕ → List Edge → Type 0
  Lefts owner path = (k : ℕ) (bind : List Edge) → bind_around k path ≡ Some bind → X (Place owner (Left ∷ bind))
      × ((f : Formula) × (formula_at s owner (Left ∷ bind) ≡ Some f))

  abbrev pub Enclosed : Item → Type 0
  Enclosed (Named k) = Unit {0}
  Enclosed (Place owner path) = ((f : Formula) × (formula_at s owner path ≡ Some f)) × Lefts owner path

  abbrev AllEnclosed : List Item → Type 0
  AllEnclosed items = (j : Item) → Among j items → Enclosed j

  none_enclosed : AllEnclosed []
  none_enclosed j none = absurd none

  more_enclosed : (i : Item) (items : List Item) → Enclosed i → AllEnclosed items → AllEnclosed (i ∷ items)
  more_enclosed i items first rest j (inl e) = rw e first
  more_enclosed i items first rest j (inr later) = rest j later

  part_enclosed : (owner : ℕ) (path : List Edge) (edge : Edge) (f g : Formula) → IsPlain edge → Lefts owner path
      → formula_at s owner path ≡ Some f → part_at f edge ≡ Some g → Enclosed (Place owner (edge ∷ path))
  part_enclosed owner path edge f g plain lefts is part =
      ((g, rw (part_is s owner path f edge is) part), λ k bind e. lefts k bind (rw (pass k edge path plain) at e))

  arguments_enclosed : (owner : ℕ) (path : List Edge) (f : Formula) (k : ℕ) (fs : Formulas) → Lefts owner path
      → formula_at s owner path ≡ Some f
      → ((j : ℕ) (g : Formula) → argument_at fs j ≡ Some g → part_at f (Argument (k + j)) ≡ Some g)
      → AllEnclosed (argument_places owner path k fs)
  arguments_enclosed owner path f k End lefts is parts = none_enclosed
  arguments_enclosed owner path f k (More g fs) lefts is parts =
      let zero_more : k + 0 ≡ k = omega arith in
      let here : part_at f (Argument k) ≡ Some g =
      subst (λ (i : ℕ). part_at f (Argument i) ≡ Some g) zero_more (parts 0 g refl) in
      more_enclosed (Place owner (Argument k ∷ path)) (argument_places owner path (suc k) fs)
      (part_enclosed owner path (Argument k) f g tt lefts is here)
      (arguments_enclosed owner path f (suc k) fs lefts is (λ j h e. let same : k + suc j ≡ suc k + j = omega arith in
      subst (λ (i : ℕ). part_at f (Argument i) ≡ Some h) same (parts (suc j) h e)))

  first_part : (f : Formula) (fs : Formulas)
      → ((j : ℕ) (g : Formula) → argument_at fs j ≡ Some g → part_at f (Argument j) ≡ Some g) → (j : ℕ) (g : Formula)
      → argument_at fs j ≡ Some g
      → part_at f (Argument (0 + j)) ≡ Some g
  first_part f fs h j g e =
      let same : j ≡ 0 + j = omega arith in subst (λ (i : ℕ). part_at f (Argument i) ≡ Some g) same (h j g e)

  chosen_enclosed : (owner : ℕ) (path : List Edge) (test a b : Formula) (o : Option Outcome) → Lefts owner path
      → formula_at s owner path ≡ Some (If test a b) → AllEnclosed (chosen_place owner path o)
  chosen_enclosed owner path test a b (Some (Val (Bool true))) lefts is =
      more_enclosed (Place owner (Then ∷ path)) []
      (part_enclosed owner path Then (If test a b) a tt lefts is refl) none_enclosed
  chosen_enclosed owner path test a b (Some (Val (Bool false))) lefts is =
      more_enclosed (Place owner (Else ∷ path)) []
      (part_enclosed owner path Else (If test a b) b tt lefts is refl) none_enclosed
  chosen_enclosed owner path test a b o lefts is = none_enclosed

  named_enclosed : (o : Option Outcome) → AllEnclosed (named_place o)
  named_enclosed (Some (Val (Reference t b))) = more_enclosed (Named t) [] tt none_enclosed
  named_enclosed o = none_enclosed

  inside_lefts : (owner : ℕ) (path : List Edge) (v : Value) → Lefts owner path → X (Place owner (Left ∷ path))
      → ((f : Formula) × (formula_at s owner (Left ∷ path) ≡ Some f)) → Lefts owner (Inside v ∷ path)
  inside_lefts owner path v lefts left is zero bind e = let same : path ≡ bind = cc in rw (← same) (left, is)
  inside_lefts owner path v lefts left is (suc k) bind e = lefts k bind e

  inside_enclosed : (owner : ℕ) (path : List Edge) (l body : Formula) (o : Option Outcome) → Lefts owner path
      → formula_at s owner path ≡ Some (Bind l body) → X (Place owner (Left ∷ path))
      → AllEnclosed (inside_place owner path o)
  inside_enclosed owner path l body (Some (Val v)) lefts is left =
      more_enclosed (Place owner (Inside v ∷ path)) [] (
        (body, rw (part_is s owner path (Bind l body) (Inside v) is) refl),
        inside_lefts owner path v lefts left
            (l, rw (part_is s owner path (Bind l body) Left is) refl),
      ) none_enclosed
  inside_enclosed owner path l body None lefts is left = none_enclosed
  inside_enclosed owner path l body (Some Invalid) lefts is left = none_enclosed

  parts_enclosed : (owner : ℕ) (path : List Edge) (d : ℕ) (f : Formula) → Lefts owner path
      → formula_at s owner path ≡ Some f
      → ((j : Item) → Among j (part_reads (value_at F s d (environment path)) owner path f) → X j)
      → AllEnclosed (part_reads (value_at F s d (environment path)) owner path f)
  parts_enclosed owner path d (Literal v) lefts is reads = none_enclosed
  parts_enclosed owner path d (Name n) lefts is reads = more_enclosed (Named n) [] tt none_enclosed
  parts_enclosed owner path d (Bound k) lefts is reads = none_enclosed
  parts_enclosed owner path d (Apply g fs) lefts is reads =
      arguments_enclosed owner path (Apply g fs) 0 fs lefts is (first_part (Apply g fs) fs (λ j h e. e))
  parts_enclosed owner path d (Fold g v fs) lefts is reads =
      arguments_enclosed owner path (Fold g v fs) 0 fs lefts is (first_part (Fold g v fs) fs (λ j h e. e))
  parts_enclosed owner path d (If test a b) lefts is reads =
      more_enclosed (Place owner (Test ∷ path)) _ (part_enclosed owner path Test (If test a b) test tt lefts is refl)
      (chosen_enclosed owner path test a b (value_at F s d (environment path) test) lefts is)
  parts_enclosed owner path d (Join child) lefts is reads =
      more_enclosed (Place owner (Child ∷ path)) _
      (part_enclosed owner path Child (Join child) child tt lefts is refl)
      (named_enclosed (value_at F s d (environment path) child))
  parts_enclosed owner path d (Bind l body) lefts is reads =
      more_enclosed (Place owner (Left ∷ path)) _ (part_enclosed owner path Left (Bind l body) l tt lefts is refl)
      (inside_enclosed owner path l body (value_at F s d (environment path) l) lefts is
      (reads (Place owner (Left ∷ path)) (inl refl)))
  parts_enclosed owner path d (At t) lefts is reads = none_enclosed
  parts_enclosed owner path d (Steps v ss) lefts is reads = none_enclosed
  parts_enclosed owner path d Now lefts is reads = none_enclosed

  left_enclosed : (owner : ℕ) (path : List Edge) → Lefts owner path → AllEnclosed (left_of owner (bind_around 0 path))
  left_enclosed owner path lefts = go (bind_around 0 path) refl
    where
      go : (b : Option (List Edge)) → bind_around 0 path ≡ b → AllEnclosed (left_of owner b)
      go None e = none_enclosed
      go (Some bind) e =
          more_enclosed (Place owner (Left ∷ bind)) []
          ((lefts 0 bind e).1, λ k b f. lefts (suc k) b (rw (beyond path bind k e) (rw (pass k Left bind tt) at f)))
          none_enclosed

  scope_enclosed : (owner : ℕ) (path : List Edge) (f : Formula) → Lefts owner path
      → AllEnclosed (scope_reads owner path f)
  scope_enclosed owner path (Name n) lefts = none_enclosed
  scope_enclosed owner path (Bound (suc k)) lefts = none_enclosed
  scope_enclosed owner path f lefts = left_enclosed owner path lefts

  place_enclosed : (owner : ℕ) (path : List Edge) (d : ℕ) (f : Formula) → Lefts owner path
      → formula_at s owner path ≡ Some f
      → ((j : Item) → Among j (place_reads F s d owner path (Some f)) → X j)
      → AllEnclosed (place_reads F s d owner path (Some f))
  place_enclosed owner path d f lefts is reads j among =
      elim (either_list j (part_reads (value_at F s d (environment path)) owner path f)
      (scope_reads owner path f) among) [
        | inl part ↦ parts_enclosed owner path d f lefts is
            (λ i a. reads i (among_left i (part_reads (value_at F s d (environment path)) owner path f)
            (scope_reads owner path f) a)) j part
        | inr scope ↦ scope_enclosed owner path f lefts j scope
      ]

  links_enclosed : (links : List ℕ) → AllEnclosed (map (λ m. Named m) links)
  links_enclosed [] = none_enclosed
  links_enclosed (m ∷ links) = more_enclosed (Named m) (map (λ m. Named m) links) tt (links_enclosed links)

  whole_enclosed : (n : ℕ) (f : Formula) → formula_at s n [] ≡ Some f → Enclosed (Place n [])
  whole_enclosed n f is = ((f, is), λ k bind e. absurd (no_bind k bind e))
    where
      no_bind : (k : ℕ) (bind : List Edge) → bind_around k [] ≡ Some bind → ⊥
      no_bind zero bind e = cc
      no_bind (suc k) bind e = cc

  grab_enclosed : (b : ℕ) (v : Value) (l body : Formula) (kept : script.Kept) (o : Option Outcome)
      → body_at s b ≡ Some (Computed (Bind l body) kept) → X (Place b (Left ∷ [])) → AllEnclosed (grab_reads b v o)
  grab_enclosed b v l body kept o is left = by_outcome o
    where
      no_bind : (k : ℕ) (bind : List Edge) → bind_around k [] ≡ Some bind → ⊥
      no_bind zero bind e = cc
      no_bind (suc k) bind e = cc

      whole : formula_at s b [] ≡ Some (Bind l body)
      whole = rw is refl

      no_left : (k : ℕ) (bind : List Edge) → bind_around k (Left ∷ []) ≡ Some bind → ⊥
      no_left zero bind e = cc
      no_left (suc k) bind e = cc

      left_there : (f : Formula) × (formula_at s b (Left ∷ []) ≡ Some f)
      left_there = (l, rw (part_is s b [] (Bind l body) Left whole) refl)

      at_left : Enclosed (Place b (Left ∷ []))
      at_left = (left_there, λ k bind e. absurd (no_left k bind e))

      inside : Enclosed (Place b (Inside v ∷ []))
      inside = (
        (body, rw (part_is s b [] (Bind l body) (Inside v) whole) refl),
        inside_lefts b [] v
            (λ k bind e. absurd (no_bind k bind e)) left left_there,
      )

      by_test : (t : std.Bool) → AllEnclosed (elim t
          [ true ↦ Place b (Left ∷ []) ∷ Place b (Inside v ∷ []) ∷ [] | false ↦ Place b (Left ∷ []) ∷ [] ])
      by_test true =
          more_enclosed (Place b (Left ∷ [])) (Place b (Inside v ∷ []) ∷ []) at_left
          (more_enclosed (Place b (Inside v ∷ [])) [] inside none_enclosed)
      by_test false = more_enclosed (Place b (Left ∷ [])) [] at_left none_enclosed

      by_outcome : (o : Option Outcome) → AllEnclosed (grab_reads b v o)
      by_outcome None = more_enclosed (Place b (Left ∷ [])) [] at_left none_enclosed
      by_outcome (Some Invalid) = more_enclosed (Place b (Left ∷ [])) [] at_left none_enclosed
      by_outcome (Some (Val w)) = by_test (same_value v w)

  -- a live grab reads its bind's left
  pub grab_left : (b : ℕ) (v : Value) (o : Option Outcome) → Among (Place b (Left ∷ [])) (grab_reads b v o)
  grab_left b v None = inl refl
  grab_left b v (Some Invalid) = inl refl
  grab_left b v (Some (Val w)) = go (same_value v w)
    where
      go : (t : std.Bool) → Among (Place b (Left ∷ []))
          (elim t [ true ↦ Place b (Left ∷ []) ∷ Place b (Inside v ∷ []) ∷ [] | false ↦ Place b (Left ∷ []) ∷ [] ])
      go true = inl refl
      go false = inl refl

  name_enclosed : GrabsBind s → (n d : ℕ) (body : Option Body) → ((j : Item) → Reads F s (Named n) j → X j)
      → body_at s n ≡ body → AllEnclosed (name_reads F s d n body)
  name_enclosed grabs n d (Some (Grab b v true)) closed is =
      let g = grabs n b v is in
      let o = outcome_at F s d (Place b (Left ∷ [])) in
      grab_enclosed b v g.0 g.1 g.2 o g.3 (closed (Place b (Left ∷ [])) (d, rw is (grab_left b v o)))
  name_enclosed grabs n d None closed is = none_enclosed
  name_enclosed grabs n d (Some (Variable v)) closed is = none_enclosed
  name_enclosed grabs n d (Some (Computed f kept)) closed is =
      more_enclosed (Place n []) [] (whole_enclosed n f (rw is refl)) none_enclosed
  name_enclosed grabs n d (Some (Freeze child p None)) closed is =
      more_enclosed (Place n []) [] (whole_enclosed n child (rw is refl)) none_enclosed
  name_enclosed grabs n d (Some (Freeze child p (Some v))) closed is = none_enclosed
  name_enclosed grabs n d (Some (After t)) closed is = none_enclosed
  name_enclosed grabs n d (Some (Every t u)) closed is = none_enclosed
  name_enclosed grabs n d (Some (Expert g v links st)) closed is = links_enclosed links
  name_enclosed grabs n d (Some (Grab b v false)) closed is = none_enclosed

  -- what an item reads is enclosed where it is, and what it reads is of the set
  pub read_enclosed : GrabsBind s → (i j : Item) → ((j : Item) → Reads F s i j → X j) → Enclosed i → Reads F s i j
      → Enclosed j
  read_enclosed grabs (Named n) j closed enclosed (d, among) =
      name_enclosed grabs n d (body_at s n) closed refl j among
  read_enclosed grabs (Place owner path) j closed ((f, f_is), lefts) (d, among) =
      place_enclosed owner path d f lefts f_is (λ k a. closed k (d, rw f_is a)) j (rw f_is at among)

  pub reached_enclosed : GrabsBind s → ((i j : Item) → X i → Reads F s i j → X j) → (i j : Item) → X i → Enclosed i
      → Reaches (Reads F s) i j → Enclosed j
  reached_enclosed grabs closed i j is enclosed here = enclosed
  reached_enclosed grabs closed i j is enclosed (step {b = b} r on) =
      reached_enclosed grabs closed b j (closed i b is r)
      (read_enclosed grabs i b (λ k q. closed i k is q) enclosed r) on

-- ---- what is needed, what is met

own_root_named : (s : State) (n : ℕ) (body : Body) (i : Item) → Among i (own_root s n body) → (m : ℕ) × (i ≡ Named m)
own_root_named s n (Freeze child p None) i (inl e) = (n, e)
own_root_named s n (Freeze child p None) i (inr none) = absurd none
own_root_named s n (Freeze child p (Some v)) i none = absurd none
own_root_named s n (Variable v) i none = absurd none
own_root_named s n (Computed f k) i none = absurd none
own_root_named s n (After t) i none = absurd none
own_root_named s n (Every t u) i none = absurd none
own_root_named s n (Expert g v l st) i none = absurd none
own_root_named s n (Grab b v l) i none = absurd none

own_roots_named : (s : State) (n : ℕ) (es : List Entry) (i : Item) → Among i (own_roots s n es)
    → (m : ℕ) × (i ≡ Named m)
own_roots_named s n [] i none = absurd none
own_roots_named s n (e ∷ es) i among = elim (either_list i (own_root s n e.body) (own_roots s (suc n) es) among) [
  | inl own ↦ own_root_named s n e.body i own
  | inr later ↦ own_roots_named s (suc n) es i later
]

observers_named : (os : List Observer) (i : Item) → Among i (map (λ (o : Observer). Named o.target) os)
    → (m : ℕ) × (i ≡ Named m)
observers_named [] i none = absurd none
observers_named (o ∷ os) i (inl e) = (o.target, e)
observers_named (o ∷ os) i (inr later) = observers_named os i later

-- roots are names
pub root_named : (s : State) (i : Item) → Among i (roots s) → (m : ℕ) × (i ≡ Named m)
root_named s i among =
    elim (either_list i (map (λ (o : Observer). Named o.target) s.observers) (own_roots s 0 s.entries) among) [
      | inl observed ↦ observers_named s.observers i observed
      | inr own ↦ own_roots_named s 0 s.entries i own
    ]

pub needed_reads : (F : Meanings) (s : State) (i j : Item) → Needed F s i → Reads F s i j → Needed F s j
needed_reads F s i j (root, is, on) r = (root, is, reach_more (Reads F s) root i j on r)

-- where an item is needed so are the lefts of the binds round it
pub needed_enclosed : (F : Meanings) (s : State) → GrabsBind s → (i : Item) → Needed F s i
    → Enclosed F s (Needed F s) i
needed_enclosed F s grabs i (root, is, on) =
    let name = root_named s root is in
    reached_enclosed F s (Needed F s) grabs (needed_reads F s) root i (root, is, here) (rw name.1 tt) on

pub met_reads : (F : Meanings) (before s : State) (i j : Item) → Met F before s i → Reads F s i j → Met F before s j
met_reads F before s i j (from_root needed) r = from_root (needed_reads F s i j needed r)
met_reads F before s i j (from_held {h = h} held stands on) r =
    from_held held stands (reach_more (Reads F s) h i j on r)

-- what is round a bind round a place is round the place
pub tail_stands : (F : Meanings) (s : State) (owner : ℕ) (path : List Edge) (k : ℕ) (bind : List Edge)
    → bind_around k path ≡ Some bind → StillStands F s (Place owner path)
    → StillStands F s (Place owner (Left ∷ bind))
tail_stands F s owner [] k bind e stands = absurd (no_bind k bind e)
  where
    no_bind : (k : ℕ) (bind : List Edge) → bind_around k [] ≡ Some bind → ⊥
    no_bind zero bind e = cc
    no_bind (suc k) bind e = cc
tail_stands F s owner (Inside v ∷ path) zero bind e stands = let same : path ≡ bind = cc in rw (← same) stands.1
tail_stands F s owner (Inside v ∷ path) (suc k) bind e stands = tail_stands F s owner path k bind e stands.1
tail_stands F s owner (Argument j ∷ path) k bind e stands =
    tail_stands F s owner path k bind (rw (pass k (Argument j) path tt) at e) stands
tail_stands F s owner (Test ∷ path) k bind e stands =
    tail_stands F s owner path k bind (rw (pass k Test path tt) at e) stands
tail_stands F s owner (Then ∷ path) k bind e stands =
    tail_stands F s owner path k bind (rw (pass k Then path tt) at e) stands
tail_stands F s owner (Else ∷ path) k bind e stands =
    tail_stands F s owner path k bind (rw (pass k Else path tt) at e) stands
tail_stands F s owner (Child ∷ path) k bind e stands =
    tail_stands F s owner path k bind (rw (pass k Child path tt) at e) stands
tail_stands F s owner (Left ∷ path) k bind e stands =
    tail_stands F s owner path k bind (rw (pass k Left path tt) at e) stands

pub held_reads : (F : Meanings) (before s : State) (i j : Item) → Held F before s i → Reads F before i j
    → Held F before s j
held_reads F before s i j h r =
    record {
      root = h.root;
      was = h.was;
      is_still = h.is_still;
      reached = reach_more
          (Reads F before) h.root i j h.reached r;
    }

pub held_enclosed : (F : Meanings) (before s : State) → GrabsBind before → (h : Item) → Held F before s h
    → Enclosed F before (Held F before s) h
held_enclosed F before s grabs h held =
    let name = root_named before held.root held.was in
    reached_enclosed F before (Held F before s) grabs (held_reads F before s) held.root h
    (record { root = held.root; was = held.was; is_still = held.is_still; reached = here })
    (rw name.1 tt) held.reached

start_enclosed : (F : Meanings) (before s : State) → FormulasStay before s → (h : Item)
    → Enclosed F before (Held F before s) h → StillStands F s h → Enclosed F s (Met F before s) h
start_enclosed F before s keeps (Named k) enclosed stands = tt
start_enclosed F before s keeps (Place owner path) ((f, is), lefts) stands = (
  (f, keeps owner path f is),
  λ k bind e. let l = lefts k bind e in (
    from_held l.0 (tail_stands F s owner path k bind e stands) here,
    (l.1.0, keeps owner (Left ∷ bind) l.1.0 l.1.1),
  ),
)

needed_met : (F : Meanings) (before s : State) (i : Item) → Enclosed F s (Needed F s) i
    → Enclosed F s (Met F before s) i
needed_met F before s (Named k) enclosed = tt
needed_met F before s (Place owner path) (there, lefts) =
    (there, λ k bind e. let l = lefts k bind e in (from_root l.0, l.1))

-- and where it is met so are they
pub met_enclosed : (F : Meanings) (before s : State) → GrabsBind before → GrabsBind s → FormulasStay before s
    → (i : Item) → Met F before s i
    → Enclosed F s (Met F before s) i
met_enclosed F before s grabs grabs' keeps i (from_root needed) =
    needed_met F before s i (needed_enclosed F s grabs' i needed)
met_enclosed F before s grabs grabs' keeps i (from_held {h = h} held stands on) =
    reached_enclosed F s (Met F before s) grabs' (met_reads F before s) h i (from_held held stands here)
    (start_enclosed F before s keeps h (held_enclosed F before s grabs h held) stands) on
