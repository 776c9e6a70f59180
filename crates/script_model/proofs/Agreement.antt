-- What a formula gives depends on what it reads alone.
use Rattle.std.proofs.Common.{◌≡◌, inl, inr, ℕ, zero, suc, ◌+◌, Bool, true, false, List, [], ◌∷◌, ◌++◌, map, Option, None, Some, refl, ap, ◌∙◌, arith}
use Rattle.inc_value.specs.Choice.{and_then, Among, here, step}
use Rattle.script_model.specs.Evaluate.{each_of, chosen, with_value, or_invalid, truth_of, target_of, while_built, fold_from, level, body_level, name_level, value_at}
use Rattle.script_model.specs.Formula as model
use Rattle.script_model.specs.Formula.{Formula, Formulas, Body, Entry, State, Meanings, entry_at, body_at, bind_at, bind_of, formula_of_body, Literal, Name, Bound, Apply, Fold, If, Join, Bind, At, Steps, Now, End, More, Variable, Computed, Freeze, After, Expert, Grab}
use Rattle.script_model.specs.Laws.{AgreeFrom, ReadsSuffice}
use Rattle.script_model.specs.Need.{Edge, Argument, Test, Then, Else, Child, Left, Inside, Item, Named, Place, environment, argument_at, part_at, formula_at, outcome_at, argument_places, part_reads, grab_reads, Reads}
use Rattle.script_model.specs.Values as value
use Rattle.script_model.specs.Values.{Value, Outcome, Val, Invalid, same_value}
use Rattle.script_model.proofs.Evaluation.{Under, EachUnder, under_refl, each_given_under}
use Rattle.script_model.proofs.Places.{part_below}

-- ---- combinations, of what is given

with_value_given : (a b : Option Outcome) (f g : Value → Option Outcome) → Under a b → ((v : Value) → a ≡ Some (Val v) → Under (f v) (g v))
    → Under (with_value a f) (with_value b g)
with_value_given None b f g p next = tt
with_value_given (Some Invalid) b f g p next = rw p refl
with_value_given (Some (Val v)) b f g p next = rw p (next v refl)

built_given : (v : Value) (a b x y : Option Outcome) → Under a b → ((w : Value) → a ≡ Some (Val w) → same_value v w ≡ true → Under x y)
    → Under (while_built v a x) (while_built v b y)
built_given v None b x y p next = tt
built_given v (Some Invalid) b x y p next = rw p refl
built_given v (Some (Val w)) b x y p next = rw p (go (same_value v w) refl)
  where
    go : (same : Bool) → same_value v w ≡ same → Under (chosen same x (Some Invalid)) (chosen same y (Some Invalid))
    go true is = next w refl is
    go false is = refl

among_front : {A : Type 0} (x : A) (xs ys : List A) → Among x xs → Among x (xs ++ ys)
among_front x [] ys none = absurd none
among_front x (z ∷ xs) ys (inl same) = inl same
among_front x (z ∷ xs) ys (inr later) = inr (among_front x xs ys later)

place_among : (owner : ℕ) (path : List Edge) (k : ℕ) (fs : Formulas) (i : ℕ) (f : Formula) → argument_at fs i ≡ Some f
    → Among (Place owner (Argument (k + i) ∷ path)) (argument_places owner path k fs)
place_among owner path k End i f is = absurd (cc)
place_among owner path k (More g rest) zero f is = let same : k + 0 ≡ k = omega arith in inl (ap (λ (x : ℕ). Place owner (Argument x ∷ path)) same)
place_among owner path k (More g rest) (suc i) f is =
    let same : suc k + i ≡ k + suc i = omega arith in
    inr (rw same at (place_among owner path (suc k) rest i f is))

argument_among : (owner : ℕ) (path : List Edge) (fs : Formulas) (i : ℕ) (f : Formula) → argument_at fs i ≡ Some f
    → Among (Place owner (Argument i ∷ path)) (argument_places owner path 0 fs)
argument_among owner path fs i f is = let same : 0 + i ≡ i = omega arith in rw same at (place_among owner path 0 fs i f is)

-- a live grab reads its bind's left
left_among : (bind : ℕ) (v : Value) (o : Option Outcome) → Among (Place bind (Left ∷ [])) (grab_reads bind v o)
left_among bind v None = inl refl
left_among bind v (Some Invalid) = inl refl
left_among bind v (Some (Val w)) = go (same_value v w)
  where
    go : (same : Bool)
        → Among (Place bind (Left ∷ [])) (elim same [
          | true ↦ Place bind (Left ∷ []) ∷ Place bind (Inside v ∷ []) ∷ []
          | false ↦ Place bind (Left ∷ []) ∷ []
        ])
    go true = inl refl
    go false = inl refl

-- and the body, where the left gives its value
inside_among : (bind : ℕ) (v w : Value) (o : Option Outcome) → o ≡ Some (Val w) → same_value v w ≡ true
    → Among (Place bind (Inside v ∷ [])) (grab_reads bind v o)
inside_among bind v w o gives same = rw gives (go (same_value v w) same)
  where
    go : (b : Bool) → b ≡ true
        → Among (Place bind (Inside v ∷ [])) (elim b [
          | true ↦ Place bind (Left ∷ []) ∷ Place bind (Inside v ∷ []) ∷ []
          | false ↦ Place bind (Left ∷ []) ∷ []
        ])
    go true is = inr (inl refl)
    go false is = absurd (cc)

each_agrees : (r r' : Formula → Option Outcome) (fs : Formulas) → ((i : ℕ) (f : Formula) → argument_at fs i ≡ Some f → Under (r f) (r' f))
    → EachUnder (each_of r fs) (each_of r' fs)
each_agrees r r' End part = tt
each_agrees r r' (More f rest) part = (part 0 f refl, each_agrees r r' rest (λ i g is. part (suc i) g is))

links_agree : (r r' : ℕ → Option Outcome) (links : List ℕ) → ((m : ℕ) → Among m links → Under (r m) (r' m)) → EachUnder (map r links) (map r' links)
links_agree r r' [] each = tt
links_agree r r' (m ∷ links) each = (each m (inl refl), links_agree r r' links (λ n among. each n (inr among)))

link_among : (links : List ℕ) (m : ℕ) → Among m links → Among (Named m) (map (λ n. Named n) links)
link_among [] m none = absurd none
link_among (n ∷ links) m (inl same) = inl (ap (λ x. Named x) same)
link_among (n ∷ links) m (inr later) = inr (link_among links m later)

-- the whole formula of a bind
bind_stands : (s : State) (n : ℕ) (b : Formula × Formula) → bind_at s n ≡ Some b → formula_at s n [] ≡ Some (Bind b.0 b.1)
bind_stands s n b is = go (body_at s n) is
  where
    go : (body : Option Body) → and_then body bind_of ≡ Some b
        → and_then body (λ body. and_then (formula_of_body body) (λ f. Some f)) ≡ Some (Bind b.0 b.1)
    go (Some (Computed (Bind left body) kept)) e = let same : (left, body) ≡ b = cc in rw (← same) refl
    go body e = absurd (cc)

-- ---- two states

module _ (F : Meanings) (s s' : State) (now : s'.now ≡ s.now) where
  abbrev Agree : Item → Type 0
  Agree i = AgreeFrom F s s' i

  agree_on : (i j : Item) → Reads F s i j → Agree i → Agree j
  agree_on i j reads agree k n reached holds = agree k n (step reads reached) holds

  -- what stands at a place gives the same within a depth, and so does what is declared
  abbrev PlacesUnder : ℕ → Type 0
  PlacesUnder d =
      (owner : ℕ) (path : List Edge) (f : Formula) → formula_at s owner path ≡ Some f → Agree (Place owner path)
      → Under (value_at F s d (environment path) f) (value_at F s' d (environment path) f)

  abbrev NamesUnder : ℕ → Type 0
  NamesUnder d = (n : ℕ) → Agree (Named n) → Under (value_at F s d [] (Name n)) (value_at F s' d [] (Name n))

  part_read : (owner : ℕ) (path : List Edge) (d : ℕ) (f : Formula) (j : Item) → formula_at s owner path ≡ Some f
      → Among j (part_reads (value_at F s d (environment path)) owner path f)
      → Reads F s (Place owner path) j
  part_read owner path d f j whole among = (d, rw whole (among_front j (part_reads (value_at F s d (environment path)) owner path f) _ among))

  module _ (d : ℕ) (places : PlacesUnder d) (names : NamesUnder d) where
    -- ---- a declaration

    whole_under : (n : ℕ) (b : Body) (f : Formula) → body_at s n ≡ Some b → formula_of_body b ≡ Some f → Reads F s (Named n) (Place n [])
        → Agree (Named n) → Under (value_at F s d [] f) (value_at F s' d [] f)
    whole_under n b f stands is reads agree = places n [] f (rw (stands, is) refl) (agree_on (Named n) (Place n []) reads agree)

    grab_under : (n bind : ℕ) (v : Value) → body_at s n ≡ Some (Grab bind v true) → Agree (Named n)
        → Under (body_level F s (value_at F s d) (Grab bind v true)) (body_level F s' (value_at F s' d) (Grab bind v true))
    grab_under n bind v stands agree = rw bind_same (go (bind_at s bind) refl)
      where
        left_read : Reads F s (Named n) (Place bind (Left ∷ []))
        left_read = (0, rw stands (left_among bind v (outcome_at F s 0 (Place bind (Left ∷ [])))))

        bind_same : bind_at s' bind ≡ bind_at s bind
        bind_same = rw (agree (Place bind (Left ∷ [])) bind (step left_read here) refl) refl

        inside_read : (b : Formula × Formula) (w : Value) → bind_at s bind ≡ Some b → value_at F s d [] b.0 ≡ Some (Val w)
            → same_value v w ≡ true → Reads F s (Named n) (Place bind (Inside v ∷ []))
        inside_read b w is given same =
            let gives : outcome_at F s d (Place bind (Left ∷ [])) ≡ Some (Val w) =
            rw (part_below s bind [] (Bind b.0 b.1) Left (bind_stands s bind b is)) given in
            (d, rw stands (inside_among bind v w (outcome_at F s d (Place bind (Left ∷ []))) gives same))

        go : (b : Option (Formula × Formula)) → bind_at s bind ≡ b
            → Under (and_then b (λ b. while_built v (value_at F s d [] b.0) (value_at F s d (v ∷ []) b.1)))
            (and_then b (λ b. while_built v (value_at F s' d [] b.0) (value_at F s' d (v ∷ []) b.1)))
        go None is = tt
        go (Some b) is =
            let whole = bind_stands s bind b is in
            built_given v (value_at F s d [] b.0) (value_at F s' d [] b.0) (value_at F s d (v ∷ []) b.1) (value_at F s' d (v ∷ []) b.1)
            (places bind (Left ∷ []) b.0 (part_below s bind [] (Bind b.0 b.1) Left whole)
            (agree_on (Named n) (Place bind (Left ∷ [])) left_read agree))
            (λ w given same. places bind (Inside v ∷ []) b.1 (part_below s bind [] (Bind b.0 b.1) (Inside v) whole)
            (agree_on (Named n) (Place bind (Inside v ∷ [])) (inside_read b w is given same) agree))

    body_under : (n : ℕ) (b : Body) → body_at s n ≡ Some b → Agree (Named n)
        → Under (body_level F s (value_at F s d) b) (body_level F s' (value_at F s' d) b)
    body_under n (Variable v) stands agree = refl
    body_under n (Computed f kept) stands agree = whole_under n (Computed f kept) f stands refl (0, rw stands (inl refl)) agree
    body_under n (Freeze child predicate None) stands agree =
        whole_under n (Freeze child predicate None) child stands refl (0, rw stands (inl refl)) agree
    body_under n (Freeze child predicate (Some v)) stands agree = refl
    body_under n (After t) stands agree = rw now refl
    body_under n (model.Every base span) stands agree = rw now refl
    body_under n (Expert f first links stale) stands agree =
        each_given_under (fold_from F f first) _ _
        (links_agree (λ m. value_at F s d [] (Name m)) (λ m. value_at F s' d [] (Name m)) links
        (λ m among. names m (agree_on (Named n) (Named m) (0, rw stands (link_among links m among)) agree)))
    body_under n (Grab bind v true) stands agree = grab_under n bind v stands agree
    body_under n (Grab bind v false) stands agree = refl

    entry_under : (n : ℕ) (e : Option Entry) → entry_at s n ≡ e → Agree (Named n)
        → Under (name_level F s (value_at F s d) e) (name_level F s' (value_at F s' d) e)
    entry_under n None stands agree = refl
    entry_under n (Some e) stands agree = body_under n e.body (rw stands refl) agree

    name_under : (n : ℕ) → Agree (Named n)
        → Under (name_level F s (value_at F s d) (entry_at s n)) (name_level F s' (value_at F s' d) (entry_at s' n))
    name_under n agree = rw (agree (Named n) n here refl) (entry_under n (entry_at s n) refl agree)

    -- ---- a formula

    part_under : (owner : ℕ) (path : List Edge) (f g : Formula) (edge : Edge) → formula_at s owner path ≡ Some f → part_at f edge ≡ Some g
        → Agree (Place owner path)
        → Among (Place owner (edge ∷ path)) (part_reads (value_at F s d (environment path)) owner path f)
        → Under (value_at F s d (environment (edge ∷ path)) g) (value_at F s' d (environment (edge ∷ path)) g)
    part_under owner path f g edge whole is agree among =
        places owner (edge ∷ path) g (part_below s owner path f edge whole ∙ is)
        (agree_on (Place owner path) (Place owner (edge ∷ path)) (part_read owner path d f (Place owner (edge ∷ path)) whole among) agree)

    level_under : (owner : ℕ) (path : List Edge) (f : Formula) → formula_at s owner path ≡ Some f → Agree (Place owner path)
        → Under (level F s (value_at F s d) (environment path) f) (level F s' (value_at F s' d) (environment path) f)
    level_under owner path (Literal v) whole agree = refl
    level_under owner path (Name n) whole agree =
        name_under n (agree_on (Place owner path) (Named n) (part_read owner path d (Name n) (Named n) whole (inl refl)) agree)
    level_under owner path (Bound k) whole agree = under_refl (level F s (value_at F s d) (environment path) (Bound k))
    level_under owner path (Apply f fs) whole agree =
        each_given_under (F.value f) _ _
        (each_agrees (value_at F s d (environment path)) (value_at F s' d (environment path)) fs
        (λ i g is. part_under owner path (Apply f fs) g (Argument i) whole is agree (argument_among owner path fs i g is)))
    level_under owner path (Fold f first fs) whole agree =
        each_given_under (fold_from F f first) _ _
        (each_agrees (value_at F s d (environment path)) (value_at F s' d (environment path)) fs
        (λ i g is. part_under owner path (Fold f first fs) g (Argument i) whole is agree (argument_among owner path fs i g is)))
    level_under owner path (If test a b) whole agree =
        with_value_given (value_at F s d (environment path) test) (value_at F s' d (environment path) test) _ _
        (part_under owner path (If test a b) test Test whole refl agree (inl refl)) side
      where
        side : (v : Value) → value_at F s d (environment path) test ≡ Some (Val v)
            → Under (or_invalid (truth_of v) (λ t. value_at F s d (environment path) (chosen t a b)))
            (or_invalid (truth_of v) (λ t. value_at F s' d (environment path) (chosen t a b)))
        side (value.Bool true) given = part_under owner path (If test a b) a Then whole refl agree (inr (rw given (inl refl)))
        side (value.Bool false) given = part_under owner path (If test a b) b Else whole refl agree (inr (rw given (inl refl)))
        side v given = refl
    level_under owner path (Join child) whole agree =
        with_value_given (value_at F s d (environment path) child) (value_at F s' d (environment path) child) _ _
        (part_under owner path (Join child) child Child whole refl agree (inl refl)) target
      where
        target : (v : Value) → value_at F s d (environment path) child ≡ Some (Val v)
            → Under (or_invalid (target_of v) (λ n. value_at F s d [] (Name n))) (or_invalid (target_of v) (λ n. value_at F s' d [] (Name n)))
        target (value.Reference n base) given =
            names n (agree_on (Place owner path) (Named n) (part_read owner path d (Join child) (Named n) whole (inr (rw given (inl refl)))) agree)
        target v given = refl
    level_under owner path (Bind left body) whole agree =
        with_value_given (value_at F s d (environment path) left) (value_at F s' d (environment path) left) _ _
        (part_under owner path (Bind left body) left Left whole refl agree (inl refl))
        (λ v given. part_under owner path (Bind left body) body (Inside v) whole refl agree (inr (rw given (inl refl))))
    level_under owner path (At t) whole agree = rw now refl
    level_under owner path (Steps first steps) whole agree = rw now refl
    level_under owner path Now whole agree = rw now refl

  both_under : (d : ℕ) → PlacesUnder d × NamesUnder d
  unfolding value_at
  both_under zero = ((λ owner path f whole agree. tt), (λ n agree. tt))
  both_under (suc d) =
      let before = both_under d in
      ((λ owner path f whole agree. level_under d before.0 before.1 owner path f whole agree), (λ n agree. name_under d before.0 before.1 n agree))

pub reads_suffice : ReadsSuffice
reads_suffice F s other n o now agree gives = (gives.0, rw gives.1 at ((both_under F s other now gives.0).1 n agree))
