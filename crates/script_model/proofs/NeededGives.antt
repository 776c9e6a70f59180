-- Where no needed name is on a cycle, whatever is needed gives an outcome.
use Rattle.std.proofs.Common.{◌≡◌, inl, inr, ℕ, zero, suc, ◌+◌, ◌<◌, Bool, true, false, ◌||◌, List, [], ◌∷◌, map, length, slice_get, Option, None, Some, option_map, refl, ◌∙◌, ap, sym, subst, eqb, arith}
use Rattle.std.specs.List.{list_any, AllByRecursion, IsDistinct}
use Rattle.std.proofs.lemmas.Bool.{eqb-true}
use Rattle.std.proofs.lemmas.Map.Steps.{length-le_from_distinct_below}
use Rattle.std.proofs.lemmas.Option.{slice_get_within}
use Rattle.inc_value.specs.declared.ty.Ty.TheVariants as ty
use Rattle.inc_value.specs.declared.ty.Ty.{Ty}
use Rattle.script_model.specs.Blocked.{ReadsName, at_once, through, NameReads, OnCycle}
use Rattle.inc_value.specs.Choice.{and_then, Among, Reaches, here, step}
use Rattle.script_model.specs.Values as value
use Rattle.script_model.specs.Values.{Value, Reference, Outcome, Val, Invalid, same_value}
use Rattle.script_model.specs.Formula.{Formula, Formulas, Body, Entry, State, Meanings, entry_at, body_at, Literal, Name, Bound, Apply, Fold, If, Join, Bind, At, Steps, Now, End, More, Variable, Computed, Freeze, After, Every, Expert, Grab}
use Rattle.script_model.specs.Evaluate.{Gathered, Unknown, SomeInvalid, Values, joined, gathered, each_of, given, fold_from, level, body_level, name_level, value_at, Gives, NameGives}
use Rattle.script_model.specs.Laws.{NeededGives}
use Rattle.script_model.specs.Need.{Edge, Argument, Test, Then, Else, Child, Left, Inside, Item, Named, Place, environment, argument_at, part_at, formula_at, outcome_at, ItemGives, argument_places, part_reads, scope_reads, place_reads, grab_reads, name_reads, Reads, Needed}
use Rattle.script_model.specs.Valid.{BoundsFit, HasType, GrabFits, BodyHasType, Valid, KeepToTypes}
use Rattle.script_model.proofs.Evaluation.{GathersUnder, gathered_under, each_under, links_under, value_more, every_depth_agrees}
use Rattle.script_model.proofs.NeededStands.{among_left, bind_stands, needed_there}
use Rattle.script_model.proofs.Places.{same_values, needed_stands}
use Rattle.script_model.proofs.Reaching.{reaches_join}
use Rattle.script_model.proofs.TypedCalls.{argument_typed, element_typed, part_is, place_typed}
use Rattle.script_model.proofs.TypedValues.{value_has}

-- ---- answers put together

-- there is an answer
abbrev pub IsAnswered : Gathered → Type 0
IsAnswered Unknown = ⊥
IsAnswered g = Unit {0}

joined_answered : (o : Outcome) (g : Gathered) → IsAnswered g → IsAnswered (joined (Some o) g)
joined_answered o Unknown h = absurd h
joined_answered Invalid SomeInvalid h = tt
joined_answered Invalid (Values vs) h = tt
joined_answered (Val v) SomeInvalid h = tt
joined_answered (Val v) (Values vs) h = tt

given_answered : (f : List Value → Value) (g : Gathered) → IsAnswered g → (o : Outcome) × (given f g ≡ Some o)
given_answered f Unknown h = absurd h
given_answered f SomeInvalid h = (Invalid, refl)
given_answered f (Values vs) h = (Val (f vs), refl)

answered_under : (g h : Gathered) → GathersUnder g h → IsAnswered g → IsAnswered h
answered_under Unknown h under answered = absurd answered
answered_under SomeInvalid h under answered = rw under tt
answered_under (Values vs) h under answered = rw under tt

bound_there : (s : State) (E : List Value) (bounds : List Ty) (k : ℕ) (t : Ty) → BoundsFit s E bounds → slice_get bounds k ≡ Some t
    → (v : Value) × (slice_get E k ≡ Some v)
bound_there s [] [] k t fit is = absurd (cc)
bound_there s [] (u ∷ bounds) k t fit is = absurd fit
bound_there s (v ∷ E) [] k t fit is = absurd fit
bound_there s (v ∷ E) (u ∷ bounds) zero t fit is = (v, refl)
bound_there s (v ∷ E) (u ∷ bounds) (suc k) t fit is = bound_there s E bounds k t fit.1 is

-- ---- one level more

module _ (F : Meanings) (s : State) where
  -- the formula gives something
  abbrev pub Answers : List Value → Formula → Type 0
  Answers E f = (o : Outcome) × Gives F s E f o

  -- so does the declaration
  abbrev pub NameAnswers : ℕ → Type 0
  NameAnswers n = (o : Outcome) × NameGives F s n o

  -- all of the formulas give something, within one depth
  abbrev AllAnswer : List Value → Formulas → Type 0
  AllAnswer E fs = (d : ℕ) × IsAnswered (gathered (each_of (value_at F s d E) fs))

  abbrev LinksAnswer : List ℕ → Type 0
  LinksAnswer links = (d : ℕ) × IsAnswered (gathered (map (λ n. value_at F s d [] (Name n)) links))

  by_level : (E : List Value) (f : Formula) (o : Outcome) (d : ℕ) → level F s (value_at F s d) E f ≡ Some o → Gives F s E f o
  unfolding value_at
  by_level E f o d is = (suc d, is)

  -- a name gives the same below binds
  name_below_binds : (d : ℕ) (E : List Value) (n : ℕ) → value_at F s d E (Name n) ≡ value_at F s d [] (Name n)
  unfolding value_at
  name_below_binds zero E n = refl
  name_below_binds (suc d) E n = refl

  -- a formula that gives what a part of it gives, or what follows from that alone
  after_one : (E : List Value) (whole : Formula) (A : List Value) (f : Formula) (o p : Outcome) → Gives F s A f o
      → ((r : List Value → Formula → Option Outcome) → r A f ≡ Some o → level F s r E whole ≡ Some p) → Gives F s E whole p
  after_one E whole A f o p g next = by_level E whole p g.0 (next (value_at F s g.0) g.1)

  -- and one that takes two
  after_two : (E : List Value) (whole : Formula) (A B : List Value) (f g : Formula) (o p q : Outcome) → Gives F s A f o → Gives F s B g p
      → ((r : List Value → Formula → Option Outcome) → r A f ≡ Some o → r B g ≡ Some p → level F s r E whole ≡ Some q) → Gives F s E whole q
  after_two E whole A B f g o p q a b next =
      let d : ℕ = a.0 + b.0 in
      let first = every_depth_agrees F s a.0 d A f o (omega arith) a.1 in
      let second = every_depth_agrees F s b.0 d B g p (omega arith) b.1 in
      by_level E whole q d (next (value_at F s d) first second)

  one_more_answers : (E : List Value) (f : Formula) (rest : Formulas) → Answers E f → AllAnswer E rest → AllAnswer E (More f rest)
  one_more_answers E f rest g others =
      let d : ℕ = g.1.0 + others.0 in
      let first = every_depth_agrees F s g.1.0 d E f g.0 (omega arith) g.1.1 in
      let under = gathered_under (each_of (value_at F s others.0 E) rest) (each_of (value_at F s d E) rest)
      (each_under F s (value_at F s others.0) (value_at F s d) (λ E f. value_more F s others.0 d E f (omega arith)) E rest) in
      let answered = answered_under (gathered (each_of (value_at F s others.0 E) rest)) (gathered (each_of (value_at F s d E) rest)) under others.1 in
      (d, rw first (joined_answered g.0 (gathered (each_of (value_at F s d E) rest)) answered))

  one_more_link : (n : ℕ) (links : List ℕ) → NameAnswers n → LinksAnswer links → LinksAnswer (n ∷ links)
  one_more_link n links g others =
      let d : ℕ = g.1.0 + others.0 in
      let first = every_depth_agrees F s g.1.0 d [] (Name n) g.0 (omega arith) g.1.1 in
      let under = gathered_under (map (λ n. value_at F s others.0 [] (Name n)) links) (map (λ n. value_at F s d [] (Name n)) links)
      (links_under F s (value_at F s others.0) (value_at F s d) (λ E f. value_more F s others.0 d E f (omega arith)) links) in
      let answered = answered_under (gathered (map (λ n. value_at F s others.0 [] (Name n)) links))
      (gathered (map (λ n. value_at F s d [] (Name n)) links)) under others.1 in
      (d, rw first (joined_answered g.0 (gathered (map (λ n. value_at F s d [] (Name n)) links)) answered))

  -- ---- the names that an item reads

  -- every name that the item reads, with no name between, gives something
  abbrev pub NamesAnswer : Item → Type 0
  NamesAnswer i = (y : ℕ) → ReadsName F s y i → NameAnswers y

  -- so does every name that a place reads which it reads
  through_place : (i : Item) (owner : ℕ) (path : List Edge) → NamesAnswer i → Reads F s i (Place owner path)
      → NamesAnswer (Place owner path)
  through_place i owner path names reads y on = names y (through owner path reads on)

  part_is_read : (d owner : ℕ) (path : List Edge) (f : Formula) (j : Item) → formula_at s owner path ≡ Some f
      → Among j (part_reads (value_at F s d (environment path)) owner path f) → Reads F s (Place owner path) j
  part_is_read d owner path f j at among =
      let first = among_left j (part_reads (value_at F s d (environment path)) owner path f) (scope_reads owner path f) among in
      (d, subst (λ o. Among j (place_reads F s d owner path o)) (sym at) first)

  body_is_read : (d n : ℕ) (b : Body) (j : Item) → body_at s n ≡ Some b → Among j (name_reads F s d n (Some b)) → Reads F s (Named n) j
  body_is_read d n b j at among = (d, subst (λ o. Among j (name_reads F s d n o)) (sym at) among)

-- ---- a walk through a formula

module _ (F : Meanings) (s : State) (keep : KeepToTypes F) (valid : Valid F s) where
  if_answers : (owner : ℕ) (path : List Edge) (test a b : Formula) → formula_at s owner path ≡ Some (If test a b)
      → NamesAnswer F s (Place owner path) → (o : Outcome) → Gives F s (environment path) test o
      → (NamesAnswer F s (Place owner (Then ∷ path)) → Answers F s (environment path) a)
      → (NamesAnswer F s (Place owner (Else ∷ path)) → Answers F s (environment path) b) → Answers F s (environment path) (If test a b)
  if_answers owner path test a b at names (Val (value.Bool true)) g first second =
      let reads = part_is_read F s g.0 owner path (If test a b) (Place owner (Then ∷ path)) at (inr (rw g.1 (inl refl))) in
      let side = first (through_place F s (Place owner path) owner (Then ∷ path) names reads) in (
        side.0,
        after_two F s (environment path) (If test a b) (environment path) (environment path) test a (Val (value.Bool true)) side.0 side.0 g side.1
            (λ r x y. rw (x, y) refl),
      )
  if_answers owner path test a b at names (Val (value.Bool false)) g first second =
      let reads = part_is_read F s g.0 owner path (If test a b) (Place owner (Else ∷ path)) at (inr (rw g.1 (inl refl))) in
      let side = second (through_place F s (Place owner path) owner (Else ∷ path) names reads) in (
        side.0,
        after_two F s (environment path) (If test a b) (environment path) (environment path) test b (Val (value.Bool false)) side.0 side.0 g side.1
            (λ r x y. rw (x, y) refl),
      )
  if_answers owner path test a b at names o g first second =
      (Invalid, after_one F s (environment path) (If test a b) (environment path) test o Invalid g (λ r x. rw x refl))

  join_answers : (owner : ℕ) (path : List Edge) (child : Formula) → formula_at s owner path ≡ Some (Join child)
      → NamesAnswer F s (Place owner path) → (o : Outcome) → Gives F s (environment path) child o
      → Answers F s (environment path) (Join child)
  join_answers owner path child at names (Val (Reference target base)) g =
      let reads = part_is_read F s g.0 owner path (Join child) (Named target) at (inr (rw g.1 (inl refl))) in
      let there = names target (at_once reads) in (
        there.0,
        after_two F s (environment path) (Join child) (environment path) [] child (Name target) (Val (Reference target base))
            there.0 there.0 g there.1
            (λ r x y. rw (x, y) refl),
      )
  join_answers owner path child at names o g =
      (Invalid, after_one F s (environment path) (Join child) (environment path) child o Invalid g (λ r x. rw x refl))

  bind_answers : (owner : ℕ) (path : List Edge) (left body : Formula) → formula_at s owner path ≡ Some (Bind left body)
      → NamesAnswer F s (Place owner path) → (o : Outcome) → Gives F s (environment path) left o
      → ((v : Value) → Gives F s (environment path) left (Val v) → NamesAnswer F s (Place owner (Inside v ∷ path))
      → Answers F s (v ∷ environment path) body)
      → Answers F s (environment path) (Bind left body)
  bind_answers owner path left body at names (Val v) g inside =
      let reads = part_is_read F s g.0 owner path (Bind left body) (Place owner (Inside v ∷ path)) at (inr (rw g.1 (inl refl))) in
      let right = inside v g (through_place F s (Place owner path) owner (Inside v ∷ path) names reads) in (
        right.0,
        after_two F s (environment path) (Bind left body) (environment path) (v ∷ environment path) left body (Val v) right.0 right.0 g right.1
            (λ r x y. rw (x, y) refl),
      )
  bind_answers owner path left body at names Invalid g inside =
      (Invalid, after_one F s (environment path) (Bind left body) (environment path) left Invalid Invalid g (λ r x. rw x refl))

  -- a part of what stands there reads names that give something
  part_answers : (owner : ℕ) (path : List Edge) (f : Formula) (edge : Edge) → formula_at s owner path ≡ Some f
      → NamesAnswer F s (Place owner path)
      → Among (Place owner (edge ∷ path)) (part_reads (value_at F s 0 (environment path)) owner path f)
      → NamesAnswer F s (Place owner (edge ∷ path))
  part_answers owner path f edge at names among =
      through_place F s (Place owner path) owner (edge ∷ path) names (part_is_read F s 0 owner path f (Place owner (edge ∷ path)) at among)

  -- an argument stands at its place, is typed, and the names that it reads give something
  record ArgumentStands (owner : ℕ) (path : List Edge) (bounds : List Ty) (k : ℕ) (f : Formula) : Type 0 where
    at : formula_at s owner (Argument k ∷ path) ≡ Some f
    names : NamesAnswer F s (Place owner (Argument k ∷ path))
    ty : Ty
    typed : HasType F s owner bounds f ty

  -- so does each, from the k-th on
  abbrev ArgumentsStand : ℕ → List Edge → List Ty → ℕ → Formulas → Type 0
  ArgumentsStand owner path bounds k fs = (i : ℕ) (f : Formula) → argument_at fs i ≡ Some f → ArgumentStands owner path bounds (k + i) f

  argument_is_read : (owner : ℕ) (path : List Edge) (k : ℕ) (fs : Formulas) (i : ℕ) (f : Formula) → argument_at fs i ≡ Some f
      → Among (Place owner (Argument (k + i) ∷ path)) (argument_places owner path k fs)
  argument_is_read owner path k End i f is = absurd (cc)
  argument_is_read owner path k (More g rest) zero f is = let same : k + 0 ≡ k = omega arith in rw same (inl refl)
  argument_is_read owner path k (More g rest) (suc i) f is =
      let same : suc k + i ≡ k + suc i = omega arith in
      inr (rw same at (argument_is_read owner path (suc k) rest i f is))

  arguments_stand : (owner : ℕ) (path : List Edge) (bounds : List Ty) (whole : Formula) (fs : Formulas)
      → formula_at s owner path ≡ Some whole → NamesAnswer F s (Place owner path)
      → ((i : ℕ) → part_at whole (Argument i) ≡ argument_at fs i)
      → part_reads (value_at F s 0 (environment path)) owner path whole ≡ argument_places owner path 0 fs
      → ((i : ℕ) (f : Formula) → argument_at fs i ≡ Some f → (t : Ty) × HasType F s owner bounds f t)
      → ArgumentsStand owner path bounds 0 fs
  arguments_stand owner path bounds whole fs at names parts reads typed i f is =
      let same : 0 + i ≡ i = omega arith in
      let type = typed i f is in
      rw same (record {
        at = part_is s owner path whole (Argument i) at ∙ parts i ∙ is;
        names = part_answers owner path whole (Argument i) at names (rw (reads, ← same) (argument_is_read owner path 0 fs i f is));
        ty = type.0;
        typed = type.1;
      })

  first_stands : (owner : ℕ) (path : List Edge) (bounds : List Ty) (k : ℕ) (f : Formula) (rest : Formulas)
      → ArgumentsStand owner path bounds k (More f rest) → ArgumentStands owner path bounds k f
  first_stands owner path bounds k f rest h = let same : k + 0 ≡ k = omega arith in rw same at (h 0 f refl)

  rest_stand : (owner : ℕ) (path : List Edge) (bounds : List Ty) (k : ℕ) (f : Formula) (rest : Formulas)
      → ArgumentsStand owner path bounds k (More f rest) → ArgumentsStand owner path bounds (suc k) rest
  rest_stand owner path bounds k f rest h i g is = let same : k + suc i ≡ suc k + i = omega arith in rw same at (h (suc i) g is)

  mutual
    formula_answers : (f : Formula) (owner : ℕ) (path : List Edge) (bounds : List Ty) (t : Ty) → formula_at s owner path ≡ Some f
        → NamesAnswer F s (Place owner path)
        → BoundsFit s (environment path) bounds → HasType F s owner bounds f t → Answers F s (environment path) f
    formula_answers (Literal v) owner path bounds t at names fit h = (Val v, by_level F s (environment path) (Literal v) (Val v) 0 refl)
    formula_answers (Name n) owner path bounds t at names fit h =
        let there = names n (at_once (part_is_read F s 0 owner path (Name n) (Named n) at (inl refl))) in
        (there.0, (there.1.0, name_below_binds F s there.1.0 (environment path) n ∙ there.1.1))
    formula_answers (Bound k) owner path bounds t at names fit h =
        let there = bound_there s (environment path) bounds k t fit h in
        (Val there.0, by_level F s (environment path) (Bound k) (Val there.0) 0 (ap (option_map (λ v. Val v)) there.1))
    formula_answers (Apply f fs) owner path bounds t at names fit h =
        let all = arguments_stand owner path bounds (Apply f fs) fs at names (λ i. refl) refl
        (λ i g is. argument_typed F s owner bounds fs f.sig.takes i g h.1 is) in
        let each = arguments_answer fs owner path bounds 0 fit all in
        let o = given_answered (F.value f) (gathered (each_of (value_at F s each.0 (environment path)) fs)) each.1 in
        (o.0, by_level F s (environment path) (Apply f fs) o.0 each.0 o.1)
    formula_answers (Fold f first fs) owner path bounds t at names fit h =
        let all = arguments_stand owner path bounds (Fold f first fs) fs at names (λ i. refl) refl
        (λ i g is. (h.0, element_typed F s owner bounds fs h.0 i g h.4 is)) in
        let each = arguments_answer fs owner path bounds 0 fit all in
        let o = given_answered (fold_from F f first) (gathered (each_of (value_at F s each.0 (environment path)) fs)) each.1 in
        (o.0, by_level F s (environment path) (Fold f first fs) o.0 each.0 o.1)
    formula_answers (If test a b) owner path bounds t at names fit h =
        let tested = formula_answers test owner (Test ∷ path) bounds ty.Bool (part_is s owner path (If test a b) Test at)
        (part_answers owner path (If test a b) Test at names (inl refl)) fit h.0 in
        if_answers owner path test a b at names tested.0 tested.1
        (λ inner. formula_answers a owner (Then ∷ path) bounds t (part_is s owner path (If test a b) Then at) inner fit h.1)
        (λ inner. formula_answers b owner (Else ∷ path) bounds t (part_is s owner path (If test a b) Else at) inner fit h.2)
    formula_answers (Join child) owner path bounds t at names fit h =
        let reference = formula_answers child owner (Child ∷ path) bounds (ty.Node h.0) (part_is s owner path (Join child) Child at)
        (part_answers owner path (Join child) Child at names (inl refl)) fit h.1 in
        join_answers owner path child at names reference.0 reference.1
    formula_answers (Bind left body) owner path bounds t at names fit h =
        let first = formula_answers left owner (Left ∷ path) bounds h.0 (part_is s owner path (Bind left body) Left at)
        (part_answers owner path (Bind left body) Left at names (inl refl)) fit h.1 in
        bind_answers owner path left body at names first.0 first.1
        (λ v g inner. formula_answers body owner (Inside v ∷ path) (h.0 ∷ bounds) t (part_is s owner path (Bind left body) (Inside v) at) inner
        (value_has F s keep valid g.0 owner (environment path) bounds left h.0 (Val v) fit h.1 g.1, fit) h.2)
    formula_answers (At time) owner path bounds t at names fit h = (_, by_level F s (environment path) (At time) _ 0 refl)
    formula_answers (Steps first steps) owner path bounds t at names fit h =
        (_, by_level F s (environment path) (Steps first steps) _ 0 refl)
    formula_answers Now owner path bounds t at names fit h = (_, by_level F s (environment path) Now _ 0 refl)

    arguments_answer : (fs : Formulas) (owner : ℕ) (path : List Edge) (bounds : List Ty) (k : ℕ)
        → BoundsFit s (environment path) bounds → ArgumentsStand owner path bounds k fs → AllAnswer F s (environment path) fs
    arguments_answer End owner path bounds k fit all = (0, tt)
    arguments_answer (More f rest) owner path bounds k fit all =
        let first = first_stands owner path bounds k f rest all in
        one_more_answers F s (environment path) f rest
        (formula_answers f owner (Argument k ∷ path) bounds first.ty first.at first.names fit first.typed)
        (arguments_answer rest owner path bounds (suc k) fit (rest_stand owner path bounds k f rest all))

  -- ---- a declaration

  -- a body gives something
  abbrev BodyAnswers : Body → Type 0
  BodyAnswers b = (o : Outcome) × (d : ℕ) × (body_level F s (value_at F s d) b ≡ Some o)

  links_answer : (links : List ℕ) → ((m : ℕ) → Among (Named m) (map (λ m. Named m) links) → NameAnswers F s m) → LinksAnswer F s links
  links_answer [] names = (0, tt)
  links_answer (m ∷ links) names = one_more_link F s m links (names m (inl refl)) (links_answer links (λ n among. names n (inr among)))

  -- what a live grab reads, where its bind's left gives a value, by whether that is the grab's
  abbrev grab_places : ℕ → Value → Bool → List Item
  grab_places bind v true = Place bind (Left ∷ []) ∷ Place bind (Inside v ∷ []) ∷ []
  grab_places bind v false = Place bind (Left ∷ []) ∷ []

  grab_reads_are : (bind : ℕ) (v w : Value) (same : Bool) → same_value v w ≡ same → grab_reads bind v (Some (Val w)) ≡ grab_places bind v same
  grab_reads_are bind v w true e = rw (e, grab_reads) refl
  grab_reads_are bind v w false e = rw (e, grab_reads) refl

  left_is_read : (bind : ℕ) (v : Value) (o : Option Outcome) → Among (Place bind (Left ∷ [])) (grab_reads bind v o)
  left_is_read bind v None = inl refl
  left_is_read bind v (Some Invalid) = inl refl
  left_is_read bind v (Some (Val w)) = by_same (same_value v w) refl
    where
      by_same : (same : Bool) → same_value v w ≡ same → Among (Place bind (Left ∷ [])) (grab_reads bind v (Some (Val w)))
      by_same true e = subst (Among (Place bind (Left ∷ []))) (sym (grab_reads_are bind v w true e)) (inl refl)
      by_same false e = subst (Among (Place bind (Left ∷ []))) (sym (grab_reads_are bind v w false e)) (inl refl)

  inside_is_read : (bind : ℕ) (v w : Value) → same_value v w ≡ true → Among (Place bind (Inside v ∷ [])) (grab_reads bind v (Some (Val w)))
  inside_is_read bind v w e = subst (Among (Place bind (Inside v ∷ []))) (sym (grab_reads_are bind v w true e)) (inr (inl refl))

  -- what a live grab gives, after its bind's left
  grab_answers : (n bind : ℕ) (v : Value) (t : Ty) → body_at s n ≡ Some (Grab bind v true) → (fits : GrabFits F s n bind v true t)
      → NamesAnswer F s (Named n) → (o : Outcome) → Gives F s [] fits.left o
      → BodyAnswers (Grab bind v true)
  grab_answers n bind v t at fits names Invalid g = (Invalid, g.0, rw (fits.stands, g.1) refl)
  grab_answers n bind v t at fits names (Val w) g = go (same_value v w) refl
    where
      whole : formula_at s bind [] ≡ Some (Bind fits.left fits.body)
      whole = bind_stands s bind fits.left fits.body fits.stands

      go : (c : Bool) → same_value v w ≡ c → BodyAnswers (Grab bind v true)
      go false other = (Invalid, g.0, rw (fits.stands, g.1, other) refl)
      go true same =
          let equal = same_values v w same in
          let has = value_has F s keep valid g.0 bind [] [] fits.left fits.typed.0 (Val w) tt fits.typed.1 g.1 in
          let there : outcome_at F s g.0 (Place bind (Left ∷ [])) ≡ Some (Val w) = rw (part_is s bind [] (Bind fits.left fits.body) Left whole) g.1 in
          let reads = body_is_read F s g.0 n (Grab bind v true) (Place bind (Inside v ∷ [])) at (rw there (inside_is_read bind v w same)) in
          let right = formula_answers fits.body bind (Inside v ∷ []) (fits.typed.0 ∷ []) t
          (part_is s bind [] (Bind fits.left fits.body) (Inside v) whole)
          (through_place F s (Named n) bind (Inside v ∷ []) names reads) (rw equal has, tt) fits.typed.2 in
          let d : ℕ = g.0 + right.1.0 in
          let first = every_depth_agrees F s g.0 d [] fits.left (Val w) (omega arith) g.1 in
          let second = every_depth_agrees F s right.1.0 d (v ∷ []) fits.body right.0 (omega arith) right.1.1 in
          (right.0, d, rw (fits.stands, first, same, second) refl)

  body_answers : (n : ℕ) (b : Body) (t : Ty) → body_at s n ≡ Some b → BodyHasType F s n b t → NamesAnswer F s (Named n) → BodyAnswers b
  body_answers n (Variable v) t at h names = (Val v, 0, refl)
  body_answers n (Computed f kept) t at h names =
      let reads = body_is_read F s 0 n (Computed f kept) (Place n []) at (inl refl) in
      let g = formula_answers f n [] [] t (rw at refl) (through_place F s (Named n) n [] names reads) tt h.0 in
      (g.0, g.1.0, g.1.1)
  body_answers n (Freeze child p None) t at h names =
      let reads = body_is_read F s 0 n (Freeze child p None) (Place n []) at (inl refl) in
      let g = formula_answers child n [] [] t (rw at refl) (through_place F s (Named n) n [] names reads) tt h.0 in
      (g.0, g.1.0, g.1.1)
  body_answers n (Freeze child p (Some v)) t at h names = (Val v, 0, refl)
  body_answers n (After time) t at h names = (_, 0, refl)
  body_answers n (Every base span) t at h names = (_, 0, refl)
  body_answers n (Expert f first links stale) t at h names =
      let each = links_answer links (λ m among. names m (at_once (body_is_read F s 0 n (Expert f first links stale) (Named m) at among))) in
      let o = given_answered (fold_from F f first) (gathered (map (λ n. value_at F s each.0 [] (Name n)) links)) each.1 in
      (o.0, each.0, o.1)
  body_answers n (Grab bind v true) t at h names =
      let whole = bind_stands s bind h.left h.body h.stands in
      let among = left_is_read bind v (outcome_at F s 0 (Place bind (Left ∷ []))) in
      let reads = body_is_read F s 0 n (Grab bind v true) (Place bind (Left ∷ [])) at among in
      let left = formula_answers h.left bind (Left ∷ []) [] h.typed.0 (part_is s bind [] (Bind h.left h.body) Left whole)
      (through_place F s (Named n) bind (Left ∷ []) names reads) tt h.typed.1 in
      grab_answers n bind v t at h names left.0 left.1
  body_answers n (Grab bind v false) t at h names = (Invalid, 0, refl)

  -- what is declared gives something, where the names that it reads do
  entry_answers : (n : ℕ) (e : Entry) → entry_at s n ≡ Some e → NamesAnswer F s (Named n) → NameAnswers F s n
  entry_answers n e at names =
      let b = body_answers n e.body e.ty (ap (λ o. and_then o (λ (e : Entry). Some e.body)) at) (valid.entries n e at).typed names in
      (b.0, by_level F s [] (Name n) b.0 b.1 (ap (name_level F s (value_at F s b.1)) at ∙ b.2))

  undeclared_answers : (n : ℕ) → entry_at s n ≡ None → NameAnswers F s n
  undeclared_answers n at = (Invalid, by_level F s [] (Name n) Invalid 0 (ap (name_level F s (value_at F s 0)) at))

-- ---- no needed name on a cycle

absent_apart : (x : ℕ) (xs : List ℕ) → list_any (eqb x) xs ≡ false → AllByRecursion (λ y. eqb x y ≡ false) xs
absent_apart x [] h = tt
absent_apart x (y ∷ ys) h = go (eqb x y) refl (absent_apart x ys) h
  where
    go : (c : Bool) → eqb x y ≡ c → (list_any (eqb x) ys ≡ false → AllByRecursion (λ y. eqb x y ≡ false) ys)
        → (c || list_any (eqb x) ys) ≡ false → AllByRecursion (λ y. eqb x y ≡ false) (y ∷ ys)
    go true e rest h = absurd (cc)
    go false e rest h = (e, rest h)

name_reached : (F : Meanings) (s : State) (y : ℕ) (i : Item) → ReadsName F s y i → Reaches (Reads F s) i (Named y)
name_reached F s y i (at_once reads) = step reads here
name_reached F s y i (through owner path reads on) = step reads (name_reached F s y (Place owner path) on)

needed_on : (F : Meanings) (s : State) (i : Item) (y : ℕ) → Needed F s i → ReadsName F s y i → Needed F s (Named y)
needed_on F s i y needed reads = (needed.0, needed.1, reaches_join (Reads F s) needed.0 i (Named y) needed.2 (name_reached F s y i reads))

module _ (F : Meanings) (s : State) where
  -- the one name reads its way to the other, by one read or more
  abbrev Leads : ℕ → ℕ → Type 0
  Leads x y = (z : ℕ) × NameReads F s x z × Reaches (NameReads F s) z y

  -- names on the way to x: no two equal, all of them declared, each leads to x
  record OnTheWay (names : List ℕ) (x : ℕ) : Type 0 where
    distinct : IsDistinct eqb names
    declared : (y : ℕ) → list_any (eqb y) names ≡ true → y < length s.entries
    leads : (y : ℕ) → list_any (eqb y) names ≡ true → Leads y x

  -- at first there are none
  at_start : (x : ℕ) → OnTheWay [] x
  unfolding IsDistinct
  at_start x = record { distinct = tt; declared = λ y none. absurd (cc); leads = λ y none. absurd (cc) }

  module _ (names : List ℕ) (x : ℕ) (way : OnTheWay names x) (absent : list_any (eqb x) names ≡ false) (declared : x < length s.entries) where
    still_distinct : IsDistinct eqb (x ∷ names)
    unfolding IsDistinct
    still_distinct = (absent_apart x names absent, way.distinct)

    still_declared : (y : ℕ) → list_any (eqb y) (x ∷ names) ≡ true → y < length s.entries
    still_declared y among = go (eqb y x) refl among
      where
        go : (c : Bool) → eqb y x ≡ c → (c || list_any (eqb y) names) ≡ true → y < length s.entries
        go true e among = let same = eqb-true y x e in rw same declared
        go false e among = way.declared y among

    -- x comes after them, before a name that it reads
    one_further : (y : ℕ) → NameReads F s x y → OnTheWay (x ∷ names) y
    one_further y reads = record { distinct = still_distinct; declared = still_declared; leads = λ z among. go z (eqb z x) refl among }
      where
        go : (z : ℕ) (c : Bool) → eqb z x ≡ c → (c || list_any (eqb z) names) ≡ true → Leads z y
        go z true e among = let same = eqb-true z x e in (y, rw same reads, here)
        go z false e among = let l = way.leads z among in (l.0, l.1, reaches_join (NameReads F s) l.0 x y l.2 (step reads here))

    -- so one declaration at least isn't among them
    one_is_left : length names + 0 ≡ length s.entries → ⊥
    one_is_left count =
        let within = length-le_from_distinct_below (x ∷ names) (length s.entries) still_distinct still_declared in grind arith

module _ (F : Meanings) (s : State) (keep : KeepToTypes F) (valid : Valid F s) (free : (n : ℕ) → Needed F s (Named n) → OnCycle F s n → ⊥) where
  -- a name that is needed is not on the way to itself
  name_step : (names : List ℕ) (x : ℕ) → OnTheWay F s names x → Needed F s (Named x)
      → (list_any (eqb x) names ≡ false → (e : Entry) → entry_at s x ≡ Some e → NameAnswers F s x) → NameAnswers F s x
  name_step names x way needed next = by_entry (entry_at s x) refl
    where
      by_place : (c : Bool) → list_any (eqb x) names ≡ c → (e : Entry) → entry_at s x ≡ Some e → NameAnswers F s x
      by_place true among e at = absurd (free x needed (way.leads x among))
      by_place false absent e at = next absent e at

      by_entry : (o : Option Entry) → entry_at s x ≡ o → NameAnswers F s x
      by_entry None at = undeclared_answers F s keep valid x at
      by_entry (Some e) at = by_place (list_any (eqb x) names) refl e at

  -- by the number of declarations that are not on the way
  name_answers : (left : ℕ) (names : List ℕ) (x : ℕ) → length names + left ≡ length s.entries → OnTheWay F s names x
      → Needed F s (Named x) → NameAnswers F s x
  name_answers zero names x count way needed =
      name_step names x way needed (λ absent e at. absurd (one_is_left F s names x way absent (slice_get_within s.entries x e at) count))
  name_answers (suc left) names x count way needed = name_step names x way needed (λ absent e at.
      let declared = slice_get_within s.entries x e at in
      let further = one_further F s names x way absent declared in
      let others : NamesAnswer F s (Named x) =
      λ y reads. name_answers left (x ∷ names) y (grind arith) (further y reads) (needed_on F s (Named x) y needed reads) in
      entry_answers F s keep valid x e at others)

  -- what is needed reads names that give something
  names_answer : (i : Item) → Needed F s i → NamesAnswer F s i
  names_answer i needed y reads = name_answers (length s.entries) [] y (grind arith) (at_start F s y) (needed_on F s i y needed reads)

  needed_answers : (i : Item) → Needed F s i → (o : Outcome) × ItemGives F s i o
  needed_answers (Named x) needed = name_answers (length s.entries) [] x (grind arith) (at_start F s x) needed
  needed_answers (Place owner path) needed =
      let there = needed_there F s valid (Place owner path) needed in
      let typed = place_typed F s keep valid owner path there.0 there.1 (needed_stands F s (Place owner path) needed) in
      let names = names_answer (Place owner path) needed in
      let g = formula_answers F s keep valid there.0 owner path typed.bounds typed.ty there.1 names typed.fit typed.typed in
      (g.0, (g.1.0, rw there.1 g.1.1))

pub needed_gives : NeededGives
needed_gives F s keep valid free i needed = needed_answers F s keep valid free i needed
