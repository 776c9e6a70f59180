-- What stands in a list from a place on, and lists that begin with others.
use Rattle.std.proofs.Common.{◌≡◌, inl, inr, ℕ, suc, ◌+◌, List, [], ◌∷◌, ◌++◌, length, Some, arith, refl, sym, subst, ap, ◌∙◌}
use Rattle.std.proofs.lemmas.List.{length-append, append_assoc, append-nil}
use Rattle.std.specs.List.{slice_get}
use Rattle.inc_value.specs.Choice.{Among, Every}
use Rattle.formula_elab.proofs.Order.{at_more}

module _ {A : Type 0} where
  -- ---- one element

  pub get_there : (xs ys : List A) (y : A) → slice_get (xs ++ y ∷ ys) (length xs) ≡ Some y
  get_there [] ys y = refl
  get_there (x ∷ xs) ys y = get_there xs ys y

  -- the next one
  pub get_next : (xs ys : List A) (x y : A) → slice_get (xs ++ x ∷ y ∷ ys) (suc (length xs)) ≡ Some y
  get_next [] ys x y = refl
  get_next (z ∷ xs) ys x y = get_next xs ys x y

  behind_all : (xs ys : List A) (i : ℕ) (x : A) → slice_get ys i ≡ Some x → slice_get (xs ++ ys) (length xs + i) ≡ Some x
  behind_all [] ys i x at = let same : i ≡ 0 + i = omega arith in subst (λ k. slice_get ys k ≡ Some x) same at
  behind_all (z ∷ xs) ys i x at =
      let same : suc (length xs + i) ≡ suc (length xs) + i = omega arith in
      subst (λ k. slice_get (z ∷ (xs ++ ys)) k ≡ Some x) same (behind_all xs ys i x at)

  -- one behind so many others
  pub get_behind : (xs ys : List A) (i start : ℕ) (x : A) → length xs ≡ start → slice_get ys i ≡ Some x
      → slice_get (xs ++ ys) (start + i) ≡ Some x
  get_behind xs ys i start x size at = subst (λ k. slice_get (xs ++ ys) (k + i) ≡ Some x) size (behind_all xs ys i x at)

  pub among_left : (x : A) (xs ys : List A) → Among x xs → Among x (xs ++ ys)
  among_left x [] ys h = absurd h
  among_left x (y ∷ xs) ys (inl e) = inl e
  among_left x (y ∷ xs) ys (inr h) = inr (among_left x xs ys h)

  pub among_last : (x : A) (xs : List A) → Among x (xs ++ x ∷ [])
  among_last x [] = inl refl
  among_last x (y ∷ xs) = inr (among_last x xs)

  pub every_more : (P : A → Type 0) (xs : List A) (x : A) → Every P xs → P x → Every P (xs ++ x ∷ [])
  every_more P [] x h last = (last, tt)
  every_more P (y ∷ xs) x h last = (h.0, every_more P xs x h.1 last)

  -- ---- a list in another

  -- from the start-th on the list has these elements
  abbrev pub StandsAt : List A → ℕ → List A → Type 0
  StandsAt all start [] = Unit {0}
  StandsAt all start (x ∷ xs) = (slice_get all start ≡ Some x) × StandsAt all (suc start) xs

  pub at_split : (all : List A) (start : ℕ) (xs ys : List A) → StandsAt all start (xs ++ ys)
      → StandsAt all start xs × StandsAt all (start + length xs) ys
  at_split all start [] ys h = let same : start ≡ start + 0 = omega arith in (tt, subst (λ i. StandsAt all i ys) same h)
  at_split all start (x ∷ xs) ys h =
      let rest = at_split all (suc start) xs ys h.1 in
      let same : suc start + length xs ≡ start + suc (length xs) = omega arith in
      ((h.0, rest.0), subst (λ i. StandsAt all i ys) same rest.1)

  -- behind others, before others
  pub at_between : (before xs more : List A) → StandsAt (before ++ (xs ++ more)) (length before) xs
  at_between before [] more = tt
  at_between before (x ∷ xs) more =
      let next = at_between (before ++ x ∷ []) xs more in
      let size : length (before ++ x ∷ []) ≡ suc (length before) = (let e = length-append before (x ∷ []) in omega (arith, e)) in
      let same : (before ++ x ∷ []) ++ (xs ++ more) ≡ before ++ (x ∷ (xs ++ more)) = append_assoc before (x ∷ []) (xs ++ more) in (
        get_there before (xs ++ more) x,
        subst (λ i. StandsAt (before ++ (x ∷ (xs ++ more))) i xs) size
            (subst (λ all. StandsAt all (length (before ++ x ∷ [])) xs) same next),
      )

  -- behind others, at the end
  pub at_end : (before xs : List A) (start : ℕ) → length before ≡ start → StandsAt (before ++ xs) start xs
  at_end before xs start size =
      subst (λ ys. StandsAt (before ++ ys) start xs) (append-nil xs)
      (subst (λ i. StandsAt (before ++ (xs ++ [])) i xs) size (at_between before xs []))

  pub at_all : (xs : List A) → StandsAt xs 0 xs
  at_all xs = at_end [] xs 0 refl

  -- ---- a list that begins with another

  abbrev pub Begins : List A → List A → Type 0
  Begins all front = (more : List A) × (all ≡ front ++ more)

  pub begins_all : (xs : List A) → Begins xs xs
  begins_all xs = ([], sym (append-nil xs))

  pub begins_more : (xs more : List A) → Begins (xs ++ more) xs
  begins_more xs more = (more, refl)

  pub begins_then : (xs ys zs : List A) → Begins xs ys → Begins ys zs → Begins xs zs
  begins_then xs ys zs h k = (k.0 ++ h.0, h.1 ∙ (ap (λ us. us ++ h.0) k.1 ∙ append_assoc zs k.0 h.0))

  pub begins_get : (all front : List A) (i : ℕ) (x : A) → Begins all front → slice_get front i ≡ Some x → slice_get all i ≡ Some x
  begins_get all front i x h at = subst (λ xs. slice_get xs i ≡ Some x) (sym h.1) (at_more front h.0 i x at)
