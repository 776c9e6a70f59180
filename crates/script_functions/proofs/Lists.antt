-- Lists: what stands in them, and side by side.
use Rattle.std.proofs.Common.{arith, ◌≡◌, ◌<◌, ◌+◌, ◌++◌, ℕ, zero, suc, List, [], ◌∷◌, length, get_or, drop, slice_get, Option, None, Some, option_map}
use Rattle.std.proofs.Common.{Any, inl, inr, refl, sym, subst, add-one, drop-cons}
use Rattle.std.specs.List.{AllZip}
use Rattle.inc_value.specs.Choice.{Among, Every}

-- what stands at a place
among_get : {A : Type 0} (xs : List A) (k : ℕ) (d : A) → k < length xs → Among (get_or xs k d) xs
among_get [] k d h = absurd (omega (arith, h))
among_get (y ∷ xs) zero d h = inl refl
among_get (y ∷ xs) (suc k) d h = inr (among_get xs k d (omega (arith, h)))

pub among_at : {A : Type 0} (xs : List A) (i : ℕ) (x : A) → slice_get xs i ≡ Some x → Among x xs
among_at [] i x e = absurd cc
among_at (y ∷ xs) zero x e = inl (let e' : y ≡ x = cc in sym e')
among_at (y ∷ xs) (suc i) x e = inr (among_at xs i x e)

-- std's word for a list in which an equal element stands
pub among_any : {A : Type 0} (x : A) (ys : List A) → Any (λ y. x ≡ y) ys → Among x ys
among_any x ys h = rw (h.4, ← h.3) (among_get ys h.0 h.1 h.2)

pub any_among : {A : Type 0} (x : A) (ys : List A) → Among x ys → Any (λ y. x ≡ y) ys
any_among x [] h = absurd h
any_among x (y ∷ ys) (inl e) = (zero, y, (omega arith), refl, e)
any_among x (y ∷ ys) (inr h) = let r = any_among x ys h in (suc r.0, r.1, (let lt = r.2 in omega (arith, lt)), r.3, r.4)

pub among_left : {A : Type 0} (x : A) (xs ys : List A) → Among x xs → Among x (xs ++ ys)
among_left x [] ys h = absurd h
among_left x (y ∷ xs) ys (inl e) = inl e
among_left x (y ∷ xs) ys (inr h) = inr (among_left x xs ys h)

pub among_right : {A : Type 0} (x : A) (xs ys : List A) → Among x ys → Among x (xs ++ ys)
among_right x [] ys h = h
among_right x (y ∷ xs) ys h = inr (among_right x xs ys h)

-- ---- lists side by side

-- what stands beside an element of the right list
pub zip_right : {A B : Type 0} (R : A → B → Type 0) (xs : List A) (ys : List B) (i : ℕ) (y : B)
    → AllZip R xs ys → slice_get ys i ≡ Some y → (x : A) × (slice_get xs i ≡ Some x) × R x y
zip_right R xs [] i y h e = absurd cc
zip_right R [] (z ∷ ys) i y h e = absurd h
zip_right R (x ∷ xs) (z ∷ ys) zero y h e = let same : z ≡ y = cc in (x, refl, subst (R x) same h.0)
zip_right R (x ∷ xs) (z ∷ ys) (suc i) y h e = zip_right R xs ys i y h.1 e

-- what stands beside an element of the left list
pub zip_left : {A B : Type 0} (R : A → B → Type 0) (xs : List A) (ys : List B) (i : ℕ) (x : A)
    → AllZip R xs ys → slice_get xs i ≡ Some x → (y : B) × (slice_get ys i ≡ Some y) × R x y
zip_left R [] ys i x h e = absurd cc
zip_left R (z ∷ xs) [] i x h e = absurd h
zip_left R (z ∷ xs) (y ∷ ys) zero x h e = let same : z ≡ x = cc in (y, refl, subst (λ w. R w y) same h.0)
zip_left R (z ∷ xs) (y ∷ ys) (suc i) x h e = zip_left R xs ys i x h.1 e

pub every_at : {A : Type 0} (P : A → Type 0) (xs : List A) (i : ℕ) (x : A) → Every P xs → slice_get xs i ≡ Some x → P x
every_at P [] i x h e = absurd cc
every_at P (y ∷ xs) zero x h e = let same : y ≡ x = cc in subst P same h.0
every_at P (y ∷ xs) (suc i) x h e = every_at P xs i x h.1 e

-- what a mapped option holds
pub held : {A B : Type 0} (f : A → B) (o : Option A) (y : B) → option_map f o ≡ Some y
    → (x : A) × (o ≡ Some x) × (f x ≡ y)
held f None y e = absurd cc
held f (Some x) y e = (x, refl, cc)

-- one longer
pub zip_more : {A B : Type 0} (R : A → B → Type 0) (xs : List A) (ys : List B) (x : A) (y : B)
    → AllZip R xs ys → R x y → AllZip R (xs ++ x ∷ []) (ys ++ y ∷ [])
zip_more R [] [] x y h r = (r, tt)
zip_more R [] (z ∷ ys) x y h r = absurd h
zip_more R (z ∷ xs) [] x y h r = absurd h
zip_more R (w ∷ xs) (z ∷ ys) x y h r = (h.0, zip_more R xs ys x y h.1 r)

-- what is left from a place on
pub drop_item : {A : Type 0} (xs : List A) (i : ℕ) (x : A) → i < length xs → x ≡ get_or xs i x
    → drop i xs ≡ x ∷ drop (i + 1) xs
drop_item xs i x h e = rw (add-one, drop-cons xs i x) (let e' = e in cc)
