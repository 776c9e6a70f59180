-- Sums over lists: of the elements that have a property, of elements that others stand for, and grouped.
use Rattle.std.proofs.Common.{◌≡◌, ◌⊎◌, inl, inr, ℕ, ◌≤◌, ◌+◌, List, [], ◌∷◌, length, refl, sym, ap, subst, ◌∙◌, arith}
use Rattle.std.specs.Prelude.{sum_by}
use Rattle.std.proofs.lemmas.List.Sums.{sum_by-cons}
use Rattle.inc_value.specs.Choice.{Among, NoRepeats}

-- ---- elements that have a property

-- x comes first, if so it is decided
abbrev pub put : {A P : Type 0} → P ⊎ (P → ⊥) → A → List A → List A
put (inl h) x xs = x ∷ xs
put (inr h) x xs = xs

-- the number, if so it is decided
abbrev pub share : {P : Type 0} → P ⊎ (P → ⊥) → ℕ → ℕ
share (inl h) w = w
share (inr h) w = 0

module _ {A : Type 0} {P : A → Type 0} (d : (a : A) → P a ⊎ (P a → ⊥)) where
  -- those of the list that have it
  abbrev pub those : List A → List A
  those [] = []
  those (x ∷ xs) = put (d x) x (those xs)

  pub those_were : (a : A) (xs : List A) → Among a (those xs) → Among a xs × P a
  those_were a [] h = absurd h
  those_were a (x ∷ xs) h = by (d x) (those_were a xs) h
    where
      by : (c : P x ⊎ (P x → ⊥)) → (Among a (those xs) → Among a xs × P a) → Among a (put c x (those xs)) → Among a (x ∷ xs) × P a
      by (inl p) rest (inl e) = (inl e, subst P (sym e) p)
      by (inl p) rest (inr h) = let r = rest h in (inr r.0, r.1)
      by (inr p) rest h = let r = rest h in (inr r.0, r.1)

  pub those_once : (xs : List A) → NoRepeats xs → NoRepeats (those xs)
  those_once [] once = tt
  those_once (x ∷ xs) once = by (d x) (those_once xs once.1)
    where
      by : (c : P x ⊎ (P x → ⊥)) → NoRepeats (those xs) → NoRepeats (put c x (those xs))
      by (inl p) rest = ((λ h. once.0 (those_were x xs h).0), rest)
      by (inr p) rest = rest

  pub those_sum : (w : A → ℕ) (xs : List A) → sum_by w (those xs) ≡ sum_by (λ x. share (d x) (w x)) xs
  those_sum w [] = refl
  those_sum w (x ∷ xs) = by (d x) refl (those_sum w xs)
    where
      by : (c : P x ⊎ (P x → ⊥)) → d x ≡ c → sum_by w (those xs) ≡ sum_by (λ x. share (d x) (w x)) xs
          → sum_by w (put c x (those xs)) ≡ sum_by (λ x. share (d x) (w x)) (x ∷ xs)
      by (inl p) e rest =
          let cons = sum_by-cons w x (those xs) in
          let other = sum_by-cons (λ x. share (d x) (w x)) x xs in
          let here : share (d x) (w x) ≡ w x = ap (λ c. share c (w x)) e in
          omega (arith, rest, cons, other, here)
      by (inr p) e rest =
          let other = sum_by-cons (λ x. share (d x) (w x)) x xs in
          let here : share (d x) (w x) ≡ 0 = ap (λ c. share c (w x)) e in
          omega (arith, rest, other, here)

-- ---- terms

module _ {A : Type 0} (u v : A → ℕ) where
  pub sum_most : (xs : List A) → ((x : A) → Among x xs → u x ≤ v x) → sum_by u xs ≤ sum_by v xs
  sum_most [] h = omega arith
  sum_most (x ∷ xs) h =
      let first = h x (inl refl) in
      let rest = sum_most xs (λ y a. h y (inr a)) in
      let one = sum_by-cons u x xs in
      let other = sum_by-cons v x xs in
      omega (arith, first, rest, one, other)

  -- where one term leaves so much free
  pub sum_most_but : (b : A) (free : ℕ) (xs : List A) → Among b xs → u b + free ≤ v b → ((x : A) → Among x xs → u x ≤ v x)
      → sum_by u xs + free ≤ sum_by v xs
  sum_most_but b free [] among room h = absurd among
  sum_most_but b free (x ∷ xs) (inl e) room h =
      let rest = sum_most xs (λ y a. h y (inr a)) in
      let one = sum_by-cons u x xs in
      let other = sum_by-cons v x xs in
      let first : u b ≡ u x = ap u e in
      let then : v b ≡ v x = ap v e in
      omega (arith, room, rest, one, other, first, then)
  sum_most_but b free (x ∷ xs) (inr among) room h =
      let first = h x (inl refl) in
      let rest = sum_most_but b free xs among room (λ y a. h y (inr a)) in
      let one = sum_by-cons u x xs in
      let other = sum_by-cons v x xs in
      omega (arith, first, rest, one, other)

  pub sum_both : (t : A → ℕ) (xs : List A) → ((x : A) → t x ≡ u x + v x) → sum_by t xs ≡ sum_by u xs + sum_by v xs
  sum_both t [] h = refl
  sum_both t (x ∷ xs) h =
      let first = h x in
      let rest = sum_both t xs h in
      let sum = sum_by-cons t x xs in
      let one = sum_by-cons u x xs in
      let other = sum_by-cons v x xs in
      omega (arith, first, rest, sum, one, other)

-- a term is no more than the sum
pub sum_one : {A : Type 0} (u : A → ℕ) (a : A) (xs : List A) → Among a xs → u a ≤ sum_by u xs
sum_one u a [] h = absurd h
sum_one u a (x ∷ xs) (inl e) = let sum = sum_by-cons u x xs in let same : u a ≡ u x = ap u e in omega (arith, sum, same)
sum_one u a (x ∷ xs) (inr h) = let sum = sum_by-cons u x xs in let rest = sum_one u a xs h in omega (arith, sum, rest)

-- where each term is one more
pub sum_more : {A : Type 0} (u v : A → ℕ) (xs : List A) → ((x : A) → Among x xs → v x ≡ u x + 1) → sum_by v xs ≡ sum_by u xs + length xs
sum_more u v [] h = refl
sum_more u v (x ∷ xs) h =
    let first = h x (inl refl) in
    let rest = sum_more u v xs (λ y a. h y (inr a)) in
    let one = sum_by-cons u x xs in
    let other = sum_by-cons v x xs in
    omega (arith, first, rest, one, other)

-- ---- elements that others stand for

-- the list without one that is in it
abbrev without : {B : Type 0} (y : B) (ys : List B) → Among y ys → List B
without y [] h = absurd h
without y (z ∷ zs) (inl e) = zs
without y (z ∷ zs) (inr h) = z ∷ without y zs h

without_sum : {B : Type 0} (v : B → ℕ) (y : B) (ys : List B) (h : Among y ys) → sum_by v ys ≡ v y + sum_by v (without y ys h)
without_sum v y [] h = absurd h
without_sum v y (z ∷ zs) (inl e) = let sum = sum_by-cons v z zs in let same : v y ≡ v z = ap v e in omega (arith, sum, same)
without_sum v y (z ∷ zs) (inr h) =
    let sum = sum_by-cons v z zs in
    let fewer = sum_by-cons v z (without y zs h) in
    let rest = without_sum v y zs h in
    omega (arith, sum, fewer, rest)

without_others : {B : Type 0} (y x : B) (ys : List B) (h : Among y ys) → Among x ys → (x ≡ y) ⊎ Among x (without y ys h)
without_others y x [] h a = absurd h
without_others y x (z ∷ zs) (inl e) (inl s) = inl (s ∙ sym e)
without_others y x (z ∷ zs) (inl e) (inr a) = inr a
without_others y x (z ∷ zs) (inr h) (inl s) = inr (inl s)
without_others y x (z ∷ zs) (inr h) (inr a) = elim (without_others y x zs h a) [ inl s ↦ inl s | inr b ↦ inr (inr b) ]

-- one that stands for x, and counts as no less
pub record StandsFor {A B : Type 0} (of : B → A) (u : A → ℕ) (v : B → ℕ) (ys : List B) (x : A) : Type 0 where
  pub other : B
  pub among : Among other ys
  pub same : of other ≡ x
  pub most : u x ≤ v other

-- where one stands for each of the elements, none of which is listed twice, these come to no more than those
pub stood_for : {A B : Type 0} (of : B → A) (u : A → ℕ) (v : B → ℕ) (xs : List A) (ys : List B) → NoRepeats xs
    → ((x : A) → Among x xs → StandsFor of u v ys x) → sum_by u xs ≤ sum_by v ys
stood_for of u v [] ys once h = omega arith
stood_for of u v (x ∷ xs) ys once h =
    let first = h x (inl refl) in
    let rest = stood_for of u v xs (without first.other ys first.among) once.1 (λ z a.
    (let next = h z (inr a) in elim (without_others first.other next.other ys first.among next.among) [
      | inl s ↦ absurd (once.0 (subst (λ (k : _). Among k xs) (sym next.same ∙ (ap of s ∙ first.same)) a))
      | inr b ↦ record { other = next.other; among = b; same = next.same; most = next.most }
    ])) in
    let one = sum_by-cons u x xs in
    let most = first.most in
    let sum = without_sum v first.other ys first.among in
    omega (arith, rest, one, most, sum)
