-- Counts that rise, and numbers of a list.
use Rattle.std.proofs.Common.{◌≡◌, inl, inr, ℕ, ◌+◌, ◌≤◌, ◌<◌, Bool, true, false, List, [], ◌∷◌, refl, subst, arith}
use Rattle.inc_value.specs.Choice.{Among}
use Rattle.stabilize_round.specs.Counts.{last_count, RoseBy, RoseAtMost, number_of}

-- it rose by nothing
pub none_yet : {n : ℕ} → RoseBy n 0 n
none_yet = record { kept = omega arith; most = omega arith; exact = λ h. omega arith }

-- it rose, and rose again
pub rose_on : {a k b j c : ℕ} → RoseBy a k b → RoseBy b j c → RoseBy a (k + j) c
rose_on {a} {k} {b} {j} {c} first next =
    let x = first.kept in let y = next.kept in let u = first.most in let v = next.most in
    record {
      kept = omega arith;
      most = omega arith;
      exact = λ h. let e = next.exact h in let below : b < last_count = omega arith in let d = first.exact below in omega arith;
    }

pub none_more : {a k b c : ℕ} → RoseBy a k b → RoseBy b 0 c → RoseBy a k c
none_more {a} {k} {b} {c} first next =
    let r = rose_on first next in
    let x = r.kept in let y = r.most in record { kept = x; most = omega arith; exact = λ h. let e = r.exact h in omega arith }

pub more_on : {a k b j c : ℕ} → RoseBy a k b → RoseBy b j c → RoseBy a (j + k) c
more_on {a} {k} {b} {j} {c} first next =
    let r = rose_on first next in
    let x = r.kept in let y = r.most in record { kept = x; most = omega arith; exact = λ h. let e = r.exact h in omega arith }

pub at_most : {a k b : ℕ} → RoseBy a k b → RoseAtMost a k b
at_most {a} {k} {b} h = let x = h.kept in let y = h.most in record { kept = x; within = y }

pub at_most_on : {a k b j c : ℕ} → RoseAtMost a k b → RoseAtMost b j c → RoseAtMost a (j + k) c
at_most_on {a} {k} {b} {j} {c} first next =
    let x = first.kept in let y = next.kept in let u = first.within in let v = next.within in record { kept = omega arith; within = omega arith }

-- where what is so was so, no more are
pub no_more : {A : Type 0} (f g : A → Bool) → ((x : A) → g x ≡ true → f x ≡ true) → (xs : List A) → number_of g xs ≤ number_of f xs
no_more f g less [] = omega arith
no_more f g less (x ∷ xs) = by_two (g x) refl (f x) refl (no_more f g less xs)
  where
    by_two : (a : Bool) → g x ≡ a → (b : Bool) → f x ≡ b → number_of g xs ≤ number_of f xs → number_of g (x ∷ xs) ≤ number_of f (x ∷ xs)
    by_two true e true e' rest = rw (e, e') (omega arith)
    by_two false e true e' rest = rw (e, e') (omega arith)
    by_two false e false e' rest = rw (e, e') (omega arith)
    by_two true e false e' rest = absurd (let k = less x e in cc)

-- and where one of the list isn't so any more, fewer are
pub fewer_than : {A : Type 0} (f g : A → Bool) → ((x : A) → g x ≡ true → f x ≡ true) → (p : A) (xs : List A) → f p ≡ true → g p ≡ false → Among p xs
    → number_of g xs < number_of f xs
fewer_than f g less p [] was now a = absurd a
fewer_than f g less p (x ∷ xs) was now (inl e) =
    let rest = no_more f g less xs in
    let a : f x ≡ true = subst (λ y. f y ≡ true) e was in
    let b : g x ≡ false = subst (λ y. g y ≡ false) e now in
    rw (a, b) (omega arith)
fewer_than f g less p (x ∷ xs) was now (inr a) = by_two (g x) refl (f x) refl (fewer_than f g less p xs was now a)
  where
    by_two : (a : Bool) → g x ≡ a → (b : Bool) → f x ≡ b → number_of g xs < number_of f xs → number_of g (x ∷ xs) < number_of f (x ∷ xs)
    by_two true e true e' rest = rw (e, e') (omega arith)
    by_two false e true e' rest = rw (e, e') (omega arith)
    by_two false e false e' rest = rw (e, e') (omega arith)
    by_two true e false e' rest = absurd (let k = less x e in cc)
