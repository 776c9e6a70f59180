-- A walk that comes back to its first point and passes no other twice.
use Rattle.std.proofs.Common.{◌≡◌, ◌⊎◌, inl, inr, List, [], ◌∷◌, ◌++◌, sym, ap, subst, ◌∙◌}
use Rattle.inc_value.specs.Choice.{Among, NoRepeats}

among_end : {A : Type 0} (x q : A) (xs : List A) → Among x (xs ++ q ∷ []) → Among x xs ⊎ (x ≡ q)
among_end x q [] (inl e) = inr e
among_end x q [] (inr none) = absurd none
among_end x q (y ∷ ys) (inl e) = inl (inl e)
among_end x q (y ∷ ys) (inr among) = elim (among_end x q ys among) [ inl there ↦ inl (inr there) | inr e ↦ inr e ]

once_end : {A : Type 0} (q : A) (xs : List A) → (Among q xs → ⊥) → NoRepeats xs → NoRepeats (xs ++ q ∷ [])
once_end q [] apart once = (λ none. none, tt)
once_end q (x ∷ xs) apart once = (
  λ among. elim (among_end x q xs among) [ inl there ↦ once.0 there | inr e ↦ apart (inl (sym e)) ],
  once_end q xs (λ among. apart (inr among)) once.1,
)

abbrev rest_of : {A : Type 0} → List A → List A
rest_of [] = []
rest_of (x ∷ xs) = xs

abbrev head_or : {A : Type 0} → A → List A → A
head_or d [] = d
head_or d (x ∷ xs) = x

-- behind its first point it passes none twice
pub once_behind : {A : Type 0} (p q point : A) (rest front : List A) → p ∷ q ∷ rest ≡ front ++ point ∷ [] → p ≡ point → NoRepeats front → NoRepeats (q ∷ rest)
once_behind p q point rest [] is starts once = absurd (let e : q ∷ rest ≡ [] = ap rest_of is in cc)
once_behind {A} p q point rest (x ∷ mid) is starts once =
    let behind : q ∷ rest ≡ mid ++ point ∷ [] = ap rest_of is in
    let first : x ≡ point = sym (ap (head_or p) is) ∙ starts in
    subst (λ (xs : List A). NoRepeats xs) (sym behind)
    (once_end point mid (subst (λ (y : A). Among y mid → ⊥) first once.0) once.1)
