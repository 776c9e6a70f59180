-- Among finitely many points without a cycle every walk ends.
use Rattle.std.proofs.Common.{◌≡◌, ◌⊎◌, inl, inr, ℕ, zero, suc, ◌≤◌, List, [], ◌∷◌, length, refl, sym, ◌∙◌, ap, arith}
use Rattle.inc_value.specs.Choice.{Among, Reaches, here}
use Rattle.inc_terms.specs.Local.{Ends, ends}
use Rattle.inc_terms.proofs.Local.{reach_more}

module _ {A : Type 0} (R : A → A → Type 0) (N : A → Type 0) (closed : (a b : A) → N a → R a b → N b)
    (no_cycle : (a b : A) → N a → R a b → Reaches R b a → ⊥) where
  -- the list without one place
  without : (a : A) (xs : List A) → Among a xs → List A
  without a [] h = []
  without a (x ∷ xs) (inl e) = xs
  without a (x ∷ xs) (inr h) = x ∷ without a xs h

  still : (a b : A) (xs : List A) (h : Among a xs) → Among b xs → (b ≡ a) ⊎ Among b (without a xs h)
  unfolding without
  still a b [] h i = absurd i
  still a b (x ∷ xs) (inl e) (inl e') = inl (e' ∙ sym e)
  still a b (x ∷ xs) (inl e) (inr i) = inr i
  still a b (x ∷ xs) (inr h) (inl e') = inr (inl e')
  still a b (x ∷ xs) (inr h) (inr i) = elim (still a b xs h i) [ inl e ↦ inl e | inr j ↦ inr (inr j) ]

  shorter : (a : A) (xs : List A) (h : Among a xs) → suc (length (without a xs h)) ≡ length xs
  unfolding without
  shorter a [] h = absurd h
  shorter a (x ∷ xs) (inl e) = refl
  shorter a (x ∷ xs) (inr h) = ap (λ (k : ℕ). suc k) (shorter a xs h)

  -- every point is free or leads to a
  from_free : (n : ℕ) (free : List A) → length free ≤ n → (a : A) → N a → ((b : A) → N b → Among b free ⊎ Reaches R b a) → Ends R a
  from_free zero free short a na h = ends (λ b r. elim (h b (closed a b na r)) [
    | inl i ↦ absurd (let e = shorter b free i in omega arith)
    | inr way ↦ absurd (no_cycle a b na r way)
  ])
  from_free (suc n) free short a na h = ends (λ b r. elim (h b (closed a b na r)) [
    | inl i ↦ let e = shorter b free i in
        from_free n (without b free i) (omega arith) b (closed a b na r) (λ c nc. elim (h c nc) [
          | inl j ↦ elim (still b c free i j) [ inl same ↦ inr (rw same here) | inr k ↦ inl k ]
          | inr way ↦ inr (reach_more R c a b way r)
        ])
    | inr way ↦ absurd (no_cycle a b na r way)
  ])

  pub all_end : (points : List A) → ((a : A) → N a → Among a points) → (a : A) → N a → Ends R a
  all_end points h a na = from_free (length points) points (omega arith) a na (λ b nb. inl (h b nb))
