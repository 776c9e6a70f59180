-- Walks, where heights rise.
use Rattle.std.proofs.Common.{inl, inr, ℕ, ◌≤◌, ◌<◌, List, [], ◌∷◌, length, arith}
use Rattle.inc_value.specs.Choice.{Among, NoRepeats, Reaches, here, step}
use Rattle.inc_value.specs.Walk.{IsWalk, IsDeep, Rises}

module _ {A : Type 0} (R : A → A → Type 0) where
  -- what stands on a walk is reached from its first
  pub walk_reaches : (a b : A) (rest : List A) → IsWalk R (a ∷ rest) → Among b (a ∷ rest) → Reaches R a b
  walk_reaches a b rest walk (inl e) = rw e here
  walk_reaches a b [] walk (inr h) = absurd h
  walk_reaches a b (c ∷ rest) walk (inr h) = step walk.0 (walk_reaches c b rest walk.1 h)

  module _ (height : A → ℕ) (rises : Rises R height) where
    -- what follows is lower
    lower : (a b : A) (rest : List A) → IsWalk R (a ∷ rest) → Among b rest → height b < height a
    lower a b [] walk h = absurd h
    lower a b (c ∷ rest) walk (inl e) = rw e (rises a c walk.0)
    lower a b (c ∷ rest) walk (inr h) = let first = rises a c walk.0 in let then = lower c b rest walk.1 h in omega arith

    -- a walk is no longer than its first is high
    pub short_walk : (a : A) (rest : List A) → IsWalk R (a ∷ rest) → length rest ≤ height a
    short_walk a [] walk = omega arith
    short_walk a (c ∷ rest) walk = let first = rises a c walk.0 in let then = short_walk c rest walk.1 in omega arith

    -- a walk has none twice
    pub distinct_walk : (a : A) (rest : List A) → IsWalk R (a ∷ rest) → NoRepeats (a ∷ rest)
    distinct_walk a [] walk = (λ h. absurd h, tt)
    distinct_walk a (c ∷ rest) walk = (λ h. absurd (let l = lower a a (c ∷ rest) walk h in omega arith), distinct_walk c rest walk.1)

    -- no walk of 130 begins where heights are at most 128
    pub not_deep : ((a : A) → height a ≤ 128) → (a : A) → IsDeep R a → ⊥
    not_deep low a (rest, long, walk) = absurd (let l = low a in let s = short_walk a rest walk in omega arith)
