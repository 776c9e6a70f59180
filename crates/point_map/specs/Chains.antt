-- Chains of cells: each bucket's head leads to its cells, one after the other.
use Rattle.std.specs.Prelude.{◌≡◌, ◌<◌, ◌≤◌, ◌⊎◌, ℕ, List, length, [], ◌∷◌, Option, Some, None, slice_index_or}

-- the number is in the list
abbrev pub Among : List ℕ → ℕ → Type 0
Among [] k = ⊥
Among (x ∷ xs) k = (x ≡ k) ⊎ Among xs k

-- no number is twice in the list
abbrev pub NoRepeats : List ℕ → Type 0
NoRepeats [] = Unit {0}
NoRepeats (x ∷ xs) = (Among xs x → ⊥) × NoRepeats xs

-- from this place the links lead to these places in turn, and end
abbrev pub Chain : (ℕ → Option ℕ) → Option ℕ → List ℕ → Type 0
Chain next from [] = from ≡ None
Chain next from (k ∷ ks) = (from ≡ Some k) × Chain next (next k) ks

-- each bucket's chain has exactly the places of that bucket, each once
pub record IsLinked (heads : List (Option ℕ)) (next : ℕ → Option ℕ) (bucket : ℕ → Option ℕ) : Type 0 where
  pub chains : ℕ → List ℕ
  pub linked : (b : ℕ) → b < length heads → Chain next (slice_index_or heads b None) (chains b)
  pub every : (k b : ℕ) → bucket k ≡ Some b → (b < length heads) × Among (chains b) k
  pub own : (b k : ℕ) → Among (chains b) k → bucket k ≡ Some b
  pub once : (b : ℕ) → NoRepeats (chains b)

-- whatever chain starts there, if it is no longer than the bound, this is so of none of its places
abbrev pub NoneOnChain : (ℕ → Option ℕ) → Option ℕ → ℕ → (ℕ → Type 0) → Type 0
NoneOnChain next first bound P = (ks : List ℕ) → Chain next first ks → length ks ≤ bound → (k : ℕ) → Among ks k → P k → ⊥
