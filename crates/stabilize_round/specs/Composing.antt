-- Links kept where they start at a point that is reached.
use Rattle.std.specs.Prelude.{◌≡◌, ◌<◌, ℕ, Bool, true}
use Rattle.inc_value.specs.declared.node.Point.{Point}
use Rattle.inc_value.specs.Choice.{Reaches}

-- reached from a root
abbrev pub From : {A : Type 0} → (A → Type 0) → (A → A → Type 0) → A → Type 0
From {A} Root L a = (r : A) × Root r × Reaches L r a

-- the links that start at a point that is reached
abbrev pub Swept : {A : Type 0} → (A → Type 0) → (A → A → Type 0) → A → A → Type 0
Swept Root L a b = L a b × From Root L a

-- without some
abbrev pub Less : {A : Type 0} → (A → A → Type 0) → (A → A → Type 0) → A → A → Type 0
Less L X a b = L a b × (X a b → ⊥)

-- sweeping, taking links off and sweeping again leaves what taking them off and sweeping once leaves
abbrev pub SweepsCompose : Type 0
SweepsCompose =
    (root : Point → ℕ) (links : Point → Point → ℕ) (off : Point → Point → Bool) (p q : Point)
    → (Swept (λ (a : Point). 0 < root a)
    (Less (Swept (λ (a : Point). 0 < root a) (λ (a b : Point). 0 < links a b)) (λ (a b : Point). off a b ≡ true)) p q
    → Swept (λ (a : Point). 0 < root a) (Less (λ (a b : Point). 0 < links a b) (λ (a b : Point). off a b ≡ true)) p q)
    × (Swept (λ (a : Point). 0 < root a) (Less (λ (a b : Point). 0 < links a b) (λ (a b : Point). off a b ≡ true)) p q
    → Swept (λ (a : Point). 0 < root a)
    (Less (Swept (λ (a : Point). 0 < root a) (λ (a b : Point). 0 < links a b)) (λ (a b : Point). off a b ≡ true)) p q)
