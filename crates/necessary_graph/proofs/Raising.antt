-- The heap's points follow their heights.
use Rattle.std.proofs.Common.{◌≡◌, ◌⊎◌, inl, inr, ℕ, zero, suc, ◌+◌, ◌<◌, Some, [], ◌∷◌, length, drop, arith, ap, sym, ◌∙◌}
use Rattle.std.specs.Prelude.{List, Option, None, is_some, IsSome, Contains, slice_index_or}
use Rattle.std.proofs.lemmas.Bool.{cases_eq}
use Rattle.std.proofs.lemmas.Option.{none-some}
use Rattle.inc_value.specs.declared.node.Point.{Point}
use Rattle.point_map.specs.Rows.{Rows, at, Changes}
use Rattle.point_map.proofs.Places.{point_cases}
use Rattle.std.proofs.lemmas.List.{drop_more}
use Rattle.height_order.specs.Levels.{level, or_zero, KeepsPoints, Tells}

-- a point at its old height has its new one, or moved
pub still_or_moved : (old new heap : Rows ℕ) (list : List Point) → ((a : Point) (h : ℕ) → at heap a ≡ Some h → at old a ≡ Some h)
    → Tells (level old) (level new) [] list → (a : Point) (h : ℕ) → at heap a ≡ Some h → (h ≡ level new a) ⊎ Contains list a
still_or_moved old new heap list was tells a h e = elim (cases_eq (level new a) (level old a)) [
  | inl same ↦ inl (sym (same ∙ ap or_zero (was a h e)))
  | inr differs ↦ inr (rw tells.appended (tells.moved.every a differs))
]

-- what is in a list is its first or in its rest
first_or_rest : (x a : Point) (rest : List Point) → Contains (x ∷ rest) a → (a ≡ x) ⊎ Contains rest a
first_or_rest x a rest (zero, below, e) = inl (sym e)
first_or_rest x a rest (suc k, below, e) = inr (k, omega (arith, below), e)

-- each of the heap's points is at its height, or among the points from this place on
abbrev pub IsDue : Rows ℕ → Rows ℕ → List Point → ℕ → Type 0
IsDue heights heap moved i = (a : Point) (h : ℕ) → at heap a ≡ Some h → (h ≡ level heights a) ⊎ Contains (drop i moved) a

module _ (heights heap : Rows ℕ) (moved : List Point) (i : ℕ) (d : Point) (below : i < length moved) (due : IsDue heights heap moved i) where
  -- the point at the place
  abbrev point : Point
  point = slice_index_or moved i d

  split : drop i moved ≡ point ∷ drop (i + 1) moved
  split = drop_more moved i d below

  -- the point at the place is given its height
  pub raised_due : (new : Rows ℕ) (height : ℕ) → height ≡ level heights point → Changes heap new point (Some height) → IsDue heights new moved (i + 1)
  raised_due new height level_is c a h e = elim (point_cases a point) [
    | inl same ↦
        let s : ◌≡◌ {A = Option ℕ} (Some height) (Some h) = sym c.changed ∙ ap (at new) (sym same) ∙ e in
        inl (rw same (sym (ap or_zero s) ∙ level_is))
    | inr other ↦ elim (due a h (sym (c.others a other) ∙ e)) [
      | inl there ↦ inl there
      | inr later ↦ elim (first_or_rest point a (drop (i + 1) moved) (rw split at later)) [ inl same ↦ absurd (other same) | inr rest ↦ inr rest ]
    ]
  ]

  -- or isn't in the heap
  pub absent_due : at heap point ≡ None → IsDue heights heap moved (i + 1)
  absent_due out a h e = elim (due a h e) [
    | inl there ↦ inl there
    | inr later ↦ elim (first_or_rest point a (drop (i + 1) moved) (rw split at later)) [
      | inl same ↦ absurd (none-some h (sym (ap (at heap) same ∙ out) ∙ e))
      | inr rest ↦ inr rest
    ]
  ]

-- a point that was there has another row
pub points_raised : (heap now new : Rows ℕ) (p : Point) (h : ℕ) → KeepsPoints heap now → IsSome (at now p) → Changes now new p (Some h) → KeepsPoints heap new
points_raised heap now new p h kept there c a = elim (point_cases a p) [
  | inl same ↦ ap is_some (ap (at new) same ∙ c.changed) ∙ (sym there ∙ (ap (λ x. is_some (at now x)) (sym same) ∙ kept a))
  | inr other ↦ ap is_some (c.others a other) ∙ kept a
]
