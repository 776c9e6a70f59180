-- What is read off the places of a map in turn.
use Rattle.std.proofs.Common.{◌≡◌, ◌∙◌, ℕ, zero, suc, List, [], ◌∷◌, ◌++◌, refl, ap, sym}
use Rattle.std.specs.Prelude.{None, slice_index_or, flat_map}
use Rattle.point_map.specs.Rows.{Place}

module _ {R A : Type 0} (g : Place R → List A) (none : g None ≡ []) where
  -- nothing is read off places that have nothing to read
  pub flat_map_nothing : (ys : List (Place R)) → ((i : ℕ) → g (slice_index_or ys i None) ≡ []) → flat_map g ys ≡ []
  flat_map_nothing [] same = refl
  flat_map_nothing (y ∷ ys) same = rw (same zero) (flat_map_nothing ys (λ i. same (suc i)))

  -- where each place has the same to read, the same is read off all of them, whatever their number
  pub flat_map_agrees : (xs ys : List (Place R)) → ((i : ℕ) → g (slice_index_or xs i None) ≡ g (slice_index_or ys i None))
      → flat_map g xs ≡ flat_map g ys
  flat_map_agrees [] ys same = sym (flat_map_nothing ys (λ i. sym (same i) ∙ none))
  flat_map_agrees (x ∷ xs) [] same = flat_map_nothing (x ∷ xs) (λ i. same i ∙ none)
  flat_map_agrees (x ∷ xs) (y ∷ ys) same = rw (same zero) (ap (λ rest. g y ++ rest) (flat_map_agrees xs ys (λ i. same (suc i))))
