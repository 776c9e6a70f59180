-- Things in an order by rank, those of one rank as they came.
use Rattle.std.specs.Prelude.{Bool, List, [], ◌∷◌, if◌then◌else◌}

module _ {A : Type 0} (le : A → A → Bool) where
  -- put before the first that isn't of a lower rank
  abbrev pub placed : A → List A → List A
  placed a [] = a ∷ []
  placed a (b ∷ bs) = if le a b then a ∷ b ∷ bs else b ∷ placed a bs

  -- by rank, and those of one rank as they stand
  abbrev pub in_order : List A → List A
  in_order [] = []
  in_order (a ∷ rest) = placed a (in_order rest)
