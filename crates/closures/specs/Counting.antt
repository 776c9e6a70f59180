-- How often each box was called, and what one more call does to that.
use Rattle.std.specs.Prelude.{◌≡◌, ℕ, zero, suc, List, [], ◌∷◌}
use Rattle.inc_value.specs.Counts.{raised}
use Rattle.inc_value.specs.declared.function.FnRef.{FnRef}
use Rattle.closures.specs.Tables.{by_kind}

-- the count at a number raised, and no other
abbrev pub raised_at : ℕ → List ℕ → List ℕ
raised_at i [] = []
raised_at zero (n ∷ ns) = raised n ∷ ns
raised_at (suc i) (n ∷ ns) = n ∷ raised_at i ns

-- of the maps and the functions of right sides the one that the name stands for was called once more, and no other
pub record IsCalledOnce (f : FnRef) (old_maps old_sides new_maps new_sides : List ℕ) : Type 0 where
  pub maps : new_maps ≡ by_kind f.id.kind (raised_at f.id.number old_maps) old_maps
  pub sides : new_sides ≡ by_kind f.id.kind old_sides (raised_at f.id.number old_sides)
