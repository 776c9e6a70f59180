-- Points that are the same or not, and what is there after a change.
use Rattle.std.proofs.Common.{◌≡◌, ◌≢◌, ◌∙◌, ℕ, true, refl, ap, sym, inl, inr, is_some}
use Rattle.std.specs.Prelude.{◌⊎◌, Option, Some, None, IsSome}
use denote.Enum.Bare.{sameb}
use Rattle.inc_value.specs.contracts.node.Part.{the_type}
use Rattle.inc_value.specs.declared.node.Part.{Part}
use Rattle.inc_value.specs.declared.node.Part.TheVariants.{Change, Main}
use Rattle.inc_value.specs.declared.node.Point.{Point}
use Rattle.point_map.specs.Rows.{Rows, at, Holds, Changes, KeepsRows}
use Rattle.height_order.specs.Levels.{level, or_zero, KeepsPoints}

-- a part is the same as itself
pub sameb_self : (part : Part) → sameb the_type part part ≡ true
sameb_self Change = refl
sameb_self Main = refl

-- the changed point has the new height
pub level_there : (old new : Rows ℕ) (p : Point) (h : ℕ) → Changes old new p (Some h) → level new p ≡ h
level_there old new p h c = ap or_zero c.changed

-- other points keep theirs
pub level_other : (old new : Rows ℕ) (p q : Point) (row : Option ℕ) → Changes old new p row → q ≢ p → level new q ≡ level old q
level_other old new p q row c differs = ap or_zero (c.others q differs)

-- rows that stay keep their heights
pub level_kept : (old new : Rows ℕ) (p : Point) → KeepsRows old new → level new p ≡ level old p
level_kept old new p kept = ap or_zero (kept p)

-- a point that was there is there
pub still_there : (old new : Rows ℕ) (p : Point) → KeepsPoints old new → Holds old p → Holds new p
still_there old new p kept there = let e = kept p in let k : is_some (at new p) ≡ true = cc in k

module _ {R : Type 0} where
  pub none_or_there : (o : Option R) → (o ≡ None) ⊎ IsSome o
  none_or_there None = inl refl
  none_or_there (Some x) = inr refl

  -- a point is there, or not
  pub there_cases : (m : Rows R) (p : Point) → (at m p ≡ None) ⊎ Holds m p
  there_cases m p = none_or_there (at m p)

  pub row_of : (o : Option R) → IsSome o → (r : R) × (o ≡ Some r)
  row_of None h = absurd (let e = h in cc)
  row_of (Some r) h = (r, refl)

  -- the row of a point that is there
  pub row_there : (m : Rows R) (p : Point) → Holds m p → (r : R) × (at m p ≡ Some r)
  row_there m p there = row_of (at m p) there

  pub some_there : (o : Option R) (r : R) → o ≡ Some r → IsSome o
  some_there o r e = ap is_some e

  pub not_both : (o : Option R) → o ≡ None → IsSome o → ⊥
  not_both None e h = let f = h in cc
  not_both (Some r) e h = let f = e in cc

  -- what was looked for and not found isn't there
  pub none_found : (m : Rows R) (p : Point) (seen found : Option R) → seen ≡ at m p → found ≡ seen → found ≡ None → at m p ≡ None
  none_found m p seen found is same none = sym is ∙ (sym same ∙ none)
