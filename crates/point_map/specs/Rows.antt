-- What a contract sees of a map by points.
use Rattle.std.specs.Prelude.{◌≡◌, ◌≢◌, ℕ, ◌<◌, Bool, true, false, ◌&&◌, ◌==◌, List, [], ◌∷◌, Option, Some, None, is_some, IsSome, count_by, slice_index_or, option_map, if◌then◌else◌}
use Rattle.inc_value.specs.declared.node.Point.{Point}
use Rattle.inc_value.specs.declared.node.Part.{Part}
use Rattle.inc_value.specs.declared.node.Part.TheVariants.{Change, Main}

-- the same part of a node
abbrev pub same_part : Part → Part → Bool
same_part Change Change = true
same_part Main Main = true
same_part p q = false

-- the same point: slot, generation and part
abbrev pub same_point : Point → Point → Bool
same_point p q = (p.node.slot == q.node.slot) && (p.node.gen_ == q.node.gen_) && same_part p.part q.part

-- what stands at a place: a point and its row, or nothing
abbrev pub Place : Type 0 → Type 0
Place R = Option (Point × R)

-- the places of a map, and how many points can still be inserted without memory
pub record Rows (R : Type 0) : Type 0 where
  pub places : List (Place R)
  pub spare : ℕ

module _ {R : Type 0} where
  -- the row of a point among some places
  abbrev pub row_in : List (Place R) → Point → Option R
  row_in [] p = None
  row_in (None ∷ rest) p = row_in rest p
  row_in (Some e ∷ rest) p = if same_point e.0 p then Some e.1 else row_in rest p

  -- the row of a point
  abbrev pub at : Rows R → Point → Option R
  at m p = row_in m.places p

  -- the point is there
  abbrev pub Holds : Rows R → Point → Type 0
  Holds m p = IsSome (at m p)

  -- how many points are there
  abbrev pub count : Rows R → ℕ
  count m = count_by is_some m.places

  -- what stands at a place
  abbrev pub standing : Rows R → ℕ → Place R
  standing m i = slice_index_or m.places i None

  -- the new map has this at the point, and every other point keeps what it had
  pub record Changes (old new : Rows R) (p : Point) (row : Option R) : Type 0 where
    pub changed : at new p ≡ row
    pub others : (q : Point) → q ≢ p → at new q ≡ at old q

  -- every point keeps what it had
  abbrev pub KeepsRows : Rows R → Rows R → Type 0
  KeepsRows old new = (p : Point) → at new p ≡ at old p

  -- no point stands at two places
  abbrev pub StandsOnce : List (Place R) → Type 0
  StandsOnce places = (i j : ℕ) (p : Point) (a b : R) → slice_index_or places i None ≡ Some (p, a)
      → slice_index_or places j None ≡ Some (p, b) → i ≡ j

  -- every place has the point that it had, or none as before
  abbrev pub SamePoints : Rows R → Rows R → Type 0
  SamePoints old new = (i : ℕ) → option_map (λ e. e.0) (standing new i) ≡ option_map (λ e. e.0) (standing old i)

  -- the point is there, and it stands at a place below the bound
  pub record StandsBelow (m : Rows R) (p : Point) (bound : ℕ) : Type 0 where
    pub place : ℕ
    pub row : R
    pub below : place < bound
    pub there : standing m place ≡ Some (p, row)

  -- the places below the bound have each point that is there, at one place alone
  pub record IsWalk (m : Rows R) (bound : ℕ) : Type 0 where
    pub every : (p : Point) → Holds m p → StandsBelow m p bound
    pub once : StandsOnce m.places
    pub there : (i : ℕ) (p : Point) (row : R) → standing m i ≡ Some (p, row) → at m p ≡ Some row
