-- What a contract sees of lists by index.
use Rattle.std.specs.Prelude.{◌≡◌, ℕ, ◌==◌, not, List, [], ◌∷◌, length, map, filter, sum_by, Option, None, slice_index_or, slice_set, ◌⊎◌}
use Rattle.index_lists.specs.declared.link.Link.{Link}
use Rattle.index_lists.specs.declared.link.Ends.{Ends}
use Rattle.index_lists.specs.Links.{Leads, rows_from}

-- the rows of each list in order, each with its place, how many more rows have room, and the place of the next row
pub record Lists (R : Type 0) : Type 0 where
  pub lists : List (List (ℕ × R))
  pub spare : ℕ
  pub next : ℕ

-- the number is in the list
abbrev pub Among : List ℕ → ℕ → Type 0
Among [] k = ⊥
Among (x ∷ xs) k = (x ≡ k) ⊎ Among xs k

-- no number is twice in the list
abbrev pub NoRepeats : List ℕ → Type 0
NoRepeats [] = Unit {0}
NoRepeats (x ∷ xs) = (Among xs x → ⊥) × NoRepeats xs

-- the ends of an empty list
abbrev pub no_ends : Ends
no_ends = record { first = None; last = None }

abbrev pub ends_at : List Ends → ℕ → Ends
ends_at ends list = slice_index_or ends list no_ends

module _ {R : Type 0} where
  -- the rows of a list with their places
  abbrev pub list_at : Lists R → ℕ → List (ℕ × R)
  list_at v list = slice_index_or v.lists list []

  -- how many rows there are
  abbrev pub count : Lists R → ℕ
  count v = sum_by length v.lists

  -- the places of a list's rows
  abbrev pub places : List (ℕ × R) → List ℕ
  places es = map (λ e. e.0) es

  -- the row stands at the place, in this list
  abbrev pub Has : List (ℕ × R) → ℕ → R → Type 0
  Has [] place row = ⊥
  Has (e ∷ es) place row = ((e.0 ≡ place) × (e.1 ≡ row)) ⊎ Has es place row

  -- a row stands at the place, in some list
  pub record IsThere (v : Lists R) (place : ℕ) : Type 0 where
    pub list : ℕ
    pub row : R
    pub has : Has (list_at v list) place row

  -- the row stood first in its list, with its place, and the list keeps those behind it
  pub record IsPopped (old new : Lists R) (list place : ℕ) (row : R) : Type 0 where
    pub rest : List (ℕ × R)
    pub was : list_at old list ≡ (place, row) ∷ rest
    pub lists : new.lists ≡ slice_set old.lists list rest

  -- the list without the row at a place
  abbrev pub without : ℕ → List (ℕ × R) → List (ℕ × R)
  without place es = filter (λ e. not (e.0 == place)) es

  -- the link at each place
  abbrev pub links_at : List (Option (Link R)) → ℕ → Option (Link R)
  links_at slots place = slice_index_or slots place None

  -- the links of each list lead through its rows, and no row is in two places
  pub record IsLinked (ends : List Ends) (look : ℕ → Option (Link R)) : Type 0 where
    pub rows : ℕ → List (ℕ × R)
    pub leads : (list : ℕ) → Leads look list None (ends_at ends list).first (rows list) (ends_at ends list).last None
    pub once : (list : ℕ) → NoRepeats (places (rows list))

  -- the rows of each list, as its links lead through them
  abbrev pub rows_of : List Ends → List (Option (Link R)) → List (List (ℕ × R))
  rows_of ends slots = map (λ e. rows_from (links_at slots) (length slots) e.first) ends
