-- What a contract sees of links: what setting the places round a row changes, and how links lead through a list's rows.
use Rattle.std.specs.Prelude.{◌≡◌, ℕ, suc, zero, ◌==◌, List, [], ◌∷◌, Option, Some, None, option_map, if◌then◌else◌}
use Rattle.index_lists.specs.declared.link.Link.{Link}
use Rattle.index_lists.specs.declared.link.Ends.{Ends}

module _ {R : Type 0} where
  abbrev pub with_after : Option ℕ → Link R → Link R
  with_after after l = record { list = l.list; before = l.before; after = after; row = l.row }

  abbrev pub with_before : Option ℕ → Link R → Link R
  with_before before l = record { list = l.list; before = before; after = l.after; row = l.row }

  -- the link at a place once the one before it leads on to another
  abbrev pub after_set : Option ℕ → Option ℕ → ℕ → Option (Link R) → Option (Link R)
  after_set None after j l = l
  after_set (Some place) after j l = if j == place then option_map (with_after after) l else l

  -- the link at a place once the one after it leads back to another
  abbrev pub before_set : Option ℕ → Option ℕ → ℕ → Option (Link R) → Option (Link R)
  before_set None before j l = l
  before_set (Some place) before j l = if j == place then option_map (with_before before) l else l

-- a list's ends, once it begins at another place where nothing is before that
abbrev pub first_set : Option ℕ → Option ℕ → Ends → Ends
first_set None after ends = record { first = after; last = ends.last }
first_set (Some place) after ends = ends

-- a list's ends, once it ends at another place where nothing is after that
abbrev pub last_set : Option ℕ → Option ℕ → Ends → Ends
last_set None before ends = record { first = ends.first; last = before }
last_set (Some place) before ends = ends

module _ {R : Type 0} where
  -- the rows of this list from one place on lead to another, each link knowing both its neighbours
  abbrev pub Leads : (ℕ → Option (Link R)) → ℕ → Option ℕ → Option ℕ → List (ℕ × R) → Option ℕ → Option ℕ → Type 0
  Leads look list before from [] last to = (from ≡ to) × (before ≡ last)
  Leads look list before from (e ∷ es) last to =
      (from ≡ Some e.0) × (after : Option ℕ)
      × (look e.0 ≡ Some (record { list = list; before = before; after = after; row = e.1 }))
      × Leads look list (Some e.0) after es last to

  -- the rows from a place on, so many at most
  abbrev pub rows_from : (ℕ → Option (Link R)) → ℕ → Option ℕ → List (ℕ × R)
  rows_from look zero from = []
  rows_from look (suc n) None = []
  rows_from look (suc n) (Some k) = elim (look k) [ None ↦ [] | Some l ↦ (k, l.row) ∷ rows_from look n l.after ]
