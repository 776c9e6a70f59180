use Rattle.std.proofs.Common.{◌≡◌, ℕ, List, [], ◌∷◌, Some, inl, refl, sym, ◌∙◌, slice_get}
use Rattle.std.specs.Option.{option_map}
use Rattle.index_lists.specs.Lists.{Lists, Has, IsThere, list_at}
use Rattle.base_tests.proofs.rows_of_lists.take_first.Goals as goal

-- a row stands at the place of a list's first
first_has : (xs : List (ℕ × ℕ)) (place : ℕ) → option_map (λ (e : ℕ × ℕ). e.0) (slice_get xs 0) ≡ Some place → (row : ℕ) × Has xs place row
first_has [] place e = absurd (cc)
first_has (x ∷ xs) place e = (x.1, inl (cc, refl))

first_there : (v : Lists ℕ) (list place : ℕ) → option_map (λ (e : ℕ × ℕ). e.0) (slice_get (list_at v list) 0) ≡ Some place → IsThere v place
first_there v list place e = let h = first_has (list_at v list) place e in record { list = list; row = h.0; has = h.1 }

pub row-read-requires : goal.row-read-requires
row-read-requires c = first_there c.args.lists.now c.args.list c.in-Some.place (sym c.first.ensures ∙ c.in-Some.is)

pub remove-taken-requires : goal.remove-taken-requires
remove-taken-requires c = first_there c.args.lists.now c.args.list c.in-Some.place (sym c.first.ensures ∙ c.in-Some.is)
