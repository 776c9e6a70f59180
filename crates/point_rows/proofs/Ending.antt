-- Ends of one side of a row that is written.
use Rattle.std.proofs.Common.{◌≡◌, ◌∙◌, ℕ, ◌<◌, [], ◌∷◌, ◌++◌, length, refl, ap, sym, arith}
use Rattle.std.specs.Prelude.{Option, Some, None, IfSome, IfNone, IsSome, slice_set, option_and_then}
use Rattle.std.specs.Option.{option_copied_mut}
use Rattle.std.specs.Borrow.{MutBor}
use Rattle.inc_value.specs.declared.node.Point.{Point}
use Rattle.point_map.specs.Rows.{Rows, at, Holds, StandsOnce}
use Rattle.link_table.specs.declared.ends.End.{End}
use Rattle.link_table.specs.Ends.{row_ends, ends_at, OneEndMore, EndIsSet, EndIsTaken, PlaceIsTaken, ItemIsTaken}
use Rattle.link_table.proofs.Written.{last_is_taken, place_is_taken}
use Rattle.point_rows.specs.declared.row.Row.{Row}
use Rattle.point_rows.specs.declared.row.Side.{Side}
use Rattle.point_rows.specs.Written.{KeepsViews}
use Rattle.point_rows.specs.Cells.{side_ends, side_in, side_of}
use Rattle.point_rows.proofs.Cells.{ends_is}
use Rattle.point_rows.proofs.Rewriting.{IsWritten, row_at_side, side_written, place_written}

-- the ends of a point that has a row
pub ends_here : (m : Rows Row) (p : Point) (was : Row) (s : Side) → StandsOnce m.places → Some was ≡ at m p
    → ends_at (side_of s m) p ≡ (side_ends s was).items
ends_here m p was s once value = ends_is m once p s ∙ ap (λ o. row_ends (option_and_then (side_in s) o)) (sym value)

some_ends : (s : Side) (o : Option Row) (i : ℕ) → i < length (row_ends (option_and_then (side_in s) o)) → IsSome o
some_ends s None i h = absurd (omega (arith, h))
some_ends s (Some row) i h = refl

-- a point with ends has a row
pub ends_hold : (m : Rows Row) (p : Point) (s : Side) (i : ℕ) → StandsOnce m.places → i < length (ends_at (side_of s m) p) → Holds m p
ends_hold m p s i once h = some_ends s (at m p) i (rw (ends_is m once p s) at h)

module _ (old new : Rows Row) (p : Point) (was row : Row) (w : IsWritten old new p was row) (s : Side) where
  ends_were : ends_at (side_of s old) p ≡ (side_ends s was).items
  ends_were = ends_here old p was s w.once (sym w.was_at)

  pub end_put : (e : End) → (side_ends s row).items ≡ (side_ends s was).items ++ e ∷ [] → OneEndMore (side_of s old) (side_of s new) p e
  end_put e items = record {
    last = (side_written old new p was row w s).here ∙ items ∙ ap (λ l. l ++ e ∷ []) (sym ends_were);
    others = (side_written old new p was row w s).others;
  }

  pub end_set : (i : ℕ) (e : End) → (side_ends s row).items ≡ slice_set (side_ends s was).items i e
      → EndIsSet (side_of s old) (side_of s new) p i e
  end_set i e items = record {
    changed = (side_written old new p was row w s).here ∙ items ∙ ap (λ l. slice_set l i e) (sym ends_were);
    others = (side_written old new p was row w s).others;
  }

  pub end_taken : (i : ℕ) → ItemIsTaken (side_ends s was).items (side_ends s row).items i → PlaceIsTaken (side_of s old) (side_of s new) p i
  end_taken i taken =
      place_is_taken (side_of s old) (side_of s new) p i (side_ends s was) (side_ends s row).items (row_at_side old new p was row w s)
      (side_written old new p was row w s) taken

  pub end_popped : (o : Option End) → IfSome o (λ e. (side_ends s was).items ≡ (side_ends s row).items ++ e ∷ [])
      → IfSome o (λ e. EndIsTaken (side_of s old) (side_of s new) p (length (ends_at (side_of s new) p)) e)
  end_popped None h = tt
  end_popped (Some e) h =
      last_is_taken (side_of s old) (side_of s new) p e (side_ends s row).items (ends_were ∙ h) (side_written old new p was row w s)

  pub none_popped : (o : Option End) → IfNone o ((side_ends s was).items ≡ []) → IfNone o (ends_at (side_of s old) p ≡ [])
  none_popped None h = ends_were ∙ h
  none_popped (Some e) h = tt

  pub views_kept : (o : Option End) → IfNone o (row ≡ was) → IfNone o (KeepsViews old new)
  views_kept None h =
      (place_written old new p was row w (ap (λ r. r.height) h) (ap (λ r. r.roots) h) (ap (λ r. r.kids) h) (ap (λ r. r.readers) h)).keeps
  views_kept (Some e) h = tt

-- a row to be written, where the point is there
pub some_copied : {T : Type 0} (o : Option (MutBor T)) (m : Rows T) (p : Point) → option_copied_mut o ≡ at m p → Holds m p → IsSome o
some_copied None m p h holds = let e : IsSome (at m p) = holds in let f = rw (← h) at e in f
some_copied (Some r) m p h holds = refl
