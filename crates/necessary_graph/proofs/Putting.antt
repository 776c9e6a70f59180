-- A point comes into the heap, unless it is in.
use Rattle.std.proofs.Common.{◌≡◌, inl, inr, ℕ, ◌+◌, ◌<◌, true, false, Bool, refl, sym, ap, ◌∙◌, arith}
use Rattle.std.specs.Prelude.{None, is_some}
use Rattle.inc_value.specs.declared.node.Point.{Point}
use Rattle.point_map.specs.Rows.{Rows, at, Holds, Changes, count}
use Rattle.point_map.proofs.Places.{point_cases}
use Rattle.height_order.specs.Levels.{level}
use Rattle.necessary_graph.specs.Readers.{HasHeights}
use Rattle.necessary_graph.specs.Room.{HasRoom}
use Rattle.necessary_graph.proofs.Room.{none_out, none_held, room_put}
use Rattle.necessary_graph.proofs.Standing.{has_level}

-- a point that isn't in the heap finds a spare place
pub has_spare : (heights heap : Rows ℕ) (points : ℕ) (p : Point) → HasRoom heights heap points → Holds heights p → at heap p ≡ None → 0 < heap.spare
has_spare heights heap points p r there out = elim (r.every p there) [
  | inl inn ↦ absurd (none_held heap p out inn)
  | inr k ↦ omega (arith, r.counted, r.room, k.1)
]

module _ (heights old new : Rows ℕ) (p : Point) where
  -- in the heap, or not
  by_in : {Q : Type 0} → (Holds old p → Q) → (at old p ≡ None → Q) → Q
  by_in {Q} inn out = go (is_some (at old p)) refl
    where
      go : (b : Bool) → b ≡ is_some (at old p) → Q
      go true e = inn (sym e)
      go false e = out (none_out old p e)

  pub put_changes : HasHeights heights old → (Holds old p → new ≡ old) → (at old p ≡ None → Changes old new p (at heights p))
      → Changes old new p (at heights p)
  put_changes has same changes = by_in (λ inn. rw (same inn) (record { changed = stood inn; others = λ a other. refl })) changes
    where
      stood : Holds old p → at old p ≡ at heights p
      stood inn = let e = has_level (at old p) inn in e ∙ sym (has p (level old p) e)

  pub put_heights : HasHeights heights old → Changes old new p (at heights p) → HasHeights heights new
  put_heights has c a h e = elim (point_cases a p) [
    | inl same ↦ ap (at heights) same ∙ (sym c.changed ∙ (ap (at new) (sym same) ∙ e))
    | inr other ↦ has a h (sym (c.others a other) ∙ e)
  ]

  pub put_room : (points : ℕ) → HasRoom heights old points → Holds heights p → (Holds old p → new ≡ old)
      → (at old p ≡ None → Changes old new p (at heights p)) → (at old p ≡ None → count new ≡ count old + 1)
      → (at old p ≡ None → new.spare + 1 ≡ old.spare) → HasRoom heights new points
  put_room points room there same changes counted spare = by_in (λ inn. rw (same inn) room) (λ out.
      let c = changes out in
      room_put heights old new points p (level heights p) room there out
      (record { changed = c.changed ∙ has_level (at heights p) there; others = c.others }) (counted out) (spare out))
