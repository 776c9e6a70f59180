-- One thing that rows have changes, and the rest stays.
use Rattle.std.proofs.Common.{◌≡◌, ℕ, ◌+◌, Bool, true, false, arith, refl, sym, ap, ◌∙◌}
use Rattle.std.specs.Prelude.{None, is_some}
use Rattle.inc_value.specs.declared.node.Point.{Point}
use Rattle.point_map.specs.Rows.{Rows, at, Holds, Changes, count}
use Rattle.link_table.specs.Links.{OneLinkMore}
use Rattle.point_rows.specs.Standing.{Standing}
use Rattle.necessary_graph.specs.Part.{part_of}
use Rattle.necessary_graph.specs.Room.{HasRoom}
use Rattle.necessary_graph.proofs.Room.{room_taken, none_out}
use Rattle.necessary_graph.proofs.Sweeping.{IsOff}

-- nothing but links changed
abbrev pub LinksAlone : Standing → Standing → Type 0
LinksAlone old new = new ≡ record old { links = new.links; read = new.read }

-- nothing but the heap changed
abbrev pub HeapAlone : Standing → Standing → Type 0
HeapAlone old new = new ≡ record old { heap = new.heap }

-- one heap after another
pub heap_then : (s t u : Standing) → HeapAlone s t → HeapAlone t u → HeapAlone s u
heap_then s t u f g = g ∙ ap (λ (w : Standing). record w { heap = u.heap }) f

-- a link that came off, and nothing else
pub link_off : (old new : Standing) (p q : Point) → LinksAlone old new → OneLinkMore new.links old.links p q → IsOff (part_of old) (part_of new) p q
link_off old new p q rest removed = record {
  roots = λ a. rw rest refl;
  link = removed;
  heights = ap (λ (w : Standing). w.heights) rest;
  heap = ap (λ (w : Standing). w.heap) rest;
}

-- a point that may be in the heap leaves it
pub room_out : (heights old new : Rows ℕ) (points : ℕ) (p : Point) → HasRoom heights old points → Changes old new p None
    → count new + new.spare ≡ count old + old.spare → (Holds old p → count new + 1 ≡ count old) → (at old p ≡ None → new ≡ old)
    → HasRoom heights new points
room_out heights old new points p room c sum fewer same = go (is_some (at old p)) refl
  where
    go : (b : Bool) → b ≡ is_some (at old p) → HasRoom heights new points
    go true e = let f = fewer (sym e) in room_taken heights old new points p room (sym e) c f (omega (arith, sum, f))
    go false e = rw (same (none_out old p e)) room

-- a heap that was made larger, and then a point that was added
pub added_rest : (s t u : Standing) → HeapAlone s t → u ≡ record t { heights = u.heights } → u ≡ record s { heights = u.heights; heap = t.heap }
added_rest s t u f g = g ∙ ap (λ (w : Standing). record w { heights = u.heights }) f
