-- A sweep under way at a point, and its end.
use Rattle.std.proofs.Common.{◌≡◌, ◌≢◌, ◌⊎◌, inl, inr, ℕ, ◌-◌, ◌<◌, ◌≤◌, Bool, arith, sym, refl, ap, ◌∙◌}
use Rattle.std.specs.Prelude.{None, is_some}
use Rattle.std.proofs.lemmas.Bool.{cases_lt}
use Rattle.std.proofs.lemmas.Option.{none-some}
use Rattle.inc_value.specs.declared.node.Point.{Point}
use Rattle.inc_value.specs.Choice.{Reaches, here, step}
use Rattle.point_map.specs.Rows.{Rows, at, Holds, Changes}
use Rattle.point_map.proofs.Places.{point_cases}
use Rattle.link_table.specs.Links.{Links, times, Reads, IsRead}
use Rattle.necessity.specs.Need.{root_times}
use Rattle.height_order.specs.Levels.{level, Rises, Ends}
use Rattle.necessary_graph.specs.Part.{NecessaryPart, Needed}
use Rattle.necessary_graph.specs.Room.{HasRoom}
use Rattle.necessary_graph.specs.Sweep.{IsSwept, IsHeld, IsBare, IsGone, IsLeft}
use Rattle.necessary_graph.proofs.Reaching.{thinned_down, root_needed}
use Rattle.necessary_graph.proofs.Room.{room_dropped}
use Rattle.necessary_graph.proofs.Sweeping.{IsOff, off_fewer, off_read, again_swept, swept_then, more_swept, out_still}

-- what is led to isn't higher
pub walk_falls : (R : Point → Point → Type 0) (height : Point → ℕ) → Rises R height → {a b : Point} → Reaches R a b → height b ≤ height a
walk_falls R height rises here = omega arith
walk_falls R height rises (step {a} {b} r rest) = omega (arith, rises a b r, walk_falls R height rises rest)

-- a point is swept: its links come off one by one, and what only it read is swept in turn
pub record IsUnderWay (leaf : Point → Bool) (p : Point) (s0 s : NecessaryPart) : Type 0 where
  pub swept : IsSwept leaf p s0 s
  pub ends : Ends s.heights s.links
  pub there : at s.heights p ≡ at s0.heights p
  pub out : at s.heap p ≡ None

module _ (leaf : Point → Bool) (p : Point) (s0 : NecessaryPart) (unneeded : Needed s0 p → ⊥) where
  -- the point was taken from the heap
  pub under_way_first : (heap : Rows ℕ) → Changes s0.heap heap p None → Ends s0.heights s0.links → IsUnderWay leaf p s0 (record s0 { heap = heap })
  under_way_first heap c ends = record {
    swept = record {
      thinned = record { roots = λ a. refl; fewer = λ a b. omega arith; kept = λ a b n. refl };
      heights = λ a. inl refl;
      followed = λ a b less. absurd (omega (arith, less));
      heap_kept = λ a n. elim (point_cases a p) [ inl same ↦ absurd (unneeded (rw same at n)) | inr other ↦ c.others a other ];
      heap_fewer = λ a h e. elim (point_cases a p) [
        | inl same ↦ absurd (none-some h (sym (ap (at heap) same ∙ c.changed) ∙ e))
        | inr other ↦ sym (c.others a other) ∙ e
      ];
    };
    ends = ends;
    there = refl;
    out = c.changed;
  }

  module _ (s : NecessaryPart) (w : IsUnderWay leaf p s0 s) where
    -- what is there has the height that it had
    height_kept : (a : Point) → Holds s.heights a → at s.heights a ≡ at s0.heights a
    height_kept a held = elim (w.swept.heights a) [ inl same ↦ same | inr shed ↦ absurd (let e = sym (ap is_some shed.gone) ∙ held in cc) ]

    -- heights rise along the links that are left
    pub rises_now : Rises (Reads s0.links) (level s0.heights) → Rises (Reads s.links) (level s.heights)
    rises_now rises a b r =
        let e = w.ends a b r in
        rw (height_kept a e.0, height_kept b e.1) (rises a b (omega (arith, w.swept.thinned.fewer a b, r)))

    module _ (t : NecessaryPart) (q : Point) (off : IsOff s t p q) where
      pub off_ends : Ends t.heights t.links
      off_ends a b r = rw off.heights (w.ends a b (omega (arith, off_fewer s t p q off a b, r)))

      pub off_rises : Rises (Reads s0.links) (level s0.heights) → Rises (Reads t.links) (level t.heights)
      off_rises rises a b r = rw off.heights (rises_now rises a b (omega (arith, off_fewer s t p q off a b, r)))

      -- the kid is there, and lower
      pub kid_there : Holds t.heights q
      kid_there = rw off.heights ((w.ends p q (off_read s t p q off)).1)

      pub kid_lower : Rises (Reads s0.links) (level s0.heights) → level t.heights q < level s0.heights p
      kid_lower rises = rw (off.heights, ← w.there) (rises_now rises p q (off_read s t p q off))

      -- a link came off, and its kid is held
      pub under_way_off : IsHeld t.links t.roots q → IsUnderWay leaf p s0 t
      under_way_off held = record {
        swept = more_swept leaf s0 s t t p q unneeded w.swept off (again_swept leaf q t t (λ a. refl) (λ a b. refl) refl refl) (inl held);
        ends = off_ends;
        there = ap (λ m. at m p) off.heights ∙ w.there;
        out = ap (λ m. at m p) off.heap ∙ w.out;
      }

      -- or is swept
      pub under_way_then : (u : NecessaryPart) → Rises (Reads s0.links) (level s0.heights) → IsSwept leaf q t u → IsBare leaf u q → Ends u.heights u.links
          → IsUnderWay leaf p s0 u
      under_way_then u rises swept bare ends = record {
        swept = more_swept leaf s0 s t u p q unneeded w.swept off swept (inr bare);
        ends = ends;
        there = elim (swept.heights p) [
          | inl same ↦ same ∙ (ap (λ m. at m p) off.heights ∙ w.there)
          | inr shed ↦
              let falls = walk_falls (Reads t.links) (level t.heights) (off_rises rises) shed.leads in
              let same : level t.heights p ≡ level s.heights p = rw off.heights refl in
              absurd (omega (arith, falls, kid_lower rises, same, level_there))
        ];
        out = out_still leaf q t u p swept (ap (λ m. at m p) off.heap ∙ w.out);
      }
        where
          level_there : level s.heights p ≡ level s0.heights p
          level_there = rw w.there refl

    unneeded_now : Needed s p → ⊥
    unneeded_now n = unneeded (thinned_down s0 s w.swept.thinned p n)

    -- it is no root either
    pub end_unrooted : 0 < root_times s.roots p → ⊥
    end_unrooted root = unneeded_now (root_needed s p root)

    -- no link is left, and a leaf that nobody reads is dropped
    module _ (heights : Rows ℕ) (points left : ℕ) (none : (q : Point) → times s.links p q ≡ 0) where
      shed_alone : IsGone leaf s.links p s.heights heights points left → IsSwept leaf p s (record s { heights = heights })
      shed_alone g = record {
        thinned = record { roots = λ a. refl; fewer = λ a b. omega arith; kept = λ a b n. refl };
        heights = λ a. elim (point_cases a p) [
          | inl same ↦ inr (rw same (record { is_leaf = g.is_leaf; unneeded = unneeded_now; leads = here; gone = g.dropped.changed }))
          | inr other ↦ inl (g.dropped.others a other)
        ];
        followed = λ a b less. absurd (omega (arith, less));
        heap_kept = λ a n. refl;
        heap_fewer = λ a h e. e;
      }

      pub end_swept : IsGone leaf s.links p s.heights heights points left ⊎ IsLeft leaf s.links p s.heights heights points left
          → IsSwept leaf p s0 (record s { heights = heights })
      end_swept (inl g) = swept_then leaf p s0 s (record s { heights = heights }) p here w.swept (shed_alone g)
      end_swept (inr l) = swept_then leaf p s0 s (record s { heights = heights }) p here w.swept
          (again_swept leaf p s (record s { heights = heights }) (λ a. refl) (λ a b. refl) l.heights refl)

      pub end_bare : IsGone leaf s.links p s.heights heights points left ⊎ IsLeft leaf s.links p s.heights heights points left
          → IsBare leaf (record s { heights = heights }) p
      end_bare (inl g) = record { reads_none = none; out = w.out; left = λ is. inr g.dropped.changed }
      end_bare (inr l) = record {
        reads_none = none;
        out = w.out;
        left = λ is. elim l.why [ inl is_not ↦ absurd (let e = sym is ∙ is_not in cc) | inr read ↦ inl read ];
      }

      pub end_ends : IsGone leaf s.links p s.heights heights points left ⊎ IsLeft leaf s.links p s.heights heights points left → Ends heights s.links
      end_ends (inl g) a b r =
          let e = w.ends a b r in
          let reader_other : a ≢ p = λ same. let at_p : 0 < times s.links p b = rw same at r in omega (arith, none b, at_p) in
          let kid_other : b ≢ p = λ same. let at_p : 0 < times s.links a p = rw same at r in omega (arith, g.unread a, at_p) in
          (ap is_some (g.dropped.others a reader_other) ∙ e.0, ap is_some (g.dropped.others b kid_other) ∙ e.1)
      end_ends (inr l) a b r = rw l.heights (w.ends a b r)

      pub end_room : Holds s.heights p → HasRoom s.heights s.heap points
          → IsGone leaf s.links p s.heights heights points left ⊎ IsLeft leaf s.links p s.heights heights points left → HasRoom heights s.heap left
      end_room there room (inl g) =
          let e : points - 1 ≡ left = omega (arith, g.fewer) in
          rw e at (room_dropped s.heights heights s.heap points p room there w.out g.dropped).1
      end_room there room (inr l) = rw (l.heights, l.same) room

-- what isn't read has no reader
pub no_reader : (links : Links) (p : Point) → (IsRead links p → ⊥) → (r : Point) → times links r p ≡ 0
no_reader links p none r = elim (cases_lt 0 (times links r p)) [ inl some ↦ absurd (none (r, some)) | inr none_left ↦ omega (arith, none_left) ]
