-- Points come and go, and so does what is in the heap.
use Rattle.std.proofs.Common.{◌≡◌, ◌≢◌, inl, inr, ℕ, ◌<◌, ◌≤◌, Some, arith, sym, refl, ap, ◌∙◌}
use Rattle.std.proofs.lemmas.Bool.{cases_lt}
use Rattle.std.proofs.lemmas.Option.{none-some}
use Rattle.necessary_graph.proofs.Sweeping.{none_of}
use Rattle.std.specs.Prelude.{Option, None, is_some, IsSome, ◌↔◌}
use Rattle.inc_value.specs.declared.node.Point.{Point}
use Rattle.point_map.specs.Rows.{Rows, at, Holds, Changes, KeepsRows}
use Rattle.point_map.proofs.Places.{point_cases}
use Rattle.link_table.specs.Links.{times, Reads}
use Rattle.necessity.specs.Need.{root_times}
use Rattle.height_order.specs.Levels.{level, or_zero}
use Rattle.necessary_graph.specs.Part.{NecessaryPart, Needed, IsInStep}
use Rattle.necessary_graph.specs.Sweep.{IsHeld}
use Rattle.necessary_graph.proofs.Reaching.{root_needed, read_needed, needed_has, needed_held}

-- each of the heap's points is needed, at its height
abbrev pub HeapStands : NecessaryPart → Rows ℕ → Type 0
HeapStands g heap = (a : Point) (h : ℕ) → at heap a ≡ Some h → (at g.heights a ≡ Some h) × Needed g a

-- what is there has its height
pub has_level : (x : Option ℕ) → IsSome x → x ≡ Some (or_zero x)
has_level None there = absurd (let c = there in cc)
has_level (Some h) there = refl

-- nothing has a height
pub some_same : (h k : ℕ) → ◌≡◌ {A = Option ℕ} (Some h) (Some k) → h ≡ k
some_same h k e = ap or_zero e

module _ (g : NecessaryPart) (inv : IsInStep g) where
  pub heap_in_step : (heap : Rows ℕ) → HeapStands g heap → IsInStep (record g { heap = heap })
  heap_in_step heap stands = record {
    ends = inv.ends;
    rises = inv.rises;
    low = inv.low;
    readers = inv.readers;
    there = inv.there;
    heap = stands;
  }

  pub put_in_step : (heap : Rows ℕ) (p : Point) (height : ℕ) → Needed g p → height ≡ level g.heights p → Changes g.heap heap p (Some height)
      → IsInStep (record g { heap = heap })
  put_in_step heap p height n level_is c = heap_in_step heap (λ a h e. elim (point_cases a p) [
    | inl same ↦
        let is : ◌≡◌ {A = Option ℕ} (Some height) (Some h) = sym c.changed ∙ ap (at heap) (sym same) ∙ e in
        rw (same, has_level (at g.heights p) (inv.there p n), ← some_same height h is, level_is) (refl, n)
    | inr other ↦ inv.heap a h (sym (c.others a other) ∙ e)
  ])

  pub taken_in_step : (heap : Rows ℕ) (p : Point) → Changes g.heap heap p None → IsInStep (record g { heap = heap })
  taken_in_step heap p c = heap_in_step heap (λ a h e. elim (point_cases a p) [
    | inl same ↦ absurd (none-some h (sym (ap (at heap) same ∙ c.changed) ∙ e))
    | inr other ↦ inv.heap a h (sym (c.others a other) ∙ e)
  ])

  pub same_in_step : (heights heap : Rows ℕ) → KeepsRows g.heights heights → KeepsRows g.heap heap → IsInStep (record g { heights = heights; heap = heap })
  same_in_step heights heap same kept = record {
    ends = λ a b r. let e = inv.ends a b r in (ap is_some (same a) ∙ e.0, ap is_some (same b) ∙ e.1);
    rises = λ a b r. rw (same a, same b) (inv.rises a b r);
    low = λ a. rw (same a) (inv.low a);
    readers = inv.readers;
    there = λ a n. ap is_some (same a) ∙ inv.there a n;
    heap = λ a h e. let was = inv.heap a h (sym (kept a) ∙ e) in (same a ∙ was.0, was.1);
  }

  -- a point is added
  module _ (heights heap : Rows ℕ) (p : Point) (height : ℕ) (height_low : height ≤ 128) (absent : at g.heights p ≡ None) (c : Changes g.heights heights p (Some height)) (kept : KeepsRows g.heap heap) where
    old_other : (a : Point) → Holds g.heights a → a ≢ p
    old_other a h same = let e : is_some (at g.heights a) ≡ is_some {T = ℕ} None = ap is_some (ap (at g.heights) same ∙ absent) in cc

    still_there : (a : Point) → Holds g.heights a → Holds heights a
    still_there a h = elim (point_cases a p) [
      | inl same ↦ ap is_some (ap (at heights) same ∙ c.changed)
      | inr other ↦ ap is_some (c.others a other) ∙ h
    ]

    same_row : (a : Point) (h : ℕ) → at g.heights a ≡ Some h → at heights a ≡ Some h
    same_row a h e = elim (point_cases a p) [
      | inl same ↦ absurd (none-some h (sym (ap (at g.heights) same ∙ absent) ∙ e))
      | inr other ↦ c.others a other ∙ e
    ]

    pub added_in_step : IsInStep (record g { heights = heights; heap = heap })
    added_in_step = record {
      ends = λ a b r. let e = inv.ends a b r in (still_there a e.0, still_there b e.1);
      rises = λ a b r. let e = inv.ends a b r in rw (c.others a (old_other a e.0), c.others b (old_other b e.1)) (inv.rises a b r);
      low = λ a. elim (point_cases a p) [
        | inl same ↦ rw (same, c.changed) height_low
        | inr other ↦ rw (c.others a other) (inv.low a)
      ];
      readers = inv.readers;
      there = λ a n. still_there a (inv.there a n);
      heap = λ a h e. let was = inv.heap a h (sym (kept a) ∙ e) in (same_row a h was.0, was.1);
    }

  -- a point without links is dropped
  module _ (heights : Rows ℕ) (p : Point) (c : Changes g.heights heights p None) (no_root : root_times g.roots p ≡ 0)
      (none : (q : Point) → times g.links p q ≡ 0) (unread : (q : Point) → times g.links q p ≡ 0) where
    not_needed : (a : Point) → Needed g a → a ≢ p
    not_needed a n = needed_has g (λ x. x ≢ p) (λ x r same. let at_p : 0 < root_times g.roots p = rw same at r in omega (arith, at_p, no_root))
        (λ x y r d same. let at_p : 0 < times g.links x p = rw same at r in omega (arith, at_p, unread x)) a n

    reader_other : (a b : Point) → Reads g.links a b → a ≢ p
    reader_other a b r same = let at_p : 0 < times g.links p b = rw same at r in omega (arith, at_p, none b)

    kid_other : (a b : Point) → Reads g.links a b → b ≢ p
    kid_other a b r same = let at_p : 0 < times g.links a p = rw same at r in omega (arith, at_p, unread a)

    pub dropped_in_step : IsInStep (record g { heights = heights })
    dropped_in_step = record {
      ends = λ a b r. let e = inv.ends a b r in
          (ap is_some (c.others a (reader_other a b r)) ∙ e.0, ap is_some (c.others b (kid_other a b r)) ∙ e.1);
      rises = λ a b r. rw (c.others a (reader_other a b r), c.others b (kid_other a b r)) (inv.rises a b r);
      low = λ a. elim (point_cases a p) [
        | inl same ↦ rw (same, c.changed) (omega arith)
        | inr other ↦ rw (c.others a other) (inv.low a)
      ];
      readers = inv.readers;
      there = λ a n. ap is_some (c.others a (not_needed a n)) ∙ inv.there a n;
      heap = λ a h e. let was = inv.heap a h e in (c.others a (not_needed a was.1) ∙ was.0, was.1);
    }

  -- what isn't needed is no root, has no links either way and isn't in the heap
  module _ (p : Point) (unneeded : Needed g p → ⊥) where
    pub no_root : root_times g.roots p ≡ 0
    no_root = elim (cases_lt 0 (root_times g.roots p)) [ inl some ↦ absurd (unneeded (root_needed g p some)) | inr none ↦ omega (arith, none) ]

    pub reads_none : (q : Point) → times g.links p q ≡ 0
    reads_none q = elim (cases_lt 0 (times g.links p q)) [ inl r ↦ absurd (unneeded (inv.readers p q r)) | inr none ↦ omega (arith, none) ]

    pub unread : (q : Point) → times g.links q p ≡ 0
    unread q = elim (cases_lt 0 (times g.links q p)) [
      | inl r ↦ absurd (unneeded (read_needed g q p (inv.readers q p r) r))
      | inr none ↦ omega (arith, none)
    ]

    pub out_of_heap : at g.heap p ≡ None
    out_of_heap = none_of (at g.heap p) (λ h e. unneeded ((inv.heap p h e).1))

-- what is held is what is needed
pub held_exactly : (g : NecessaryPart) → IsInStep g → (p : Point) → IsHeld g.links g.roots p ↔ Needed g p
held_exactly g inv p = (
  λ held. elim held [ inl root ↦ root_needed g p root | inr read ↦ read_needed g read.0 p (inv.readers read.0 p read.1) read.1 ],
  λ n. needed_held g p n,
)

-- without points, roots and links all stands
pub new_in_step : (g : NecessaryPart) → ((p : Point) → at g.heights p ≡ None) → ((p : Point) → root_times g.roots p ≡ 0)
    → ((p q : Point) → times g.links p q ≡ 0) → ((p : Point) → at g.heap p ≡ None) → IsInStep g
new_in_step g heights roots links heap = record {
  ends = λ p q r. absurd (omega (arith, links p q, r));
  rises = λ p q r. absurd (omega (arith, links p q, r));
  low = λ p. rw (heights p) (omega arith);
  readers = λ p q r. absurd (omega (arith, links p q, r));
  there = λ p n. absurd (omega (arith, roots n.root, n.is_root));
  heap = λ p h e. absurd (none-some h (sym (heap p) ∙ e));
}
