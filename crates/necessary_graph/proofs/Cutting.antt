-- A link or a root comes off, and a sweep follows.
use Rattle.std.proofs.Common.{◌≡◌, ◌⊎◌, inl, inr, ℕ, zero, suc, ◌+◌, ◌<◌, ◌≤◌, Bool, Some, arith, sym, refl, ap, ◌∙◌}
use Rattle.std.specs.Prelude.{None, is_some}
use Rattle.std.proofs.lemmas.Option.{none-some}
use Rattle.inc_value.specs.declared.node.Point.{Point}
use Rattle.inc_value.specs.Choice.{Reaches, here}
use Rattle.point_map.specs.Rows.{at}
use Rattle.point_map.proofs.Places.{point_cases}
use Rattle.link_table.specs.Links.{times, Reads, IsRead, KeepsLinks, OneLinkMore}
use Rattle.necessity.specs.Need.{root_times, KeepsRoots, OneRootMore}
use Rattle.height_order.specs.Levels.{level}
use Rattle.necessary_graph.specs.Part.{NecessaryPart, Needed, IsInStep}
use Rattle.necessary_graph.specs.Sweep.{Sweep, DropsLeaves, IsSwept, IsBare, IsHeld, IsDealtWith, IsUnlinked, IsUnrooted}
use Rattle.necessary_graph.proofs.Reaching.{leads_more, root_needed, read_needed, needed_held, led_needed, needed_more, thinned_need, thinned_up, thinned_down}
use Rattle.necessary_graph.proofs.Sweeping.{link_cases, again_swept, swept_then, held_stays}

-- less than before, and what was needed by it is dealt with
pub record IsCut (leaf : Point → Bool) (old t u : NecessaryPart) : Type 0 where
  pub heights : t.heights ≡ old.heights
  pub heap : t.heap ≡ old.heap
  pub roots : (a : Point) → root_times t.roots a ≤ root_times old.roots a
  pub links : (a b : Point) → times t.links a b ≤ times old.links a b
  pub root_done : (a : Point) → 0 < root_times old.roots a → (0 < root_times t.roots a) ⊎ IsDealtWith leaf u a
  pub link_done : (a b : Point) → Reads old.links a b → Reads t.links a b ⊎ IsDealtWith leaf u b

module _ (leaf : Point → Bool) (first : Point) (old t u : NecessaryPart) (inv : IsInStep old) (was : Needed old first) (cut : IsCut leaf old t u)
    (w : IsSwept leaf first t u) where
  -- all that was needed is dealt with
  held_done : (a : Point) → IsHeld t.links t.roots a → IsDealtWith leaf u a
  held_done a held = held_stays leaf first t u w a held

  dealt : (a : Point) → Needed old a → IsDealtWith leaf u a
  dealt a n = elim (needed_held old a n) [
    | inl root ↦ elim (cut.root_done a root) [ inl still ↦ held_done a (inl still) | inr done ↦ done ]
    | inr read ↦ elim (cut.link_done read.0 a read.1) [ inl still ↦ held_done a (inr (read.0, still)) | inr done ↦ done ]
  ]

  read_before : (r a : Point) → Reads u.links r a → Reads old.links r a
  read_before r a reads = omega (arith, cut.links r a, w.thinned.fewer r a, reads)

  -- a reader is higher, so from the greatest height down what is held is needed
  covered_from : (k : ℕ) (a : Point) → 128 ≤ level old.heights a + k → Needed old a → Needed u a ⊎ IsBare leaf u a
  covered_from zero a high n = elim (dealt a n) [
    | inr bare ↦ inr bare
    | inl held ↦ elim held [
      | inl root ↦ inl (root_needed u a root)
      | inr read ↦ absurd (omega (arith, high, inv.rises read.0 a (read_before read.0 a read.1), inv.low read.0))
    ]
  ]
  covered_from (suc k) a high n = elim (dealt a n) [
    | inr bare ↦ inr bare
    | inl held ↦ elim held [
      | inl root ↦ inl (root_needed u a root)
      | inr read ↦
          let before = read_before read.0 a read.1 in
          elim (covered_from k read.0 (omega (arith, high, inv.rises read.0 a before)) (inv.readers read.0 a before)) [
            | inl needed ↦ inl (read_needed u read.0 a needed read.1)
            | inr bare ↦ absurd (omega (arith, bare.reads_none a, read.1))
          ]
    ]
  ]

  covered : (a : Point) → Needed old a → Needed t a ⊎ IsBare leaf u a
  covered a n = elim (covered_from 128 a (omega arith) n) [ inl needed ↦ inl (thinned_down t u w.thinned a needed) | inr bare ↦ inr bare ]

  less_needed : (a : Point) → Needed t a → Needed old a
  less_needed a n = needed_more t old (λ x r. omega (arith, cut.roots x, r)) (λ x y r. omega (arith, cut.links x y, r)) a n

  -- a link that is left is a needed point's
  reader_needed : (a b : Point) → Reads u.links a b → Needed t a
  reader_needed a b r =
      let before : Reads old.links a b = omega (arith, cut.links a b, w.thinned.fewer a b, r) in
      elim (covered a (inv.readers a b before)) [ inl n ↦ n | inr bare ↦ absurd (omega (arith, bare.reads_none b, r)) ]

  was_in : (a : Point) (h : ℕ) → at u.heap a ≡ Some h → at old.heap a ≡ Some h
  was_in a h e = ap (λ m. at m a) (sym cut.heap) ∙ w.heap_fewer a h e

  heap_needed : (a : Point) (h : ℕ) → at u.heap a ≡ Some h → Needed t a
  heap_needed a h e = elim (covered a ((inv.heap a h (was_in a h e)).1)) [ inl n ↦ n | inr bare ↦ absurd (none-some h (sym bare.out ∙ e)) ]

  pub cut_sweep : Sweep t u
  cut_sweep = record {
    roots = w.thinned.roots;
    reached = thinned_need t u w.thinned;
    kept = w.thinned.kept;
    gone = reader_needed;
    fewer = w.thinned.fewer;
    heap_kept = w.heap_kept;
    heap = λ a h e. (w.heap_fewer a h e, heap_needed a h e);
  }

  -- what the first led to was needed
  led_by_first : (a : Point) → Reaches (Reads t.links) first a → Needed old a
  led_by_first a leads = led_needed old first a was (leads_more t.links old.links cut.links leads)

  -- a leaf isn't read by what isn't needed, so it is gone
  needed_or_gone : (a : Point) → IsRead u.links a ⊎ (at u.heights a ≡ None) → Needed u a ⊎ (at u.heights a ≡ None)
  needed_or_gone a (inr gone) = inr gone
  needed_or_gone a (inl (r, reads)) = inl (read_needed u r a (thinned_up t u w.thinned r (reader_needed r a reads)) reads)

  pub cut_drops : DropsLeaves leaf old u
  cut_drops = record {
    heights = λ a. elim (w.heights a) [
      | inl same ↦ inl (same ∙ ap (λ m. at m a) cut.heights)
      | inr shed ↦ inr (record {
        is_leaf = shed.is_leaf;
        was = led_by_first a shed.leads;
        unneeded = λ n. shed.unneeded (thinned_down t u w.thinned a n);
        gone = shed.gone;
      })
    ];
    leaves = λ a is n. elim (covered a n) [
      | inl needed ↦ inl (thinned_up t u w.thinned a needed)
      | inr bare ↦ needed_or_gone a (bare.left is)
    ];
  }

  -- a needed point keeps its height
  same_height : (a : Point) → Needed t a → at u.heights a ≡ at old.heights a
  same_height a n = elim (w.heights a) [ inl same ↦ same ∙ ap (λ m. at m a) cut.heights | inr shed ↦ absurd (shed.unneeded n) ]

  -- none is higher
  low_still : (a : Point) → level u.heights a ≤ 128
  low_still a = elim (w.heights a) [
    | inl same ↦ rw (same, cut.heights) (inv.low a)
    | inr shed ↦ rw shed.gone (omega arith)
  ]

  -- both points of a link that is left were needed before, and are
  kid_needed : (a b : Point) → Reads u.links a b → Needed t b
  kid_needed a b r = read_needed t a b (reader_needed a b r) (omega (arith, w.thinned.fewer a b, r))

  pub cut_in_step : IsInStep u
  cut_in_step = record {
    ends = λ a b r.
        let before = inv.ends a b (omega (arith, cut.links a b, w.thinned.fewer a b, r)) in
        (ap is_some (same_height a (reader_needed a b r)) ∙ before.0, ap is_some (same_height b (kid_needed a b r)) ∙ before.1);
    rises = λ a b r.
        rw (same_height a (reader_needed a b r), same_height b (kid_needed a b r))
        (inv.rises a b (omega (arith, cut.links a b, w.thinned.fewer a b, r)));
    low = low_still;
    readers = λ a b r. thinned_up t u w.thinned a (reader_needed a b r);
    there = λ a n.
        let needed = thinned_down t u w.thinned a n in
        ap is_some (same_height a needed) ∙ inv.there a (less_needed a needed);
    heap = λ a h e. (same_height a (heap_needed a h e) ∙ (inv.heap a h (was_in a h e)).0, thinned_up t u w.thinned a (heap_needed a h e));
  }

-- a link comes off, and its kid is held still or swept
pub unlinked : (leaf : Point → Bool) (old t u : NecessaryPart) (p q : Point) → IsInStep old → OneLinkMore t.links old.links p q
    → KeepsRoots old.roots t.roots → t.heights ≡ old.heights → t.heap ≡ old.heap → IsSwept leaf q t u → IsDealtWith leaf u q
    → IsUnlinked leaf old u p q × IsInStep u
unlinked leaf old t u p q inv off roots heights heap w done =
    let s : NecessaryPart = record old { links = t.links } in
    let again = again_swept leaf q s t roots (λ a b. refl) heights heap in
    let all = swept_then leaf q s t u q here again w in
    let read : Reads old.links p q = omega (arith, off.raised) in
    let was : Needed old q = read_needed old p q (inv.readers p q read) read in
    let cut : IsCut leaf old s u = record {
      heights = refl;
      heap = refl;
      roots = λ a. omega arith;
      links = λ a b. elim (link_cases a b p q) [
        | inl same ↦ rw (same.0, same.1) (omega (arith, off.raised))
        | inr other ↦ omega (arith, off.others a b other)
      ];
      root_done = λ a r. inl r;
      link_done = λ a b r. elim (link_cases a b p q) [
        | inl same ↦ inr (rw same.1 done)
        | inr other ↦ inl (omega (arith, off.others a b other, r))
      ];
    } in (
      record { links = t.links; off = off; sweep = cut_sweep leaf q old s u inv was cut all; drops = cut_drops leaf q old s u inv was cut all },
      cut_in_step leaf q old s u inv was cut all,
    )

-- a root comes off, and the point is held still or swept
pub unrooted : (leaf : Point → Bool) (old t u : NecessaryPart) (p : Point) → IsInStep old → OneRootMore t.roots old.roots p
    → KeepsLinks old.links t.links → t.heights ≡ old.heights → t.heap ≡ old.heap → IsSwept leaf p t u → IsDealtWith leaf u p
    → IsUnrooted leaf old u p × IsInStep u
unrooted leaf old t u p inv off links heights heap w done =
    let s : NecessaryPart = record old { roots = t.roots } in
    let again = again_swept leaf p s t (λ a. refl) links heights heap in
    let all = swept_then leaf p s t u p here again w in
    let was : Needed old p = root_needed old p (omega (arith, off.raised)) in
    let cut : IsCut leaf old s u = record {
      heights = refl;
      heap = refl;
      roots = λ a. elim (point_cases a p) [
        | inl same ↦ rw same (omega (arith, off.raised))
        | inr other ↦ omega (arith, off.others a other)
      ];
      links = λ a b. omega arith;
      root_done = λ a r. elim (point_cases a p) [
        | inl same ↦ inr (rw same done)
        | inr other ↦ inl (omega (arith, off.others a other, r))
      ];
      link_done = λ a b r. inl r;
    } in (
      record { roots = t.roots; off = off; sweep = cut_sweep leaf p old s u inv was cut all; drops = cut_drops leaf p old s u inv was cut all },
      cut_in_step leaf p old s u inv was cut all,
    )
