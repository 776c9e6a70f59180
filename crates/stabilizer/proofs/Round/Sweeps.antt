-- A sweep, and a root or a link off with a sweep behind it, are one sweep.
use Rattle.std.proofs.Common.{◌≡◌, ◌≢◌, inl, inr, ◌-◌, ◌≤◌, Bool, arith, refl, sym, ◌∙◌}
use Rattle.std.proofs.lemmas.Bool.{cases_lt}
use Rattle.inc_value.specs.declared.node.Point.{Point}
use Rattle.point_map.proofs.Places.{point_cases}
use Rattle.link_table.specs.Links.{Links, link, times, Reads}
use Rattle.necessity.specs.Need.{Roots, root_times}
use Rattle.necessary_graph.specs.Part.{NecessaryPart, Needed, IsInStep}
use Rattle.necessary_graph.specs.Sweep.{Sweep, DropsLeaves, IsUnlinked, IsUnrooted}
use Rattle.necessary_graph.proofs.Composing.{drops_compose, drops_none, one_off, swept_alone}
use Rattle.necessary_graph.proofs.Reaching.{needed_has, needed_more, read_needed, root_needed}
use Rattle.necessary_graph.proofs.Sweeping.{link_cases}

-- other links and roots
abbrev pub with_both : NecessaryPart → Links → Roots → NecessaryPart
with_both g links roots = record g { links = links; roots = roots }

-- of the links and roots that are left, some are swept already: those of needed points are all there
pub record IsThinner (old : NecessaryPart) (left : Links) (fewer : Roots) (swept : Links) (after : Roots) : Type 0 where
  pub down : (a b : Point) → times left a b ≤ times old.links a b
  pub down_roots : (a : Point) → root_times fewer a ≤ root_times old.roots a
  pub within : (a b : Point) → times swept a b ≤ times left a b
  pub same : (a b : Point) → Needed old a → times swept a b ≡ times left a b
  pub roots : (a : Point) → root_times after a ≡ root_times fewer a

-- a sweep, links and roots off, and a sweep are links and roots off and one sweep
module _ (old s u : NecessaryPart) (left : Links) (fewer : Roots) (swept : Links) (after : Roots) (f : Sweep old s)
    (thinner : IsThinner old left fewer swept after) (g : Sweep (with_both s swept after) u) where
  thin_needed : (p : Point) → Needed (with_both s swept after) p → Needed (with_both old left fewer) p
  thin_needed p n = needed_more (with_both s swept after) (with_both old left fewer) (λ a r. omega (arith, thinner.roots a, r))
      (λ a b r. omega (arith, thinner.within a b, r)) p n

  both_needed : (p : Point) → Needed (with_both old left fewer) p → Needed old p × Needed (with_both s swept after) p
  both_needed p n =
      needed_has (with_both old left fewer) (λ x. Needed old x × Needed (with_both s swept after) x)
      (λ a r. (root_needed old a (omega (arith, thinner.down_roots a, r)), root_needed (with_both s swept after) a (omega (arith, thinner.roots a, r))))
      (λ a b r m. (
        read_needed old a b m.0 (omega (arith, thinner.down a b, r)),
        read_needed (with_both s swept after) a b m.1 (omega (arith, thinner.same a b m.0, r)),
      )) p n

  pub sweeps_join : Sweep (with_both old left fewer) u
  sweeps_join = record {
    roots = λ p. g.roots p ∙ thinner.roots p;
    reached = λ p. (λ n. thin_needed p ((g.reached p).0 n), λ n. (g.reached p).1 ((both_needed p n).1));
    kept = λ p q n. let m = both_needed p n in g.kept p q m.1 ∙ thinner.same p q m.0;
    gone = λ p q r. thin_needed p (g.gone p q r);
    fewer = λ p q. omega (arith, g.fewer p q, thinner.within p q);
    heap_kept = λ p n. let m = both_needed p n in g.heap_kept p m.1 ∙ f.heap_kept p m.0;
    heap = λ p h e. let now = g.heap p h e in ((f.heap p h now.0).0, thin_needed p now.1);
  }

-- so many links and roots are left of a graph, and then what is no longer reached lost all
pub record IsSweptTo (leaf : Point → Bool) (old now : NecessaryPart) (links : Links) (roots : Roots) : Type 0 where
  pub sweep : Sweep (with_both old links roots) now
  pub drops : DropsLeaves leaf old now
  pub lower : (a : Point) → Needed now a → Needed old a
  pub step : IsInStep now

pub swept_first : (leaf : Point → Bool) (old : NecessaryPart) → IsInStep old → IsSweptTo leaf old old old.links old.roots
swept_first leaf old step = record { sweep = swept_alone old step; drops = drops_none leaf old; lower = λ a n. n; step = step }

-- one link less, where there was one
pub record IsOneLess (old new : Links) (p q : Point) : Type 0 where
  pub less : times new p q ≡ times old p q - 1
  pub others : (a b : Point) → link a b ≢ link p q → times new a b ≡ times old a b

-- one root less
pub record IsRootLess (old new : Roots) (p : Point) : Type 0 where
  pub less : root_times new p ≡ root_times old p - 1
  pub others : (a : Point) → a ≢ p → root_times new a ≡ root_times old a

module _ (leaf : Point → Bool) (old s u : NecessaryPart) (links : Links) (roots : Roots) (so : IsSweptTo leaf old s links roots) (step : IsInStep u) where
  -- ---- a root comes off

  module _ (p : Point) (un : IsUnrooted leaf s u p) where
    root_less : IsRootLess roots un.roots p
    root_less = record {
      less = omega (arith, un.off.raised, so.sweep.roots p);
      others = λ a other. omega (arith, un.off.others a other, so.sweep.roots a);
    }

    fewer_roots : (a : Point) → root_times un.roots a ≤ root_times s.roots a
    fewer_roots a = elim (point_cases a p) [
      | inl same ↦ rw same (omega (arith, un.off.raised))
      | inr other ↦ omega (arith, un.off.others a other)
    ]

    root_thinner : IsThinner (with_both old links roots) links un.roots s.links un.roots
    root_thinner = record {
      down = λ a b. omega arith;
      down_roots = λ a. omega (arith, fewer_roots a, so.sweep.roots a);
      within = so.sweep.fewer;
      same = so.sweep.kept;
      roots = λ a. refl;
    }

    root_lower : (a : Point) → Needed u a → Needed s a
    root_lower a n = needed_more (with_both s s.links un.roots) s (λ x r. omega (arith, fewer_roots x, r)) (λ x y r. r) a ((un.sweep.reached a).0 n)

    pub unrooted_swept : (fewer : Roots) × IsRootLess roots fewer p × IsSweptTo leaf old u links fewer
    unrooted_swept = (
      un.roots,
      root_less,
      record {
        sweep = sweeps_join (with_both old links roots) s u links un.roots s.links un.roots so.sweep root_thinner un.sweep;
        drops = drops_compose leaf old s u so.lower root_lower so.drops un.drops;
        lower = λ a n. so.lower a (root_lower a n);
        step = step;
      },
    )

  -- ---- a link comes off

  module _ (p q : Point) (un : IsUnlinked leaf s u p q) where
    there : Reads links p q
    there = omega (arith, un.off.raised, so.sweep.fewer p q)

    abbrev left : Links
    left = (one_off links p q there).0

    link_less : IsOneLess links left p q
    link_less =
        let one = (one_off links p q there).1 in
        record { less = omega (arith, one.raised); others = λ a b other. sym (one.others a b other) }

    link_thinner : IsThinner (with_both old links roots) left roots un.links s.roots
    link_thinner = record {
      down = λ a b. elim (link_cases a b p q) [
        | inl is ↦ rw (is.0, is.1) (omega (arith, link_less.less))
        | inr other ↦ omega (arith, link_less.others a b other)
      ];
      down_roots = λ a. omega arith;
      within = λ a b. elim (link_cases a b p q) [
        | inl is ↦ rw (is.0, is.1) (omega (arith, link_less.less, un.off.raised, so.sweep.fewer p q))
        | inr other ↦ omega (arith, link_less.others a b other, un.off.others a b other, so.sweep.fewer a b)
      ];
      same = λ a b n. elim (link_cases a b p q) [
        | inl is ↦ rw (is.0, is.1) (let e = so.sweep.kept p q (rw is.0 at n) in omega (arith, link_less.less, un.off.raised, e))
        | inr other ↦ omega (arith, link_less.others a b other, un.off.others a b other, so.sweep.kept a b n)
      ];
      roots = so.sweep.roots;
    }

    link_lower : (a : Point) → Needed u a → Needed s a
    link_lower a n = needed_more (with_both s un.links s.roots) s (λ x r. r)
        (λ x y r. elim (link_cases x y p q) [
          | inl is ↦ rw (is.0, is.1) (omega (arith, un.off.raised))
          | inr other ↦ omega (arith, un.off.others x y other, r)
        ]) a ((un.sweep.reached a).0 n)

    pub unlinked_swept : (left : Links) × IsOneLess links left p q × IsSweptTo leaf old u left roots
    unlinked_swept = (
      left,
      link_less,
      record {
        sweep = sweeps_join (with_both old links roots) s u left roots un.links s.roots so.sweep link_thinner un.sweep;
        drops = drops_compose leaf old s u so.lower link_lower so.drops un.drops;
        lower = λ a n. so.lower a (link_lower a n);
        step = step;
      },
    )

-- a link of a point that isn't needed any more came off with it
module _ (leaf : Point → Bool) (old s : NecessaryPart) (links : Links) (roots : Roots) (so : IsSweptTo leaf old s links roots) (p q : Point)
    (there : Reads links p q) (unneeded : Needed s p → ⊥) where
  none : times s.links p q ≡ 0
  none = elim (cases_lt 0 (times s.links p q)) [
    | inl reads ↦ absurd (unneeded (so.step.readers p q reads))
    | inr nil ↦ omega (arith, nil)
  ]

  abbrev rest : Links
  rest = (one_off links p q there).0

  less : IsOneLess links rest p q
  less =
      let one = (one_off links p q there).1 in
      record { less = omega (arith, one.raised); others = λ a b other. sym (one.others a b other) }

  thinner : IsThinner (with_both old links roots) rest roots s.links s.roots
  thinner = record {
    down = λ a b. elim (link_cases a b p q) [
      | inl is ↦ rw (is.0, is.1) (omega (arith, less.less))
      | inr other ↦ omega (arith, less.others a b other)
    ];
    down_roots = λ a. omega arith;
    within = λ a b. elim (link_cases a b p q) [
      | inl is ↦ rw (is.0, is.1) (omega (arith, none))
      | inr other ↦ omega (arith, less.others a b other, so.sweep.fewer a b)
    ];
    same = λ a b n. elim (link_cases a b p q) [
      | inl is ↦ absurd (unneeded (rw is.0 at ((so.sweep.reached a).1 n)))
      | inr other ↦ omega (arith, less.others a b other, so.sweep.kept a b n)
    ];
    roots = so.sweep.roots;
  }

  pub unread_swept : (left : Links) × IsOneLess links left p q × IsSweptTo leaf old s left roots
  unread_swept = (
    rest,
    less,
    record {
      sweep = sweeps_join (with_both old links roots) s s rest roots s.links s.roots so.sweep thinner (swept_alone s so.step);
      drops = so.drops;
      lower = so.lower;
      step = so.step;
    },
  )
