use Rattle.std.proofs.Common.{◌≡◌, ◌≤◌, ◌∙◌, ◌+◌, Some, None, refl, ap, sym, subst, option_map, arith}
use Rattle.std.specs.Prelude.{option_and_then}
use Rattle.point_map.specs.Rows.{at, Changes, StandsOnce}
use Rattle.point_map.specs.Buckets.{Kept, kept_at, kept_count}
use Rattle.recompute_heap.proofs.Agreeing.{view_at, every_height, none_there, none_counted}
use Rattle.point_rows.specs.Cells.{place_of}
use Rattle.point_rows.specs.Heap.{IsHeap, seen}
use Rattle.point_rows.specs.Written.{KeepsViews}
use Rattle.point_rows.proofs.Heaped.{heap_above, out_heap, out_changes, seen_count}
use Rattle.point_rows.proofs.Turned.{place_holds, views_refl}
use Rattle.point_rows.proofs.heap.take_least.Goals as goal

pub returns-then-len-eq0-clause-none : goal.returns-then-len-eq0-clause-none
returns-then-len-eq0-clause-none c p = none_counted c.args.heap.now.buckets.kept p (sym c.len.ensures ∙ c.if-len-eq0.true)

pub loop-heap-init : goal.loop-heap-init
loop-heap-init c = (refl, refl, c.requires.heap)

pub pop-requires : goal.pop-requires
pop-requires c =
    let count = ap kept_count c.loop-heap.invariant.1 in let len = c.len.ensures in let some = c.if-len-eq0.false in
    let wide = c.loop-heap.invariant.2.wide.all (omega (arith, count, len, some)) in
    let low = c.loop-heap-test.true in omega (arith, wide, low)

pub set_place-requires : goal.set_place-requires
set_place-requires c =
    let kept : Kept (Unit {0}) = record { bucket = c.loop-heap.heap.least; point = c.in-Some.p; row = tt } in
    let there = c.loop-heap.invariant.2.agree.placed c.in-Some._place kept c.in-Some.ensures.was in
    record {
      there = place_holds c.loop-heap.rows c.in-Some.p c.in-Some._place there;
      once = subst (λ m. StandsOnce m.places) (sym c.loop-heap.invariant.0) c.requires.once;
    }

pub returns-in-Some : goal.returns-in-Some
returns-in-Some c =
    let rows = c.loop-heap.rows in let b = c.loop-heap.heap.buckets in let least = c.loop-heap.heap.least in
    let p = c.in-Some.p in let i = c.in-Some._place in let new = c.pop.new.self in
    let h = c.loop-heap.invariant.2 in let bs = c.loop-heap.invariant.1 in let e = c.in-Some.ensures in
    let kept : Kept (Unit {0}) = record { bucket = least; point = p; row = tt } in
    let there = h.agree.placed i kept e.was in
    let spare = e.spare in let count = e.count in let counts = ap kept_count bs in let spares = ap (λ x. x.spare) bs in
    record {
      heap = out_heap (place_of rows) (place_of c.set_place.new.rows) b new least h p i there c.set_place.ensures.here c.set_place.ensures.others
          e.changes.changed e.changes.others e.width (omega (arith, spare, count));
      rest = subst (λ m. KeepsViews m c.set_place.new.rows) c.loop-heap.invariant.0 c.set_place.ensures.keeps;
      once = c.set_place.ensures.once;
      was = subst (λ x. at (seen x) p ≡ Some least) bs (view_at b.kept (place_of rows) h.agree p
          ∙ ap (option_and_then (λ j. option_map (λ k. k.bucket) (kept_at b j))) there ∙ ap (option_map (λ k. k.bucket)) e.was);
      least = λ q other is. every_height (λ n. least ≤ n) b q other h.below (ap (λ x. at (seen x) q) bs ∙ is);
      low = c.loop-heap-test.true;
      changes = subst (λ x. Changes (seen x) (seen new) p None) bs (
          out_changes (place_of rows) (place_of c.set_place.new.rows) b new least h p i there c.set_place.ensures.here c.set_place.ensures.others
          e.changes.changed e.changes.others);
      count = let before = seen_count c.args.heap.now.buckets in let after = seen_count new in omega (arith, count, counts, before, after);
      spare = omega (arith, spare, spares);
      none = tt;
      unchanged = tt;
    }

pub loop-heap-smaller : goal.loop-heap-smaller
loop-heap-smaller c = let low = c.loop-heap-test.true in omega (arith, low)

pub loop-heap-preserved : goal.loop-heap-preserved
loop-heap-preserved c =
    let now = c.loop-heap.invariant in let e = c.in_default.ensures in (
      now.0,
      e.unchanged ∙ now.1,
      subst (λ b. IsHeap (place_of c.loop-heap.rows) b (c.loop-heap.heap.least + 1)) (sym e.unchanged) (
          heap_above (place_of c.loop-heap.rows) c.loop-heap.heap.buckets c.loop-heap.heap.least now.2 e.none c.loop-heap-test.true),
    )

pub returns : goal.returns
returns c =
    let now = c.loop-heap.invariant in record {
      heap = now.2;
      rest = subst (λ m. KeepsViews m c.loop-heap.rows) now.0 (views_refl c.loop-heap.rows);
      once = subst (λ m. StandsOnce m.places) (sym now.0) c.requires.once;
      was = tt;
      least = tt;
      low = tt;
      changes = tt;
      count = tt;
      spare = tt;
      none = λ p. subst (λ b. at (seen b) p ≡ None) now.1 (
          none_there c.loop-heap.heap.buckets c.loop-heap.heap.least p now.2.below now.2.above (let out = c.loop-heap-test.false in omega (arith, out)));
      unchanged = now.1;
    }
