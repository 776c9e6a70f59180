use Rattle.std.proofs.Common.{◌≡◌, ◌∙◌, true, refl, ap, sym, subst, arith}
use Rattle.std.specs.Prelude.{Some, option_and_then, is_some}
use Rattle.point_map.specs.Rows.{at, Changes}
use Rattle.point_map.specs.Buckets.{Kept}
use Rattle.height_order.specs.Levels.{level, or_zero}
use Rattle.point_rows.specs.Cells.{height_in, heights_of, place_of}
use Rattle.point_rows.specs.Heap.{seen}
use Rattle.point_rows.proofs.Cells.{height_at}
use Rattle.point_rows.proofs.Heaped.{none_when, false_when_none, true_and_false, in_is, heap_same, put_heap, put_changes, seen_count}
use Rattle.point_rows.proofs.Rewriting.{written, place_written, places_same}
use Rattle.point_rows.proofs.heap.put_in.Goals as goal

pub returns-then-is_some : goal.returns-then-is_some
returns-then-is_some c =
    let old = c.args.rows.now in let was = c.unwrap-row.result.now in
    let there = rw c.unwrap-row.ensures at c.get_mut.ensures.value in
    let w = written old _ c.args.p was was c.requires.once there (rw c.unwrap-row.ensures at (c.get_mut.follows.holds was)) in
    let here : place_of old c.args.p ≡ was.place = ap (option_and_then (λ r. r.place)) (sym there) in
    let inside : is_some (at (seen c.args.heap.now.buckets) c.args.p) ≡ true
    = in_is (place_of old) (place_of old) c.args.heap.now.buckets c.args.heap.now.buckets c.args.heap.now.least c.requires.heap c.args.p
    ∙ ap is_some here ∙ sym c.is_some.ensures ∙ c.if-is_some.true in
    record {
      heap = heap_same (place_of old) _ c.args.heap.now.buckets c.args.heap.now.buckets c.args.heap.now.least c.requires.heap
          (places_same old _ c.args.p was was w refl);
      rest = (place_written old _ c.args.p was was w refl refl refl refl).keeps;
      once = w.once_new;
      was_in = λ _. refl;
      changes = λ out. absurd (true_and_false inside (false_when_none _ out));
      count = λ out. absurd (true_and_false inside (false_when_none _ out));
      spare = λ out. absurd (true_and_false inside (false_when_none _ out));
    }

pub push-place-requires : goal.push-place-requires
push-place-requires c =
    let old = c.args.rows.now in let was = c.unwrap-row.result.now in
    let there = rw c.unwrap-row.ensures at c.get_mut.ensures.value in
    let here : place_of old c.args.p ≡ was.place = ap (option_and_then (λ r. r.place)) (sym there) in
    let out = in_is (place_of old) (place_of old) c.args.heap.now.buckets c.args.heap.now.buckets c.args.heap.now.least c.requires.heap c.args.p
    ∙ ap is_some here ∙ sym c.is_some.ensures ∙ c.if-is_some.false in
    let spare = c.requires.spare (none_when (at (seen c.args.heap.now.buckets) c.args.p) out) in
    let height : level (heights_of old) c.args.p ≡ was.height
    = ap or_zero (height_at old c.requires.once c.args.p ∙ ap (option_and_then height_in) (sym there)) in
    let wide = c.requires.heap.wide.all (omega (arith, spare)) in
    let low = c.requires.low in
    record { bucket = omega (arith, wide, height, low); spare = spare }

pub returns : goal.returns
returns c =
    let old = c.args.rows.now in let was = c.unwrap-row.result.now in let p = c.args.p in
    let b = c.args.heap.now.buckets in let new = c.push-place.new.self in let least = c.args.heap.now.least in
    let e = c.push-place.ensures in
    let there = rw c.unwrap-row.ensures at c.get_mut.ensures.value in
    let row = record was { place = Some c.push-place.result } in
    let w = written old _ p was row c.requires.once there (rw c.unwrap-row.ensures at (c.get_mut.follows.holds row)) in
    let placed = place_written old _ p was row w refl refl refl refl in
    let here : place_of old p ≡ was.place = ap (option_and_then (λ r. r.place)) (sym there) in
    let no_place = sym c.is_some.ensures ∙ c.if-is_some.false in
    let absent = here ∙ none_when was.place no_place in
    let out = in_is (place_of old) (place_of old) b b least c.requires.heap p ∙ ap is_some here ∙ no_place in
    let at_height = height_at old c.requires.once p ∙ ap (option_and_then height_in) (sym there) in
    let height : level (heights_of old) p ≡ was.height = ap or_zero at_height in
    let kept : Kept (Unit {0}) = record { bucket = was.height; point = p; row = tt } in
    let low = c.requires.low in
    record {
      heap = put_heap (place_of old) _ b new least c.requires.heap p c.push-place.result kept absent e.vacant e.changes refl placed.here placed.others
          c.min-heap.result c.min-heap.ensures (omega (arith, height, low)) e.width (let s = e.spare in let n = e.count in omega (arith, s, n));
      rest = placed.keeps;
      once = w.once_new;
      was_in = λ inside. absurd (true_and_false inside out);
      changes = λ _. subst (λ o. Changes (seen b) (seen new) p o) (sym at_height)
          (put_changes (place_of old) _ b new least c.requires.heap p c.push-place.result kept absent e.vacant e.changes refl placed.here placed.others);
      count = λ _. let n = e.count in let before = seen_count b in let after = seen_count new in omega (arith, n, before, after);
      spare = λ _. e.spare;
    }
