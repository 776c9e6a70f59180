use Rattle.std.proofs.Common.{◌∙◌, sym, arith}
use Rattle.point_map.specs.Buckets.{kept_at}
use Rattle.recompute_heap.proofs.Agreeing.{point_from, point_none, vacated_is}
use Rattle.point_rows.specs.Cells.{place_of}
use Rattle.point_rows.proofs.Heaped.{over_heap, over_changes, out_heap, out_changes}
use Rattle.point_rows.proofs.Turned.{views_then}
use Rattle.point_rows.proofs.heap.take_at.Goals as goal

pub returns-in-Some-clause-heap : goal.returns-in-Some-clause-heap
returns-in-Some-clause-heap c =
    let b = c.args.heap.now.buckets in let new = c.take-taken.new.self in let e = c.take-taken.ensures in
    let k = point_from (kept_at new c.args.place) c.in-Some.moved (sym c.point_at.ensures ∙ c.in-Some.is) in
    over_heap (place_of c.args.rows.now) (place_of c.set_place-in-Some.new.rows) b new c.args.heap.now.least c.requires.heap
    (place_of c.set_place.new.rows) c.args.p c.in-Some.moved c.args.place k.0 c.requires.there c.set_place.ensures.here c.set_place.ensures.others
    e.taken k.1 k.2 c.set_place-in-Some.ensures.here c.set_place-in-Some.ensures.others e.width (let s = e.spare in let n = e.count in omega (arith, s, n))

pub returns-in-Some-clause-rest : goal.returns-in-Some-clause-rest
returns-in-Some-clause-rest c = views_then c.args.rows.now c.set_place.new.rows c.set_place-in-Some.new.rows c.set_place.ensures.keeps c.set_place-in-Some.ensures.keeps

pub returns-in-Some-clause-changes : goal.returns-in-Some-clause-changes
returns-in-Some-clause-changes c =
    let b = c.args.heap.now.buckets in let new = c.take-taken.new.self in let e = c.take-taken.ensures in
    let k = point_from (kept_at new c.args.place) c.in-Some.moved (sym c.point_at.ensures ∙ c.in-Some.is) in
    over_changes (place_of c.args.rows.now) (place_of c.set_place-in-Some.new.rows) b new c.args.heap.now.least c.requires.heap
    (place_of c.set_place.new.rows) c.args.p c.in-Some.moved c.args.place k.0 c.requires.there c.set_place.ensures.here c.set_place.ensures.others
    e.taken k.1 k.2 c.set_place-in-Some.ensures.here c.set_place-in-Some.ensures.others

pub returns-in_default-clause-heap : goal.returns-in_default-clause-heap
returns-in_default-clause-heap c =
    let b = c.args.heap.now.buckets in let new = c.take-taken.new.self in let e = c.take-taken.ensures in
    let gone = point_none (kept_at new c.args.place) (sym c.point_at.ensures ∙ c.in_default.is) in
    let same = vacated_is b new c.args.place e.taken gone in
    out_heap (place_of c.args.rows.now) (place_of c.set_place.new.rows) b new c.args.heap.now.least c.requires.heap c.args.p c.args.place c.requires.there
    c.set_place.ensures.here c.set_place.ensures.others gone (λ i differs. e.taken.others i differs (λ v. differs (v ∙ same)))
    e.width (let s = e.spare in let n = e.count in omega (arith, s, n))

pub returns-in_default-clause-changes : goal.returns-in_default-clause-changes
returns-in_default-clause-changes c =
    let b = c.args.heap.now.buckets in let new = c.take-taken.new.self in let e = c.take-taken.ensures in
    let gone = point_none (kept_at new c.args.place) (sym c.point_at.ensures ∙ c.in_default.is) in
    let same = vacated_is b new c.args.place e.taken gone in
    out_changes (place_of c.args.rows.now) (place_of c.set_place.new.rows) b new c.args.heap.now.least c.requires.heap c.args.p c.args.place c.requires.there
    c.set_place.ensures.here c.set_place.ensures.others gone (λ i differs. e.taken.others i differs (λ v. differs (v ∙ same)))
