use Rattle.std.proofs.Common.{◌≡◌, refl, sym, ap, ◌∙◌}
use Rattle.std.specs.Prelude.{slice_get}
use Rattle.point_rows.specs.Standing.{Standing, readers_in}
use Rattle.necessary_graph.proofs.Rests.{heap_then}
use Rattle.necessary_graph.proofs.Telling.{left_at, telling_first, telling_skip, telling_put, reads_first}
use Rattle.necessary_graph.proofs.readers.put_readers.Goals as goal
use Rattle.necessary_graph.proofs.readers.put_readers.Goals.{then-not-skips, else-not-skips}

pub loop-i-init : goal.loop-i-init
loop-i-init g c =
    let old = c.args.rows.now in record {
      telling = telling_first old.heights old.links c.args.q (g.S.Skip.skipped c.args.skip.now) old.heap (readers_in old c.args.q)
          c.reader_count-count.ensures.readers;
      rest = refl;
      heights = c.requires.heights;
      room = λ points room. room;
    }

pub put-requires-clause-there : goal.put-requires-clause-there
put-requires-clause-there g c =
    let old = c.args.rows.now in
    let so = c.loop-i.invariant in
    let q = c.args.q in
    let i = c.loop-i.i in
    let stands = sym (ap (λ (s : Standing). slice_get (readers_in s q) i) so.rest) ∙ (sym c.reader_at.ensures ∙ c.in-Some.is) in
    let left = left_at (readers_in old q) i c.in-Some.reader stands in
    let reads = reads_first old.heights old.links q (g.S.Skip.skipped c.args.skip.now) old.heap c.loop-i.rows.heap c.in-Some.reader _ (rw left at so.telling) in
    rw so.rest (c.requires.there c.in-Some.reader reads)

pub put-requires-clause-room : goal.put-requires-clause-room
put-requires-clause-room g c =
    let so = c.loop-i.invariant in rw so.rest (c.requires.room.0, so.room c.requires.room.0 c.requires.room.1)

pub loop-i-preserved : goal.loop-i-preserved
loop-i-preserved g c =
    let old = c.args.rows.now in
    let now = c.loop-i.rows in
    let so = c.loop-i.invariant in
    let q = c.args.q in
    let i = c.loop-i.i in
    let skipped = g.S.Skip.skipped c.args.skip.now in
    let same : now.heights ≡ old.heights = ap (λ (s : Standing). s.heights) so.rest in
    let stands = sym (ap (λ (s : Standing). slice_get (readers_in s q) i) so.rest) ∙ (sym c.reader_at.ensures ∙ c.in-Some.is) in
    let telling = rw (left_at (readers_in old q) i c.in-Some.reader stands) at so.telling in
    elim c.if-not-skips.branch [
      | then-not-skips w ↦
          let e = rw same at w.put.ensures in
          let new = w.put.new.rows in
          rw w.rows-is (record {
            telling = telling_put old.heights old.links q skipped old.heap now.heap c.in-Some.reader _ telling new.heap (sym w.if-not-skips.ensures) e.put;
            rest = heap_then old now new so.rest w.put.ensures.rest;
            heights = e.heights;
            room = λ points room. e.room points (so.room points room);
          })
      | else-not-skips w ↦ rw w.rows-is (record {
        telling = telling_skip old.heights old.links q skipped old.heap now.heap c.in-Some.reader _ telling (sym w.if-not-skips.ensures);
        rest = so.rest;
        heights = so.heights;
        room = so.room;
      })
    ]
