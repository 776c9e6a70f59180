use Rattle.std.proofs.Common.{◌≡◌, ◌∙◌, true, false, refl, ap, sym}
use Rattle.std.specs.Prelude.{is_some}
use Rattle.point_map.specs.Rows.{at}
use Rattle.point_rows.specs.Cells.{place_of}
use Rattle.point_rows.specs.Heap.{seen}
use Rattle.point_rows.proofs.Heaped.{in_is, none_when, false_when_none, true_and_false}
use Rattle.point_rows.proofs.Turned.{sound_kept}
use Rattle.point_rows.proofs.rows.PointRows.take_out.Goals as goal

pub invariant_of-self : goal.invariant_of-self
invariant_of-self c = record {
  sound = sound_kept c.self.inside.rows c.take_at.new.rows c.self.invariant.sound c.take_at.ensures.once c.take_at.ensures.rest;
  heap = c.take_at.ensures.heap;
}

pub returns-in-Some-clause-unchanged : goal.returns-in-Some-clause-unchanged
returns-in-Some-clause-unchanged c out =
    let m = place_of c.self.inside.rows in let b = c.self.inside.heap.buckets in
    let inside : is_some (at (seen b) c.args.p) ≡ true
    = in_is m m b b c.self.inside.heap.least c.self.invariant.heap c.args.p ∙ ap is_some (sym c.place_in.ensures ∙ c.in-Some.is) in
    absurd (true_and_false inside (false_when_none (at (seen b) c.args.p) (ap (λ w. at w.heap c.args.p) c.self.view_is ∙ out)))

pub returns-in_default-clause-changes : goal.returns-in_default-clause-changes
returns-in_default-clause-changes c =
    let m = place_of c.self.inside.rows in let b = c.self.inside.heap.buckets in
    let out : is_some (at (seen b) c.args.p) ≡ false
    = in_is m m b b c.self.inside.heap.least c.self.invariant.heap c.args.p ∙ ap is_some (sym c.place_in.ensures ∙ c.in_default.is) in
    rw (← c.self.view_is) (record { changed = none_when (at (seen b) c.args.p) out; others = λ q other. refl })

pub returns-in_default-clause-fewer : goal.returns-in_default-clause-fewer
returns-in_default-clause-fewer c inside =
    let m = place_of c.self.inside.rows in let b = c.self.inside.heap.buckets in
    let out : is_some (at (seen b) c.args.p) ≡ false
    = in_is m m b b c.self.inside.heap.least c.self.invariant.heap c.args.p ∙ ap is_some (sym c.place_in.ensures ∙ c.in_default.is) in
    absurd (true_and_false (ap (λ w. is_some (at w.heap c.args.p)) c.self.view_is ∙ inside) out)
