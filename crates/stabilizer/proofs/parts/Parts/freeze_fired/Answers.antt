use Rattle.std.proofs.Common.{◌≡◌, ◌<◌, ◌+◌, length, refl, sym, subst, ◌∙◌, arith}
use Rattle.stabilizer.specs.declared.parts.Parts.{Parts}
use Rattle.stabilizer.proofs.Round.Freezing.{AreFreezing, freezing_first, freezing_last, parts_more, parts_read, parts_root, parts_skip}
use Rattle.stabilizer.proofs.parts.Parts.freeze_fired.Goals as goal
use Rattle.stabilizer.proofs.parts.Parts.freeze_fired.Goals.{in-Some, in_default}

pub loop-place-init : goal.loop-place-init
loop-place-init c =
    let old = c.args.self.now in
    record { so = freezing_first old.arena old.work.rows old.work.graph old.ran.items c.requires.step c.requires.can; rest = refl }

pub freeze-requires-clause-root : goal.freeze-requires-clause-root
freeze-requires-clause-root c =
    let old = c.args.self.now in
    let l : c.len-place-end.result ≡ length old.ran.items = c.len-place-end.ensures ∙ old.ran.ok.0 in
    let t = c.loop-place-test.true in
    parts_root old c.loop-place.self c.loop-place.place c.loop-place.invariant c.requires.can c.index-node.result.now (omega (arith, l, t))
    c.index-node.ensures c.in-Some.kid c.in-Some.ensures.fires

pub freeze-requires-clause-reads : goal.freeze-requires-clause-reads
freeze-requires-clause-reads c =
    let old = c.args.self.now in
    let l : c.len-place-end.result ≡ length old.ran.items = c.len-place-end.ensures ∙ old.ran.ok.0 in
    let t = c.loop-place-test.true in
    parts_read old c.loop-place.self c.loop-place.place c.loop-place.invariant c.requires.can c.index-node.result.now (omega (arith, l, t))
    c.index-node.ensures c.in-Some.kid c.in-Some.ensures.fires

pub loop-place-preserved : goal.loop-place-preserved
loop-place-preserved c =
    let old = c.args.self.now in
    let now = c.loop-place.self in
    let place = c.loop-place.place in
    let l : c.len-place-end.result ≡ length old.ran.items = c.len-place-end.ensures ∙ old.ran.ok.0 in
    let t = c.loop-place-test.true in
    let within : place < length old.ran.items = omega (arith, l, t) in
    elim c.match-fired_kid.branch [
      | in-Some w ↦ subst (λ (p : Parts). AreFreezing old p (place + 1)) (sym w.self-is)
          (let f = w.freeze.ensures in
          parts_more old now place c.loop-place.invariant c.requires.can c.index-node.result.now within c.index-node.ensures w.in-Some.kid
          w.in-Some.ensures.fires w.freeze.new.self f.rows f.off f.step f.rest)
      | in_default w ↦ subst (λ (p : Parts). AreFreezing old p (place + 1)) (sym w.self-is)
          (parts_skip old now place c.loop-place.invariant c.requires.can c.index-node.result.now within c.index-node.ensures (w.in_default.ensures.none refl))
    ]

pub returns : goal.returns
returns c =
    let old = c.args.self.now in
    let now = c.loop-place.self in
    let l : c.len-place-end.result ≡ length old.ran.items = c.len-place-end.ensures ∙ old.ran.ok.0 in
    let t = c.loop-place-test.false in
    let i = c.loop-place.invariant in
    record {
      keep = freezing_last old.arena old.work.rows now.work.rows old.work.graph now.work.graph old.ran.items c.loop-place.place i.so (omega (arith, l, t));
      rest = i.rest;
    }
