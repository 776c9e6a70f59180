use Rattle.std.proofs.Common.{length}
use Rattle.std.proofs.lemmas.Option.{slice_get-get_or}
use Rattle.function_kit.specs.Sides.{place_of}
use Rattle.function_kit.proofs.Picking.{picked_from, picked_root, place_within, some_taken}
use Rattle.function_kit.proofs.pick.PickRhsFn.build.Goals as goal

pub returns-clause-root : goal.returns-clause-root
returns-clause-root c =
    let s = c.args.self.now.sig in
    let b = c.args.builder.now in
    let left = c.args.left.now in
    let captures = c.args.captures.now in
    let picked = picked_from s.takes s.gives c.args.self.now.some c.args.self.now.alike in
    let ready = c.requires.ready in
    let within = place_within (length captures) left (some_taken b left captures s.takes s.gives picked ready.taken) in
    rw c.place.ensures (picked_root b left captures s.takes s.gives picked ready.empty ready.captures_given ready.taken _
    (slice_get-get_or captures (place_of (length captures) left) _ within))
