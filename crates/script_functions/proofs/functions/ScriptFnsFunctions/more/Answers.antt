use Rattle.std.proofs.Common.{◌≡◌, length, rules}
use Rattle.std.proofs.lemmas.Grind.{common_steps}
use Rattle.script_functions.proofs.MoreBodies.{one_more_sound, one_more_means, last_known, last_means}
use Rattle.script_functions.proofs.Tables.{means_pushed, means_length}
use Rattle.script_functions.specs.Keeping.{maker_of}
use Rattle.script_functions.proofs.functions.ScriptFnsFunctions.more.Goals as goal

pub returns-clause-sound : goal.returns-clause-sound
returns-clause-sound g c =
    let bodies = c.args.self.now.bodies.items in
    let longer = means_pushed maker_of bodies c.reserve.new.self.items c.push_reserved.new.self.items c.args.m
    c.reserve.ensures.items c.push_reserved.ensures.items in
    one_more_sound _ _ _ _ longer c.requires.sound c.sig-sig.ensures.lawful c.requires.keepable

pub returns-clause-known : goal.returns-clause-known
returns-clause-known g c =
    let bodies = c.args.self.now.bodies.items in
    let longer = means_pushed maker_of bodies c.reserve.new.self.items c.push_reserved.new.self.items c.args.m
    c.reserve.ensures.items c.push_reserved.ensures.items in
    let number : c.len-number.result ≡ length bodies = search (rules, common_steps) in
    last_known (g.L.Library.known c.args.self.now.library) _ _ _ longer c.len-number.result c.sig-sig.result
    (means_length maker_of bodies c.len-number.result number) c.sig-sig.ensures.value

pub returns-clause-means : goal.returns-clause-means
returns-clause-means g c =
    let bodies = c.args.self.now.bodies.items in
    let longer = means_pushed maker_of bodies c.reserve.new.self.items c.push_reserved.new.self.items c.args.m
    c.reserve.ensures.items c.push_reserved.ensures.items in
    let number : c.len-number.result ≡ length bodies = search (rules, common_steps) in
    last_means (g.L.Library.known c.args.self.now.library) _ _ _ longer c.len-number.result c.sig-sig.result
    (means_length maker_of bodies c.len-number.result number) c.sig-sig.ensures.value _

pub returns-clause-keeps_meanings : goal.returns-clause-keeps_meanings
returns-clause-keeps_meanings g c =
    let bodies = c.args.self.now.bodies.items in
    one_more_means _ _ _ _ (means_pushed maker_of bodies c.reserve.new.self.items c.push_reserved.new.self.items c.args.m
    c.reserve.ensures.items c.push_reserved.ensures.items) _ _
