use Rattle.std.proofs.Common.{rules, ◌≡◌, [], length}
use Rattle.std.proofs.lemmas.Grind.{common_steps}
use Rattle.closures.proofs.Adding.{side_sound_as, side_known_as, side_means_as, side_keeps_as}
use Rattle.closures.proofs.Tables.{map_push, length_of}
use Rattle.closures.proofs.closures.Closures.add_rhs.Goals as goal

pub returns-clause-sound : goal.returns-clause-sound
returns-clause-sound g c =
    side_sound_as _ _ _ _ (map_push _ _ _ _ _ c.reserve.ensures.items c.push_reserved.ensures.items)
    c.requires.sound c.sig-sig.ensures.lawful c.requires.usable

pub returns-clause-known : goal.returns-clause-known
returns-clause-known g c =
    let number : c.len-number.result ≡ length c.args.self.now.sides.items = search (rules, common_steps) in
    side_known_as [] _ _ _ (map_push _ _ _ _ _ c.reserve.ensures.items c.push_reserved.ensures.items)
    c.len-number.result c.sig-sig.result (length_of _ _ _ number) c.sig-sig.ensures.value

pub returns-clause-means : goal.returns-clause-means
returns-clause-means g c =
    let number : c.len-number.result ≡ length c.args.self.now.sides.items = search (rules, common_steps) in
    side_means_as [] _ _ _ (map_push _ _ _ _ _ c.reserve.ensures.items c.push_reserved.ensures.items)
    c.len-number.result c.sig-sig.result (length_of _ _ _ number) c.sig-sig.ensures.value _

pub returns-clause-keeps_meanings : goal.returns-clause-keeps_meanings
returns-clause-keeps_meanings g c =
    side_keeps_as _ _ _ _ (map_push _ _ _ _ _ c.reserve.ensures.items c.push_reserved.ensures.items) _
