use Rattle.std.proofs.Common.{ap}
use Rattle.link_table.proofs.Counts.{place_there, link_more}
use Rattle.link_table.proofs.table.LinkTable.remove.Goals as goal

pub kid_place-requires : goal.kid_place-requires
kid_place-requires c = record { two_way = c.self.invariant.sound.two_way }

pub unwrap-i-requires : goal.unwrap-i-requires
unwrap-i-requires c =
    let there = rw (← ap (λ w. w.all) c.self.view_is) at c.requires.there in
    place_there c.self.inside.kids c.self.invariant.once c.args.p c.args.q c.kid_place.result c.kid_place.ensures.some c.kid_place.ensures.none there

pub returns : goal.returns
returns c =
    let removed = link_more c.remove_ends.new.kids c.self.inside.kids c.places-places.ensures.once c.self.invariant.once c.args.p c.args.q
    c.remove_ends.ensures.removed in
    record { removed = rw (← c.self.view_is) removed }
