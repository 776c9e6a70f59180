use Rattle.std.proofs.Common.{ap}
use Rattle.link_table.proofs.Counts.{told_place}
use Rattle.link_table.proofs.table.LinkTable.reads.Goals as goal

pub kid_place-requires : goal.kid_place-requires
kid_place-requires c = record { two_way = c.self.invariant.sound.two_way }

pub returns : goal.returns
returns c =
    let told = told_place c.self.inside.kids c.self.invariant.once c.args.p c.args.q c.kid_place.result c.kid_place.ensures.some c.kid_place.ensures.none in
    rw (c.is_some.ensures, ← ap (λ w. w.all) c.self.view_is) told
