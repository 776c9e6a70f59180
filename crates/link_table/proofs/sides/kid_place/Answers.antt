use Rattle.std.proofs.Common.{◌∙◌, sym}
use Rattle.link_table.proofs.sides.kid_place.Goals as goal

pub returns-then-kids-readers-clause-some : goal.returns-then-kids-readers-clause-some
returns-then-kids-readers-clause-some c = rw c.of-kids.ensures at c.place_of.ensures.some

pub returns-then-kids-readers-clause-none : goal.returns-then-kids-readers-clause-none
returns-then-kids-readers-clause-none c = rw c.of-kids.ensures at c.place_of.ensures.none

pub returns-in_default-clause-none : goal.returns-in_default-clause-none
returns-in_default-clause-none c =
    let none = rw c.of-readers.ensures at c.in_default.ensures.none in sym (c.requires.two_way.counted c.args.p c.args.q) ∙ none

pub returns-in-Some-clause-some : goal.returns-in-Some-clause-some
returns-in-Some-clause-some c =
    let there = rw c.of-readers.ensures at c.in-Some.ensures.some in
    c.requires.two_way.back c.args.p c.args.q c.in-Some.i c.in-Some.back there
