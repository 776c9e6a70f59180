use Rattle.std.proofs.Common.{◌∙◌, refl, sym}
use Rattle.link_table.proofs.Taking.{moved_within}
use Rattle.link_table.proofs.sides.take_end.Goals as goal

pub set-requires : goal.set-requires
set-requires c = record {
  there = moved_within c.args.side.now c.take.new.self c.args.other.now c.args.p c.args.i c.requires.there c.take.ensures.taken c.requires.known
      c.in-Some.moved (sym c.take.ensures.moved ∙ c.in-Some.is);
}

pub returns-in-Some-clause-told : goal.returns-in-Some-clause-told
returns-in-Some-clause-told c = rw (sym c.take.ensures.moved ∙ c.in-Some.is) c.set.ensures.set

pub returns-in_default-clause-told : goal.returns-in_default-clause-told
returns-in_default-clause-told c = rw (sym c.in_default.ensures.moved) (λ x. refl)
