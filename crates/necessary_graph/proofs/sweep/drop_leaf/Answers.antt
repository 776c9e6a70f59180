use Rattle.std.proofs.Common.{inl, inr, refl, sym, arith}
use Rattle.necessary_graph.proofs.Descending.{no_reader}
use Rattle.necessary_graph.proofs.sweep.drop_leaf.Goals as goal
use Rattle.necessary_graph.proofs.sweep.drop_leaf.Goals.{else-has-via-then-has+else-not-is_read, else-has-via-else-has}

pub drop_point-requires-clause-unheld : goal.drop_point-requires-clause-unheld
drop_point-requires-clause-unheld g c held = elim held [
  | inl root ↦ c.requires.unrooted root
  | inr read ↦ absurd (let e = c.if-not-is_read.ensures.1 read in cc)
]

pub returns-then-not-is_read : goal.returns-then-not-is_read
returns-then-not-is_read g c = record {
  leaf = inl (record {
    is_leaf = sym c.if-has.ensures;
    unread = no_reader c.args.rows.now.links c.args.p (λ read. absurd (let e = c.if-not-is_read.ensures.1 read in cc));
    dropped = c.drop_point.ensures.dropped;
    fewer = omega (arith, c.requires.room);
  });
  rest = c.drop_point.ensures.rest;
}

pub returns-else-has : goal.returns-else-has
returns-else-has g c = elim c.else-has.branch [
  | else-has-via-then-has+else-not-is_read w ↦ record {
    leaf = inr (record { why = inr (w.if-not-is_read.ensures.0 refl); heights = refl; same = refl });
    rest = refl;
  }
  | else-has-via-else-has w ↦ record { leaf = inr (record { why = inl (sym w.if-has.ensures); heights = refl; same = refl }); rest = refl }
]
