use Rattle.std.proofs.Common.{refl, sym}
use Rattle.node_arena.specs.Arena.{row_of}
use Rattle.timed_nodes.proofs.Watching.{next_free, next_timed, clock_taken}
use Rattle.timed_nodes.proofs.timed.TimedNodes.take_one.Goals as goal

pub watch-requires-clause-free : goal.watch-requires-clause-free
watch-requires-clause-free c = next_free c.args.arena.now _ (rw (← c.self.view_is) at c.requires.kept) c.requires.sound c.args.node
    (rw (← c.self.view_is) at c.requires.first)

pub watch-requires-clause-timed : goal.watch-requires-clause-timed
watch-requires-clause-timed c = next_timed c.args.arena.now _ (rw (← c.self.view_is) at c.requires.kept) c.requires.sound c.args.node
    (rw (← c.self.view_is) at c.requires.first) (row_of c.in-Some.row.now) (sym c.in-Some.ensures)

pub returns-in-Ok-clause-kept : goal.returns-in-Ok-clause-kept
returns-in-Ok-clause-kept c = clock_taken c.args.arena.now _ (rw (← c.self.view_is) at c.requires.kept) c.requires.sound c.args.node
    (rw (← c.self.view_is) at c.requires.first) (row_of c.in-Some.row.now) (sym c.in-Some.ensures) c.watch.new.clock c.watch.ensures.time
    c.in-Ok.ensures.watched _ refl refl refl
