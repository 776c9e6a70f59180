use Rattle.std.proofs.Common.{List, ap, sym, subst}
use Rattle.inc_value.specs.declared.node.Point.{Point}
use Rattle.link_table.specs.Walks.{readers_left}
use Rattle.wiring.proofs.Deciding.{not_both}
use Rattle.wiring.proofs.Gathering.{IsGathering, gathering_reads, gathering_first, gathering_skip, gathering_put, gathering_last}
use Rattle.wiring.proofs.wire.gather_gated.Goals as goal

pub loop-reader-init : goal.loop-reader-init
loop-reader-init c =
    let links = c.args.graph.now.links in
    let rows = c.args.rows.now in
    let items = c.args.todo.now.items in
    let same = ap readers_left (sym c.into_iter-reader-iterator.ensures.into_iter_gives) in
    subst (λ (left : List Point). IsGathering links rows c.args.gate items items left) same
    (gathering_first links rows c.args.gate items (readers_left c.readers-reader-items.result) c.readers-reader-items.ensures)

pub loop-reader-preserved : goal.loop-reader-preserved
loop-reader-preserved c =
    let so = rw c.in-Some.ensures.steps at c.loop-reader.invariant in
    gathering_skip c.args.graph.now.links c.args.rows.now c.args.gate c.args.todo.now.items c.loop-reader.todo.items c.in-Some.reader
    (readers_left c.next.new.self) so (λ g. absurd (not_both c.is_gated.result c.if-is_gated.false (c.is_gated.ensures.1 g)))

pub loop-reader-preserved-in-Ok-1 : goal.loop-reader-preserved-in-Ok-1
loop-reader-preserved-in-Ok-1 c =
    let links = c.args.graph.now.links in
    let rows = c.args.rows.now in
    let items = c.args.todo.now.items in
    let left = readers_left c.next.new.self in
    let so = rw c.in-Some.ensures.steps at c.loop-reader.invariant in
    let put = gathering_put links rows c.args.gate items c.loop-reader.todo.items c.in-Some.reader left so (c.is_gated.ensures.0 c.if-is_gated.true) in
    subst (λ (now : List Point). IsGathering links rows c.args.gate items now left) (sym c.in-Ok.ensures.items) put

pub returns : goal.returns
returns c =
    let so = rw c.in-None.ensures.steps.0 at c.loop-reader.invariant in
    record { gathered = gathering_last c.args.graph.now.links c.args.rows.now c.args.gate c.args.todo.now.items c.loop-reader.todo.items so; waits = tt }

pub returns-in_default-clause-waits : goal.returns-in_default-clause-waits
returns-in_default-clause-waits c =
    let so = rw c.in-Some.ensures.steps at c.loop-reader.invariant in (
      c.in-Some.reader,
      gathering_reads c.args.graph.now.links c.args.rows.now c.args.gate c.args.todo.now.items c.loop-reader.todo.items c.in-Some.reader
          (readers_left c.next.new.self) so,
      c.is_gated.ensures.0 c.if-is_gated.true,
    )
