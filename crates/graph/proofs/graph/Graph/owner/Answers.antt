use Rattle.std.proofs.Common.{sym}
use Rattle.node_arena.specs.Arena.{row_of}
use Rattle.wiring.specs.Graph.{graph_at}
use Rattle.graph.proofs.Owning.{begins, further, was_dead, is_owner}
use Rattle.graph.proofs.graph.Graph.owner.Goals as goal
use Rattle.link_table.proofs.Lists.{if_none}

pub loop-bind-init : goal.loop-bind-init
loop-bind-init g c = begins _ c.args.node

pub returns-in_err-bind-clause-dead : goal.returns-in_err-bind-clause-dead
returns-in_err-bind-clause-dead g c =
    rw (← c.self.view_is) (if_none c.from_residual.result (was_dead (graph_at c.self.inside.parts.arena c.self.inside.parts.work)
    c.args.node c.loop-bind.top c.loop-bind.invariant (rw c.arena.ensures at (sym c.in_err-bind.ensures))))

pub loop-bind-smaller : goal.loop-bind-smaller
loop-bind-smaller g c =
    c.self.invariant.0.kept.work.older c.loop-bind.top c.in-Some.bind (row_of c.in_ok-bind.field-0.now)
    (rw c.arena.ensures at (sym c.in_ok-bind.ensures)) c.in-Some.is

pub loop-bind-preserved : goal.loop-bind-preserved
loop-bind-preserved g c =
    let kept = c.self.invariant.0.kept.work in
    further (graph_at c.self.inside.parts.arena c.self.inside.parts.work) c.args.node kept.scopes c.loop-bind.top c.in-Some.bind
    (row_of c.in_ok-bind.field-0.now) (rw c.arena.ensures at (sym c.in_ok-bind.ensures)) c.in-Some.is c.loop-bind.invariant

pub returns-clause-live : goal.returns-clause-live
returns-clause-live g c =
    rw (← c.self.view_is) (is_owner (graph_at c.self.inside.parts.arena c.self.inside.parts.work) c.args.node c.loop-bind.top
    (row_of c.in_ok-bind.field-0.now) c.loop-bind.invariant (rw c.arena.ensures at (sym c.in_ok-bind.ensures)) c.in_default.is)
