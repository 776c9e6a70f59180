use Rattle.std.proofs.Common.{refl, inl, inr}
use Rattle.necessary_graph.specs.Part.{IsInStep}
use Rattle.necessary_graph.proofs.Bags.{off_shorter}
use Rattle.necessary_graph.proofs.Composing.{reducing_at, reducing_more, reduced}
use Rattle.necessary_graph.proofs.graph.NecessaryGraph.reduce.Goals as goal

pub loop-kid-init : goal.loop-kid-init
loop-kid-init g c = inl refl

pub loop-kid-smaller : goal.loop-kid-smaller
loop-kid-smaller g c =
    let un = c.in-Some.ensures.unlinked in
    off_shorter c.loop-kid.self.links un.links c.unlink_beside.new.self.links c.args.p c.in-Some._kid un.off un.sweep.fewer

pub loop-kid-preserved : goal.loop-kid-preserved
loop-kid-preserved g c =
    let leaf = g.L.Leaves.is_leaf c.args.leaves.now in
    let old = c.args.self.now in
    let now = c.loop-kid.self in
    let step : IsInStep now = c.unlink_beside.ensures.was_in_step in
    inr (reducing_more leaf old c.args.p c.args.kept now c.unlink_beside.new.self c.in-Some._kid
    (reducing_at leaf old c.args.p c.args.kept now step c.requires.needed c.loop-kid.invariant) c.in-Some.ensures.other c.in-Some.ensures.unlinked)

pub returns : goal.returns
returns g c =
    let leaf = g.L.Leaves.is_leaf c.args.leaves.now in
    let old = c.args.self.now in
    let now = c.loop-kid.self in
    let step : IsInStep now = c.unlink_beside.ensures.was_in_step in record {
      reduced = rw c.in_default.ensures.unchanged (reduced leaf old c.args.p c.args.kept now
          (reducing_at leaf old c.args.p c.args.kept now step c.requires.needed c.loop-kid.invariant) c.in_default.ensures.none);
      in_step = c.unlink_beside.ensures.in_step;
    }
