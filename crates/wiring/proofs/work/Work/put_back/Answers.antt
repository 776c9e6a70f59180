use Rattle.std.proofs.Common.{inl, inr, refl, ap, subst, ◌∙◌}
use Rattle.std.specs.Prelude.{is_some}
use Rattle.inc_value.specs.declared.node.Point.{Point}
use Rattle.inc_terms.specs.Depend.{change}
use Rattle.link_table.specs.Links.{Links, times}
use Rattle.necessary_graph.specs.Part.{Needed}
use Rattle.stabilize_round.proofs.Points.{same_or_other}
use Rattle.point_map.specs.Rows.{at, Holds}
use Rattle.node_outcomes.specs.Row.{stage_in}
use Rattle.node_outcomes.specs.declared.row.Stage.TheVariants as code
use Rattle.wiring.specs.Graph.{rowless}
use Rattle.necessary_graph.specs.Sweep.{IsReduced}
use Rattle.wiring.specs.Wiring.{IsMarked, HasMore}
use Rattle.wiring.specs.declared.work.Work.{Work}
use Rattle.wiring.proofs.Deciding.{need_same}
use Rattle.wiring.proofs.GoingBack.{IsLowered, lowered_stays, lowered_heap}
use Rattle.wiring.proofs.PuttingBack.{put_lowered, put_taken, goes_back, at_gate, gate_there, more_there}
use Rattle.wiring.proofs.TakingAll.{loses_nothing}
use Rattle.wiring.proofs.TakingOne.{nothing_taken}
use Rattle.wiring.proofs.work.Work.put_back.Goals as goal

pub enqueue-requires-clause-needed : goal.enqueue-requires-clause-needed
enqueue-requires-clause-needed c =
    let m = c.schedule.ensures.scheduled in
    need_same c.args.self.now.graph c.schedule.new.self.graph m.graph.links m.graph.roots c.args.p (c.is_needed.ensures.0 c.if-is_needed.true)

pub set_stage-requires : goal.set_stage-requires
set_stage-requires c = record {
  there = ap (λ (w : Work). is_some (at w.rows c.args.p)) c.enqueue.ensures.rest
      ∙ (ap (λ (w : Work). is_some (at w.rows c.args.p)) c.schedule.ensures.rest
      ∙ more_there (at c.args.self.now.rows c.args.p) (c.has_more_than_gate.ensures.0 c.if-has_more_than_gate.true));
}

pub reduce-requires : goal.reduce-requires
reduce-requires c =
    let m = c.schedule.ensures.scheduled in
    let e = c.enqueue.ensures.enqueued in
    let first = need_same c.args.self.now.graph c.schedule.new.self.graph m.graph.links m.graph.roots c.args.p (c.is_needed.ensures.0 c.if-is_needed.true) in
    record { needed = need_same c.schedule.new.self.graph c.enqueue.new.self.graph e.graph.links e.graph.roots c.args.p first }

module _ (c : goal.After-reduce) where
  need : Needed c.args.self.now.graph c.args.p
  need = c.is_needed.ensures.0 c.if-is_needed.true

  more : HasMore (stage_in (at c.args.self.now.rows c.args.p))
  more = c.has_more_than_gate.ensures.0 c.if-has_more_than_gate.true

  marked : IsMarked c.args.self.now.graph c.schedule.new.self.graph (change c.args.bind)
  marked = subst (λ (x : Point). IsMarked c.args.self.now.graph c.schedule.new.self.graph x) c.change-gate.ensures c.schedule.ensures.scheduled

  reduced : IsReduced (rowless (record c.enqueue.new.self { rows = c.set_stage.new.rows })) c.enqueue.new.self.graph c.reduce.new.self.graph c.args.p
      (change c.args.bind)
  reduced = subst (λ (x : Point). IsReduced (rowless (record c.enqueue.new.self { rows = c.set_stage.new.rows })) c.enqueue.new.self.graph
      c.reduce.new.self.graph c.args.p x) c.change-gate.ensures c.reduce.ensures.reduced

  back : IsLowered c.args.self.now c.reduce.new.self c.args.p (change c.args.bind) code.Gated reduced.links
  back = put_lowered c.args.self.now c.schedule.new.self c.enqueue.new.self c.reduce.new.self c.set_stage.new.rows c.args.p (change c.args.bind)
      c.requires.kept.step marked c.schedule.ensures.rest c.enqueue.ensures.enqueued c.enqueue.ensures.rest c.set_stage.ensures reduced
      c.reduce.ensures.rest c.reduce.ensures.step

  gate : Needed c.args.self.now.graph (change c.args.bind) → Holds c.args.self.now.rows (change c.args.bind)
  gate n = let r = c.requires.row in
      gate_there c.args.arena.now c.args.self.now c.reduce.new.self c.args.p c.args.bind r.0 r.1 r.2 c.requires.kept reduced.links back more need

pub returns-then-has_more_than_gate-clause-stays : goal.returns-then-has_more_than_gate-clause-stays
returns-then-has_more_than_gate-clause-stays c =
    lowered_stays c.args.arena.now c.args.self.now c.reduce.new.self c.args.p (change c.args.bind) code.Gated (reduced c).links (back c)
    c.requires.kept (more_there (at c.args.self.now.rows c.args.p) (more c)) (gate c)

pub returns-then-has_more_than_gate-clause-heap : goal.returns-then-has_more_than_gate-clause-heap
returns-then-has_more_than_gate-clause-heap c q h =
    lowered_heap c.args.self.now c.reduce.new.self c.args.p (change c.args.bind) code.Gated (reduced c).links (back c) q h

pub returns-then-has_more_than_gate-clause-taken : goal.returns-then-has_more_than_gate-clause-taken
returns-then-has_more_than_gate-clause-taken c unsettled =
    let r = c.requires.row in
    put_taken c.args.arena.now c.args.self.now c.reduce.new.self c.args.p c.args.bind r.0 r.1 r.2 c.requires.kept (reduced c).links (back c) (more c)
    (need c) (reduced c).off.gone
    ((reduced c).off.here ∙ ap (λ (l : Links). times l c.args.p (change c.args.bind)) (c.enqueue.ensures.enqueued.graph.links ∙ (marked c).graph.links)) unsettled

pub returns-then-has_more_than_gate-clause-behind : goal.returns-then-has_more_than_gate-clause-behind
returns-then-has_more_than_gate-clause-behind c =
    let r = c.requires.row in
    at_gate c.args.arena.now c.args.self.now c.reduce.new.self c.args.p c.args.bind r.0 r.1 r.2 c.requires.kept (reduced c).links (back c) (more c) (need c)

pub returns-then-has_more_than_gate-clause-rows : goal.returns-then-has_more_than_gate-clause-rows
returns-then-has_more_than_gate-clause-rows c a =
    let r = c.requires.row in
    elim (same_or_other a c.args.p) [
      | inl e ↦ inr (
        e,
        goes_back c.args.arena.now c.args.self.now c.reduce.new.self c.args.p c.args.bind r.0 r.1 r.2 c.requires.kept (reduced c).links
            (back c) (more c) (need c),
      )
      | inr ne ↦ inl ((back c).rows.others a ne)
    ]

-- ---- nothing is done

pub returns-else-is_needed-clause-taken : goal.returns-else-is_needed-clause-taken
returns-else-is_needed-clause-taken c unsettled = nothing_taken c.args.arena.now c.args.self.now c.requires.kept.step

pub returns-else-is_needed-clause-stays : goal.returns-else-is_needed-clause-stays
returns-else-is_needed-clause-stays c = loses_nothing c.args.arena.now c.args.self.now c.requires.kept

pub returns-else-is_needed-clause-rows : goal.returns-else-is_needed-clause-rows
returns-else-is_needed-clause-rows c a = inl refl

pub returns-else-is_needed-clause-heap : goal.returns-else-is_needed-clause-heap
returns-else-is_needed-clause-heap c q h = inl h
