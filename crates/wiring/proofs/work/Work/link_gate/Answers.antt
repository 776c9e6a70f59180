use Rattle.std.proofs.Common.{◌≡◌, ◌∙◌, ◌∷◌, inl, Some, [], false, Err, refl, sym, ap, subst, true}
use Rattle.inc_value.specs.declared.node.Point.{Point}
use Rattle.inc_terms.specs.Depend.{change}
use Rattle.inc_terms.specs.Graph.{Row}
use Rattle.point_map.specs.Rows.{at, Holds}
use Rattle.node_outcomes.specs.Row.{stage_in}
use Rattle.node_outcomes.specs.declared.row.Stage.TheVariants as code
use Rattle.wiring.specs.Kept.{IsKept}
use Rattle.wiring.specs.Wiring.{IsTarget}
use Rattle.wiring.specs.declared.work.Work.{Work}
use Rattle.wiring.proofs.Answering.{IsOwed, staged_owed, refusal_gates, gone_gates, link_stays, link_places, link_grows, gate_asked}
use Rattle.wiring.proofs.Gating.{stage_rowed, is_gated_now, gate_lifts, gate_due, gate_rowed, rowed_target}
use Rattle.wiring.proofs.Lifting.{DueAfter}
use Rattle.wiring.proofs.Owing.{owes_bare}
use Rattle.wiring.proofs.Raising.{staged_kept, staged_there}
use Rattle.wiring.proofs.Deciding.{gated_not_full}
use Rattle.wiring.proofs.work.Work.link_gate.Goals as goal
use Rattle.wiring.proofs.work.Work.link_gate.Goals.{After-set_stage}

pub set_stage-requires : goal.set_stage-requires
set_stage-requires c = record { there = stage_rowed c.args.self.now.rows c.args.p code.Bare c.requires.bare }

-- ---- the point has its gate's link alone

module _ (c : After-set_stage) where
  abbrev r : Row
  r = c.requires.row.0

  abbrev mid : Work
  mid = record c.args.self.now { rows = c.set_stage.new.rows }

  rowed : Holds c.args.self.now.rows c.args.p
  rowed = stage_rowed c.args.self.now.rows c.args.p code.Bare c.requires.bare

  kept : IsKept c.args.arena.now mid
  kept = staged_kept c.args.self.now c.set_stage.new.rows c.args.p code.Gated c.set_stage.ensures c.args.arena.now c.requires.kept

  gated : stage_in (at c.set_stage.new.rows c.args.p) ≡ Some code.Gated
  gated = is_gated_now c.args.arena.now c.args.p c.args.bind r c.requires.row.1 c.requires.row.2 c.args.self.now c.requires.needed c.requires.bare
      c.set_stage.new.rows c.set_stage.ensures rowed

  owed : IsOwed c.args.arena.now c.args.self.now mid c.args.p (change c.args.bind ∷ [])
  owed = staged_owed c.args.arena.now c.args.self.now c.set_stage.new.rows c.args.p code.Gated (change c.args.bind ∷ []) c.set_stage.ensures
      (gate_lifts c.args.arena.now c.args.p c.args.bind r c.requires.row.1 c.requires.row.2 c.args.self.now c.requires.needed c.requires.bare
      c.set_stage.new.rows c.set_stage.ensures rowed)

  due : DueAfter c.args.arena.now c.args.self.now mid c.args.p (change c.args.bind)
  due = gate_due c.args.arena.now c.args.p c.args.bind r c.requires.row.1 c.requires.row.2 c.args.self.now c.requires.needed c.requires.bare
      c.set_stage.new.rows c.set_stage.ensures rowed

pub connect-requires : goal.connect-requires
connect-requires c = record {
  needed = c.requires.needed;
  reader = inl (staged_there c.args.self.now c.set_stage.new.rows c.args.p code.Gated c.set_stage.ensures c.args.p
      ∙ rowed (goal.at.connect-requires c).After-set_stage);
  spared = λ part full. absurd (gated_not_full _ (gated (goal.at.connect-requires c).After-set_stage) full);
  target = subst (λ (x : Point). IsTarget c.args.arena.now (mid (goal.at.connect-requires c).After-set_stage) x) (sym c.change.ensures)
      (rowed_target c.args.arena.now (mid (goal.at.connect-requires c).After-set_stage) (change c.args.bind) (kept (goal.at.connect-requires c).After-set_stage)
      (gate_rowed c.args.arena.now (mid (goal.at.connect-requires c).After-set_stage) c.args.p.node c.args.bind (r (goal.at.connect-requires c).After-set_stage) (kept (goal.at.connect-requires c).After-set_stage) c.requires.row.1 c.requires.row.2));
  kept = kept (goal.at.connect-requires c).After-set_stage;
}

-- ---- its gate is asked, unless it has no link

pub returns-in-Err : goal.returns-in-Err
returns-in-Err c =
    refusal_gates c.args.arena.now c.args.self.now (mid (goal.at.returns-in-Err c).After-set_stage) c.args.p (change c.args.bind) (owed (goal.at.returns-in-Err c).After-set_stage) (due (goal.at.returns-in-Err c).After-set_stage) c.connect.new.self (Err c.in-Err.refused)
    c.in-Err.refused refl (rw c.change.ensures at c.in-Err.ensures)

pub returns-in-Ok-false : goal.returns-in-Ok-false
returns-in-Ok-false c =
    gone_gates c.args.arena.now c.args.self.now (mid (goal.at.returns-in-Ok-false c).After-set_stage) c.args.p (change c.args.bind) (owed (goal.at.returns-in-Ok-false c).After-set_stage) (due (goal.at.returns-in-Ok-false c).After-set_stage) c.connect.new.self
    (rw c.change.ensures at c.in-Ok-false.ensures) false (owes_bare c.args.self.now true c.args.p c.requires.bare) c.in-Ok-false.field-0-test refl

pub passes_gate-requires : goal.passes_gate-requires
passes_gate-requires c = record {
  needed = (c.in-Ok-true.ensures.needed c.in-Ok-true.field-0-test).0;
  row = c.requires.row;
  gated = ap stage_in (c.in-Ok-true.ensures.row c.in-Ok-true.field-0-test) ∙ gated (goal.at.passes_gate-requires c).After-set_stage;
  kept = c.in-Ok-true.ensures.kept;
}

pub returns-in-Ok-true : goal.returns-in-Ok-true
returns-in-Ok-true c =
    let on = rw c.change.ensures at c.in-Ok-true.ensures in
    let t = c.in-Ok-true.field-0-test in
    let stays = link_stays c.args.arena.now c.args.self.now (mid (goal.at.returns-in-Ok-true c).After-set_stage) c.args.p (change c.args.bind) (owed (goal.at.returns-in-Ok-true c).After-set_stage) (due (goal.at.returns-in-Ok-true c).After-set_stage) c.connect.new.self on t in
    let places = link_places c.args.arena.now c.args.self.now (mid (goal.at.returns-in-Ok-true c).After-set_stage) c.args.p (change c.args.bind) (owed (goal.at.returns-in-Ok-true c).After-set_stage) (due (goal.at.returns-in-Ok-true c).After-set_stage) c.connect.new.self on in
    let grows = link_grows c.args.arena.now c.args.self.now (mid (goal.at.returns-in-Ok-true c).After-set_stage) c.args.p (change c.args.bind) (owed (goal.at.returns-in-Ok-true c).After-set_stage) (due (goal.at.returns-in-Ok-true c).After-set_stage) c.connect.new.self on in
    gate_asked _ c.args.arena.now c.args.self.now c.connect.new.self c.passes_gate.new.self c.args.p c.args.bind
    (owes_bare c.args.self.now true c.args.p c.requires.bare) stays places grows
    (c.in-Ok-true.ensures.needed t).0 (ap stage_in (c.in-Ok-true.ensures.row t) ∙ gated (goal.at.returns-in-Ok-true c).After-set_stage) c.requires.row c.passes_gate.ensures
