use Rattle.std.proofs.Common.{◌≡◌, ◌∙◌, ◌∷◌, inl, Err, refl, sym, ap, subst, Option, Some, []}
use Rattle.inc_value.specs.declared.node.Part.TheVariants.{Main}
use Rattle.inc_value.specs.declared.node.Point.{Point}
use Rattle.inc_terms.specs.Depend.{main, change}
use Rattle.inc_terms.specs.Graph.{Row}
use Rattle.point_map.specs.Rows.{at, Holds}
use Rattle.node_outcomes.specs.Computing.{has_part}
use Rattle.node_outcomes.specs.Row.{IsRewritten, with_stage, stage_in}
use Rattle.node_outcomes.specs.declared.row.Stage.TheVariants as code
use Rattle.wiring.specs.Kept.{IsKept}
use Rattle.wiring.specs.Wiring.{IsMarked, IsSpared, IsTarget, MayRead}
use Rattle.wiring.specs.declared.work.Work.{Work}
use Rattle.wiring.proofs.Answering.{IsOwed, staged_owed, refusal_answers, gone_answers, then_answers}
use Rattle.wiring.proofs.Gating.{rowed_target, change_rowed}
use Rattle.wiring.proofs.Lifting.{DueAfter}
use Rattle.wiring.proofs.Handing.{pair_lifts, pair_due, pair_waits}
use Rattle.wiring.proofs.Raising.{staged_kept, staged_now, staged_there}
use Rattle.wiring.proofs.Scheduling.{marked_kept, marked_places, marked_grows}
use Rattle.wiring.proofs.Deciding.{static_not_full}
use Rattle.wiring.proofs.work.Work.wire_pair.Goals as goal
use Rattle.wiring.proofs.work.Work.wire_pair.Goals.{After-set_stage}

pub set_stage-requires : goal.set_stage-requires
set_stage-requires c = record {
  there = subst (λ (x : Point). Holds c.args.self.now.rows x) (sym c.main-p.ensures)
      (c.requires.kept.rows (main c.args.node) ∙ ap (λ (x : Option Row). has_part x Main) c.requires.row.1);
}

-- ---- its main has another stage

module _ (c : After-set_stage) where
  abbrev r : Row
  r = c.requires.row.0

  abbrev mid : Work
  mid = record c.args.self.now { rows = c.set_stage.new.rows }

  w : IsRewritten c.args.self.now.rows c.set_stage.new.rows (main c.args.node) (with_stage code.Static)
  w = subst (λ (x : Point). IsRewritten c.args.self.now.rows c.set_stage.new.rows x (with_stage code.Static)) c.main-p.ensures c.set_stage.ensures

  rowed : Holds c.args.self.now.rows (main c.args.node)
  rowed = c.requires.kept.rows (main c.args.node) ∙ ap (λ (x : Option Row). has_part x Main) c.requires.row.1

  kept : IsKept c.args.arena.now mid
  kept = staged_kept c.args.self.now c.set_stage.new.rows (main c.args.node) code.Static w c.args.arena.now c.requires.kept

  static : stage_in (at c.set_stage.new.rows (main c.args.node)) ≡ Some code.Static
  static = staged_now c.args.self.now c.set_stage.new.rows (main c.args.node) code.Static w rowed

  owed : IsOwed c.args.arena.now c.args.self.now mid (main c.args.node) (change c.args.node ∷ [])
  owed = staged_owed c.args.arena.now c.args.self.now c.set_stage.new.rows (main c.args.node) code.Static (change c.args.node ∷ []) w
      (pair_lifts c.args.arena.now c.args.node r c.requires.row.1 c.requires.row.2 c.args.self.now c.requires.needed c.requires.lacking c.requires.ran
      c.set_stage.new.rows w)

  due : DueAfter c.args.arena.now c.args.self.now mid (main c.args.node) (change c.args.node)
  due = pair_due c.args.arena.now c.args.node r c.requires.row.1 c.requires.row.2 c.args.self.now c.requires.needed c.requires.lacking c.requires.ran
      c.set_stage.new.rows w

pub connect-requires-clause-reader : goal.connect-requires-clause-reader
connect-requires-clause-reader c =
    let a = (goal.at.connect-requires-clause-reader c).After-set_stage in
    subst (λ (x : Point). MayRead (mid a) x c.change-own.result) (sym c.main-p.ensures)
    (inl (staged_there c.args.self.now c.set_stage.new.rows (main c.args.node) code.Static (w a) (main c.args.node)
    ∙ rowed a))

pub connect-requires-clause-spared : goal.connect-requires-clause-spared
connect-requires-clause-spared c =
    let a = (goal.at.connect-requires-clause-spared c).After-set_stage in
    let now = static a in
    subst (λ (x : Point). IsSpared c.args.arena.now (mid a) x) (sym c.main-p.ensures) (λ part full. absurd (static_not_full _ now full))

pub connect-requires-clause-kept : goal.connect-requires-clause-kept
connect-requires-clause-kept c = kept (goal.at.connect-requires-clause-kept c).After-set_stage

pub connect-requires-clause-target : goal.connect-requires-clause-target
connect-requires-clause-target c =
    let a = (goal.at.connect-requires-clause-target c).After-set_stage in
    subst (λ (x : Point). IsTarget c.args.arena.now (mid a) x) (sym c.change-own.ensures)
    (rowed_target c.args.arena.now (mid a) (change c.args.node) (kept a)
    (change_rowed c.args.arena.now (mid a) c.args.node (r a) (kept a) c.requires.row.1 c.requires.row.2))

-- ---- its change's link was asked for

pub returns-in-Err : goal.returns-in-Err
returns-in-Err c =
    let a = (goal.at.returns-in-Err c).After-set_stage in
    refusal_answers c.args.arena.now c.args.self.now (mid a) (main c.args.node) (change c.args.node) (owed a) (due a) c.connect.new.self
    (Err c.in-Err.refused) c.in-Err.refused refl
    (rw (c.main-p.ensures, c.change-own.ensures) at c.in-Err.ensures)

pub returns-in-Ok-true : goal.returns-in-Ok-true
returns-in-Ok-true c =
    let a = (goal.at.returns-in-Ok-true c).After-set_stage in
    let arena = c.args.arena.now in
    let n = c.args.node in
    let old = c.args.self.now in
    let row = c.requires.row in
    let con = c.connect.new.self in
    let so = c.in-Ok-true.ensures in
    let on = rw (c.main-p.ensures, c.change-own.ensures) at so in
    let t = c.in-Ok-true.field-0-test in
    let next = c.schedule.new.self in
    let rest = c.schedule.ensures.rest in
    let step = c.schedule.ensures.step in
    let marked : IsMarked con.graph next.graph (change n) = rw c.change-own.ensures at c.schedule.ensures.scheduled in
    let need = so.needed t in
    let now = ap stage_in (rw c.main-p.ensures at (so.row t)) ∙ static a in
    then_answers arena old (mid a) (main n) (change n) (owed a) (due a) con on _ t next
    (pair_waits arena n (r a) row.1 row.2 con next (rw c.main-p.ensures at need.0) (rw c.change-own.ensures at need.1) now marked
    rest)
    (marked_places (change n) con next marked rest)
    (marked_kept (change n) con next marked rest arena (change_rowed arena con n (r a) so.kept row.1 row.2) step so.kept)
    (marked_grows (change n) con next marked rest so.kept.step step)

pub returns-in-Ok-false : goal.returns-in-Ok-false
returns-in-Ok-false c =
    let a = (goal.at.returns-in-Ok-false c).After-set_stage in
    let on = rw (c.main-p.ensures, c.change-own.ensures) at c.in-Ok-false.ensures in
    gone_answers c.args.arena.now c.args.self.now (mid a) (main c.args.node) (change c.args.node) (owed a) (due a)
    c.connect.new.self on _ c.in-Ok-false.field-0-test
