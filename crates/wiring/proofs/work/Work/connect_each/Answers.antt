use Rattle.std.proofs.Common.{◌≡◌, ◌+◌, inl, refl, List, map, drop, None, sym, ap, subst, ◌∙◌}
use Rattle.std.specs.Prelude.{is_some}
use Rattle.std.proofs.lemmas.Option.{same_Some}
use Rattle.inc_value.specs.declared.node.NodeId.{NodeId}
use Rattle.inc_value.specs.declared.node.Point.{Point}
use Rattle.inc_terms.specs.Depend.{main, subject_of}
use Rattle.inc_terms.specs.Graph.{Row}
use Rattle.node_outcomes.specs.declared.row.Stage.TheVariants as code
use Rattle.wiring.specs.Wiring.{IsTarget}
use Rattle.wiring.proofs.Gating.{main_is_target, stage_rowed}
use Rattle.wiring.proofs.Handing.{IsHanded, IsNext, handed_none, kid_on, kid_gone, kid_refused, handed_last, id_among, next_kid, drop_none}
use Rattle.wiring.proofs.Deciding.{not_both}
use Rattle.wiring.proofs.work.Work.connect_each.Goals as goal
use Rattle.wiring.proofs.work.Work.connect_each.Goals.{After-connect}

pub loop-kid-init : goal.loop-kid-init
loop-kid-init c = handed_none c.args.arena.now c.args.self.now c.args.p (map main c.args.kids.now) c.requires.needed c.requires.kept c.requires.plain

pub connect-requires-clause-reader : goal.connect-requires-clause-reader
connect-requires-clause-reader c =
    inl (ap is_some c.loop-kid.invariant.row ∙ stage_rowed c.args.self.now.rows c.args.p code.Full c.requires.full)

pub connect-requires-clause-target : goal.connect-requires-clause-target
connect-requires-clause-target c = subst (λ (x : Point). IsTarget c.args.arena.now c.loop-kid.self x) (sym c.main.ensures)
    (main_is_target c.args.arena.now c.loop-kid.self _ c.loop-kid.invariant.kept
    (c.requires.given _ (id_among c.args.kids.now c.loop-kid.kid-index _ c.loop-kid-test.true)) refl)

pub connect-requires-clause-spared : goal.connect-requires-clause-spared
connect-requires-clause-spared c part full r row two =
    let q = c.requires.row in
    let same : q.0 ≡ r = same_Some q.0 r (sym q.1 ∙ row) in
    let none : subject_of r.def ≡ None = subst (λ (x : Row). subject_of x.def ≡ None) same q.3 in
    absurd (not_both (is_some (subject_of r.def)) (ap is_some none) two)

-- ---- the child in hand

module _ (c : After-connect) where
  abbrev all : List Point
  all = map main c.args.kids.now

  abbrev rest : List Point
  rest = map main (drop (c.loop-kid.kid-index + 1) c.args.kids.now)

  abbrev r : Row
  r = c.requires.row.0

  next : IsNext c.args.arena.now c.args.self.now c.loop-kid.self c.args.p r all c.main.result rest
  next = next_kid c.args.arena.now c.args.self.now c.loop-kid.self c.args.p r all c.args.kids.now c.loop-kid.kid-index _ c.main.result
      c.requires.row.2 c.main.ensures c.loop-kid-test.true c.loop-kid.invariant

pub returns-in-Err : goal.returns-in-Err
returns-in-Err c =
    kid_refused c.args.arena.now c.args.p c.requires.main (r (goal.at.returns-in-Err c).After-connect) c.requires.row.1 c.requires.row.3 c.args.self.now c.loop-kid.self c.requires.ran (rest (goal.at.returns-in-Err c).After-connect)
    (all (goal.at.returns-in-Err c).After-connect) c.main.result (next (goal.at.returns-in-Err c).After-connect).among (next (goal.at.returns-in-Err c).After-connect).handed c.connect.new.self _ c.in-Err.refused
    refl c.in-Err.ensures

pub returns-in-Ok-false : goal.returns-in-Ok-false
returns-in-Ok-false c =
    kid_gone c.args.arena.now c.args.p c.requires.main (r (goal.at.returns-in-Ok-false c).After-connect) c.requires.row.1 c.requires.row.3 c.args.self.now c.loop-kid.self c.requires.ran (rest (goal.at.returns-in-Ok-false c).After-connect)
    (all (goal.at.returns-in-Ok-false c).After-connect) c.main.result (next (goal.at.returns-in-Ok-false c).After-connect).among (next (goal.at.returns-in-Ok-false c).After-connect).handed c.connect.new.self c.in-Ok-false.ensures _ c.in-Ok-false.field-0-test

pub loop-kid-preserved : goal.loop-kid-preserved
loop-kid-preserved c =
    kid_on c.args.arena.now c.args.p c.requires.main (r (goal.at.loop-kid-preserved c).After-connect) c.requires.row.1 c.requires.row.3 c.args.self.now c.loop-kid.self c.requires.ran (rest (goal.at.loop-kid-preserved c).After-connect)
    (all (goal.at.loop-kid-preserved c).After-connect) c.main.result (next (goal.at.loop-kid-preserved c).After-connect).among (next (goal.at.loop-kid-preserved c).After-connect).handed c.connect.new.self c.in-Ok-true.ensures c.in-Ok-true.field-0-test

-- ---- all are on

pub returns : goal.returns
returns c =
    let all = map main c.args.kids.now in
    let so = subst (λ (xs : List NodeId). IsHanded c.args.arena.now c.args.self.now c.loop-kid.self c.args.p all (map main xs))
    (drop_none c.args.kids.now c.loop-kid.kid-index c.loop-kid-test.false) c.loop-kid.invariant in
    handed_last _ c.args.arena.now c.args.self.now c.loop-kid.self c.args.p all c.requires.full so
