use Rattle.std.proofs.Common.{◌≡◌, ◌∷◌, inr, Some, [], Err, refl, sym, subst, ◌∙◌}
use Rattle.std.proofs.lemmas.Option.{none-some}
use Rattle.inc_value.specs.declared.node.Point.{Point}
use Rattle.inc_terms.specs.Depend.{change}
use Rattle.link_table.specs.Links.{Reads}
use Rattle.wiring.specs.Graph.{died_at}
use Rattle.wiring.specs.Wiring.{IsTarget, MayRead}
use Rattle.wiring.proofs.Answering.{IsOwed, done_answers, owed_here, refusal_answers, link_answers}
use Rattle.wiring.proofs.Ghosts.{leaf_wires, ghost_link, ghost_target, ghost_wires, ghost_lifts, ghost_due}
use Rattle.wiring.proofs.Holding.{died_same}
use Rattle.wiring.proofs.Lifting.{DueAfter}
use Rattle.wiring.proofs.Deciding.{not_both}
use Rattle.wiring.proofs.work.Work.wire_ghost.Goals as goal
use Rattle.wiring.proofs.work.Work.wire_ghost.Goals.{After-connect}

-- ---- a leaf

pub returns-in_default : goal.returns-in_default
returns-in_default c = done_answers _ c.args.arena.now c.args.self.now c.args.p c.requires.kept
    (leaf_wires c.args.arena.now c.args.self.now c.args.p c.requires.dead c.requires.kept c.requires.needed (sym c.in_default.ensures))

-- ---- a ghost that has its link

pub returns-then-reads : goal.returns-then-reads
returns-then-reads c = done_answers _ c.args.arena.now c.args.self.now c.args.p c.requires.kept
    (ghost_wires c.args.arena.now c.args.self.now c.args.p c.requires.dead c.requires.kept c.in-Some.bind (sym c.in-Some.ensures) c.requires.needed
    (rw c.change-gate.ensures at (c.reads.ensures.0 c.if-reads.true)))

-- ---- one that is to have it

pub connect-requires-clause-reader : goal.connect-requires-clause-reader
connect-requires-clause-reader c = subst (λ (x : Point). MayRead c.args.self.now c.args.p x) (sym c.change-gate.ensures)
    (inr (ghost_link c.args.arena.now c.args.self.now c.args.p c.requires.dead c.requires.kept c.in-Some.bind (sym c.in-Some.ensures)))

pub connect-requires-clause-spared : goal.connect-requires-clause-spared
connect-requires-clause-spared c main full r row two = absurd (none-some r (sym c.requires.dead ∙ row))

pub connect-requires-clause-target : goal.connect-requires-clause-target
connect-requires-clause-target c = subst (λ (x : Point). IsTarget c.args.arena.now c.args.self.now x) (sym c.change-gate.ensures)
    (ghost_target c.args.arena.now c.args.self.now c.args.p.node c.in-Some.bind c.requires.kept (sym c.in-Some.ensures))

module _ (c : After-connect) where
  died : died_at c.args.self.now c.args.p.node ≡ Some c.in-Some.bind
  died = sym c.in-Some.ensures

  unread : Reads c.args.self.now.graph.links c.args.p (change c.in-Some.bind) → ⊥
  unread reads = not_both c.reads.result c.if-reads.false
      (c.reads.ensures.1 (subst (λ (x : Point). Reads c.args.self.now.graph.links c.args.p x) (sym c.change-gate.ensures) reads))

  owed : IsOwed c.args.arena.now c.args.self.now c.args.self.now c.args.p (change c.in-Some.bind ∷ [])
  owed = owed_here c.args.arena.now c.args.self.now c.args.p (change c.in-Some.bind ∷ [])
      (ghost_lifts c.args.arena.now c.args.self.now c.args.p c.requires.dead c.requires.kept c.in-Some.bind died c.requires.needed unread)

  due : DueAfter c.args.arena.now c.args.self.now c.args.self.now c.args.p (change c.in-Some.bind)
  due = ghost_due c.args.arena.now c.args.self.now c.args.p c.requires.dead c.requires.kept c.in-Some.bind died

pub returns-in-Err : goal.returns-in-Err
returns-in-Err c =
    refusal_answers c.args.arena.now c.args.self.now c.args.self.now c.args.p (change c.in-Some.bind) (owed (goal.at.returns-in-Err c).After-connect) (due (goal.at.returns-in-Err c).After-connect) c.connect.new.self
    (Err c.in-Err.refused) c.in-Err.refused refl (rw c.change-gate.ensures at c.in-Err.ensures)

pub returns-in-Ok : goal.returns-in-Ok
returns-in-Ok c =
    let so = c.in-Ok.ensures in
    let gate = c.change-gate.ensures in
    link_answers c.args.arena.now c.args.self.now c.args.self.now c.args.p (change c.in-Some.bind) (owed (goal.at.returns-in-Ok c).After-connect) (due (goal.at.returns-in-Ok c).After-connect) c.connect.new.self _ c.in-Ok.field-0
    (rw gate at so)
    (λ t. ghost_wires c.args.arena.now c.connect.new.self c.args.p c.requires.dead so.kept c.in-Some.bind
    (died_same c.args.self.now c.connect.new.self so.places.deaths c.args.p.node ∙ died (goal.at.returns-in-Ok c).After-connect) (so.needed t).0 (rw gate at (so.reads t)))
