use Rattle.std.proofs.Common.{ap, sym, subst, ◌∙◌}
use Rattle.std.specs.Prelude.{is_some}
use Rattle.inc_terms.specs.Depend.{change}
use Rattle.point_map.specs.Rows.{at}
use Rattle.wiring.specs.declared.work.Work.{Work}
use Rattle.timed_nodes.specs.Timed.{KeepsClock}
use Rattle.stabilizer.specs.declared.parts.Parts.{Parts}
use Rattle.stabilizer.proofs.Killing.Died.{inside_scope, inside_row, live_undead, dying_may, died_all, kept_all}
use Rattle.stabilizer.proofs.parts.Parts.let_die.Goals as goal

pub list_dying-requires-clause-scopes : goal.list_dying-requires-clause-scopes
list_dying-requires-clause-scopes c n a = inside_scope c.args.self.now c.args.bind n ((c.requires.dying.all n).0 a)

pub list_dying-requires-clause-absent : goal.list_dying-requires-clause-absent
list_dying-requires-clause-absent c n a =
    let old = c.args.self.now in
    let r = inside_row old c.args.bind n ((c.requires.dying.all n).0 a) in
    live_undead old.arena old.work c.requires.kept n r.0 r.2

pub forget_built-requires : goal.forget_built-requires
forget_built-requires c = record {
  row = ap (λ (w : Work). is_some (at w.rows (change c.args.bind))) c.list_dying.ensures.listed.rest ∙ c.requires.row;
}

pub forget_dead-requires : goal.forget_dead-requires
forget_dead-requires c =
    let list = c.list_dying.ensures in
    let forgot = c.forget_built.ensures in record {
      forget = dying_may c.args.self.now c.list_dying.new.self c.forget_built.new.self c.args.bind c.requires.kept c.requires.dying list.listed list.behind
          list.rest forgot.root forgot.row forgot.rest _ c.len-before.ensures.len;
    }

pub returns-clause-died : goal.returns-clause-died
returns-clause-died c =
    let list = c.list_dying.ensures in
    let forgot = c.forget_built.ensures in
    died_all c.args.self.now c.list_dying.new.self c.forget_built.new.self c.args.bind c.requires.kept c.requires.dying list.listed list.behind list.rest
    forgot.root forgot.row forgot.rest _ c.len-before.ensures.len c.forget_dead.new.self c.forget_dead.ensures.forgotten c.forget_dead.ensures.rest

pub returns-clause-kept : goal.returns-clause-kept
returns-clause-kept c =
    let list = c.list_dying.ensures in
    let forgot = c.forget_built.ensures in
    kept_all c.args.self.now c.list_dying.new.self c.forget_built.new.self c.args.bind c.requires.kept c.requires.dying list.listed list.behind list.rest
    forgot.root forgot.row forgot.rest _ c.len-before.ensures.len c.forget_dead.new.self c.forget_dead.ensures.forgotten c.forget_dead.ensures.rest
    c.requires.gates c.requires.scopes c.forget_dead.ensures.step list.none
    (c.forget_dead.ensures.clock (subst (λ (p : Parts). KeepsClock p.arena p.timed) (sym list.rest) c.requires.clock)) c.requires.listing
