use Rattle.std.proofs.Common.{◌≡◌, true, false, refl, sym, ap, ◌∙◌}
use Rattle.inc_value.specs.declared.node.Point.{Point}
use Rattle.inc_terms.specs.Depend.{change}
use Rattle.point_map.specs.Rows.{at}
use Rattle.node_outcomes.specs.Row.{settled_in}
use Rattle.wiring.specs.Wiring.{IsMarked}
use Rattle.wiring.proofs.Answering.{same_places, grows_here}
use Rattle.wiring.proofs.Deciding.{not_both}
use Rattle.wiring.proofs.Gating.{gate_rowed, gate_waits}
use Rattle.wiring.proofs.Scheduling.{marked_kept, marked_places, marked_grows}
use Rattle.wiring.proofs.work.Work.passes_gate.Goals as goal

pub returns-then-was_settled : goal.returns-then-was_settled
returns-then-was_settled c =
    let self = c.args.self.now in record {
      ran = λ t. ap (λ (x : Point). settled_in self.round (at self.rows x)) (sym c.change-gate.ensures)
          ∙ (sym c.was_settled.ensures ∙ c.if-was_settled.true);
      stays = λ t. refl;
      left = λ f. absurd (not_both true f refl);
      places = same_places self;
      kept = c.requires.kept;
      pushed = grows_here self;
    }

pub returns : goal.returns
returns c =
    let old = c.args.self.now in
    let new = c.schedule.new.self in
    let gate = c.change-gate.ensures in
    let r = c.requires.row in
    let marked : IsMarked old.graph new.graph (change c.args.bind) = rw gate at c.schedule.ensures.scheduled in
    let unsettled : settled_in old.round (at old.rows (change c.args.bind)) ≡ false =
    ap (λ (x : Point). settled_in old.round (at old.rows x)) (sym gate) ∙ (sym c.was_settled.ensures ∙ c.if-was_settled.false) in
    let rest = c.schedule.ensures.rest in
    let step = c.schedule.ensures.step in record {
      ran = λ t. absurd (not_both false refl t);
      stays = λ t. absurd (not_both false refl t);
      left = λ f. gate_waits c.args.arena.now c.args.p c.args.bind r.0 r.1 r.2 old new c.requires.kept c.requires.needed c.requires.gated unsettled
          marked rest;
      places = marked_places (change c.args.bind) old new marked rest;
      kept = marked_kept (change c.args.bind) old new marked rest c.args.arena.now
          (gate_rowed c.args.arena.now old c.args.p.node c.args.bind r.0 c.requires.kept r.1 r.2) step c.requires.kept;
      pushed = marked_grows (change c.args.bind) old new marked rest c.requires.kept.step step;
    }
