use Rattle.std.proofs.Common.{inl, inr, refl, ap, subst, ◌∙◌}
use Rattle.necessity.proofs.Sound.{on_err}
use Rattle.inc_value.specs.declared.node.Point.{Point}
use Rattle.necessity.specs.Need.{Roots, root_times}
use Rattle.node_outcomes.specs.Meaning.{meaning_of}
use Rattle.wiring.specs.Wiring.{IsMarked}
use Rattle.wiring.specs.declared.work.Work.{Work}
use Rattle.wiring.proofs.Raising.{if_refusal}
use Rattle.stabilizer.specs.Kept.{counts_by}
use Rattle.stabilizer.specs.Stepping.{ChangeIsLeft, unattached, unwired}
use Rattle.stabilizer.proofs.Change.Again.{left_again, again_kept, graph_round, two_points}
use Rattle.stabilizer.proofs.Change.Changing.{on_ok, if_err}
use Rattle.stabilizer.proofs.Change.Lacking.{err_as, waits_lacks, listed_lacks}
use Rattle.stabilizer.proofs.Step.Staying.{work_moved}
use Rattle.stabilizer.proofs.stabilizer.step_change.Goals as goal

pub returns-in-Err-clause-refused : goal.returns-in-Err-clause-refused
returns-in-Err-clause-refused g c =
    let old = c.args.parts.now in
    let mid = c.turn_change.new.parts in
    let n = c.args.node in
    let marked = subst (λ (x : Point). IsMarked mid.work.graph c.schedule.new.self.graph x) c.change.ensures c.schedule.ensures.scheduled in
    left_again (meaning_of g.F.Functions c.args.functions.now) old mid n (counts_by g.F.Functions c.args.functions.now)
    (counts_by g.F.Functions c.turn_change.new.functions) c.schedule.new.self c.turn_change.ensures.stays.kept c.requires.taken.needed marked c.schedule.ensures.rest
    (g.F.Functions.right c.turn_change.new.functions) c.in-Err.refused c.in-Err.ensures.refused

pub attach_right-requires-clause-row : goal.attach_right-requires-clause-row
attach_right-requires-clause-row g c =
    let two = two_points c.args.parts.now.arena c.args.parts.now.work c.args.node c.requires.may.kept.work c.requires.taken.row in
    (two.0, c.turn_change.ensures.row two.0 two.1, two.2)

pub returns-in_err-attach_right-clause-refused : goal.returns-in_err-attach_right-clause-refused
returns-in_err-attach_right-clause-refused g c =
    let old = c.args.parts.now in
    let mid = c.turn_change.new.parts in
    let new = record mid { work = c.attach_right.new.self } in
    let M = meaning_of g.F.Functions c.args.functions.now in
    let e = c.in_err-attach_right.field-0.0 in
    let right = g.F.Functions.right c.turn_change.new.functions in
    if_refusal (ChangeIsLeft M right old new c.args.node (counts_by g.F.Functions c.args.functions.now)
    (counts_by g.F.Functions c.turn_change.new.functions)) e
    c.from_residual.result c.from_residual.ensures.1 (unattached {turned = mid} c.in-Ok.ensures.turned c.in_err-attach_right.ensures.refused refl)

pub returns-clause-settled : goal.returns-clause-settled
returns-clause-settled g c = on_ok c.wire.result (λ wires. record {
  turned = c.turn_change.new.parts;
  turns = c.in-Ok.ensures.turned;
  attached = c.attach_right.new.self;
  attaches = c.in_ok-attach_right.ensures.attached;
  full = c.in_ok-attach_right.ensures.full;
  wires = wires;
  still = c.attach_right.ensures.stays;
  idle = c.wire.ensures.idle;
  rest = refl;
}) c.wire.ensures.wired

pub returns-clause-refused : goal.returns-clause-refused
returns-clause-refused g c = if_err c.wire.result (λ e refused. unwired {turned = c.turn_change.new.parts} {attached = c.attach_right.new.self}
    c.in-Ok.ensures.turned c.in_ok-attach_right.ensures.attached refused refl) c.wire.ensures.refused

-- ---- what was lacking

pub returns-in_err-attach_right-clause-lacks : goal.returns-in_err-attach_right-clause-lacks
returns-in_err-attach_right-clause-lacks g c =
    on_err c.from_residual.result (waits_lacks (meaning_of g.F.Functions c.args.functions.now) c.args.parts.now c.turn_change.new.parts c.args.node
    (counts_by g.F.Functions c.args.functions.now) (counts_by g.F.Functions c.turn_change.new.functions) c.in-Ok.ensures.turned
    c.in_err-attach_right.ensures.waits)

pub returns-clause-lacks : goal.returns-clause-lacks
returns-clause-lacks g c =
    let M = meaning_of g.F.Functions c.args.functions.now in
    let old = c.args.parts.now in
    let mid = c.turn_change.new.parts in
    let before = counts_by g.F.Functions c.args.functions.now in
    let after = counts_by g.F.Functions c.turn_change.new.functions in
    let turns = c.in-Ok.ensures.turned in
    err_as c.wire.result (λ listed. elim c.attach_right.ensures.stays [
      | inl waiting ↦ waits_lacks M old mid c.args.node before after turns waiting
      | inr same ↦ listed_lacks M old mid c.args.node before after turns (λ none. listed (ap (λ (w : Work). w.todo.items) same ∙ none))
    ]) c.wire.ensures.listed

-- ---- what stays

pub returns-in-Err-clause-stays : goal.returns-in-Err-clause-stays
returns-in-Err-clause-stays g c =
    let old = c.args.parts.now in
    let mid = c.turn_change.new.parts in
    let stays = c.turn_change.ensures.stays in
    let marked = subst (λ (x : Point). IsMarked mid.work.graph c.schedule.new.self.graph x) c.change.ensures c.schedule.ensures.scheduled in
    let kept = again_kept (meaning_of g.F.Functions c.args.functions.now) old mid c.args.node (counts_by g.F.Functions c.args.functions.now)
    (counts_by g.F.Functions c.turn_change.new.functions) c.schedule.new.self stays.kept c.requires.taken.needed marked c.schedule.ensures.rest
    c.turn_change.ensures.there c.schedule.ensures.step in
    work_moved g.F.Functions c.args.functions.now old mid c.schedule.new.self stays kept.work
    (λ p. ap (λ (r : Roots). root_times r p) c.schedule.ensures.scheduled.graph.roots) (graph_round mid.work c.schedule.new.self c.schedule.ensures.rest)

pub returns-in_err-attach_right-clause-stays : goal.returns-in_err-attach_right-clause-stays
returns-in_err-attach_right-clause-stays g c =
    let places = c.attach_right.ensures.places in
    work_moved g.F.Functions c.args.functions.now c.args.parts.now c.turn_change.new.parts c.attach_right.new.self c.turn_change.ensures.stays
    c.attach_right.ensures.kept places.roots places.round

pub returns-clause-stays : goal.returns-clause-stays
returns-clause-stays g c =
    let places = c.attach_right.ensures.places in
    let last = c.wire.ensures.places in
    work_moved g.F.Functions c.args.functions.now c.args.parts.now c.turn_change.new.parts c.wire.new.self c.turn_change.ensures.stays
    c.wire.ensures.kept (λ p. last.roots p ∙ places.roots p) (last.round ∙ places.round)
