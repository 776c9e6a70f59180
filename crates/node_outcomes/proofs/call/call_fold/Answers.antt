use Rattle.std.proofs.Common.{List, length, subst, sym}
use Rattle.inc_value.specs.declared.value.Value.{Value}
use Rattle.inc_terms.specs.Evaluate.{folded}
use Rattle.node_outcomes.specs.Computing.{Calls, FoldFits, noted}
use Rattle.node_outcomes.proofs.Lent.{lent_calls, lent_wants, same_values}
use Rattle.node_outcomes.proofs.call.call_fold.Goals as goal

pub fold_shown-called-requires-clause-fit : goal.fold_shown-called-requires-clause-fit
fold_shown-called-requires-clause-fit g c =
    let l = c.lend_call-last in
    let lent = rw c.main-p.ensures at l.ensures.lent in
    let row = rw c.main-p.ensures at l.ensures.row in
    subst (λ (vs : List Value). FoldFits c.args.f.now c.args.initial.now vs)
    (sym (same_values c.args.rows.now l.new.rows c.args.node l.result c.args.kids.now lent row)) c.requires.fit

pub returns-clause-called : goal.returns-clause-called
returns-clause-called g c =
    let l = c.lend_call-last in
    let lent = rw c.main-p.ensures at l.ensures.lent in
    let row = rw c.main-p.ensures at l.ensures.row in
    let made = c.fold_shown-called in
    subst (λ (vs : List Value). Calls (folded (g.F.Functions.value c.args.functions.now c.args.f.now) c.args.initial.now) c.args.f.now.sig.gives
    (noted c.args.rows.now c.args.ran.now.items (g.F.Functions.calls c.args.functions.now))
    (noted c.give_back.new.rows made.new.ran.items (g.F.Functions.calls made.new.functions)) c.args.node vs (length vs) made.result)
    (same_values c.args.rows.now l.new.rows c.args.node l.result c.args.kids.now lent row)
    (lent_calls c.args.rows.now l.new.rows c.args.node l.result c.args.kids.now lent row c.give_back.new.rows made.new.last (rw c.main-p.ensures at c.give_back.ensures)
    _ _ _ _ _ _ _ _ made.result (rw c.reserve.ensures.items at made.ensures.made))

pub returns-clause-wants : goal.returns-clause-wants
returns-clause-wants g c =
    let l = c.lend_call-last in
    let lent = rw c.main-p.ensures at l.ensures.lent in
    let row = rw c.main-p.ensures at l.ensures.row in
    lent_wants c.args.rows.now l.new.rows c.args.node l.result c.args.kids.now lent row _ (length c.args.ran.now.items) c.args.f.now.sig.gives
    c.fold_shown-called.result _ _ c.fold_shown-called.ensures.wants
