use Rattle.std.proofs.Common.{inl, inr, ℕ, None, length, refl, subst}
use Rattle.std.specs.List.{filter_map}
use Rattle.inc_terms.specs.Evaluate.{folded}
use Rattle.node_outcomes.specs.Computing.{value_shown, Calls, FoldFits, IsKnown, noted}
use Rattle.node_outcomes.specs.Meaning.{functions_of}
use Rattle.node_outcomes.proofs.Computing.{known_computes, ends_computes, all_fit, all_shown}
use Rattle.node_outcomes.proofs.Lacking.{lacks_as, to_call}
use Rattle.node_outcomes.proofs.outcome.fold_any.Goals as goal

pub call_fold-requires-clause-fit : goal.call_fold-requires-clause-fit
call_fold-requires-clause-fit g c =
    let rows = c.args.rows.now in
    let kids = c.args.kids.now in
    let known : IsKnown c.args.stale c.args.round rows c.args.node kids None = subst (λ o. IsKnown c.args.stale c.args.round rows c.args.node kids o) c.in-Ok-None.field-0-is c.in-Ok-None.ensures.known in
    all_fit rows (λ values. FoldFits c.args.f.now c.args.initial.now values) kids c.requires.fit known.0

pub returns-in-Ok-Some-clause-computed : goal.returns-in-Ok-Some-clause-computed
returns-in-Ok-Some-clause-computed g c =
    let F = functions_of g.F.Functions c.args.functions.now in
    let f = c.args.f.now in
    let from = c.args.initial.now in
    let kids = c.args.kids.now in
    known_computes (folded (F.value f) from) f.sig.gives c.args.stale c.args.round
    (noted c.args.rows.now c.args.ran.now.items (g.F.Functions.calls c.args.functions.now))
    c.args.node kids (length kids) c.requires.there c.in-Ok-Some.outcome
    (subst (λ o. IsKnown c.args.stale c.args.round c.args.rows.now c.args.node kids o) c.in-Ok-Some.field-0-is c.in-Ok-Some.ensures.known)

pub returns-in-Ok-None-clause-computed : goal.returns-in-Ok-None-clause-computed
returns-in-Ok-None-clause-computed g c =
    let F = functions_of g.F.Functions c.args.functions.now in
    let f = c.args.f.now in
    let from = c.args.initial.now in
    let rows = c.args.rows.now in
    let kids = c.args.kids.now in
    let old = noted rows c.args.ran.now.items (g.F.Functions.calls c.args.functions.now) in
    let new = noted c.call_fold.new.rows c.call_fold.new.ran.items (g.F.Functions.calls c.call_fold.new.functions) in
    let known : IsKnown c.args.stale c.args.round rows c.args.node kids None = subst (λ o. IsKnown c.args.stale c.args.round rows c.args.node kids o) c.in-Ok-None.field-0-is c.in-Ok-None.ensures.known in
    ends_computes (folded (F.value f) from) f.sig.gives c.args.stale c.args.round old c.args.node kids (length kids) c.requires.there new c.call_fold.result known
    (subst (λ (k : ℕ). Calls (folded (F.value f) from) f.sig.gives old new c.args.node (filter_map (value_shown rows) kids) k c.call_fold.result)
    (all_shown rows kids known.0) c.call_fold.ensures.called)

pub returns-in-Err-clause-wants : goal.returns-in-Err-clause-wants
returns-in-Err-clause-wants g c =
    let w = c.in-Err.ensures.lacks in
    inl (refl, inl (w.0, w.1, w.2))

pub returns-in-Ok-None-clause-wants : goal.returns-in-Ok-None-clause-wants
returns-in-Ok-None-clause-wants g c =
    let rows = c.args.rows.now in
    let kids = c.args.kids.now in
    let known : IsKnown c.args.stale c.args.round rows c.args.node kids None = subst (λ o. IsKnown c.args.stale c.args.round rows c.args.node kids o) c.in-Ok-None.field-0-is c.in-Ok-None.ensures.known in
    lacks_as c.call_fold.result _ _ (λ lacks. inr (to_call c.args.stale c.args.round rows c.args.node kids known, lacks)) c.call_fold.ensures.wants
