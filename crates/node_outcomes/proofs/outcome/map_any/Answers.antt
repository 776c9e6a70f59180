use Rattle.std.proofs.Common.{inl, inr, false, None, refl, subst}
use Rattle.inc_value.specs.Value.{HaveTypes}
use Rattle.node_outcomes.specs.Computing.{IsKnown, noted}
use Rattle.node_outcomes.specs.Meaning.{functions_of}
use Rattle.node_outcomes.proofs.Computing.{known_computes, ends_computes, all_fit}
use Rattle.node_outcomes.proofs.Lacking.{lacks_as, to_call}
use Rattle.node_outcomes.proofs.outcome.map_any.Goals as goal

pub call_map-requires-clause-fit : goal.call_map-requires-clause-fit
call_map-requires-clause-fit g c =
    let rows = c.args.rows.now in
    let kids = c.args.kids.now in
    let known : IsKnown false c.args.round rows c.args.node kids None = subst (λ o. IsKnown false c.args.round rows c.args.node kids o) c.in-Ok-None.field-0-is c.in-Ok-None.ensures.known in
    all_fit rows (λ values. HaveTypes values c.args.f.now.sig.takes) kids c.requires.fit known.0

pub returns-in-Ok-Some-clause-computed : goal.returns-in-Ok-Some-clause-computed
returns-in-Ok-Some-clause-computed g c =
    let F = functions_of g.F.Functions c.args.functions.now in
    let f = c.args.f.now in
    let kids = c.args.kids.now in
    known_computes (F.value f) f.sig.gives false c.args.round (noted c.args.rows.now c.args.ran.now.items (g.F.Functions.calls c.args.functions.now))
    c.args.node kids 1 c.requires.there c.in-Ok-Some.outcome
    (subst (λ o. IsKnown false c.args.round c.args.rows.now c.args.node kids o) c.in-Ok-Some.field-0-is c.in-Ok-Some.ensures.known)

pub returns-in-Ok-None-clause-computed : goal.returns-in-Ok-None-clause-computed
returns-in-Ok-None-clause-computed g c =
    let F = functions_of g.F.Functions c.args.functions.now in
    let f = c.args.f.now in
    let kids = c.args.kids.now in
    ends_computes (F.value f) f.sig.gives false c.args.round (noted c.args.rows.now c.args.ran.now.items (g.F.Functions.calls c.args.functions.now))
    c.args.node kids 1 c.requires.there
    (noted c.call_map.new.rows c.call_map.new.ran.items (g.F.Functions.calls c.call_map.new.functions)) c.call_map.result
    (subst (λ o. IsKnown false c.args.round c.args.rows.now c.args.node kids o) c.in-Ok-None.field-0-is c.in-Ok-None.ensures.known) c.call_map.ensures.called

pub returns-in-Err-clause-wants : goal.returns-in-Err-clause-wants
returns-in-Err-clause-wants g c =
    let w = c.in-Err.ensures.lacks in
    inl (refl, inl (w.0, w.1, w.2))

pub returns-in-Ok-None-clause-wants : goal.returns-in-Ok-None-clause-wants
returns-in-Ok-None-clause-wants g c =
    let rows = c.args.rows.now in
    let kids = c.args.kids.now in
    let known : IsKnown false c.args.round rows c.args.node kids None = subst (λ o. IsKnown false c.args.round rows c.args.node kids o) c.in-Ok-None.field-0-is c.in-Ok-None.ensures.known in
    lacks_as c.call_map.result _ _ (λ lacks. inr (to_call false c.args.round rows c.args.node kids known, lacks)) c.call_map.ensures.wants
