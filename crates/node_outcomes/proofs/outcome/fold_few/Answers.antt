use Rattle.std.proofs.Common.{◌≡◌, inl, inr, ap, ℕ, Bool, Some, None, List, length, refl, subst, sym}
use Rattle.std.specs.Prelude.{◌||◌}
use Rattle.inc_value.specs.declared.value.Value.{Value}
use Rattle.inc_terms.specs.Depend.{main}
use Rattle.inc_terms.specs.Evaluate.{folded}
use Rattle.point_map.specs.Rows.{at, Changes}
use Rattle.node_outcomes.specs.Computing.{Calls, IsKnown, noted}
use Rattle.node_outcomes.specs.Looking.{IsKnownOn}
use Rattle.node_outcomes.specs.Meaning.{functions_of}
use Rattle.node_outcomes.specs.Progress.{Progress}
use Rattle.node_outcomes.specs.contracts.row.Progress.{the_view}
use Rattle.node_outcomes.proofs.Computing.{known_computes, ends_computes, filter_is_values, as_many}
use Rattle.node_outcomes.proofs.Lacking.{lacks_as, to_call}
use Rattle.node_outcomes.proofs.Looking.{call_lacks, calls_written, known_is, known_stays, rows_stay}
use Rattle.node_outcomes.proofs.outcome.fold_few.Goals as goal

pub returns-in-Ok-Some-clause-computed : goal.returns-in-Ok-Some-clause-computed
returns-in-Ok-Some-clause-computed g c =
    let F = functions_of g.F.Functions c.args.functions.now in
    let f = c.args.f.now in
    let rows = c.args.rows.now in
    let kids = c.args.kids.now in
    let values = c.args.values.now.items in
    let k = the_view c.row.inside in
    let was = rw (c.unwrap-row.ensures, c.main.ensures) at c.get_mut.ensures.value in
    let same : c.unwrap-row.result.now ≡ k = let view = c.row.view_is in cc in
    let there : at rows (main c.args.node) ≡ Some k = cc (was, same) in
    let new = c.get_mut.follows.lender c.unwrap-row.result.now in
    let written : Changes rows new (main c.args.node) (Some k) = subst (λ (x : Progress). Changes rows new (main c.args.node) (Some x)) same
    (rw (c.unwrap-row.ensures, c.main.ensures) at (c.get_mut.follows.holds c.unwrap-row.result.now)) in
    let on : IsKnownOn (c.args.stale || c.args.forced) k.last values (Some c.in-Ok-Some.outcome) = subst (λ x. IsKnownOn (c.args.stale || c.args.forced) k.last values x) c.in-Ok-Some.field-0-is
    (subst (λ (vs : List Value). IsKnownOn (c.args.stale || c.args.forced) k.last vs c.in-Ok-Some.field-0) c.as_slice.ensures c.in-Ok-Some.ensures.known) in
    known_stays rows new c.args.node k there written
    (known_computes (folded (F.value f) c.args.initial.now) f.sig.gives c.args.stale c.args.round (noted rows c.args.ran.now.items (g.F.Functions.calls c.args.functions.now))
    c.args.node kids (length kids) c.requires.there c.in-Ok-Some.outcome
    (known_is c.args.round rows c.args.stale (c.args.stale || c.args.forced) c.args.node k kids values (Some c.in-Ok-Some.outcome) there c.requires.shown (ap (λ (b : Bool). c.args.stale || b) c.requires.forced) on))

pub returns-in-Err-clause-computed : goal.returns-in-Err-clause-computed
returns-in-Err-clause-computed g c =
    let rows = c.args.rows.now in
    let k = the_view c.row.inside in
    let was = rw (c.unwrap-row.ensures, c.main.ensures) at c.get_mut.ensures.value in
    let same : c.unwrap-row.result.now ≡ k = let view = c.row.view_is in cc in
    let there : at rows (main c.args.node) ≡ Some k = cc (was, same) in
    let new = c.get_mut.follows.lender c.unwrap-row.result.now in
    let written : Changes rows new (main c.args.node) (Some k) = subst (λ (x : Progress). Changes rows new (main c.args.node) (Some x)) same
    (rw (c.unwrap-row.ensures, c.main.ensures) at (c.get_mut.follows.holds c.unwrap-row.result.now)) in
    record { rows = rows_stay rows new c.args.node k there written; ran = refl; count = inl refl }

pub returns-in-Ok-None-clause-computed : goal.returns-in-Ok-None-clause-computed
returns-in-Ok-None-clause-computed g c =
    let F = functions_of g.F.Functions c.args.functions.now in
    let f = c.args.f.now in
    let rows = c.args.rows.now in
    let kids = c.args.kids.now in
    let values = c.args.values.now.items in
    let k = the_view c.row.inside in
    let was = rw (c.unwrap-row.ensures, c.main.ensures) at c.get_mut.ensures.value in
    let same : c.unwrap-row.result.now ≡ k = let view = c.row.view_is in cc in
    let there : at rows (main c.args.node) ≡ Some k = cc (was, same) in
    let row = the_view (record {
      stage = c.row.inside.stage;
      settled = c.row.inside.settled;
      outcome = c.row.inside.outcome;
      last = c.call_fold_on.new.last;
      cutoff = c.row.inside.cutoff;
      frozen = c.row.inside.frozen;
    }) in
    let written = rw (c.unwrap-row.ensures, c.main.ensures) at (c.get_mut.follows.holds row) in
    let on : IsKnownOn (c.args.stale || c.args.forced) k.last values None = subst (λ x. IsKnownOn (c.args.stale || c.args.forced) k.last values x) c.in-Ok-None.field-0-is
    (subst (λ (vs : List Value). IsKnownOn (c.args.stale || c.args.forced) k.last vs c.in-Ok-None.field-0) c.as_slice.ensures c.in-Ok-None.ensures.known) in
    let made = c.call_fold_on in
    let old = noted rows c.args.ran.now.items (g.F.Functions.calls c.args.functions.now) in
    let new = noted (c.get_mut.follows.lender row) made.new.ran.items (g.F.Functions.calls made.new.functions) in
    let called = calls_written rows (c.get_mut.follows.lender row) c.args.node k there (folded (F.value f) c.args.initial.now) f.sig.gives made.new.last _ _ _ _ values _ made.result written
    made.ensures.made in
    ends_computes (folded (F.value f) c.args.initial.now) f.sig.gives c.args.stale c.args.round old c.args.node kids (length kids) c.requires.there new made.result
    (known_is c.args.round rows c.args.stale (c.args.stale || c.args.forced) c.args.node k kids values None there c.requires.shown (ap (λ (b : Bool). c.args.stale || b) c.requires.forced) on)
    (subst (λ (vs : List Value). Calls (folded (F.value f) c.args.initial.now) f.sig.gives old new c.args.node vs (length kids) made.result)
    (sym (filter_is_values rows kids values c.requires.shown))
    (subst (λ (n : ℕ). Calls (folded (F.value f) c.args.initial.now) f.sig.gives old new c.args.node values n made.result) (as_many rows kids values c.requires.shown) called))

pub returns-in-Ok-None-clause-wants : goal.returns-in-Ok-None-clause-wants
returns-in-Ok-None-clause-wants g c =
    let rows = c.args.rows.now in
    let kids = c.args.kids.now in
    let values = c.args.values.now.items in
    let k = the_view c.row.inside in
    let was = rw (c.unwrap-row.ensures, c.main.ensures) at c.get_mut.ensures.value in
    let same : c.unwrap-row.result.now ≡ k = let view = c.row.view_is in cc in
    let there : at rows (main c.args.node) ≡ Some k = cc (was, same) in
    let on : IsKnownOn (c.args.stale || c.args.forced) k.last values None = subst (λ x. IsKnownOn (c.args.stale || c.args.forced) k.last values x) c.in-Ok-None.field-0-is
    (subst (λ (vs : List Value). IsKnownOn (c.args.stale || c.args.forced) k.last vs c.in-Ok-None.field-0) c.as_slice.ensures c.in-Ok-None.ensures.known) in
    let known : IsKnown c.args.stale c.args.round rows c.args.node kids None = known_is c.args.round rows c.args.stale (c.args.stale || c.args.forced) c.args.node k kids values None there c.requires.shown (ap (λ (b : Bool). c.args.stale || b) c.requires.forced) on in
    lacks_as c.call_fold_on.result _ _
    (λ lacks. inr (
      to_call c.args.stale c.args.round rows c.args.node kids known,
      call_lacks c.args.round rows _ _ c.args.node c.args.f.now.sig.gives kids values c.requires.shown lacks,
    )) c.call_fold_on.ensures.wants
