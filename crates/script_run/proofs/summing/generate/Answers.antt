use Rattle.std.proofs.Common.{List, ℕ, ◌<◌, length, take, refl, sym, ap, subst}
use Rattle.std.specs.Io.KnownBytes.{Appends}
use Rattle.script_graph.specs.State.{Stands}
use Rattle.script_model.specs.Formula.{Meanings, meanings_of}
use Rattle.script_model.specs.Step.{first_moment}
use Rattle.script_run.specs.Summing.{all_written, cut_off, not_summed}
use Rattle.script_run.proofs.Generated.{five-not_four, tells, whole-not_four}
use Rattle.script_run.proofs.Steps.{faulted, no_fault}
use Rattle.script_run.proofs.summing.generate.Goals as goal

pub returns-in-Ok-write_whole : goal.returns-in-Ok-write_whole
returns-in-Ok-write_whole g c =
    let first = c.new-session.ensures.library in
    let same = ap (λ (x : g.row.L.Denot). meanings_of (g.L.Library.named x) (g.L.Library.value x)) first in
    let stands = subst (λ (f : Meanings). Stands f c.new-session.result.kept first_moment) (sym same) c.new-session.ensures.first in
    let whole = c.in-Ok-write_whole.ensures in
    let written = subst (λ (bytes : List ℕ). Appends (g.K.Sink.written c.args.out.now) (g.K.Sink.written c.write_whole.new.out) bytes) c.deref.ensures.value whole.ok in
    tells _ _ _ c.args.steps c.args.seed c.args.lib _ c.new-session.result.library c.sum_up-summed.new.session.library _ _ _ _ _
    first c.into_library-library.ensures c.sum_up-summed.ensures.library
    (all_written c.in-Ok.summary.items c.in-Ok.refused (c.in-Ok.ensures.summed stands) c.status_of.ensures written)
    (no_fault _ _ whole.cause.unfailed (whole-not_four c.in-Ok.refused _ c.status_of.ensures))

pub returns-in-Ok : goal.returns-in-Ok
returns-in-Ok g c =
    let first = c.new-session.ensures.library in
    let same = ap (λ (x : g.row.L.Denot). meanings_of (g.L.Library.named x) (g.L.Library.value x)) first in
    let stands = subst (λ (f : Meanings). Stands f c.new-session.result.kept first_moment) (sym same) c.new-session.ensures.first in
    let cut = subst (λ (bytes : List ℕ). (n : ℕ) × (n < length bytes) × Appends (g.K.Sink.written c.args.out.now) (g.K.Sink.written c.write_whole.new.out) (take n bytes))
    c.deref.ensures.value c.in-Err-write_whole.ensures.prefix in
    tells _ _ _ c.args.steps c.args.seed c.args.lib _ c.new-session.result.library c.sum_up-summed.new.session.library _ _ _ _ _
    first c.into_library-library.ensures c.sum_up-summed.ensures.library
    (cut_off c.in-Ok.summary.items c.in-Ok.refused cut.0 (c.in-Ok.ensures.summed stands) refl cut.1 cut.2)
    (faulted _ _ c.write_whole.ensures.cause.later c.in-Err-write_whole.ensures.cause.failed refl)

pub returns : goal.returns
returns g c =
    let first = c.new-session.ensures.library in
    let same = ap (λ (x : g.row.L.Denot). meanings_of (g.L.Library.named x) (g.L.Library.value x)) first in
    let stands = subst (λ (f : Meanings). Stands f c.new-session.result.kept first_moment) (sym same) c.new-session.ensures.first in
    tells _ _ _ c.args.steps c.args.seed c.args.lib _ c.new-session.result.library c.sum_up-summed.new.session.library _ _ _ _ _
    first c.into_library-library.ensures c.sum_up-summed.ensures.library
    (not_summed (c.in-Err.ensures.none stands) refl refl)
    (no_fault _ _ refl (five-not_four _ refl))
