use Rattle.std.proofs.Common.{◌≤◌, inl, inr, refl, sym, ap, subst, Vec, Global}
use Rattle.std.specs.Prelude.{vec_capacity}
use Rattle.inc_value.specs.declared.node.NodeId.{NodeId}
use Rattle.node_arena.proofs.RightSides.{fit_lists_given}
use Rattle.node_outcomes.specs.Meaning.{functions_of}
use Rattle.wiring.specs.declared.work.Work.{Work}
use Rattle.stabilizer.specs.Kept.{counts_by}
use Rattle.stabilizer.proofs.Step.MeaningKept.{meaning_kept}
use Rattle.stabilizer.proofs.Step.Mains.{main_settled, main_left, main_kept, uncomputed_kept, types_kept, main_lives, only_noted, one_tally}
use Rattle.stabilizer.proofs.stabilizer.step_main.Goals as goal

pub compute-computed-requires-clause-types : goal.compute-computed-requires-clause-types
compute-computed-requires-clause-types g c = types_kept c.args.parts.now.arena c.args.parts.now.work c.requires.may.kept.work

pub compute-computed-requires-clause-experts : goal.compute-computed-requires-clause-experts
compute-computed-requires-clause-experts g c = c.requires.may.kept.work.experts

pub compute-computed-requires-clause-live : goal.compute-computed-requires-clause-live
compute-computed-requires-clause-live g c = main_lives c.args.parts.now.arena c.args.parts.now.work c.args.node c.requires.may.kept.work c.requires.row

pub compute-computed-requires-clause-fit : goal.compute-computed-requires-clause-fit
compute-computed-requires-clause-fit g c = fit_lists_given (g.F.Functions.known c.args.functions.now) (g.F.Functions.right c.args.functions.now) c.args.parts.now.arena c.requires.may.fit.all

pub returns-in-Err : goal.returns-in-Err
returns-in-Err g c =
    let K = g.F.Functions in
    let old = c.args.parts.now.work in
    let mid : Work = record old { rows = c.compute-computed.new.rows; experts = c.compute-computed.new.experts; ran = c.compute-computed.new.ran } in
    let noted = only_noted old c.compute-computed.new.rows c.compute-computed.new.experts c.compute-computed.new.ran in
    record {
      settled = tt;
      refused = main_left c.args.parts.now.arena old mid c.args.node (counts_by K c.args.functions.now) (counts_by K c.compute-computed.new.functions)
          noted c.in-Err.ensures.experts c.in-Err.ensures.computed (one_tally _ _ _ _ c.compute-computed.ensures.functions.tally);
      memory = refl;
      rest = refl;
      kept = record {
        work = uncomputed_kept c.args.parts.now.arena old mid c.args.node (K.calls c.args.functions.now) (K.calls c.compute-computed.new.functions)
            c.requires.may.kept.work noted c.in-Err.ensures.experts c.in-Err.ensures.computed c.compute-computed.ensures.room;
        scopes = c.requires.may.kept.scopes;
        dying = c.requires.may.kept.dying;
        clock = c.requires.may.kept.clock;
        listing = c.requires.may.kept.listing;
      };
      functions = meaning_kept K c.args.functions.now c.compute-computed.new.functions c.compute-computed.ensures.functions;
      wants = elim c.in-Err.ensures.wants [ inl same ↦ inl same.0 | inr rose ↦ inr (refl, rose) ];
      lacks = elim c.in-Err.ensures.wants [ inl lacking ↦ inr lacking.1 | inr rose ↦ inl rose ];
      flat = λ none. refl;
    }

pub returns-in-Ok : goal.returns-in-Ok
returns-in-Ok g c =
    let K = g.F.Functions in
    let before = counts_by K c.args.functions.now in
    let after = counts_by K c.compute-computed.new.functions in
    let old = c.args.parts.now.work in
    let mid : Work = record old { rows = c.compute-computed.new.rows; experts = c.compute-computed.new.experts; ran = c.compute-computed.new.ran } in
    let noted = only_noted old c.compute-computed.new.rows c.compute-computed.new.experts c.compute-computed.new.ran in
    let marks = c.in-Ok.ensures.experts in
    let computed = c.in-Ok.ensures.computed in
    let tally = one_tally _ _ _ _ c.compute-computed.ensures.functions.tally in
    let s = c.settle.ensures in
    let room = subst (λ (v : Vec NodeId Global). vec_capacity old.ran ≤ vec_capacity v) (sym (ap (λ (w : Work). w.ran) s.rest)) c.compute-computed.ensures.room in
    record {
      settled = main_settled (functions_of K c.args.functions.now) c.args.parts.now.arena old mid c.settle.new.self c.args.node c.main.result c.main.ensures
          c.in-Ok.outcome before after c.requires.may.kept.work c.requires.taken noted marks computed tally s.row s.graph s.told s.round s.todo
          room;
      refused = tt;
      memory = tt;
      lacks = tt;
      rest = refl;
      kept = record {
        work = main_kept (functions_of K c.args.functions.now) c.args.parts.now.arena old mid c.settle.new.self c.args.node c.main.result c.main.ensures
            c.in-Ok.outcome before after c.requires.may.kept.work c.requires.taken noted marks computed tally s.row s.graph s.told s.round s.todo room s.step
            s.rest;
        scopes = c.requires.may.kept.scopes;
        dying = c.requires.may.kept.dying;
        clock = c.requires.may.kept.clock;
        listing = c.requires.may.kept.listing;
      };
      functions = meaning_kept K c.args.functions.now c.compute-computed.new.functions c.compute-computed.ensures.functions;
      wants = c.in-Ok.ensures.wants;
      flat = λ none. refl;
    }
