use Rattle.std.proofs.Common.{rules, ◌≡◌, Some, FitsSigned, to_z, of_z, w64, arith, sym, subst}
use Rattle.std.proofs.lemmas.Int.{ints}
use Rattle.inc_terms.specs.Clock.{clock_value}
use Rattle.inc_terms.specs.Code.{def_of}
use Rattle.node_outcomes.proofs.Lacking.{clock_shows, text_by}
use Rattle.node_outcomes.proofs.outcome.by_clock.Goals as goal

pub returns-in-Err-clause-lacks : goal.returns-in-Err-clause-lacks
returns-in-Err-clause-lacks c =
    let w = clock_shows c.args.time (def_of c.args.def.now) c.requires.reads in
    let fits : FitsSigned w64 c.args.time = search rules in
    let same : to_z w64 (of_z w64 c.args.time) ≡ c.args.time = omega (arith, ints, fits) in
    let shows = subst (λ t. clock_value t (def_of c.args.def.now) ≡ Some w.0) (sym same) w.1 in
    (w.0, w.1, text_by w.0 (λ not. let ok = c.in-Err.ensures.scalar w.0 shows not in cc))
