use Rattle.std.proofs.Common.{sym, ap, option_map, ◌∙◌}
use Rattle.formula_lang.specs.CommandView.{command_view}
use Rattle.formula_lang.specs.Verdict.{reason_view}
use Rattle.line_parser.specs.TreeView.{line_view}
use Rattle.script_model.specs.Formula.{meanings_of}
use Rattle.formula_lang.proofs.Fitting.{check_fits, line_has_time}
use Rattle.formula_lang.proofs.Table.{comes_to, where_ok}
use Rattle.formula_lang.proofs.checking.check.Goals as goal

pub decided-requires : goal.decided-requires
decided-requires g c none missing =
    let F = meanings_of (g.L.Library.named c.args.library.now) (g.L.Library.value c.args.library.now) in
    comes_to F c.args.names.now (line_view c.args.line.now)
    (sym c.first_reason-against.ensures ∙ ap (option_map reason_view) none)
    (sym c.in_ok-command.ensures ∙ ap (option_map command_view) missing)

pub returns-clause-allowed : goal.returns-clause-allowed
returns-clause-allowed g c =
    where_ok c.decided.result _ _ c.decided.ensures.allowed (λ command e. (
      sym c.first_reason-against.ensures ∙ ap (option_map reason_view) e.1,
      sym c.in_ok-command.ensures ∙ ap (option_map command_view) e.0,
    ))

pub returns-clause-refused : goal.returns-clause-refused
returns-clause-refused g c n is =
    let why = c.decided.ensures.refused n is in
    (reason_view why.0, sym c.first_reason-against.ensures ∙ ap (option_map reason_view) why.1, why.2)

pub returns-clause-fits : goal.returns-clause-fits
returns-clause-fits g c =
    let F = meanings_of (g.L.Library.named c.args.library.now) (g.L.Library.value c.args.library.now) in
    where_ok c.decided.result _ _ c.decided.ensures.allowed (λ command e.
    check_fits F (g.L.Library.known c.args.library.now) c.args.names.now c.keeps_order.ensures
    (λ name f is. let maps = g.met.L.Library.names_maps c.args.library.now name f is in
    record { is_known = maps.0; kind = maps.1; signature = maps.2 })
    (line_view c.args.line.now) (command_view command) (line_has_time c.args.line.now)
    (sym c.first_reason-against.ensures ∙ ap (option_map reason_view) e.1)
    (sym c.in_ok-command.ensures ∙ ap (option_map command_view) e.0))
