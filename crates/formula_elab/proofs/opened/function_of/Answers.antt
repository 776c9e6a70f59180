use Rattle.std.proofs.Common.{ap, ◌∙◌}
use Rattle.formula_elab.specs.Make.{function_made}
use Rattle.formula_elab.proofs.MadeAs.{read_function}
use Rattle.formula_elab.proofs.opened.function_of.Goals as goal

pub function-requires : goal.function-requires
function-requires c =
    let h = c.requires.earlier in
    (read_function h.0 c.args.made.now h.2 h.3 c.args.number c.index-made-number.result c.index-made-number.is h.1).0

pub returns : goal.returns
returns c =
    let h = c.requires.earlier in
    c.function.ensures
    ∙ ap function_made (read_function h.0 c.args.made.now h.2 h.3 c.args.number c.index-made-number.result c.index-made-number.is h.1).1
