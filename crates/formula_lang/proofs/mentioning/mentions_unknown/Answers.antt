use Rattle.line_parser.specs.TreeView.{tree_view}
use Rattle.formula_lang.specs.Rows.{is_unknown}
use Rattle.formula_lang.proofs.Within.{reads_within}
use Rattle.formula_lang.proofs.mentioning.mentions_unknown.Goals as goal

pub returns-in-Let : goal.returns-in-Let
returns-in-Let c =
    rw (c.in-Let.is, reads_within (is_unknown c.args.names.now) c.in-Let.name (tree_view c.in-Let.formula)) c.has_unknown_name.ensures
