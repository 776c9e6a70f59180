-- Commands of one name or of two, by their names.
use Rattle.std.specs.Prelude.{ℕ, List}
use Rattle.script_model.specs.Grammar as grammar
use Rattle.line_parser.specs.declared.parser.names.OneName.TheVariants as one
use Rattle.line_parser.specs.declared.parser.names.OneName.{OneName}
use Rattle.line_parser.specs.declared.parser.names.TwoNames.TheVariants as two
use Rattle.line_parser.specs.declared.parser.names.TwoNames.{TwoNames}

-- the command of the name
abbrev pub of_one_name : OneName → List ℕ → grammar.Line
of_one_name one.Stale = grammar.Stale
of_one_name one.Unobserve = grammar.Unobserve
of_one_name one.Watch = grammar.Watch
of_one_name one.Show = grammar.Show

-- the command of the names
abbrev pub of_two_names : TwoNames → List ℕ → List ℕ → grammar.Line
of_two_names two.Link = grammar.Link
of_two_names two.Unlink = grammar.Unlink
of_two_names two.Grab = grammar.Grab
of_two_names two.Observe = grammar.Observe
