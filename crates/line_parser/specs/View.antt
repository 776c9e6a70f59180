-- Times and literals as the model of scripts sees them.
use Rattle.std.specs.Prelude.{None}
use Rattle.script_model.specs.Grammar as grammar
use Rattle.script_model.specs.Grammar.{time_of}
use Rattle.script_model.specs.Literals as literals
use Rattle.line_parser.specs.declared.tree.Literal.TheVariants as literal
use Rattle.line_parser.specs.declared.tree.Literal.{Literal}
use Rattle.line_parser.specs.declared.tree.Time.TheVariants as time
use Rattle.line_parser.specs.declared.tree.Time.{Time}
use Rattle.line_parser.specs.declared.tree.TimedLiteral.{TimedLiteral}

-- a time; none where it is too large
abbrev pub time_view : Time → grammar.Time
time_view (time.Nanoseconds n) = time_of n
time_view time.TooLarge = None

abbrev pub literal_view : Literal → literals.Literal
literal_view (literal.Integer z) = literals.Integer z
literal_view (literal.Bool b) = literals.Bool b
literal_view (literal.Text content) = literals.Text content
literal_view (literal.Reference name) = literals.Referred name

abbrev pub timed_view : TimedLiteral → grammar.TimedLiteral
timed_view step = record { time = time_view step.time; literal = literal_view step.literal }
