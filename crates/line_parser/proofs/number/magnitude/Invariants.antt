use Rattle.std.proofs.Common.{◌≡◌, ◌<◌, ◌^◌, drop}
use Rattle.script_model.specs.Language.{number_from}
use Rattle.line_parser.proofs.number.magnitude.Given as goal

abbrev pub invariant-loop-digit : goal.invariant-loop-digit
invariant-loop-digit l = record { so_far : number_from l.number (drop l.digit-index l.digits) ≡ number_from 0 l.digits; fits : l.number < 2 ^ 64 }
