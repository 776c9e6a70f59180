-- What a session says of a line.
use Rattle.std.specs.Prelude.{Bool, true, false}
use Rattle.session.specs.declared.answer.Did.{Did}
use Rattle.session.specs.declared.answer.Did.TheVariants.{Blank, Accepted, Refused}

-- whether a line was refused
abbrev pub is_refusal_said : Did → Bool
is_refusal_said Blank = false
is_refusal_said Accepted = false
is_refusal_said (Refused n) = true
