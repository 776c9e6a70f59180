-- What is looked for in formulas, to find the reasons against a line that are of times, spans and forms of the top.
use Rattle.std.specs.Prelude.{Bool, true, false, not, is_none, nat_eq, nat_lt, unwrap_or, List, [], ◌∷◌, map, None, Some}
use Rattle.std.specs.List.{list_any}
use Rattle.script_model.specs.Check.{times_rise}
use Rattle.script_model.specs.Grammar.{Time, TimedLiteral, Tree, At, Steps, Freeze, After, Every}
use Rattle.line_times.specs.declared.search.Sought.{Sought}
use Rattle.line_times.specs.declared.search.Sought.TheVariants as sought

-- the time of one of the steps is too large
abbrev pub has_large_time : List TimedLiteral → Bool
has_large_time steps = list_any is_none (map (λ (s : TimedLiteral). s.time) steps)

-- the first of the steps, if there is one, comes after the time
abbrev pub rises_to : Time → List TimedLiteral → Bool
rises_to time [] = true
rises_to time (s ∷ steps) = nat_lt (unwrap_or time 0) (unwrap_or s.time 0)

-- a span of 0
abbrev pub is_zero : Time → Bool
is_zero None = false
is_zero (Some span) = nat_eq span 0

-- an `at`, a `steps`, an `after`, an `every` and a freeze are what is sought
abbrev pub at_has : Sought → Time → Bool
at_has sought.LargeTime time = is_none time
at_has s time = false

abbrev pub steps_have : Sought → List TimedLiteral → Bool
steps_have sought.LargeTime steps = has_large_time steps
steps_have sought.FallingTimes steps = not (times_rise steps)
steps_have s steps = false

abbrev pub after_has : Sought → Time → Bool
after_has sought.TopForm span = true
after_has sought.LargeTime span = is_none span
after_has s span = false

abbrev pub every_has : Sought → Time → Bool
every_has sought.TopForm span = true
every_has sought.LargeTime span = is_none span
every_has sought.EmptySpan span = is_zero span
every_has s span = false

abbrev pub freeze_has : Sought → Bool
freeze_has sought.TopForm = true
freeze_has s = false

-- a formula is itself what is sought
abbrev pub is_sought : Sought → Tree → Bool
is_sought s (At time) = at_has s time
is_sought s (Steps first steps) = steps_have s steps
is_sought s (After span) = after_has s span
is_sought s (Every span) = every_has s span
is_sought s (Freeze child predicate) = freeze_has s
is_sought s tree = false
