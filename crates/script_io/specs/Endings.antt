-- How runs end: their statuses, and what was read of the bytes of the source.
use Rattle.std.specs.Prelude.{◌≡◌, ℕ, List, Option}
use Rattle.script_io.specs.Reading.{AreAll, AreFirst, BreakAtFault, BreakAt}
use Rattle.script_io.specs.declared.ending.Ending.{Ending}
use Rattle.script_io.specs.declared.ending.Ending.TheVariants.{Accepted, Refused, ReadFault, WriteFault, Memory, Limit}

-- the status of an ending
abbrev pub number_of : Ending → ℕ
number_of Accepted = 0
number_of Refused = 1
number_of ReadFault = 3
number_of WriteFault = 4
number_of Memory = 5
number_of Limit = 6

-- the status is that of an ending
abbrev pub IsStatus : ℕ → Type 0
IsStatus n = (ending : Ending) × (n ≡ number_of ending)

-- the lines that were read of the bytes, by how the run ended; where no memory was found, with the line that found none, if there was one
abbrev pub Reads : Ending → ℕ → List ℕ → Option (List ℕ) → List (List ℕ) → Type 0
Reads Accepted limit bytes left lines = AreAll limit bytes left lines
Reads Refused limit bytes left lines = AreAll limit bytes left lines
Reads ReadFault limit bytes left lines = BreakAtFault limit bytes left lines
Reads WriteFault limit bytes left lines = AreFirst limit bytes left lines
Reads Memory limit bytes left lines = AreFirst limit bytes left lines
Reads Limit limit bytes left lines = BreakAt limit bytes left lines
