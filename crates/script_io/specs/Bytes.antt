-- What taking one byte of a source says, and what its reads are offered.
use Rattle.std.specs.Prelude.{◌≡◌, ℕ, ◌+◌, ◌<◌, List, [], ◌∷◌, length, replicate, Option, Result, Ok, Err}
use Rattle.std.specs.Io.KnownBytes.{prepend_known, Appends, Consumes, IsAtEnd}
use Rattle.script_io.specs.Lines.{Stream}
use Rattle.script_io.specs.declared.byte_reader.Stop.{Stop}
use Rattle.script_io.specs.declared.byte_reader.Stop.TheVariants.{End, Limit, ReadFault}

-- all bytes that are not yet taken, where the source tells them
abbrev pub stream_ahead : Stream → Option (List ℕ) → Option (List ℕ)
stream_ahead s left = prepend_known s.held left

-- why there is no next byte: nothing is left, or the limit is reached and another byte came, or a read failed where no byte was held
abbrev pub Stops : Stream → Option (List ℕ) → ℕ → Stop → Type 0
Stops new after limit End = (new.held ≡ []) × IsAtEnd (stream_ahead new after)
Stops new after limit Limit = (new.taken ≡ limit) × (0 < length new.held)
Stops new after limit ReadFault = new.held ≡ []

-- the next byte was taken, or none was
abbrev pub Gives : Stream → Stream → Option (List ℕ) → Option (List ℕ) → ℕ → Result ℕ Stop → Type 0
Gives old new before after limit (Ok b) = Consumes (stream_ahead old before) (stream_ahead new after) (b ∷ []) × (new.taken ≡ old.taken + 1)
Gives old new before after limit (Err stop) = Consumes (stream_ahead old before) (stream_ahead new after) [] × (new.taken ≡ old.taken) × Stops new after limit stop

-- the byte came off the front of those held, or nothing was taken of them
abbrev pub TakesHeld : Stream → Stream → Result ℕ Stop → Type 0
TakesHeld old new (Ok b) = old.held ≡ b ∷ new.held
TakesHeld old new (Err stop) = new.held ≡ old.held

-- each read, where the source notes them, was offered room for 4,096 bytes
abbrev pub AreOfferedWhole : Option (List ℕ) → Option (List ℕ) → Type 0
AreOfferedWhole before after = (reads : ℕ) × Appends before after (replicate reads 4096)
