-- The lines of bytes, and what a reader of lines takes.
use Rattle.std.specs.Prelude.{◌≡◌, ◌≢◌, ◌⊎◌, ℕ, ◌+◌, ◌<◌, ◌≤◌, ◌==◌, Bool, true, false, List, [], ◌∷◌, ◌++◌, length, Option}
use Rattle.std.specs.List.{Contains}
use Rattle.std.specs.Io.KnownBytes.{prepend_known, Consumes, IsAtEnd}
use Rattle.script_io.specs.declared.line_reader.Got.{Got}
use Rattle.script_io.specs.declared.line_reader.Got.TheVariants.{Line, TooLong, End, Limit, ReadFault}

-- bytes with no newline among them
abbrev pub HasNoNewline : List ℕ → Type 0
HasNoNewline [] = Unit {0}
HasNoNewline (b ∷ bytes) = (b ≢ 10) × HasNoNewline bytes

-- a byte before the lines of what follows: a newline begins a line, and any other byte goes onto the first one
abbrev pub after_byte : Bool → ℕ → List (List ℕ) → List (List ℕ)
after_byte true b lines = [] ∷ lines
after_byte false b [] = (b ∷ []) ∷ []
after_byte false b (line ∷ lines) = (b ∷ line) ∷ lines

-- the lines of bytes; what stands after the last newline is a line where it isn't empty
abbrev pub lines_of : List ℕ → List (List ℕ)
lines_of [] = []
lines_of (b ∷ bytes) = after_byte (b == 10) b (lines_of bytes)

-- a line that ends at a newline stands before the lines of the rest
abbrev pub LinesEndAtNewlines : Type 0
LinesEndAtNewlines = (line rest : List ℕ) → HasNoNewline line → lines_of (line ++ 10 ∷ rest) ≡ line ∷ lines_of rest

-- bytes without a newline are one line where there are any
abbrev pub LastLineEndsAtEnd : Type 0
LastLineEndsAtEnd = (line : List ℕ) → HasNoNewline line → 0 < length line → lines_of line ≡ line ∷ []

-- the bytes read and not yet taken, and how many were taken so far
pub record Stream : Type 0 where
  pub held : List ℕ
  pub taken : ℕ

-- a reader of lines: the bytes read and not yet taken, the last line, how many bytes were taken so far, and whether it must not be asked again
pub record Reader : Type 0 where
  pub held : List ℕ
  pub line : List ℕ
  pub taken : ℕ
  pub ended : Bool

-- a reader that has read nothing
abbrev pub fresh : Reader
fresh = record { held = []; line = []; taken = 0; ended = false }

-- all bytes that are not yet taken, where the source tells them
abbrev pub ahead : Reader → Option (List ℕ) → Option (List ℕ)
ahead r left = prepend_known r.held left

-- the part taken is the line with its newline, or at the end of the input the line alone, of at least one byte
abbrev pub EndsLine : List ℕ → List ℕ → Option (List ℕ) → Type 0
EndsLine line part rest = (part ≡ line ++ 10 ∷ []) ⊎ ((part ≡ line) × (0 < length part) × IsAtEnd rest)

-- the part taken is the reader's line, of at most 4,096 bytes
pub record IsLine (new : Reader) (rest : Option (List ℕ)) (part : List ℕ) : Type 0 where
  pub clear : HasNoNewline new.line
  pub short : length new.line ≤ 4096
  pub ends : EndsLine new.line part rest

-- the part taken is a line of more than 4,096 bytes
pub record IsLongLine (rest : Option (List ℕ)) (part : List ℕ) : Type 0 where
  pub long : List ℕ
  pub clear : HasNoNewline long
  pub exceeds : 4096 < length long
  pub ends : EndsLine long part rest

-- nothing was taken, and nothing is left
pub record IsEnd (new : Reader) (rest : Option (List ℕ)) (part : List ℕ) : Type 0 where
  pub none : part ≡ []
  pub held : new.held ≡ []
  pub at_end : IsAtEnd rest

-- the part taken is a piece of a line, the limit is reached, and another byte came
pub record IsLimit (new : Reader) (limit : ℕ) (part : List ℕ) : Type 0 where
  pub clear : HasNoNewline part
  pub reached : new.taken ≡ limit
  pub more : 0 < length new.held

-- the part taken is a piece of a line, and a read failed where no byte was held
pub record IsFault (new : Reader) (part : List ℕ) : Type 0 where
  pub clear : HasNoNewline part
  pub held : new.held ≡ []

-- what an answer says of the part that was taken, and of the rest
abbrev pub Means : Reader → Option (List ℕ) → ℕ → List ℕ → Got → Type 0
Means new rest limit part Line = IsLine new rest part
Means new rest limit part TooLong = IsLongLine rest part
Means new rest limit part End = IsEnd new rest part
Means new rest limit part Limit = IsLimit new limit part
Means new rest limit part ReadFault = IsFault new part

-- what is held tells the answer: a newline is held, or more bytes than may be taken
abbrev pub HoldsEnough : Reader → ℕ → Type 0
HoldsEnough r limit = Contains r.held 10 ⊎ (limit < r.taken + length r.held)

-- a call took this part of the bytes ahead, and its answer means what it says; where enough was held, the part came off what was held
pub record Takes (old new : Reader) (before after : Option (List ℕ)) (limit : ℕ) (got : Got) (part : List ℕ) : Type 0 where
  pub bytes : Consumes (ahead old before) (ahead new after) part
  pub count : new.taken ≡ old.taken + length part
  pub meaning : Means new (ahead new after) limit part got
  pub from_held : HoldsEnough old limit → old.held ≡ part ++ new.held

-- whether the reader must not be asked again after this answer
abbrev pub is_last : Got → Bool
is_last Line = false
is_last TooLong = false
is_last End = true
is_last Limit = true
is_last ReadFault = true
