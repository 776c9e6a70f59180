-- The lines that were read of the bytes of a source.
use Rattle.std.specs.Prelude.{◌≡◌, ◌⊎◌, ℕ, ◌<◌, ◌≤◌, List, [], ◌∷◌, ◌++◌, length, Option, Some}
use Rattle.std.specs.Io.KnownBytes.{IsAtEnd}
use Rattle.std.specs.List.{flat_map}
use Rattle.script_io.specs.Lines.{HasNoNewline, Reader, lines_of}

-- a line with the newline that ends it
abbrev pub with_newline : List ℕ → List ℕ
with_newline line = line ++ 10 ∷ []

-- the lines are the first ones of the bytes and take the front of them, each with its newline; the last line of all may end without one
pub record TakeFront (bytes : List ℕ) (lines : List (List ℕ)) (front rest : List ℕ) : Type 0 where
  pub split : bytes ≡ front ++ rest
  pub first : lines_of bytes ≡ lines ++ lines_of rest
  pub whole : (front ≡ flat_map with_newline lines) ⊎ (rest ≡ [])

-- the lines so far take the front of the bytes, within the limit; of what follows the reader holds at most 4,096 bytes, and the source has the rest left
pub record ReadSoFar (limit : ℕ) (bytes : List ℕ) (reader : Reader) (left : Option (List ℕ)) (lines : List (List ℕ)) : Type 0 where
  pub front : List ℕ
  pub rest : List ℕ
  pub is_left : left ≡ Some rest
  pub count : reader.taken ≡ length front
  pub first : TakeFront bytes lines front (reader.held ++ rest)
  pub within : length front ≤ limit
  pub few : length reader.held ≤ 4096

-- the lines are the first ones of the bytes, within the limit; behind them at most 4,096 bytes were read, and the source has the rest left
pub record AreFirst (limit : ℕ) (bytes : List ℕ) (left : Option (List ℕ)) (lines : List (List ℕ)) : Type 0 where
  pub front : List ℕ
  pub held : List ℕ
  pub rest : List ℕ
  pub is_left : left ≡ Some rest
  pub taken : TakeFront bytes lines front (held ++ rest)
  pub within : length front ≤ limit
  pub few : length held ≤ 4096

-- behind the lines a part of another line was taken, within the limit; at most 4,096 bytes more were read, and the source has the rest left
pub record Break (limit : ℕ) (bytes : List ℕ) (left : Option (List ℕ)) (lines : List (List ℕ)) : Type 0 where
  pub front : List ℕ
  pub part : List ℕ
  pub held : List ℕ
  pub rest : List ℕ
  pub is_left : left ≡ Some rest
  pub taken : TakeFront bytes lines front (part ++ (held ++ rest))
  pub clear : HasNoNewline part
  pub within : length (front ++ part) ≤ limit
  pub few : length held ≤ 4096

-- every byte that the source gave was taken, and the source has left the rest
pub record BreakAtFault (limit : ℕ) (bytes : List ℕ) (left : Option (List ℕ)) (lines : List (List ℕ)) : Type 0 where
  pub break : Break limit bytes left lines
  pub none_held : break.held ≡ []

-- as many bytes were taken as may be, and another one came
pub record BreakAt (limit : ℕ) (bytes : List ℕ) (left : Option (List ℕ)) (lines : List (List ℕ)) : Type 0 where
  pub break : Break limit bytes left lines
  pub reached : length (break.front ++ break.part) ≡ limit
  pub more : 0 < length break.held

-- all bytes were read, and these are their lines
pub record AreAll (limit : ℕ) (bytes : List ℕ) (left : Option (List ℕ)) (lines : List (List ℕ)) : Type 0 where
  pub all : lines ≡ lines_of bytes
  pub at_end : IsAtEnd left
  pub within : length bytes ≤ limit
