-- The words of the command line, and the usage line.
use Rattle.std.specs.Prelude.{◌≡◌, ◌<◌, ◌⊎◌, ℕ, List, [], ◌∷◌, codes, length, take, Option}
use Rattle.std.specs.Io.KnownBytes.{Appends}
use Rattle.script_io.specs.Endings.{IsStatus}
use Rattle.script_io.specs.declared.command_line.Asked.{Asked}
use Rattle.script_io.specs.declared.command_line.Asked.TheVariants.{Run, Nothing}

-- the words are the program's name and `run`
abbrev pub IsRunWords : List (List ℕ) → Type 0
IsRunWords words = (program : List ℕ) × (words ≡ program ∷ codes "run" ∷ [])

-- the words ask for this
abbrev pub AsksFor : List (List ℕ) → Asked → Type 0
AsksFor words Run = IsRunWords words
AsksFor words Nothing = IsRunWords words → ⊥

-- a front of the usage line was written, but not all of it
pub record IsUsageCut (usage : List ℕ) (before after : Option (List ℕ)) : Type 0 where
  pub count : ℕ
  pub short : count < length usage
  pub appended : Appends before after (take count usage)

-- the usage line was written, or to a sink that failed a front of it, but not all of it
abbrev pub TellsUsage : List ℕ → ℕ → Option (List ℕ) → Option (List ℕ) → Type 0
TellsUsage usage status before after = ((status ≡ 2) × Appends before after usage) ⊎ ((status ≡ 4) × IsUsageCut usage before after)

-- the status is that of an ending, or 2
abbrev pub IsTopStatus : ℕ → Type 0
IsTopStatus n = IsStatus n ⊎ (n ≡ 2)
