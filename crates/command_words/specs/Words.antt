-- What the words of the command line ask for, by clap's own definitions.
use Rattle.std.specs.Prelude.{◌≡◌, ◌⊎◌, ◌≤◌, ℕ, List, [], Option, None, Some, codes}
use Rattle.std.specs.Str.Parse.{digits_value, without_leading_plus}
use Rattle.clap.specs.Words.{IsUnsignedIn, Row, Text, fault_of, one_of, subcommand_of}
use Rattle.command_words.specs.declared.asked.Asked.{Asked}
use Rattle.command_words.specs.declared.asked.Asked.TheVariants as asked
use Rattle.command_words.specs.Command.{incr}

-- the command takes the words
abbrev pub AreTaken : List Text → Type 0
AreTaken words = fault_of incr words ≡ []

-- a number that a subcommand was given
pub record IsNumber (rows : List Row) (name : Text) (least most number : ℕ) : Type 0 where
  pub text : Text
  pub given : one_of name rows ≡ Some text
  pub is : number ≡ digits_value 10 (without_leading_plus text)
  pub low : least ≤ number
  pub high : number ≤ most

-- a subcommand was given a number, as a text that its argument takes
pub record GivesNumber (rows : List Row) (name : Text) (least most : ℕ) : Type 0 where
  pub text : Text
  pub given : one_of name rows ≡ Some text
  pub taken : IsUnsignedIn least most text

-- one of the two subcommands was met, and given all that it asks for
abbrev pub IsWhole : Option (Text × List Row) → Type 0
IsWhole None = ⊥
IsWhole (Some met) = (met.0 ≡ codes "run")
    ⊎ ((met.0 ≡ codes "gen") × GivesNumber met.1 (codes "STEPS") 1 20000 × GivesNumber met.1 (codes "SEED") 0 2147483647)

-- what a subcommand with what it was given asks for
abbrev pub Means : Text → List Row → Asked → Type 0
Means name rows asked.Run = name ≡ codes "run"
Means name rows (asked.Generate steps seed) = (name ≡ codes "gen") × IsNumber rows (codes "STEPS") 1 20000 steps × IsNumber rows (codes "SEED") 0 2147483647 seed
Means name rows asked.Nothing = ⊥

abbrev pub AsksIn : Option (Text × List Row) → Asked → Type 0
AsksIn None asked = ⊥
AsksIn (Some met) asked = Means met.0 met.1 asked

-- the words ask for this: for nothing exactly where the command doesn't take them
abbrev pub AsksFor : List Text → Asked → Type 0
AsksFor words asked.Nothing = AreTaken words → ⊥
AsksFor words asked = AreTaken words × AsksIn (subcommand_of incr words) asked
