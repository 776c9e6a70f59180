-- What is read of the words.
use Rattle.std.proofs.Common.{◌≡◌, ℕ, List, [], ◌∷◌, Option, None, Some, Result, Ok, Err, map, refl, sym, ◌∙◌, ap, subst}
use Rattle.std.specs.Str.Parse.{ParsesUnsigned, digits_value, without_leading_plus}
use Rattle.clap.specs.Words.{IsUnsignedIn, ReadsOne, Row, Text, one_of, rows_of, subcommand_of}
use Rattle.clap.specs.declared.parser.matches.Found.{Found}
use Rattle.command_words.specs.Command.{incr}
use Rattle.command_words.specs.Words.{AreTaken, AsksFor, AsksIn}
use Rattle.command_words.specs.declared.asked.Asked.{Asked}
use Rattle.command_words.specs.declared.asked.Asked.TheVariants as asked

-- the words behind references
pub map-same : (words : List Text) → map (λ (w : Text). w) words ≡ words
map-same [] = refl
map-same (w ∷ words) = ap (λ (ws : List Text). w ∷ ws) (map-same words)

-- a number that was given is read
pub number_read : {E : Type 0} (G : List ℕ → Result ℕ E → Type 0) (t : List ℕ) (least most : ℕ) (r : Option ℕ)
    → ((u : List ℕ) (x : Result ℕ E) → G u x → ParsesUnsigned 64 10 u x) → IsUnsignedIn least most t → ReadsOne G t r
    → r ≡ Some (digits_value 10 (without_leading_plus t))
number_read {E} G t least most None parses taken read = absurd (parses t (Err read.0) read.1 (taken.0, taken.1))
number_read {E} G t least most (Some n) parses taken read = ap (λ (x : ℕ). Some x) (parses t (Ok n) read).1

-- what was given is what was read
pub number_is : (f : Found) (name text given : Text) (n : ℕ) → one_of name (rows_of f) ≡ Some text → one_of name (rows_of f) ≡ Some given
    → Some n ≡ Some (digits_value 10 (without_leading_plus given)) → n ≡ digits_value 10 (without_leading_plus text)
number_is f name text given n here there read =
    let same : text ≡ given = let both = sym here ∙ there in cc in
    let number : n ≡ digits_value 10 (without_leading_plus given) = cc in
    number ∙ ap (λ (t : Text). digits_value 10 (without_leading_plus t)) (sym same)

-- no subcommand asks for nothing
asks_some : (o : Option (Text × List Row)) → AsksIn o asked.Nothing → ⊥
asks_some None h = h
asks_some (Some met) h = h

-- what a subcommand of words that are taken asks for, the words ask for
pub asks_for : (words : List Text) (o : Option (Text × List Row)) → AreTaken words → o ≡ subcommand_of incr words → (a : Asked) → AsksIn o a → AsksFor words a
asks_for words o taken met asked.Run h = (taken, subst (λ (x : Option (Text × List Row)). AsksIn x asked.Run) met h)
asks_for words o taken met (asked.Generate steps seed) h = (taken, subst (λ (x : Option (Text × List Row)). AsksIn x (asked.Generate steps seed)) met h)
asks_for words o taken met asked.Nothing h = absurd (asks_some o h)
