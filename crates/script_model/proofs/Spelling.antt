-- What a line asks for, from its tokens read one by one.
use Rattle.std.proofs.Common.{◌≡◌, ◌≢◌, ℕ, zero, suc, ◌≤◌, Bool, true, false, cond, eqb, List, [], ◌∷◌, ◌++◌, length, Option, None, Some, option_map, refl, append_assoc, append-nil, arith}
use Rattle.std.proofs.lemmas.Bool.{eqb-true, eqb-false}
use Rattle.inc_value.specs.Choice.{and_then}
use Rattle.script_model.specs.Reading.{first_token}
use Rattle.script_model.specs.Tokens.{Token, AreSpelled}
use Rattle.script_model.proofs.TokenLaws.{IsReadTo, read_start, read_space, read_token, first_token_shorter, read_end, read_none}

-- the tokens of the bytes, of which at most n are read one by one; none where they are no tokens
abbrev pub tokens_within : ℕ → List ℕ → Option (List Token)
tokens_within n [] = Some []
tokens_within zero (b ∷ bytes) = None
tokens_within (suc n) (b ∷ bytes) =
    cond (eqb b 32) (tokens_within n bytes) (and_then (first_token (b ∷ bytes)) (λ p. option_map (λ ts. p.0 ∷ ts) (tokens_within n p.1)))

abbrev pub ReadsAs : List ℕ → List Token → Option (List Token) → Type 0
ReadsAs line found None = (ts : List Token) → AreSpelled ts line → ⊥
ReadsAs line found (Some ts) = AreSpelled (found ++ ts) line

-- with a token more
with_token : (line : List ℕ) (found : List Token) (t : Token) (r : Option (List Token)) → ReadsAs line (found ++ t ∷ []) r → ReadsAs line found (option_map (λ ts. t ∷ ts) r)
with_token line found t None h = h
with_token line found t (Some ts) h = rw (append_assoc found (t ∷ []) ts) at h

-- by its first token, where no space stands at the front, with what follows behind it
token_next : (n : ℕ) (line : List ℕ) (found : List Token) (b : ℕ) (bytes : List ℕ) → b ≢ 32 → IsReadTo line found (b ∷ bytes)
    → ((t : Token) (left : List ℕ) → first_token (b ∷ bytes) ≡ Some (t, left) → ReadsAs line (found ++ t ∷ []) (tokens_within n left))
    → (first : Option (Token × List ℕ)) → first_token (b ∷ bytes) ≡ first → ReadsAs line found (and_then first (λ p. option_map (λ ts. p.0 ∷ ts) (tokens_within n p.1)))
token_next n line found b bytes no_space h others None is = read_none line found (b ∷ bytes) (omega arith) no_space is h
token_next n line found b bytes no_space h others (Some p) is = with_token line found p.0 (tokens_within n p.1) (others p.0 p.1 is)

space_or_token : (n : ℕ) (line : List ℕ) (found : List Token) (b : ℕ) (bytes : List ℕ) → IsReadTo line found (b ∷ bytes)
    → (b ≡ 32 → ReadsAs line found (tokens_within n bytes))
    → (b ≢ 32 → (t : Token) (left : List ℕ) → first_token (b ∷ bytes) ≡ Some (t, left) → ReadsAs line (found ++ t ∷ []) (tokens_within n left))
    → (space : Bool) → eqb b 32 ≡ space
    → ReadsAs line found (cond space (tokens_within n bytes) (and_then (first_token (b ∷ bytes)) (λ p. option_map (λ ts. p.0 ∷ ts) (tokens_within n p.1))))
space_or_token n line found b bytes h behind others true is = behind (eqb-true b 32 is)
space_or_token n line found b bytes h behind others false is =
    let no_space = eqb-false b 32 is in token_next n line found b bytes no_space h (others no_space) (first_token (b ∷ bytes)) refl

pub reads_on : (n : ℕ) (line : List ℕ) (found : List Token) (rest : List ℕ) → length rest ≤ n → IsReadTo line found rest → ReadsAs line found (tokens_within n rest)
reads_on zero line found [] few h = rw append-nil (read_end line found [] (omega arith) h)
reads_on (suc n) line found [] few h = rw append-nil (read_end line found [] (omega arith) h)
reads_on zero line found (b ∷ bytes) few h = absurd (omega arith)
reads_on (suc n) line found (b ∷ bytes) few h =
    space_or_token n line found b bytes h
    (λ space. reads_on n line found bytes (omega arith) (read_space line found (b ∷ bytes) (omega arith) space h))
    (λ no_space t left is. reads_on n line (found ++ t ∷ []) left (omega (arith, first_token_shorter (b ∷ bytes) t left is)) (read_token line found (b ∷ bytes) t left (omega arith) no_space is h))
    (eqb b 32) refl

-- the tokens that are read are those of the bytes
pub spelled : (content : List ℕ) (ts : List Token) → tokens_within (length content) content ≡ Some ts → AreSpelled ts content
spelled content ts is = rw is at (reads_on (length content) content [] content (omega arith) (read_start content))
