-- Every line asks for something: what its tokens are read as.
use Rattle.std.proofs.Common.{◌≡◌, ℕ, ◌≤◌, Bool, true, false, cond, ltb, List, [], length, inl, inr, Option, None, Some, refl, arith}
use Rattle.std.proofs.lemmas.Bool.{ltb-true, ltb-false}
use Rattle.script_model.specs.Grammar.{Line, IsLine, WriteNothing}
use Rattle.script_model.specs.GrammarLaws.{WhatIsReadIsWritten}
use Rattle.script_model.specs.Language.{without_return, is_blank}
use Rattle.script_model.specs.Laws.{EveryLineAsks}
use Rattle.script_model.specs.Parsing.{command_read}
use Rattle.script_model.specs.Request.{Request, TooLong, Blank, Malformed, TooDeep, Asks, ContentAsks, IsRequest}
use Rattle.script_model.specs.Tokens.{Token, AreSpelled, is_too_deep}
use Rattle.script_model.proofs.Found.{command_found}
use Rattle.script_model.proofs.Spelling.{tokens_within, ReadsAs, reads_on, spelled}
use Rattle.script_model.proofs.TokenLaws.{read_start}
use Rattle.script_model.proofs.Written.{command_written}

pub what_is_read_is_written : WhatIsReadIsWritten
what_is_read_is_written c tokens = (command_found tokens c, command_written c tokens)

-- ---- what a line of these tokens asks for

abbrev line_read : Option Line → Request
line_read None = Malformed
line_read (Some c) = Asks c

abbrev level_read : Bool → List Token → Request
level_read true tokens = TooDeep
level_read false tokens = line_read (command_read tokens)

abbrev tokens_read : Option (List Token) → Request
tokens_read None = Malformed
tokens_read (Some tokens) = level_read (is_too_deep 0 0 tokens) tokens

abbrev content_read : List ℕ → Request
content_read content = cond (is_blank content) Blank (tokens_read (tokens_within (length content) content))

abbrev request_read : List ℕ → Request
request_read line = cond (ltb 4096 (length line)) TooLong (content_read (without_return line))

-- ---- and that it does

none_writes : (tokens : List Token) → command_read tokens ≡ None → WriteNothing tokens
none_writes tokens is c writes = let read = command_written c tokens writes in absurd (cc)

read_line : (content : List ℕ) (tokens : List Token) (c : Line) → AreSpelled tokens content → is_too_deep 0 0 tokens ≡ false
    → command_read tokens ≡ Some c → IsLine content c
read_line content tokens c spelled shallow is = record { tokens = tokens; spelled = spelled; level = λ deep. absurd (cc); writes = command_found tokens c is }

line_asks : (content : List ℕ) (tokens : List Token) (c : Option Line) → is_blank content ≡ false → AreSpelled tokens content
    → is_too_deep 0 0 tokens ≡ false
    → command_read tokens ≡ c → ContentAsks content (line_read c)
line_asks content tokens None some spelled shallow is = (some, inr (tokens, spelled, (λ deep. absurd (cc)), none_writes tokens is))
line_asks content tokens (Some c) some spelled shallow is = (some, read_line content tokens c spelled shallow is)

level_asks : (content : List ℕ) (tokens : List Token) (deep : Bool) → is_blank content ≡ false → AreSpelled tokens content
    → is_too_deep 0 0 tokens ≡ deep → ContentAsks content (level_read deep tokens)
level_asks content tokens true some spelled is = (some, record { tokens = tokens; spelled = spelled; level = is })
level_asks content tokens false some spelled is = line_asks content tokens (command_read tokens) some spelled is refl

tokens_ask : (content : List ℕ) (tokens : Option (List Token)) → is_blank content ≡ false → ReadsAs content [] tokens
    → ContentAsks content (tokens_read tokens)
tokens_ask content None some reads = (some, inl reads)
tokens_ask content (Some tokens) some reads = level_asks content tokens (is_too_deep 0 0 tokens) some reads refl

content_asks : (content : List ℕ) → ContentAsks content (content_read content)
content_asks content = go (is_blank content) refl
  where
    go : (blank : Bool) → is_blank content ≡ blank → ContentAsks content (cond blank Blank (tokens_read (tokens_within (length content) content)))
    go true is = is
    go false is =
        tokens_ask content (tokens_within (length content) content) is
        (reads_on (length content) content [] content (omega arith) (read_start content))

short_asks : (line : List ℕ) (r : Request) → length line ≤ 4096 → ContentAsks (without_return line) r → IsRequest line r
short_asks line TooLong short h = absurd h
short_asks line Blank short h = (short, h)
short_asks line Malformed short h = (short, h)
short_asks line TooDeep short h = (short, h)
short_asks line (Asks c) short h = (short, h)

-- what is read is what the line asks for
pub is_request_read : (line : List ℕ) → IsRequest line (request_read line)
is_request_read line = go (ltb 4096 (length line)) refl
  where
    go : (long : Bool) → ltb 4096 (length line) ≡ long → IsRequest line (cond long TooLong (content_read (without_return line)))
    go true is = ltb-true 4096 (length line) is
    go false is = short_asks line (content_read (without_return line)) (ltb-false 4096 (length line) is) (content_asks (without_return line))

pub every_line_asks : EveryLineAsks
every_line_asks line = (request_read line, is_request_read line)

-- ---- the line of the whole grammar

abbrev line_at : Option (List Token) → Option Line
line_at None = None
line_at (Some tokens) = cond (is_too_deep 0 0 tokens) None (command_read tokens)

-- the line that bytes are read as
abbrev pub line_of : List ℕ → Option Line
line_of bytes = line_at (tokens_within (length bytes) bytes)

pub is_line : (bytes : List ℕ) (c : Line) → line_of bytes ≡ Some c → IsLine bytes c
is_line bytes c is = go (tokens_within (length bytes) bytes) refl is
  where
    shallow : (tokens : List Token) (deep : Bool) → is_too_deep 0 0 tokens ≡ deep → AreSpelled tokens bytes
        → cond deep None (command_read tokens) ≡ Some c → IsLine bytes c
    shallow tokens true deep spells is = absurd (cc)
    shallow tokens false deep spells is = read_line bytes tokens c spells deep is

    go : (found : Option (List Token)) → tokens_within (length bytes) bytes ≡ found → line_at found ≡ Some c → IsLine bytes c
    go None e is = absurd (cc)
    go (Some tokens) e is = shallow tokens (is_too_deep 0 0 tokens) refl (spelled bytes tokens e) is
