-- What bytes that were counted come to: the summary of their lines.
use Rattle.std.proofs.Common.{◌≡◌, ◌≢◌, ℕ, ◌+◌, ◌<◌, ◌%◌, ◌==◌, if◌then◌else◌, cond, Bool, true, false, List, [], ◌∷◌, ◌++◌, length, Option, None, Some, refl, sym, ◌∙◌, ap, subst, append_assoc, arith, length-append, codes, add-zero, zero-add}
use Rattle.std.proofs.Math.Nat.{mod-add-mod, mod-eq_of_lt, mod-lt}
use Rattle.std.proofs.lemmas.Bool.{eqb-true, eqb-false, ne_eqb}
use Rattle.std.proofs.lemmas.List.Sums.{sum_by-append}
use Rattle.std.specs.List.{count_by, sum}
use Rattle.script_io.specs.Lines.{HasNoNewline, after_byte, lines_of}
use Rattle.generated_script.specs.Generated.{text_of}
use Rattle.script_model.specs.Language.{is_digit}
use Rattle.generated_script.specs.Summary.{begins, is_refusal_line, summary_of}
use Rattle.generated_script.specs.Counting.{Count, IsEnded, ahead_of, counted, counts_byte, nothing, settles, summary_counted}

-- a count, by its parts
abbrev count : ℕ → ℕ → ℕ → ℕ → Option (List ℕ) → Count
count lines bytes sum refused ahead = record { lines = lines; bytes = bytes; sum = sum; refused = refused; ahead = ahead }

same_count : (l l' b b' s s' r r' : ℕ) (h : Option (List ℕ)) → l ≡ l' → b ≡ b' → s ≡ s' → r ≡ r' → count l b s r h ≡ count l' b' s' r' h
same_count l l' b b' s s' r r' h ls bs ss rs =
    ap (λ x. count x b s r h) ls ∙ ap (λ x. count l' x s r h) bs ∙ ap (λ x. count l' b' x r h) ss ∙ ap (λ x. count l' b' s' x h) rs

-- ---- one line

-- whether a line that goes on so is a refusal
abbrev found : Option (List ℕ) → List ℕ → ℕ
found None line = 0
found (Some bytes) line = if begins bytes line then 1 else 0

found-none : (ahead : Option (List ℕ)) → found ahead [] ≡ 0
found-none None = refl
found-none (Some []) = refl
found-none (Some (x ∷ bytes)) = refl

found-chosen : (is : Bool) (bytes line : List ℕ) → found (if is then Some bytes else None) line ≡ (if (if is then begins bytes line else false) then 1 else 0)
found-chosen true bytes line = refl
found-chosen false bytes line = refl

found-more : (ahead : Option (List ℕ)) (b : ℕ) (line : List ℕ) → settles ahead b + found (ahead_of ahead b) line ≡ found ahead (b ∷ line)
found-more None b line = refl
found-more (Some []) b line = add-zero (if is_digit b then 1 else 0)
found-more (Some (x ∷ bytes)) b line = zero-add (found (ahead_of (Some (x ∷ bytes)) b) line) ∙ found-chosen (b == x) bytes line

-- the count behind a line and its newline
abbrev past : Count → List ℕ → Count
past c line = count (c.lines + 1) (c.bytes + (length line + 1)) ((c.sum + (sum line + 10)) % 4294967296) (c.refused + found c.ahead line) (Some (codes "refused "))

sum-more : (b : ℕ) (line : List ℕ) → sum (b ∷ line) ≡ b + sum line
sum-more b line = sum_by-append (λ (x : ℕ). x) (b ∷ []) line ∙ ap (λ (n : ℕ). n + sum line) (zero-add b)

moved : (s b : ℕ) (line : List ℕ) → (s + b) + (sum line + 10) ≡ s + (sum (b ∷ line) + 10)
moved s b line = let e = sum-more b line in omega (arith, e)

past-more : (c : Count) (b : ℕ) (line : List ℕ) → past (counts_byte false c b) line ≡ past c (b ∷ line)
past-more c b line = same_count _ _ _ _ _ _ _ _ _ refl
    (omega arith)
    (mod-add-mod (c.sum + b) 4294967296 (sum line + 10) ∙ ap (λ (n : ℕ). n % 4294967296) (moved c.sum b line))
    (let e = found-more c.ahead b line in omega (arith, e))

line_counted : (c : Count) (line rest : List ℕ) → HasNoNewline line → counted c (line ++ 10 ∷ rest) ≡ counted (past c line) rest
line_counted c [] rest clear = ap (λ (d : Count). counted d rest) (same_count _ _ _ _ _ _ _ _ _ refl (omega arith) refl (sym (ap (λ (n : ℕ). c.refused + n) (found-none c.ahead) ∙ add-zero c.refused)))
line_counted c (b ∷ line) rest clear =
    ap (λ (is : Bool). counted (counts_byte is c b) (line ++ 10 ∷ rest)) (ne_eqb b 10 clear.0)
    ∙ line_counted (counts_byte false c b) line rest clear.1
    ∙ ap (λ (d : Count). counted d rest) (past-more c b line)

-- ---- lines one after the other

abbrev AreClear : List (List ℕ) → Type 0
AreClear [] = Unit {0}
AreClear (line ∷ lines) = HasNoNewline line × AreClear lines

-- the count behind lines that begin a line
abbrev past_lines : ℕ → ℕ → ℕ → ℕ → List (List ℕ) → Count
past_lines l b s r lines = count (l + length lines) (b + length (text_of lines)) ((s + sum (text_of lines)) % 4294967296) (r + count_by is_refusal_line lines) (Some (codes "refused "))

sum-append : (xs ys : List ℕ) → sum (xs ++ ys) ≡ sum xs + sum ys
sum-append xs ys = sum_by-append (λ x. x) xs ys

sum-line : (line rest : List ℕ) → sum ((line ++ 10 ∷ []) ++ rest) ≡ sum line + 10 + sum rest
sum-line line rest = sum-append (line ++ 10 ∷ []) rest ∙ ap (λ (n : ℕ). n + sum rest) (sum-append line (10 ∷ []))

refused-more : (line : List ℕ) (lines : List (List ℕ)) → count_by is_refusal_line (line ∷ lines) ≡ found (Some (codes "refused ")) line + count_by is_refusal_line lines
refused-more line lines =
    sum_by-append (λ (l : List ℕ). cond (is_refusal_line l) 1 0) (line ∷ []) lines
    ∙ ap (λ (n : ℕ). n + count_by is_refusal_line lines) (zero-add (found (Some (codes "refused ")) line))

moved_line : (s : ℕ) (line rest : List ℕ) → (s + (sum line + 10)) + sum rest ≡ s + sum ((line ++ 10 ∷ []) ++ rest)
moved_line s line rest = let e = sum-line line rest in omega (arith, e)

past_lines-more : (l b s r : ℕ) (line : List ℕ) (lines : List (List ℕ))
    → past_lines (l + 1) (b + (length line + 1)) ((s + (sum line + 10)) % 4294967296) (r + found (Some (codes "refused ")) line) lines ≡ past_lines l b s r (line ∷ lines)
past_lines-more l b s r line lines = same_count _ _ _ _ _ _ _ _ _
    (omega arith)
    (omega (arith, length-append (line ++ 10 ∷ []) (text_of lines), length-append line (10 ∷ [])))
    (mod-add-mod (s + (sum line + 10)) 4294967296 (sum (text_of lines)) ∙ ap (λ (n : ℕ). n % 4294967296) (moved_line s line (text_of lines)))
    (let e = refused-more line lines in omega (arith, e))

lines_counted : (l b s r : ℕ) (lines : List (List ℕ)) → s < 4294967296 → AreClear lines
    → counted (count l b s r (Some (codes "refused "))) (text_of lines) ≡ past_lines l b s r lines
lines_counted l b s r [] small clear = same_count _ _ _ _ _ _ _ _ _ (omega arith) (omega arith)
    (sym (ap (λ (n : ℕ). n % 4294967296) (add-zero s) ∙ mod-eq_of_lt small)) (omega arith)
lines_counted l b s r (line ∷ lines) small clear =
    ap (counted (count l b s r (Some (codes "refused ")))) (append_assoc line (10 ∷ []) (text_of lines))
    ∙ line_counted (count l b s r (Some (codes "refused "))) line (text_of lines) clear.0
    ∙ lines_counted (l + 1) (b + (length line + 1)) ((s + (sum line + 10)) % 4294967296) (r + found (Some (codes "refused ")) line) lines
    (mod-lt (s + (sum line + 10)) {m = 4294967296} (omega arith)) clear.1
    ∙ past_lines-more l b s r line lines

-- ---- the lines of bytes

clear-after : (is : Bool) (b : ℕ) (lines : List (List ℕ)) → (is ≡ false → b ≢ 10) → AreClear lines → AreClear (after_byte is b lines)
clear-after true b lines other clear = (tt, clear)
clear-after false b [] other clear = ((other refl, tt), tt)
clear-after false b (line ∷ lines) other clear = ((other refl, clear.0), clear.1)

lines-clear : (bytes : List ℕ) → AreClear (lines_of bytes)
lines-clear [] = tt
lines-clear (b ∷ bytes) = clear-after (b == 10) b (lines_of bytes) (eqb-false b 10) (lines-clear bytes)

text-after : (is : Bool) (b c : ℕ) (lines : List (List ℕ)) (bytes : List ℕ) → (is ≡ true → b ≡ 10) → text_of lines ≡ c ∷ bytes
    → text_of (after_byte is b lines) ≡ b ∷ c ∷ bytes
text-after true b c lines bytes newline text = ap (λ (l : List ℕ). 10 ∷ l) text ∙ ap (λ (x : ℕ). x ∷ c ∷ bytes) (sym (newline refl))
text-after false b c [] bytes newline text = cc
text-after false b c (line ∷ lines) bytes newline text = ap (λ (l : List ℕ). b ∷ l) text

text-lines : (bytes : List ℕ) → IsEnded bytes → text_of (lines_of bytes) ≡ bytes
text-lines [] ended = refl
text-lines (b ∷ []) ended = subst (λ (x : ℕ). text_of (lines_of (x ∷ [])) ≡ x ∷ []) (sym ended) refl
text-lines (b ∷ c ∷ bytes) ended = text-after (b == 10) b c (lines_of (c ∷ bytes)) bytes (eqb-true b 10) (text-lines (c ∷ bytes) ended)

-- bytes that end with a newline were counted whole
pub comes_to : (bytes : List ℕ) → IsEnded bytes → summary_counted (counted nothing bytes) ≡ summary_of (lines_of bytes)
comes_to bytes ended =
    let lines = lines_of bytes in
    let whole : counted nothing bytes ≡ past_lines 0 0 0 0 lines =
    ap (counted nothing) (sym (text-lines bytes ended)) ∙ lines_counted 0 0 0 0 lines (omega arith) (lines-clear bytes) in
    ap summary_counted whole ∙ zeros lines
  where
    zeros : (lines : List (List ℕ)) → summary_counted (past_lines 0 0 0 0 lines) ≡ summary_of lines
    zeros lines = rw (zero-add (length lines), zero-add (length (text_of lines)), zero-add (sum (text_of lines)), zero-add (count_by is_refusal_line lines)) refl
