-- The first line of a text.
use Rattle.std.proofs.Common.{◌≡◌, ℕ, ◌+◌, ◌-◌, ◌<◌, zero, suc, List, [], ◌∷◌, ◌++◌, length, take, drop, get_or, sym, ◌∙◌, ap, arith}
use Rattle.std.proofs.Math.Numerals.{add-one}
use Rattle.std.proofs.Math.Seq.{drop-cons, take-length}
use Rattle.std.proofs.lemmas.List.{length-drop, take-append-drop}
use Rattle.script_io.proofs.Lines.{lines_of-last, lines_of-newline}
use Rattle.script_io.specs.Lines.{HasNoNewline, lines_of}

no_newline-suc : (text : List ℕ) (i : ℕ) → i < length text → HasNoNewline (take i text) → (get_or text i 0 ≡ 10 → ⊥) → HasNoNewline (take (suc i) text)
no_newline-suc [] i below clear other = absurd (omega arith)
no_newline-suc (b ∷ text) zero below clear other = (other, tt)
no_newline-suc (b ∷ text) (suc i) below clear other = (clear.0, no_newline-suc text i (omega arith) clear.1 other)

-- one byte more that is no newline
pub no_newline-more : (text : List ℕ) (i : ℕ) → i < length text → HasNoNewline (take i text) → (get_or text i 0 ≡ 10 → ⊥) → HasNoNewline (take (i + 1) text)
no_newline-more text i below clear other = rw add-one (no_newline-suc text i below clear other)

-- a newline ends the line
pub line-ends : (text : List ℕ) (i : ℕ) → i < length text → HasNoNewline (take i text) → get_or text i 0 ≡ 10 → lines_of text ≡ take i text ∷ lines_of (drop (i + 1) text)
line-ends text i below clear newline =
    let whole : text ≡ take i text ++ 10 ∷ drop (i + 1) text =
    sym (take-append-drop i text) ∙ ap (λ (l : List ℕ). take i text ++ l) (drop-cons text i 0 below)
    ∙ ap (λ (b : ℕ). take i text ++ b ∷ drop (suc i) text) newline ∙ ap (λ (n : ℕ). take i text ++ 10 ∷ drop n text) (sym (add-one i)) in
    ap lines_of whole ∙ lines_of-newline (take i text) (drop (i + 1) text) clear

-- a line without one is the last
pub line-is_last : (text : List ℕ) → 0 < length text → HasNoNewline text → lines_of text ≡ text ∷ []
line-is_last text some clear = lines_of-last text clear some

-- a slice up to the end
pub slice-to_end : (text : List ℕ) (n : ℕ) → take (length text - n) (drop n text) ≡ drop n text
slice-to_end text n = ap (λ (k : ℕ). take k (drop n text)) (sym (length-drop n text)) ∙ take-length (drop n text)

-- nothing stands behind the end
pub slice-at_end : (text : List ℕ) → take (length text - length text) (drop (length text) text) ≡ []
slice-at_end text = let none : length text - length text ≡ 0 = omega arith in ap (λ (k : ℕ). take k (drop (length text) text)) none
