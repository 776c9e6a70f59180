-- Laws of the words of the command line.
use Rattle.std.proofs.Common.{◌≡◌, refl, ◌↔◌, ◌<◌, ◌≤◌, ℕ, Bool, List, [], ◌∷◌, length, get_or, sym, ◌∙◌, ap, subst, arith, IsTrue, true, false, codes}
use Rattle.std.specs.Bool.{Decides}
use Rattle.std.specs.Str.{bytes_eq}
use Rattle.std.proofs.lemmas.Slice.Eq.{bytes_eq-Decides}
use Rattle.script_io.specs.CommandLine.{IsRunWords}

-- a test of the second word decides
decided : (test : Bool) (program word : List ℕ) → Decides test (word ≡ codes "run") → (IsTrue test ↔ IsRunWords (program ∷ word ∷ []))
decided true program word d = (λ _. (program, ap (λ w. program ∷ w ∷ []) (d.0 refl)), λ _. refl)
decided false program word d = (λ h. let e : false ≡ true = h in cc, λ h. absurd (let same : word ≡ codes "run" = (let e = h.1 in cc) in let never = d.1 same in cc))

-- of two words the second one decides
pub two_words : (words : List (List ℕ)) (word text : List ℕ) (test : Bool) → 2 ≤ length words → length words < 3 → word ≡ get_or words 1 word → text ≡ word
    → test ≡ bytes_eq text (codes "run") → (IsTrue test ↔ IsRunWords words)
two_words [] word text test some few is same eq = absurd (omega arith)
two_words (a ∷ []) word text test some few is same eq = absurd (omega arith)
two_words (a ∷ b ∷ c ∷ words) word text test some few is same eq = absurd (omega arith)
two_words (a ∷ b ∷ []) word text test some few is same eq =
    subst (λ r. IsTrue r ↔ IsRunWords (a ∷ b ∷ [])) (sym (eq ∙ ap (λ l. bytes_eq l (codes "run")) (same ∙ is))) (decided (bytes_eq b (codes "run")) a b (bytes_eq-Decides b (codes "run")))
