-- The text of a generated script, step by step.
use Rattle.std.proofs.Common.{◌≡◌, ℕ, ◌+◌, ◌-◌, ◌<◌, suc, List, [], ◌∷◌, ◌++◌, sym, ◌∙◌, ap, append_assoc, arith, codes}
use Rattle.std.proofs.lemmas.Grind.{flat_map-append}
use Rattle.generated_script.specs.Generated.{first_lines, generated_text, lines_from, step_from, text_of}

pub text_of-append : (xs ys : List (List ℕ)) → text_of (xs ++ ys) ≡ text_of xs ++ text_of ys
text_of-append xs ys = flat_map-append (λ (line : List ℕ). line ++ 10 ∷ []) xs ys

-- before the first step
pub text-start : (steps seed : ℕ) → text_of first_lines ++ text_of (lines_from (steps - 0) (0 + 1) seed) ≡ generated_text steps seed
text-start steps seed =
    let all : steps - 0 ≡ steps = omega arith in
    ap (λ (n : ℕ). text_of first_lines ++ text_of (lines_from n 1 seed)) all ∙ sym (text_of-append first_lines (lines_from steps 1 seed))

-- one step more
pub text-step : (n number state : ℕ) → text_of (lines_from (suc n) number state)
    ≡ text_of ((step_from number state).lines ++ codes "stabilize" ∷ []) ++ text_of (lines_from n (number + 1) (step_from number state).after)
text-step n number state =
    let step = step_from number state in
    ap text_of (sym (append_assoc step.lines (codes "stabilize" ∷ []) (lines_from n (number + 1) step.after)))
    ∙ text_of-append (step.lines ++ codes "stabilize" ∷ []) (lines_from n (number + 1) step.after)

pub text-more : (text whole : List ℕ) (steps i state : ℕ) → i < steps → text ++ text_of (lines_from (steps - i) (i + 1) state) ≡ whole
    → (text ++ text_of ((step_from (i + 1) state).lines ++ codes "stabilize" ∷ []))
    ++ text_of (lines_from (steps - (i + 1)) (i + 1 + 1) (step_from (i + 1) state).after) ≡ whole
text-more text whole steps i state below so_far =
    let left : steps - i ≡ suc (steps - (i + 1)) = omega arith in
    let step = step_from (i + 1) state in
    append_assoc text (text_of (step.lines ++ codes "stabilize" ∷ [])) (text_of (lines_from (steps - (i + 1)) (i + 1 + 1) step.after))
    ∙ ap (λ (l : List ℕ). text ++ l) (sym (text-step (steps - (i + 1)) (i + 1) state) ∙ ap (λ (n : ℕ). text_of (lines_from n (i + 1) state)) (sym left))
    ∙ so_far

-- behind the last step
pub text-end : (text whole : List ℕ) (steps i state : ℕ) → i ≡ steps → text ++ text_of (lines_from (steps - i) (i + 1) state) ≡ whole → text ++ codes "show o\n" ≡ whole
text-end text whole steps i state all so_far =
    let none : steps - i ≡ 0 = omega (arith, all) in
    ap (λ (n : ℕ). text ++ text_of (lines_from n (i + 1) state)) (sym none) ∙ so_far
