-- How long generated texts are.
use Rattle.std.proofs.Common.{ℕ, ◌+◌, ◌*◌, ◌^◌, ◌<◌, ◌≤◌, ◌/◌, ◌==◌, zero, suc, Bool, true, false, List, [], ◌∷◌, ◌++◌, length, codes, ◌∙◌, ap, arith, length-append, if◌then◌else◌}
use Rattle.std.proofs.Math.Nat.{mod-lt}
use Rattle.std.proofs.lemmas.Fmt.{length-decimal-le}
use Rattle.std.specs.Fmt.{decimal}
use Rattle.std.specs.Prelude.{nat_lt}
use Rattle.generated_script.specs.Generated.{Step, text_of, drawn, next_state, sets_number, truth_line, sets_truth, sets_reference, advances_clock, declares_node, step_by, step_from, first_lines, lines_from, generated_text}
use Rattle.generated_script.proofs.Steps.{text-step, text_of-append}

short : (n : ℕ) → n < 2 ^ 64 → length (decimal n) ≤ 20
short n small = length-decimal-le 20 n (omega arith) (omega arith) small

drawn-short : (n state : ℕ) → 0 < n → n ≤ 100 → length (decimal (drawn n state)) ≤ 20
drawn-short n state some few = let below = mod-lt (state / 65536) {m = n} some in short (drawn n state) (omega (arith, below))

abbrev IsShort : Step → Type 0
IsShort step = length (text_of step.lines) ≤ 108

either : (b : Bool) (x y : Step) → IsShort x → IsShort y → IsShort (if b then x else y)
either true x y hx hy = hx
either false x y hx hy = hy

number-short : (state : ℕ) → IsShort (sets_number state)
number-short state =
    let a = drawn-short 8 (sets_reference state).after (omega arith) (omega arith) in
    let b = drawn-short 100 (sets_number state).after (omega arith) (omega arith) in
    simp length-append (omega (arith, a, b))

truth-line-short : (b : Bool) → length (text_of (truth_line b ∷ [])) ≤ 108
truth-line-short true = omega arith
truth-line-short false = omega arith

truth-short : (state : ℕ) → IsShort (sets_truth state)
truth-short state = truth-line-short (drawn 2 (sets_truth state).after == 1)

reference-short : (state : ℕ) → IsShort (sets_reference state)
reference-short state =
    let a = drawn-short 8 (sets_reference state).after (omega arith) (omega arith) in
    simp length-append (omega (arith, a))

clock-short : (state : ℕ) → IsShort (advances_clock state)
clock-short state =
    let a = drawn-short 20 (advances_clock state).after (omega arith) (omega arith) in
    simp length-append (omega (arith, a))

node-short : (number state : ℕ) → number < 2 ^ 64 → IsShort (declares_node number state)
node-short number state small =
    let a = short number small in
    let b = drawn-short 8 (declares_node number state).after (omega arith) (omega arith) in
    simp length-append (omega (arith, a, b))

step-short : (kind number state : ℕ) → number < 2 ^ 64 → IsShort (step_by kind number state)
step-short kind number state small =
    either (nat_lt kind 6) _ _ (number-short state)
    (either (kind == 6) _ _ (truth-short state)
    (either (kind == 7) _ _ (reference-short state)
    (either (kind == 8) _ _ (clock-short state)
    (node-short number state small))))

lines-short : (steps number state : ℕ) → number + steps < 2 ^ 64 → length (text_of (lines_from steps number state)) ≤ 7 + 118 * steps
lines-short zero number state small = omega arith
lines-short (suc steps) number state small =
    let step = step_from number state in
    let here = step-short (drawn 10 (next_state state)) number (next_state state) (omega arith) in
    let rest = lines-short steps (number + 1) step.after (omega arith) in
    let whole = ap length (text-step steps number state ∙ ap (λ (l : List ℕ). l ++ text_of (lines_from steps (number + 1) step.after)) (text_of-append step.lines (codes "stabilize" ∷ []))) in
    let parts = length-append (text_of step.lines ++ codes "stabilize\n") (text_of (lines_from steps (number + 1) step.after)) in
    let part = length-append (text_of step.lines) (codes "stabilize\n") in
    omega (arith, here, rest, whole, parts, part)

-- the text of up to 2^20 steps has fewer than 2^28 bytes
pub text-short : (steps seed : ℕ) → steps ≤ 2 ^ 20 → length (generated_text steps seed) < 2 ^ 28
text-short steps seed few =
    let rest = lines-short steps 1 seed (omega arith) in
    let whole = ap length (text_of-append first_lines (lines_from steps 1 seed)) in
    let parts = length-append (text_of first_lines) (text_of (lines_from steps 1 seed)) in
    omega (arith, rest, whole, parts)
