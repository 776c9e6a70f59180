-- Generated scripts: large inputs that are made from two numbers, how many steps they have and a seed.
use Rattle.std.specs.Prelude.{ℕ, zero, suc, ◌+◌, ◌*◌, ◌/◌, ◌%◌, ◌==◌, Bool, true, false, nat_lt, if◌then◌else◌, List, [], ◌∷◌, ◌++◌, codes}
use Rattle.std.specs.Fmt.{decimal}
use Rattle.std.specs.List.{flat_map}

-- the text of lines, each with its newline
abbrev pub text_of : List (List ℕ) → List ℕ
text_of lines = flat_map (λ line. line ++ 10 ∷ []) lines

-- ---- draws

-- the state of the draws after one more of them, and the number below n that was drawn where this is the state
abbrev pub next_state : ℕ → ℕ
next_state state = (state * 1103515245 + 12345) % 2147483648

abbrev pub drawn : ℕ → ℕ → ℕ
drawn n state = (state / 65536) % n

-- ---- steps

-- the lines of a step, and the state of the draws after it
pub record Step : Type 0 where
  pub lines : List (List ℕ)
  pub after : ℕ

-- one of eight variables gets a number below 100
abbrev pub sets_number : ℕ → Step
sets_number state =
    let which = next_state state in
    let number = next_state which in
    record {
      lines = (codes "set v" ++ decimal (drawn 8 which) ++ codes " " ++ decimal (drawn 100 number)) ∷ [];
      after = number;
    }

-- the condition gets a truth value
abbrev pub truth_line : Bool → List ℕ
truth_line true = codes "set c true"
truth_line false = codes "set c false"

abbrev pub sets_truth : ℕ → Step
sets_truth state =
    let coin = next_state state in
    record { lines = truth_line (drawn 2 coin == 1) ∷ []; after = coin }

-- the reference gets one of the variables
abbrev pub sets_reference : ℕ → Step
sets_reference state =
    let which = next_state state in
    record { lines = (codes "set h &v" ++ decimal (drawn 8 which)) ∷ []; after = which }

-- the clock goes on by up to 19 seconds
abbrev pub advances_clock : ℕ → Step
advances_clock state =
    let seconds = next_state state in
    record { lines = (codes "advance " ++ decimal (drawn 20 seconds) ++ codes "s") ∷ []; after = seconds }

-- a node is declared and observed, named by the number of the step
abbrev pub declares_node : ℕ → ℕ → Step
declares_node number state =
    let which = next_state state in
    record {
      lines = (codes "let g" ++ decimal number ++ codes " add(m, v" ++ decimal (drawn 8 which) ++ codes ")")
          ∷ (codes "observe p" ++ decimal number ++ codes " g" ++ decimal number) ∷ [];
      after = which;
    }

-- what a step does is drawn first, one of ten: six of them set a number
abbrev pub step_by : ℕ → ℕ → ℕ → Step
step_by kind number state =
    if nat_lt kind 6 then sets_number state
    else (if kind == 6 then sets_truth state
    else (if kind == 7 then sets_reference state
    else (if kind == 8 then advances_clock state
    else declares_node number state)))

abbrev pub step_from : ℕ → ℕ → Step
step_from number state = let kind = next_state state in step_by (drawn 10 kind) number kind

-- ---- the text

-- what all steps work on
abbrev pub first_lines : List (List ℕ)
first_lines =
    codes "var v0 int 0" ∷ codes "var v1 int 1" ∷ codes "var v2 int 2" ∷ codes "var v3 int 3"
    ∷ codes "var v4 int 4" ∷ codes "var v5 int 5" ∷ codes "var v6 int 6" ∷ codes "var v7 int 7"
    ∷ codes "var c bool true"
    ∷ codes "var h node int &v0"
    ∷ codes "let s fold add from 0 [v0, v1, v2, v3, v4, v5, v6, v7]"
    ∷ codes "let q if c then v0 else s"
    ∷ codes "let b bind w = v1 in add(mul(w, v2), v3)"
    ∷ codes "let j join(h)"
    ∷ codes "let t every 10s"
    ∷ codes "let m max(add(q, b), add(j, t))"
    ∷ codes "observe o m"
    ∷ codes "watch o"
    ∷ codes "stabilize" ∷ []

-- the lines of so many steps, from the one with this number on, with a stabilize after each and the line after the last one
abbrev pub lines_from : ℕ → ℕ → ℕ → List (List ℕ)
lines_from zero number state = codes "show o" ∷ []
lines_from (suc steps) number state =
    let step = step_from number state in
    step.lines ++ codes "stabilize" ∷ lines_from steps (number + 1) step.after

-- the lines of the script with so many steps and this seed, and its text
abbrev pub generated_lines : ℕ → ℕ → List (List ℕ)
generated_lines steps seed = first_lines ++ lines_from steps 1 seed

abbrev pub generated_text : ℕ → ℕ → List ℕ
generated_text steps seed = text_of (generated_lines steps seed)
