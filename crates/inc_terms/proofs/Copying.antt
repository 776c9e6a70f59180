-- A list of steps made again.
use Rattle.std.proofs.Common.{◌≡◌, ◌∙◌, sym, ap, ℕ, ℤ, ◌+◌, ◌<◌, List, [], ◌∷◌, ◌++◌, map, take, length, get_or}
use Rattle.std.proofs.lemmas.List.{map-append, take_more}
use Rattle.inc_value.specs.declared.value.Value.{Value}
use Rattle.inc_terms.specs.Steps.{step_of}
use Rattle.inc_terms.specs.declared.steps.Step.{Step}

step_with : ℤ → Value → Step
step_with time value = record { time = time; value = value }

pub one_copied : (steps : List Step) (i : ℕ) (s : Step) (list list' : List Step) (time : ℤ) (value : Value) → i < length steps → s ≡ get_or steps i s
    → list' ≡ list ++ record { time = time; value = value } ∷ [] → time ≡ s.time → value ≡ s.value
    → map step_of list ≡ map step_of (take i steps) → map step_of list' ≡ map step_of (take (i + 1) steps)
unfolding step_with
one_copied steps i s list list' time value within is pushed same_time same_value so_far =
    let one : record { time = time; value = value } ≡ s = ap (λ t. step_with t value) same_time ∙ ap (step_with s.time) same_value in
    let more : take (i + 1) steps ≡ take i steps ++ s ∷ [] = take_more steps i s within ∙ ap (λ x. take i steps ++ x ∷ []) (sym is) in
    ap (map step_of) pushed ∙ map-append step_of list _ ∙ ap (λ l. l ++ map step_of (record { time = time; value = value } ∷ [])) so_far
    ∙ ap (λ x. map step_of (take i steps) ++ step_of x ∷ []) one
    ∙ sym (ap (map step_of) more ∙ map-append step_of (take i steps) (s ∷ []))
