-- Steps with constants of one type, put together from the left.
use Rattle.std.proofs.Common.{◌≡◌, ℕ, ◌+◌, ◌<◌, ◌≤◌, List, [], ◌∷◌, ◌++◌, length, map, drop, get_or, unwrap_or, Option, None, Some, append_assoc, refl, sym, ◌∙◌, ap}
use Rattle.std.proofs.lemmas.List.{append-nil, drop_all, drop_more, map-append}
use Rattle.inc_value.specs.declared.ty.Ty.{Ty}
use Rattle.inc_value.specs.Choice.{and_then}
use Rattle.script_model.specs.Check.{Names, literal_of_type, steps_of_type}
use Rattle.script_model.specs.Formula.{TimedValue}
use Rattle.line_parser.specs.View.{literal_view, time_view, timed_view as timed_literal_view}
use Rattle.line_parser.specs.declared.tree.TimedLiteral.{TimedLiteral}
use Rattle.formula_lang.specs.CommandView.{constant_view, timed_view}
use Rattle.formula_lang.specs.declared.command.TimedConstant.{TimedConstant}

-- one more behind what is done
pushed : (rest : Option (List TimedValue)) (done : List TimedValue) (x : TimedValue)
    → and_then (and_then rest (λ xs. Some (x ∷ xs))) (λ xs. Some (done ++ xs)) ≡ and_then rest (λ xs. Some ((done ++ x ∷ []) ++ xs))
pushed None done x = refl
pushed (Some xs) done x = ap Some (sym (append_assoc done (x ∷ []) xs))

module _ (names : Names) (t : Ty) (steps : List TimedLiteral) (i : ℕ) (done : List TimedConstant) where
  -- what is typed of these steps, behind what is done
  abbrev pub typed_from : List TimedLiteral → Option (List TimedValue)
  typed_from xs = and_then (steps_of_type names t (map timed_literal_view xs)) (λ rest. Some (map timed_view done ++ rest))

  split : (item : TimedLiteral) → i < length steps → item ≡ get_or steps i item → typed_from (drop i steps) ≡ typed_from (item ∷ drop (i + 1) steps)
  split item within is = ap typed_from (drop_more steps i item within ∙ ap (λ x. x ∷ drop (i + 1) steps) (sym is))

  pub step_done : (item : TimedLiteral) (c : TimedConstant) → i < length steps → item ≡ get_or steps i item
      → Some (constant_view c.value) ≡ literal_of_type names t (literal_view item.literal) → c.time ≡ unwrap_or (time_view item.time) 0
      → steps_of_type names t (map timed_literal_view steps) ≡ typed_from (drop i steps)
      → steps_of_type names t (map timed_literal_view steps)
      ≡ and_then (steps_of_type names t (map timed_literal_view (drop (i + 1) steps))) (λ rest. Some (map timed_view (done ++ c ∷ []) ++ rest))
  step_done item c within is typed_is time_is so_far =
      so_far ∙ split item within is
      ∙ rw (map-append timed_view done (c ∷ []), ← typed_is, time_is)
      (pushed (steps_of_type names t (map timed_literal_view (drop (i + 1) steps))) (map timed_view done)
      (record { time = unwrap_or (time_view item.time) 0; value = constant_view c.value }))

  pub step_missing : (item : TimedLiteral) → i < length steps → item ≡ get_or steps i item
      → None ≡ literal_of_type names t (literal_view item.literal)
      → steps_of_type names t (map timed_literal_view steps) ≡ typed_from (drop i steps)
      → None ≡ steps_of_type names t (map timed_literal_view steps)
  step_missing item within is none so_far = sym (so_far ∙ split item within is ∙ rw (← none) refl)

  pub all_done : length steps ≤ i → steps_of_type names t (map timed_literal_view steps) ≡ typed_from (drop i steps)
      → Some (map timed_view done) ≡ steps_of_type names t (map timed_literal_view steps)
  all_done past so_far = sym (so_far ∙ ap typed_from (drop_all i steps past) ∙ ap Some (append-nil (map timed_view done)))
