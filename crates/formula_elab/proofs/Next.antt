-- What is to be made next.
use Rattle.std.proofs.Common.{◌≡◌, ◌<◌, ◌≤◌, ◌↔◌, ℕ, zero, suc, true, false, List, [], ◌∷◌, length, take, get_or, Option, None, Some, option_map, is_some, IsNone, IsTrue, arith, refl}
use Rattle.std.proofs.lemmas.Option.{slice_get_past, slice_get_read, slice_get_within}
use Rattle.std.specs.List.{slice_get}
use Rattle.formula_elab.specs.Make.{make_view}
use Rattle.formula_elab.specs.Opened.{AreInOrder, AreMadeAs, AreTyped, IsTypedIn, NeedsEarlier}
use Rattle.formula_elab.specs.Plan.{IsNext}
use Rattle.formula_elab.specs.declared.make.Make as code
use Rattle.formula_elab.specs.declared.make.Made.{Made}
use Rattle.formula_elab.specs.declared.plan.Planned.{Planned}
use Rattle.formula_elab.proofs.MadeAs.{kinds_take, size_take}
use Rattle.formula_elab.proofs.Order.{order_of, typed_of}

past_none : {A : Type 0} (xs : List A) (i : ℕ) → slice_get xs i ≡ None → length xs ≤ i
past_none [] i e = omega arith
past_none (x ∷ xs) zero e = absurd cc
past_none (x ∷ xs) (suc i) e = omega (arith, past_none xs i e)

pub take_few : {A : Type 0} (n : ℕ) (xs : List A) → length (take n xs) ≤ n
take_few zero xs = omega arith
take_few (suc n) [] = omega arith
take_few (suc n) (x ∷ xs) = omega (arith, take_few n xs)

module _ (makes : List Planned) (made : List Made) where
  -- what is asked for is to be made
  pub asked_within : (make : Option code.Make) → IsNext makes made (option_map make_view make) → IsTrue (is_some make)
      → length made < length makes
  asked_within None next is = absurd cc
  asked_within (Some m) next is = slice_get_within makes (length made) next.0 next.1

  -- nothing is asked for exactly where all was made
  pub last_next : (make : Option code.Make) → IsNext makes made (option_map make_view make) → length made ≤ length makes
      → IsNone make ↔ (length made ≡ length makes)
  last_next None next few = ((λ h. (let past = past_none makes (length made) next in omega (arith, past, few))), (λ h. refl))
  last_next (Some m) next few =
      let within = slice_get_within makes (length made) next.0 next.1 in
      ((λ h. absurd (let e : true ≡ false = h in cc)), (λ h. absurd (omega (arith, within, h))))

  pub none_next : length makes ≤ length made → slice_get makes (length made) ≡ None
  none_next past = slice_get_past makes (length made) past

  module _ (x : Planned) (within : length made < length makes) (is : x ≡ get_or makes (length made) x) where
    pub next_stands : slice_get makes (length made) ≡ Some x
    next_stands = slice_get_read makes (length makes) (length made) x refl within is

    pub next_earlier : AreInOrder [] makes → AreTyped makes → AreMadeAs makes made
        → (earlier : List Planned) × NeedsEarlier earlier x × IsTypedIn earlier x × AreMadeAs earlier made × (length earlier ≡ length made)
    next_earlier order typed kinds = (
      take (length made) makes,
      order_of makes (length made) x order next_stands,
      typed_of makes (length made) x typed next_stands,
      kinds_take makes made kinds,
      size_take makes made kinds,
    )
