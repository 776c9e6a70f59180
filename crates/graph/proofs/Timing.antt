-- Times of steps that rise.
use Rattle.std.proofs.Common.{◌≡◌, ◌<ℤ◌, Bool, true, false, List, [], ◌∷◌, refl, arith}
use Rattle.std.specs.Prelude.{◌↔◌, if◌then◌else◌}
use Rattle.std.specs.Int.Signed.{le_z}
use Rattle.std.proofs.lemmas.Int.{ints}
use Rattle.inc_terms.specs.Term.{Step}
use Rattle.graph.specs.Clock.{Rise, are_rising, rises}

-- they rise as they do from the first one's on
rise_as : (s : Step) (rest : List Step) → (rises s.time rest ≡ true) ↔ Rise (s ∷ rest)
rise_as s [] = ((λ h. tt), (λ k. refl))
rise_as s (t ∷ rest) = go (rise_as t rest) (le_z t.time s.time) refl
  where
    go : (rises t.time rest ≡ true) ↔ Rise (t ∷ rest) → (b : Bool) → le_z t.time s.time ≡ b
        → ((if b then false else rises t.time rest) ≡ true) ↔ ((s.time <ℤ t.time) × Rise (t ∷ rest))
    go same true e = ((λ h. absurd cc), (λ k. absurd (let less = k.0 in grind (arith, ints))))
    go same false e = ((λ h. ((let less : s.time <ℤ t.time = grind (arith, ints) in less), same.0 h)), (λ k. same.1 k.1))

pub rising : (steps : List Step) → (are_rising steps ≡ true) ↔ Rise steps
rising [] = ((λ h. tt), (λ k. refl))
rising (s ∷ rest) = rise_as s rest
