-- What was made of the first of what is to be made is of its kind.
use Rattle.std.proofs.Common.{◌≡◌, ℕ, suc, zero, ◌<◌, ◌≤◌, List, [], ◌∷◌, ◌++◌, length, take, get_or, Option, None, Some, IfSome, arith, refl, sym, ◌∙◌, subst}
use Rattle.std.proofs.lemmas.List.{length-take-le}
use Rattle.std.proofs.lemmas.Option.{get_or_from_slice_get, slice_get_within}
use Rattle.std.specs.List.{slice_get}
use Rattle.inc_value.specs.Choice.{Every}
use Rattle.formula_elab.specs.Bodies.{LineNeedsMade, OpenBody}
use Rattle.formula_elab.specs.Make.{made_at, no_node, IsFunction, IsNode}
use Rattle.formula_elab.specs.Opened.{AreMadeAs, IsEarlier, IsEarlierBody, IsMadeAs, LineNeedsEarlier}
use Rattle.formula_elab.specs.Plan.{with_made}
use Rattle.formula_elab.specs.declared.body.OpenLine.{OpenLine}
use Rattle.formula_elab.specs.declared.body.OpenLine.TheVariants as line
use Rattle.formula_elab.specs.declared.make.Made.{Made}
use Rattle.formula_elab.specs.declared.make.Made.TheVariants as was
use Rattle.formula_elab.specs.declared.opened.Open.{Open}
use Rattle.formula_elab.specs.declared.opened.Part.TheVariants.{Made as Numbered}
use Rattle.formula_elab.specs.declared.plan.Planned.{Planned}
use Rattle.formula_elab.specs.declared.plan.Planned.TheVariants.{Body, Node}

-- the i-th was made of its kind
pub kinds_at : (makes : List Planned) (made : List Made) (i : ℕ) (x : Planned) → AreMadeAs makes made → slice_get makes i ≡ Some x
    → i < length made → (m : Made) × (slice_get made i ≡ Some m) × IsMadeAs x m
kinds_at makes [] i x kinds at less = absurd (omega (arith, less))
kinds_at [] (m ∷ made) i x kinds at less = absurd kinds
kinds_at (y ∷ makes) (m ∷ made) zero x kinds at less =
    let same : y ≡ x = cc in (m, refl, subst (λ z. IsMadeAs z m) same kinds.0)
kinds_at (y ∷ makes) (m ∷ made) (suc i) x kinds at less = kinds_at makes made i x kinds.1 at (omega (arith, less))

-- no more was made than is to be made
pub kinds_within : (makes : List Planned) (made : List Made) → AreMadeAs makes made → length made ≤ length makes
kinds_within makes [] kinds = omega arith
kinds_within [] (m ∷ made) kinds = absurd kinds
kinds_within (x ∷ makes) (m ∷ made) kinds = omega (arith, kinds_within makes made kinds.1)

-- so it is with one more
pub kinds_more : (makes : List Planned) (made : List Made) (x : Planned) (m : Made) → AreMadeAs makes made
    → slice_get makes (length made) ≡ Some x → IsMadeAs x m → AreMadeAs makes (made ++ m ∷ [])
kinds_more [] [] x m kinds at is = absurd cc
kinds_more (y ∷ makes) [] x m kinds at is = let same : x ≡ y = cc in (subst (λ z. IsMadeAs z m) same is, tt)
kinds_more [] (n ∷ made) x m kinds at is = absurd kinds
kinds_more (y ∷ makes) (n ∷ made) x m kinds at is = (kinds.0, kinds_more makes made x m kinds.1 at is)

pub kinds_with : (makes : List Planned) (made : List Made) (m : Option Made) → AreMadeAs makes made
    → IfSome m (λ (n : Made). (x : Planned) × (slice_get makes (length made) ≡ Some x) × IsMadeAs x n) → AreMadeAs makes (with_made made m)
kinds_with makes made None kinds h = kinds
kinds_with makes made (Some m) kinds h = kinds_more makes made h.0 m kinds h.1 h.2

-- it was made of the first alone
pub kinds_take : (makes : List Planned) (made : List Made) → AreMadeAs makes made → AreMadeAs (take (length made) makes) made
kinds_take makes [] kinds = tt
kinds_take [] (m ∷ made) kinds = absurd kinds
kinds_take (x ∷ makes) (m ∷ made) kinds = (kinds.0, kinds_take makes made kinds.1)

pub size_take : (makes : List Planned) (made : List Made) → AreMadeAs makes made
    → length (take (length made) makes) ≡ length made
size_take makes made kinds = length-take-le (length made) makes (kinds_within makes made kinds)

module _ (earlier : List Planned) (made : List Made) (kinds : AreMadeAs earlier made) (same : length earlier ≡ length made) where
  -- of a node that is to be made earlier a node was made
  pub node_there : (i : ℕ) (x : Open) → slice_get earlier i ≡ Some (Node x) → (m : Made) × (slice_get made i ≡ Some m) × IsNode m
  node_there i x at = kinds_at earlier made i (Node x) kinds at (omega (arith, same, slice_get_within earlier i (Node x) at))

  -- and of a body a function
  pub function_there : (i : ℕ) (o : OpenBody) → slice_get earlier i ≡ Some (Body o)
      → (m : Made) × (slice_get made i ≡ Some m) × IsMadeAs (Body o) m
  function_there i o at = kinds_at earlier made i (Body o) kinds at (omega (arith, same, slice_get_within earlier i (Body o) at))

  -- the i-th that was made is so
  module _ (i : ℕ) (m : Made) (is : m ≡ get_or made i m) where
    read_is : (n : Made) → slice_get made i ≡ Some n → m ≡ n
    read_is n at = is ∙ get_or_from_slice_get made i n m at

    read_at : (n : Made) → slice_get made i ≡ Some n → m ≡ made_at made i
    read_at n at = read_is n at ∙ sym (get_or_from_slice_get made i n (was.Node no_node) at)

    pub read_node : IsEarlier earlier (Numbered i) → IsNode m × (m ≡ made_at made i)
    read_node h =
        let n = node_there i h.0 h.1 in
        (subst (λ k. IsNode k) (sym (read_is n.0 n.1)) n.2, read_at n.0 n.1)

    pub read_function : IsEarlierBody earlier i → IsFunction m × (m ≡ made_at made i)
    read_function h =
        let n = function_there i h.0 h.1 in
        (subst (λ k. IsFunction k) (sym (read_is n.0 n.1)) n.2.0, read_at n.0 n.1)

  line_made : (x : OpenLine) → LineNeedsEarlier earlier x → LineNeedsMade made x
  line_made (line.Ready l) h = tt
  line_made (line.Bind left body most captures) h = let m = function_there body h.0 h.1 in (m.0, m.1, m.2.0)

  pub lines_made : (xs : List OpenLine) → Every (LineNeedsEarlier earlier) xs → Every (LineNeedsMade made) xs
  lines_made [] h = tt
  lines_made (x ∷ xs) h = (line_made x h.0, lines_made xs h.1)
