-- A chain of 130 points is too deep.
use Rattle.std.proofs.Common.{◌≡◌, inl, inr, ℕ, zero, suc, ◌+◌, ◌<◌, ◌≤◌, List, [], ◌∷◌, Some, refl, arith}
use Rattle.std.specs.Fmt.{digits}
use Rattle.std.specs.Prelude.{slice_get, codes}
use Rattle.inc_value.specs.declared.function.FnRef.{FnRef}
use Rattle.inc_value.specs.Choice.{and_then, Among, NoRepeats, here}
use Rattle.script_model.specs.Formula.{Body, Entry, Meanings, body_at, Name, Apply, End, More, Computed, nothing_kept}
use Rattle.script_model.specs.Need.{Argument, Named, Place, formula_at, from_root}
use Rattle.script_model.specs.Depth.{Point, Main, Change, Depends, IsWalk, TooDeep, node_of, points_at}
use Rattle.script_model.specs.Blocked.{own}
use Rattle.script_model.specs.Row.{chain_from, chain_state, ChainIsTooDeep}
use Rattle.script_model.specs.Step.{Refused, Height, printed}

-- the points from a name down
abbrev down : ℕ → List Point
down zero = Main (Named 0) ∷ []
down (suc k) = Main (Place (suc k) []) ∷ down k

abbrev index : Point → ℕ
index (Main (Named n)) = n
index (Main (Place n path)) = n
index (Change i) = 0

below : (k : ℕ) (p : Point) → Among p (down k) → index p ≤ k
below zero p (inl e) = rw e (omega arith)
below zero p (inr none) = absurd none
below (suc k) p (inl e) = rw e (omega arith)
below (suc k) p (inr later) = let b = below k p later in omega (arith, b)

distinct : (k : ℕ) → NoRepeats (down k)
distinct zero = ((λ none. none), tt)
distinct (suc k) = ((λ among. let b = below k (Main (Place (suc k) [])) among in omega (arith, b)), distinct k)

-- what the name behind the n-th is
abbrev link : FnRef → ℕ → Body
link neg n = Computed (Apply neg (More (Name n) End)) nothing_kept

chain_at : (neg : FnRef) (i k j : ℕ) → j < k → and_then (slice_get (chain_from neg i k) j) (λ (e : Entry). Some e.body) ≡ Some (link neg (i + j))
chain_at neg i zero j few = absurd (omega arith)
chain_at neg i (suc k) zero few = let same : i + 0 ≡ i = omega arith in rw same refl
chain_at neg i (suc k) (suc j) few = let same : i + suc j ≡ suc i + j = omega arith in rw same (chain_at neg (suc i) k j (omega (arith, few)))

link_at : (neg : FnRef) (n : ℕ) → n < 129 → body_at (chain_state neg) (suc n) ≡ Some (link neg n)
link_at neg n few = let same : 0 + n ≡ n = omega arith in rw same at (chain_at neg 0 129 n few)

named_at : (neg : FnRef) (n : ℕ) → n < 129 → formula_at (chain_state neg) (suc n) (Argument 0 ∷ []) ≡ Some (Name n)
named_at neg n few = rw (link_at neg n few) refl

node_at : (neg : FnRef) (n : ℕ) → n < 129 → node_of (chain_state neg) (Named (suc n)) ≡ Place (suc n) []
node_at neg n few = rw (link_at neg n few) refl

points_at_link : (F : Meanings) (neg : FnRef) (n : ℕ) → n < 129
    → points_at F (chain_state neg) 0 (Main (Place (suc n) [])) ≡ Main (node_of (chain_state neg) (Named n)) ∷ []
points_at_link F neg n few = rw (link_at neg n few, named_at neg n few) refl

-- each name depends on the one before
depends : (F : Meanings) (neg : FnRef) (n : ℕ) → suc n < 129 → Depends F (chain_state neg) (Main (Place (suc (suc n)) [])) (Main (Place (suc n) []))
depends F neg n few = (0, rw (points_at_link F neg (suc n) few, node_at neg n (omega (arith, few))) (inl refl))

last_depends : (F : Meanings) (neg : FnRef) → Depends F (chain_state neg) (Main (Place 1 [])) (Main (Named 0))
last_depends F neg = (0, inl refl)

walks : (F : Meanings) (neg : FnRef) (n : ℕ) → n < 129 → IsWalk F (chain_state neg) (Main (Place (suc n) [])) (down n)
walks F neg zero few = (last_depends F neg, tt)
walks F neg (suc n) few = (depends F neg n few, walks F neg n (omega (arith, few)))

is_too_deep : (F : Meanings) (neg : FnRef) → TooDeep F (chain_state neg) (Named 129)
is_too_deep F neg =
    record {
      first = Main (Place 129 []);
      rest = down 128;
      begins = inl refl;
      walk = walks F neg 128 (omega arith);
      distinct = distinct 128;
      long = refl;
    }

prints : (neg : FnRef) → printed (chain_state neg) (Refused (Height 129)) ≡ codes "refused 21 height n129\n"
unfolding digits
prints neg = refl

pub chain_is_too_deep : ChainIsTooDeep
chain_is_too_deep F neg = record { deep = is_too_deep F neg; met = from_root (Named 129, inl refl, here); named = own refl tt; refusal = prints neg }
