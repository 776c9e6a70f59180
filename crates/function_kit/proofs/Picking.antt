-- A capture that is chosen.
use Rattle.std.proofs.Common.{arith, ◌≡◌, ◌<◌, ◌≤◌, ◌-◌, ℕ, zero, suc, min, replicate, pos, ap, List, [], ◌∷◌, length, Some, slice_get, refl, sym, subst}
use Rattle.std.proofs.Math.Nat.{min-le_right}
use Rattle.std.proofs.lemmas.Slice.Zip.{AllZip-long}
use Rattle.std.specs.List.{AllZip}
use Rattle.inc_value.specs.Choice.{Every}
use Rattle.inc_value.specs.declared.node.NodeId.{NodeId}
use Rattle.inc_value.specs.declared.ty.Ty.{Ty}
use Rattle.inc_value.specs.declared.ty.Ty.TheVariants as ty
use Rattle.inc_value.specs.declared.value.Value.{Value}
use Rattle.inc_value.specs.declared.value.Value.TheVariants.{Int}
use Rattle.inc_terms.specs.Term.{Cap}
use Rattle.inc_terms.specs.Within.{Given}
use Rattle.node_arena.specs.Arena.{Arena}
use Rattle.node_arena.specs.Building.{Building}
use Rattle.node_arena.specs.RightSide.{AreOfType, AreTaken, IsEmpty, IsRoot}
use Rattle.node_arena.specs.Typing.{Fits}
use Rattle.node_arena.proofs.Growing.{grown_none, outside_grown}
use Rattle.function_kit.specs.Sides.{ArePicked, others, place_of}

-- a place that is chosen is one of so many
pub place_within : (count : ℕ) (v : Value) → 0 < count → place_of count v < count
place_within count (Int (pos n)) some = let le : min n (count - 1) ≤ count - 1 = min-le_right n (count - 1) in omega (arith, le, some)
place_within count _ some = some

-- types that are all one are this one at each place
type_at : (types : List Ty) (t : Ty) → Every (λ u. u ≡ t) types → (i : ℕ) → i < length types → slice_get types i ≡ Some t
type_at [] t all i within = absurd (omega (arith, within))
type_at (u ∷ types) t all zero within = rw all.0 refl
type_at (u ∷ types) t all (suc i) within = type_at types t all.1 i (omega (arith, within))

-- ---- types that are all one

each_is : (us : List Ty) (t : Ty) → us ≡ replicate (length us) t → Every (λ u. u ≡ t) us
each_is [] t e = tt
each_is (u ∷ us) t e = (let first : u ≡ t = cc in first, each_is us t (let rest : us ≡ replicate (length us) t = cc in rest))

replicated : (us : List Ty) (t : Ty) → Every (λ u. u ≡ t) us → us ≡ replicate (length us) t
replicated [] t all = refl
replicated (u ∷ us) t all = let first = all.0 in let rest = replicated us t all.1 in cc

-- both ways to say which types a choice takes
pub picked_from : (takes : List Ty) (t : Ty) → 1 ≤ length (others takes) → takes ≡ ty.Int ∷ replicate (length (others takes)) t
    → ArePicked takes t
picked_from [] t some e = absurd (omega (arith, some))
picked_from (u ∷ []) t some e = absurd (omega (arith, some))
picked_from (ty.Int ∷ first ∷ rest) t some e =
    (let same : first ≡ t = cc in same, each_is rest t (let others' : rest ≡ replicate (length rest) t = cc in others'))
picked_from (ty.Bool ∷ first ∷ rest) t some e = absurd cc
picked_from (ty.Text ∷ first ∷ rest) t some e = absurd cc
picked_from (ty.Node b ∷ first ∷ rest) t some e = absurd cc

pub picked_to : (takes : List Ty) (t : Ty) → ArePicked takes t
    → (1 ≤ length (others takes)) × (takes ≡ ty.Int ∷ replicate (length (others takes)) t)
picked_to (ty.Int ∷ first ∷ rest) t picked = (omega arith, ap (λ (us : List Ty). ty.Int ∷ us) (replicated (first ∷ rest) t picked))
picked_to _ t picked = absurd picked

-- ---- what is chosen

-- the capture that is chosen is of the type that is given
pub picked_types : (takes : List Ty) (gives : Ty) → ArePicked takes gives
    → AreOfType takes gives (record { term = λ v. Cap (place_of (length (others takes)) v); uses = []; ids = []; size = 0 })
picked_types (ty.Int ∷ first ∷ rest) gives picked =
    λ v proper e. type_at (first ∷ rest) gives picked (place_of (suc (length rest)) v) (place_within (suc (length rest)) v (omega arith))
picked_types _ gives picked = absurd picked

given_at : (P : NodeId → Type 0) (ns : List NodeId) → Every P ns → (i : ℕ) (n : NodeId) → slice_get ns i ≡ Some n → P n
given_at P [] all i n is = absurd cc
given_at P (m ∷ ns) all zero n is = let same : m ≡ n = cc in subst P same all.0
given_at P (m ∷ ns) all (suc i) n is = given_at P ns all.1 i n is

fits_at : (a : Arena) (ns : List NodeId) (types : List Ty) (t : Ty) → AllZip (Fits a) ns types → Every (λ u. u ≡ t) types
    → (i : ℕ) (n : NodeId) → slice_get ns i ≡ Some n → Fits a n t
fits_at a [] [] t fit all i n is = absurd cc
fits_at a [] (u ∷ types) t fit all i n is = absurd fit
fits_at a (m ∷ ns) [] t fit all i n is = absurd fit
fits_at a (m ∷ ns) (u ∷ types) t fit all zero n is =
    let same : m ≡ n = cc in subst (λ x. Fits a x t) same (subst (λ x. Fits a m x) all.0 fit.0)
fits_at a (m ∷ ns) (u ∷ types) t fit all (suc i) n is = fits_at a ns types t fit.1 all.1 i n is

module _ (b : Building) (left : Value) (captures : List NodeId) where
  -- of captures that are taken there is one
  pub some_taken : (takes : List Ty) (gives : Ty) → ArePicked takes gives → AreTaken b.arena left captures takes → 0 < length captures
  some_taken (ty.Int ∷ first ∷ rest) gives picked taken =
      let long : length captures ≡ suc (length rest) = sym (AllZip-long (Fits b.arena) captures (first ∷ rest) taken.1) in omega (arith, long)
  some_taken _ gives picked taken = absurd picked

  -- it is a root that reads back as the term
  pub picked_root : (takes : List Ty) (gives : Ty) → ArePicked takes gives → IsEmpty b.arena b.scope → Every (Given b.arena.given) captures
      → AreTaken b.arena left captures takes → (n : NodeId) → slice_get captures (place_of (length captures) left) ≡ Some n
      → IsRoot b captures n (Cap (place_of (length (others takes)) left)) gives
  picked_root (ty.Int ∷ first ∷ rest) gives picked empty given taken n is =
      let long : length captures ≡ suc (length rest) = sym (AllZip-long (Fits b.arena) captures (first ∷ rest) taken.1) in
      let here = given_at (Given b.arena.given) captures given (place_of (length captures) left) n is in
      record {
        unfolds = (
          subst (λ k. slice_get captures (place_of k left) ≡ Some n) long is,
          outside_grown [] b b 0 (grown_none [] b) empty n here,
        );
        given = here;
        fits = fits_at b.arena captures (first ∷ rest) gives taken.1 picked (place_of (length captures) left) n is;
      }
  picked_root _ gives picked empty given taken n is = absurd picked
