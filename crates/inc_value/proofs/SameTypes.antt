-- Equality of types: as the code tests it, and what the tests of the definitions say.
use Rattle.std.proofs.Common.{◌≡◌, Bool, true, false, ◌&&◌, List, [], ◌∷◌, refl, ap}
use lib.Pointwise.{pointwise}
use Rattle.inc_value.specs.contracts.ty.TyPartialEq.TheImpl.{eq-value}
use Rattle.inc_value.specs.declared.ty.Base.TheVariants as base
use Rattle.inc_value.specs.declared.ty.Base.{Base}
use Rattle.inc_value.specs.declared.ty.Ty.TheVariants as ty
use Rattle.inc_value.specs.declared.ty.Ty.{Ty}
use Rattle.inc_value.specs.Ty.{same_base, same_ty, same_types}

-- ---- the code's tests are those of the definitions

base_same : (a b : Base) → eq-value.it (ty.Node a) (ty.Node b) ≡ same_base a b
base_same base.Int base.Int = refl
base_same base.Int base.Bool = refl
base_same base.Int base.Text = refl
base_same base.Bool base.Int = refl
base_same base.Bool base.Bool = refl
base_same base.Bool base.Text = refl
base_same base.Text base.Int = refl
base_same base.Text base.Bool = refl
base_same base.Text base.Text = refl

pub ty_same : (a b : Ty) → eq-value.it a b ≡ same_ty a b
ty_same ty.Int ty.Int = refl
ty_same ty.Bool ty.Bool = refl
ty_same ty.Text ty.Text = refl
ty_same (ty.Node a) (ty.Node b) = base_same a b
ty_same a b = refl

pub types_same : (left right : List Ty) → pointwise eq-value.it left right ≡ same_types left right
types_same [] [] = refl
types_same [] (b ∷ right) = refl
types_same (a ∷ left) [] = refl
types_same (a ∷ left) (b ∷ right) = rw (ty_same a b, types_same left right) refl

-- ---- what passes is equal

both_true : (a b : Bool) → (a && b) ≡ true → (a ≡ true) × (b ≡ true)
both_true true true is = (refl, refl)
both_true true false is = absurd (cc)
both_true false b is = absurd (cc)

base_true : (a b : Base) → same_base a b ≡ true → a ≡ b
base_true base.Int base.Int is = refl
base_true base.Bool base.Bool is = refl
base_true base.Text base.Text is = refl
base_true a b is = absurd (cc)

pub ty_true : (a b : Ty) → same_ty a b ≡ true → a ≡ b
ty_true ty.Int ty.Int is = refl
ty_true ty.Bool ty.Bool is = refl
ty_true ty.Text ty.Text is = refl
ty_true (ty.Node a) (ty.Node b) is = ap ty.Node (base_true a b is)
ty_true a b is = absurd (cc)

pub types_true : (left right : List Ty) → same_types left right ≡ true → left ≡ right
types_true [] [] is = refl
types_true (a ∷ left) (b ∷ right) is =
    let parts = both_true (same_ty a b) (same_types left right) is in
    let first = ty_true a b parts.0 in
    let rest = types_true left right parts.1 in
    cc
types_true left right is = absurd (cc)
