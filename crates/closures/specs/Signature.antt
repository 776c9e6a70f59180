-- Whether two signatures are the same.
use Rattle.std.specs.Prelude.{◌≡◌, Bool, true, false, ◌&&◌, List, [], ◌∷◌}
use Rattle.std.proofs.Common.{refl}
use Rattle.inc_value.specs.Sig.{Signature}
use Rattle.inc_value.specs.Ty.{same_base, same_ty, same_types}
use Rattle.inc_value.specs.declared.ty.Base.{Base}
use Rattle.inc_value.specs.declared.ty.Base.TheVariants as base
use Rattle.inc_value.specs.declared.ty.Ty.{Ty}
use Rattle.inc_value.specs.declared.ty.Ty.TheVariants as ty
use Rattle.inc_value.proofs.SameTypes.{ty_true, types_true}

-- the same types taken, one for one, and the same one given
abbrev pub same_signature : Signature → Signature → Bool
same_signature s t = same_types s.takes t.takes && same_ty s.gives t.gives

-- ---- the test is exact

both_true : (a b : Bool) → (a && b) ≡ true → (a ≡ true) × (b ≡ true)
both_true true b is = (refl, is)
both_true false b is = absurd cc

-- what passes is equal
pub signature_from : (s t : Signature) → same_signature s t ≡ true → s ≡ t
signature_from s t is =
    let parts = both_true (same_types s.takes t.takes) (same_ty s.gives t.gives) is in
    let takes = types_true s.takes t.takes parts.0 in
    let gives = ty_true s.gives t.gives parts.1 in
    λ i. record { takes = takes i; gives = gives i }

base_same : (a : Base) → same_base a a ≡ true
base_same base.Int = refl
base_same base.Bool = refl
base_same base.Text = refl

ty_same : (a : Ty) → same_ty a a ≡ true
ty_same ty.Int = refl
ty_same ty.Bool = refl
ty_same ty.Text = refl
ty_same (ty.Node a) = base_same a

types_same : (tys : List Ty) → same_types tys tys ≡ true
types_same [] = refl
types_same (a ∷ tys) = rw (ty_same a, types_same tys) refl

-- a signature passes against itself
pub signature_same : (s : Signature) → same_signature s s ≡ true
signature_same s = rw (types_same s.takes, ty_same s.gives) refl
