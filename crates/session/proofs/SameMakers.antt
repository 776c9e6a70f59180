-- Bodies over which the same functions are known, and make the same right sides, make the same one for one.
use Rattle.std.proofs.Common.{◌≡◌, ◌&&◌, ℕ, suc, Bool, true, false, List, [], ◌∷◌, Option, None, Some, slice_get, length, refl, ap, sym, ◌∙◌}
use Rattle.inc_value.specs.Sig.{Signature}
use Rattle.inc_value.specs.Ty.{same_base, same_ty, same_types}
use Rattle.inc_value.specs.declared.function.FnKind.TheVariants as kind
use Rattle.inc_value.specs.declared.function.FnRef.{FnRef}
use Rattle.inc_value.specs.declared.ty.Base.{Base}
use Rattle.inc_value.specs.declared.ty.Base.TheVariants as base
use Rattle.inc_value.specs.declared.ty.Ty.{Ty}
use Rattle.inc_value.specs.declared.ty.Ty.TheVariants as ty
use Rattle.inc_value.proofs.SameTypes.{ty_true, types_true}
use Rattle.node_arena.specs.Meanings.{SameKnown}
use Rattle.node_arena.specs.RightSide.{RightSide, SameSides}
use Rattle.script_functions.specs.Bodies.{Body}
use Rattle.script_functions.specs.Keeping.{Maker, has_types, is_known, makers, same_signature, side_in, side_made}

-- ---- signatures

both_true : (a b : Bool) → a ≡ true → b ≡ true → (a && b) ≡ true
both_true true b is is' = is'
both_true false b is is' = absurd (cc)

are_true : (a b : Bool) → (a && b) ≡ true → (a ≡ true) × (b ≡ true)
are_true true true is = (refl, refl)
are_true true false is = absurd (cc)
are_true false b is = absurd (cc)

base_itself : (a : Base) → same_base a a ≡ true
base_itself base.Int = refl
base_itself base.Bool = refl
base_itself base.Text = refl

pub ty_itself : (a : Ty) → same_ty a a ≡ true
ty_itself ty.Int = refl
ty_itself ty.Bool = refl
ty_itself ty.Text = refl
ty_itself (ty.Node a) = base_itself a

types_itself : (tys : List Ty) → same_types tys tys ≡ true
types_itself [] = refl
types_itself (a ∷ tys) = both_true (same_ty a a) (same_types tys tys) (ty_itself a) (types_itself tys)

itself : (s : Signature) → same_signature s s ≡ true
itself s = both_true (same_types s.takes s.takes) (same_ty s.gives s.gives) (types_itself s.takes) (ty_itself s.gives)

signature_true : (s t : Signature) → same_signature s t ≡ true → s ≡ t
signature_true s t is =
    let parts = are_true (same_types s.takes t.takes) (same_ty s.gives t.gives) is in
    ap (λ (takes : List Ty). record { takes = takes; gives = s.gives }) (types_true s.takes t.takes parts.0)
    ∙ ap (λ (gives : Ty). record { takes = t.takes; gives = gives }) (ty_true s.gives t.gives parts.1)

-- ---- makers

one_same : (m n : Option Maker) → ((s : Signature) → has_types m s ≡ has_types n s) → side_made m ≡ side_made n → m ≡ n
one_same None None known side = refl
one_same None (Some n) known side = let e : false ≡ true = known n.sig ∙ itself n.sig in absurd (cc)
one_same (Some m) None known side = let e : true ≡ false = sym (itself m.sig) ∙ known m.sig in absurd (cc)
one_same (Some m) (Some n) known side =
    let sigs = signature_true m.sig n.sig (known n.sig ∙ itself n.sig) in
    ap (λ (s : Signature). Some (record { sig = s; side = m.side })) sigs
    ∙ ap (λ (r : RightSide). Some (record { sig = n.sig; side = r })) side

all_same : {A : Type 0} (xs ys : List A) → ((i : ℕ) → slice_get xs i ≡ slice_get ys i) → xs ≡ ys
all_same [] [] each = refl
all_same [] (y ∷ ys) each = let e : None ≡ Some y = each 0 in absurd (cc)
all_same (x ∷ xs) [] each = let e : Some x ≡ None = each 0 in absurd (cc)
all_same (x ∷ xs) (y ∷ ys) each =
    let first : Some x ≡ Some y = each 0 in
    let same : x ≡ y = cc in
    ap (λ z. z ∷ xs) same ∙ ap (λ zs. y ∷ zs) (all_same xs ys (λ i. each (suc i)))

-- the function of right sides at a number, with these types
abbrev at_number : ℕ → Signature → FnRef
at_number i s = record { id = record { kind = kind.Rhs; number = i }; sig = s }

pub same_makers : (maps maps' : FnRef → Bool) (old new : List Body) → SameKnown (is_known maps (makers old)) (is_known maps' (makers new))
    → SameSides (side_in (makers old)) (side_in (makers new)) → makers new ≡ makers old
same_makers maps maps' old new known sides = all_same (makers new) (makers old) (λ i.
    one_same (slice_get (makers new) i) (slice_get (makers old) i) (λ s. known (at_number i s))
    (sides (at_number i (record { takes = []; gives = ty.Int }))))

-- so there are as many
pub as_many : (old new : List Body) → makers new ≡ makers old → length new ≡ length old
as_many old new same = sym (count new) ∙ ap length same ∙ count old
  where
    count : (bodies : List Body) → length (makers bodies) ≡ length bodies
    count [] = refl
    count (b ∷ bodies) = ap suc (count bodies)
