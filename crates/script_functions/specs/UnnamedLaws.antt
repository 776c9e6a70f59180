-- Laws of values with the nodes of references hidden.
use Rattle.std.specs.Prelude as std
use Rattle.std.specs.Prelude.{◌≡◌, List, [], ◌∷◌, map, All, IsTrue}
use Rattle.std.proofs.Common.{refl, sym, ◌∙◌, ap, subst}
use Rattle.std.proofs.lemmas.List.Elements.{All-nil, All-cons, All-head, All-tail}
use Rattle.inc_value.specs.Ty.{IsBase}
use Rattle.inc_value.specs.Value.{type_of, HaveTypes, IsProper}
use Rattle.inc_value.specs.declared.function.FnRef.{FnRef}
use Rattle.inc_value.specs.declared.function.FnKind.TheVariants.{Map}
use Rattle.inc_value.specs.declared.ty.Ty.{Ty}
use Rattle.inc_value.specs.declared.value.Value.{Value}
use Rattle.inc_value.specs.declared.value.Value.TheVariants.{Int, Bool, Text, Node}
use Rattle.node_arena.specs.Meanings.{GiveTypes, GiveProper, GiveNoReference, HaveMapSigs, SameValues}
use Rattle.script_model.specs.Values.{unnamed, unreferred, seen_value}

unnamed_type : (v : Value) → type_of (unnamed v) ≡ type_of v
unnamed_type (Int z) = refl
unnamed_type (Bool b) = refl
unnamed_type (Text bytes) = refl
unnamed_type (Node id base) = refl

unnamed_types : (vs : List Value) → map type_of (map unnamed vs) ≡ map type_of vs
unnamed_types [] = refl
unnamed_types (v ∷ vs) = rw (unnamed_type v, unnamed_types vs) refl

unnamed_proper : (v : Value) → IsProper v → IsProper (unnamed v)
unnamed_proper (Int z) h = h
unnamed_proper (Bool b) h = h
unnamed_proper (Text bytes) h = h
unnamed_proper (Node id base) h = h

all_unnamed_proper : (vs : List Value) → All IsProper vs → All IsProper (map unnamed vs)
all_unnamed_proper [] h = All-nil IsProper
all_unnamed_proper (v ∷ vs) h =
    All-cons IsProper (unnamed v) (map unnamed vs) (unnamed_proper v (All-head IsProper v vs h))
    (all_unnamed_proper vs (All-tail IsProper v vs h))

-- a value of a base type has no node to hide
pub base_is_unnamed : (v : Value) → IsBase (type_of v) → unnamed v ≡ v
base_is_unnamed (Int z) h = refl
base_is_unnamed (Bool b) h = refl
base_is_unnamed (Text bytes) h = refl
base_is_unnamed (Node id base) h = absurd h

-- nor have values of base types
pub bases_are_unnamed : (vs : List Value) → All IsBase (map type_of vs) → map unnamed vs ≡ vs
bases_are_unnamed [] h = refl
bases_are_unnamed (v ∷ vs) h =
    let first = base_is_unnamed v (All-head IsBase (type_of v) (map type_of vs) h) in
    let rest = bases_are_unnamed vs (All-tail IsBase (type_of v) (map type_of vs) h) in
    rw (first, rest) refl

-- values have the types that they have with their nodes hidden
pub still_have_types : (vs : List Value) (tys : List Ty) → HaveTypes vs tys → HaveTypes (map unnamed vs) tys
still_have_types vs tys h = unnamed_types vs ∙ h

-- a value of a base type is no reference
pub base_is_unreferred : (v : Value) → IsBase (type_of v) → unreferred v ≡ v
base_is_unreferred (Int z) h = refl
base_is_unreferred (Bool b) h = refl
base_is_unreferred (Text bytes) h = refl
base_is_unreferred (Node id base) h = absurd h

-- what is seen of a value is of a base type
unreferred_base : (v : Value) → IsBase (type_of (unreferred v))
unreferred_base (Int z) = tt
unreferred_base (Bool b) = tt
unreferred_base (Text bytes) = tt
unreferred_base (Node id base) = tt

module _ (known : FnRef → std.Bool) (value : FnRef → List Value → Value) where
  -- no function is seen to give a reference
  pub none_seen : GiveNoReference known (seen_value value)
  none_seen f args is_known kind = unreferred_base (value f (map unnamed args))

  module _ (bases : GiveNoReference known value) where
    seen : (f : FnRef) (args : List Value) → IsTrue (known f) → f.id.kind ≡ Map → seen_value value f args ≡ value f (map unnamed args)
    seen f args is_known kind = base_is_unreferred (value f (map unnamed args)) (bases f (map unnamed args) is_known kind)

    -- functions that give the types that they say still do
    pub still_typed : GiveTypes known value → GiveTypes known (seen_value value)
    still_typed typed f args is_known kind proper fit =
        ap type_of (seen f args is_known kind)
        ∙ typed f (map unnamed args) is_known kind (all_unnamed_proper args proper) (still_have_types args f.sig.takes fit)

    -- functions that give proper values still do
    pub still_proper : GiveProper known value → GiveProper known (seen_value value)
    still_proper gives f args is_known kind proper fit =
        subst IsProper (sym (seen f args is_known kind))
        (gives f (map unnamed args) is_known kind (all_unnamed_proper args proper) (still_have_types args f.sig.takes fit))

    -- of values of the types that it takes, a map gives the same
    pub same_given : HaveMapSigs known → (f : FnRef) (args : List Value) → IsTrue (known f) → f.id.kind ≡ Map
        → HaveTypes args f.sig.takes → value f args ≡ seen_value value f args
    same_given maps f args is_known kind fit =
        ap (value f) (sym (bases_are_unnamed args (subst (λ tys. All IsBase tys) (sym fit) (maps f is_known kind).1)))
        ∙ sym (seen f args is_known kind)

-- where a function gives what it gave it is seen to give what it was
pub same_seen : (value value' : FnRef → List Value → Value) → SameValues value value' → SameValues (seen_value value) (seen_value value')
same_seen value value' same f args = ap unreferred (same f (map unnamed args))
