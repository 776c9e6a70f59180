-- Laws of tables of functions of right sides.
use Rattle.std.specs.Prelude.{◌≡◌, ◌&&◌, Bool, true, false, List, Option, Some, None, slice_get, IsTrue}
use Rattle.std.proofs.Common.{◌∙◌, refl, sym, subst, ap}
use Rattle.inc_value.proofs.SameTypes.{ty_true, types_true}
use Rattle.inc_value.specs.Sig.{Signature}
use Rattle.inc_value.specs.Ty.{same_ty, same_types}
use Rattle.inc_value.specs.declared.function.FnKind.{FnKind}
use Rattle.inc_value.specs.declared.function.FnKind.TheVariants as kind
use Rattle.inc_value.specs.declared.function.FnRef.{FnRef}
use Rattle.inc_value.specs.declared.value.Value.{Value}
use Rattle.node_arena.specs.Meanings.{GiveNoReference, GiveProper, GiveTypes, HaveMapSigs}
use Rattle.node_arena.specs.RightSide.{no_side, AreUsable, HasNone, IsLawful, SidesHold}
use Rattle.script_functions.specs.Keeping.{Maker, same_signature, by_kind, has_types}
use Rattle.script_functions.specs.Keeping.{is_known, side_made, side_in, AreSound}

-- ---- the test of types is exact

first_true : (a b : Bool) → (a && b) ≡ true → a ≡ true
first_true true b is = refl
first_true false b is = is

last_true : (a b : Bool) → (a && b) ≡ true → b ≡ true
last_true true b is = is
last_true false b is = absurd cc

pub same_is : (s t : Signature) → same_signature s t ≡ true → s ≡ t
same_is s t is =
    let takes = types_true s.takes t.takes (first_true (same_types s.takes t.takes) (same_ty s.gives t.gives) is) in
    let gives = ty_true s.gives t.gives (last_true (same_types s.takes t.takes) (same_ty s.gives t.gives) is) in
    λ i. record { takes = takes i; gives = gives i }

-- ---- what is known

module _ (maps : FnRef → Bool) (sides : List Maker) where
  -- of either kind it is known there
  known_at : (k : FnKind) (f : FnRef) → IsTrue (is_known maps sides f) → f.id.kind ≡ k
      → by_kind k (maps f) (has_types (slice_get sides f.id.number) f.sig) ≡ true
  known_at k f h e = subst (λ x. by_kind x (maps f) (has_types (slice_get sides f.id.number) f.sig) ≡ true) e h

  -- a known map is one of the maps
  pub map_known : (f : FnRef) → IsTrue (is_known maps sides f) → f.id.kind ≡ kind.Map → IsTrue (maps f)
  map_known f h e = known_at kind.Map f h e

  -- and each of the maps is known
  pub known_map : (f : FnRef) → IsTrue (maps f) → f.id.kind ≡ kind.Map → IsTrue (is_known maps sides f)
  known_map f h e = subst (λ k. by_kind k (maps f) (has_types (slice_get sides f.id.number) f.sig) ≡ true) (sym e) h

  has_one : (o : Option Maker) (s : Signature) → has_types o s ≡ true → (m : Maker) × (o ≡ Some m) × (m.sig ≡ s)
  has_one None s is = absurd cc
  has_one (Some m) s is = (m, refl, same_is m.sig s is)

  -- a known function of right sides stands in the table, with its types
  pub there : (f : FnRef) → IsTrue (is_known maps sides f) → f.id.kind ≡ kind.Rhs
      → (m : Maker) × (slice_get sides f.id.number ≡ Some m) × (m.sig ≡ f.sig)
  there f h e = has_one (slice_get sides f.id.number) f.sig (known_at kind.Rhs f h e)

-- what stands there is what it makes
pub side_there : (sides : List Maker) (f : FnRef) (m : Maker) → f.id.kind ≡ kind.Rhs
    → slice_get sides f.id.number ≡ Some m → m.side ≡ side_in sides f
side_there sides f m e is =
    sym (ap (λ k. by_kind k no_side (side_made (slice_get sides f.id.number))) e ∙ ap side_made is)

no_side_of_map : (sides : List Maker) (f : FnRef) → f.id.kind ≡ kind.Map → no_side ≡ side_in sides f
no_side_of_map sides f e = sym (ap (λ k. by_kind k no_side (side_made (slice_get sides f.id.number))) e)

-- ---- what is promised of known functions

module _ (maps : FnRef → Bool) (sides : List Maker) where
  pub maps_have_sigs : HaveMapSigs maps → HaveMapSigs (is_known maps sides)
  maps_have_sigs h f is e = h f (map_known maps sides f is e) e

  pub maps_typed : (value : FnRef → List Value → Value) → GiveTypes maps value
      → GiveTypes (is_known maps sides) value
  maps_typed value h f args is e proper fit = h f args (map_known maps sides f is e) e proper fit

  pub maps_proper : (value : FnRef → List Value → Value) → GiveProper maps value
      → GiveProper (is_known maps sides) value
  maps_proper value h f args is e proper fit = h f args (map_known maps sides f is e) e proper fit

  pub maps_base : (value : FnRef → List Value → Value) → GiveNoReference maps value
      → GiveNoReference (is_known maps sides) value
  maps_base value h f args is e = h f args (map_known maps sides f is e) e

  pub sides_hold : AreSound maps sides → SidesHold (is_known maps sides) (side_in sides)
  sides_hold sound = record {
    maps = λ f h. subst HasNone (no_side_of_map sides f h.1) (record { uses = refl; ids = refl; size = refl });
    lawful = λ f h. (let m = there maps sides f h.0 h.1 in
        subst (λ (s : Signature). IsLawful s (side_in sides f)) m.2
        (subst (IsLawful m.0.sig) (side_there sides f m.0 h.1 m.1) (sound.lawful f.id.number m.0 m.1)));
    usable = λ f h. (let m = there maps sides f h.0 h.1 in
        subst (AreUsable (is_known maps sides) (side_in sides)) (side_there sides f m.0 h.1 m.1)
        (sound.usable f.id.number m.0 m.1));
  }
