-- Laws of tables of functions.
use Rattle.std.specs.Prelude.{◌≡◌, Bool, true, List, Option, Some, None, slice_get, IsTrue}
use Rattle.std.proofs.Common.{◌∙◌, refl, sym, subst, ap}
use Rattle.inc_value.specs.Sig.{Signature, IsMapSig}
use Rattle.inc_value.specs.Ty.{IsBase}
use Rattle.inc_value.specs.Value.{type_of, HaveTypes, IsProper}
use Rattle.inc_value.specs.declared.function.FnKind.{FnKind}
use Rattle.inc_value.specs.declared.function.FnKind.TheVariants as kind
use Rattle.inc_value.specs.declared.function.FnRef.{FnRef}
use Rattle.inc_value.specs.declared.value.Value.{Value}
use Rattle.node_arena.specs.Meanings.{HaveMapSigs, GiveTypes, GiveProper, GiveNoReference}
use Rattle.node_arena.specs.RightSide.{no_side, IsLawful, AreUsable, HasNone, SidesHold}
use Rattle.closures.specs.Signature.{signature_from}
use Rattle.closures.specs.Tables.{MapMeaning, SideMeaning, by_kind, has_map, has_side, is_known}
use Rattle.closures.specs.Tables.{any_value, value_or, value_in, side_or, side_in, AreSound}

-- ---- known functions

module _ (maps : List MapMeaning) (sides : List SideMeaning) (f : FnRef) (h : IsTrue (is_known maps sides f)) where
  has_of_map : (o : Option MapMeaning) → has_map o f.sig ≡ true → (m : MapMeaning) × (o ≡ Some m) × (m.sig ≡ f.sig)
  has_of_map None e = absurd cc
  has_of_map (Some m) e = (m, refl, signature_from m.sig f.sig e)

  has_of_side : (o : Option SideMeaning) → has_side o f.sig ≡ true → (m : SideMeaning) × (o ≡ Some m) × (m.sig ≡ f.sig)
  has_of_side None e = absurd cc
  has_of_side (Some m) e = (m, refl, signature_from m.sig f.sig e)

  by_its_kind : (k : FnKind) → f.id.kind ≡ k
      → by_kind k (has_map (slice_get maps f.id.number) f.sig) (has_side (slice_get sides f.id.number) f.sig) ≡ true
  by_its_kind k e =
      let has : FnKind → Bool = λ x.
      by_kind x (has_map (slice_get maps f.id.number) f.sig) (has_side (slice_get sides f.id.number) f.sig) in
      subst (λ x. has x ≡ true) e h

  -- a known map stands in its table, with its types
  pub map_there : f.id.kind ≡ kind.Map → (m : MapMeaning) × (slice_get maps f.id.number ≡ Some m) × (m.sig ≡ f.sig)
  map_there e = has_of_map (slice_get maps f.id.number) (by_its_kind kind.Map e)

  -- so does a known function of right sides
  pub side_there : f.id.kind ≡ kind.Rhs → (m : SideMeaning) × (slice_get sides f.id.number ≡ Some m) × (m.sig ≡ f.sig)
  side_there e = has_of_side (slice_get sides f.id.number) (by_its_kind kind.Rhs e)

-- a map gives what the one at its number does
pub value_at : (maps : List MapMeaning) (f : FnRef) (m : MapMeaning) (args : List Value) → f.id.kind ≡ kind.Map
    → slice_get maps f.id.number ≡ Some m → m.value args ≡ value_in maps f args
value_at maps f m args e is =
    sym (ap (λ k. by_kind k (value_or (slice_get maps f.id.number) args) any_value) e ∙ ap (λ o. value_or o args) is)

-- a function of right sides makes what the one at its number does
pub side_at : (sides : List SideMeaning) (f : FnRef) (m : SideMeaning) → f.id.kind ≡ kind.Rhs
    → slice_get sides f.id.number ≡ Some m → m.side ≡ side_in sides f
side_at sides f m e is = sym (ap (λ k. by_kind k no_side (side_or (slice_get sides f.id.number))) e ∙ ap side_or is)

-- a map makes nothing
no_side_at : (sides : List SideMeaning) (f : FnRef) → f.id.kind ≡ kind.Map → no_side ≡ side_in sides f
no_side_at sides f e = sym (ap (λ k. by_kind k no_side (side_or (slice_get sides f.id.number))) e)

-- ---- what sound tables promise

module _ (maps : List MapMeaning) (sides : List SideMeaning) (sound : AreSound maps sides) where
  pub maps_known : HaveMapSigs (is_known maps sides)
  maps_known f h e = let m = map_there maps sides f h e in subst IsMapSig m.2 (sound.is_map f.id.number m.0 m.1)

  takes : (args : List Value) (s t : Signature) → s ≡ t → HaveTypes args t.takes → HaveTypes args s.takes
  takes args s t e has = has ∙ ap (λ (x : Signature). x.takes) (sym e)

  pub maps_typed : GiveTypes (is_known maps sides) (value_in maps)
  maps_typed f args h e proper has =
      let m = map_there maps sides f h e in
      let typed = (sound.lawful_map f.id.number m.0 m.1).types args proper (takes args m.0.sig f.sig m.2 has) in
      sym (ap type_of (value_at maps f m.0 args e m.1)) ∙ (typed ∙ ap (λ (s : Signature). s.gives) m.2)

  pub maps_proper : GiveProper (is_known maps sides) (value_in maps)
  maps_proper f args h e proper has =
      let m = map_there maps sides f h e in
      subst IsProper (value_at maps f m.0 args e m.1)
      ((sound.lawful_map f.id.number m.0 m.1).proper args proper (takes args m.0.sig f.sig m.2 has))

  pub maps_base : GiveNoReference (is_known maps sides) (value_in maps)
  maps_base f args h e =
      let m = map_there maps sides f h e in
      subst (λ v. IsBase (type_of v)) (value_at maps f m.0 args e m.1)
      ((sound.lawful_map f.id.number m.0 m.1).no_reference args)

  pub sides_hold : SidesHold (is_known maps sides) (side_in sides)
  sides_hold = record {
    maps = λ f h. subst HasNone (no_side_at sides f h.1) (record { uses = refl; ids = refl; size = refl });
    lawful = λ f h. (let m = side_there maps sides f h.0 h.1 in
        subst (λ (s : Signature). IsLawful s (side_in sides f)) m.2
        (subst (IsLawful m.0.sig) (side_at sides f m.0 h.1 m.1) (sound.lawful_side f.id.number m.0 m.1)));
    usable = λ f h. (let m = side_there maps sides f h.0 h.1 in
        subst (AreUsable (is_known maps sides) (side_in sides)) (side_at sides f m.0 h.1 m.1)
        (sound.usable f.id.number m.0 m.1));
  }
