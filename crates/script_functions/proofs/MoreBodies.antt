-- Tables of functions of right sides with one more, or beside more maps.
use Rattle.std.proofs.Common.{◌≡◌, ◌≤◌, ◌&&◌, ◌⊎◌, inl, inr, ℕ, zero, suc, Bool, true, false, Option, Some, None}
use Rattle.std.proofs.Common.{List, [], ◌∷◌, ◌++◌, length, slice_get, ◌∙◌, refl, sym, subst, ap}
use Rattle.std.specs.Prelude.{IsTrue}
use Rattle.inc_value.specs.Choice.{Among}
use Rattle.inc_value.specs.Sig.{Signature}
use Rattle.inc_value.specs.Ty.{same_base, same_ty, same_types}
use Rattle.inc_value.specs.declared.function.FnKind.{FnKind}
use Rattle.inc_value.specs.declared.function.FnKind.TheVariants as kind
use Rattle.inc_value.specs.declared.function.FnRef.{FnRef}
use Rattle.inc_value.specs.declared.ty.Base.{Base}
use Rattle.inc_value.specs.declared.ty.Base.TheVariants as base
use Rattle.inc_value.specs.declared.ty.Ty.{Ty}
use Rattle.inc_value.specs.declared.ty.Ty.TheVariants as ty
use Rattle.inc_value.specs.declared.value.Value.{Value}
use Rattle.node_arena.specs.Building.{Use}
use Rattle.node_arena.specs.Listing.{Listed}
use Rattle.node_arena.specs.Meanings.{KeepsKnown, SameKnown}
use Rattle.node_arena.specs.RightSide.{RightSide, no_side, AreUsable, IsLawful, IsUsable, KeepsMeanings, Means}
use Rattle.script_functions.specs.Keeping.{Maker, same_signature, by_kind, has_types}
use Rattle.script_functions.specs.Keeping.{is_known, side_made, side_in, AreSound, brought}

-- ---- the test of types passes equal ones

both_true : (a b : Bool) → a ≡ true → b ≡ true → (a && b) ≡ true
both_true true b is is' = is'
both_true false b is is' = absurd cc

pub base_itself : (a : Base) → same_base a a ≡ true
base_itself base.Int = refl
base_itself base.Bool = refl
base_itself base.Text = refl

pub ty_itself : (a : Ty) → same_ty a a ≡ true
ty_itself ty.Int = refl
ty_itself ty.Bool = refl
ty_itself ty.Text = refl
ty_itself (ty.Node a) = base_itself a

types_itself : (tys : List Ty) → same_types tys tys ≡ true
types_itself [] = refl
types_itself (a ∷ tys) = both_true (same_ty a a) (same_types tys tys) (ty_itself a) (types_itself tys)

pub itself : (s : Signature) → same_signature s s ≡ true
itself s = both_true (same_types s.takes s.takes) (same_ty s.gives s.gives) (types_itself s.takes) (ty_itself s.gives)

-- ---- a list with one more

stays : {A : Type 0} (xs : List A) (x y : A) (n : ℕ) → slice_get xs n ≡ Some y → slice_get (xs ++ x ∷ []) n ≡ Some y
stays [] x y n is = absurd cc
stays (z ∷ zs) x y zero is = is
stays (z ∷ zs) x y (suc n) is = stays zs x y n is

last_there : {A : Type 0} (xs : List A) (x : A) → slice_get (xs ++ x ∷ []) (length xs) ≡ Some x
last_there [] x = refl
last_there (y ∷ ys) x = last_there ys x

old_or_last : {A : Type 0} (xs : List A) (x y : A) (n : ℕ) → slice_get (xs ++ x ∷ []) n ≡ Some y
    → (slice_get xs n ≡ Some y) ⊎ (x ≡ y)
old_or_last [] x y zero is = inr (let same : x ≡ y = cc in same)
old_or_last [] x y (suc n) is = absurd cc
old_or_last (z ∷ zs) x y zero is = inl is
old_or_last (z ∷ zs) x y (suc n) is = old_or_last zs x y n is

-- ---- the same maps

module _ (maps maps' : FnRef → Bool) (same : SameKnown maps maps') (sides : List Maker) where
  pub same_maps : SameKnown (is_known maps sides) (is_known maps' sides)
  same_maps f = ap (λ (b : Bool). by_kind f.id.kind b (has_types (slice_get sides f.id.number) f.sig)) (same f)

  pub same_maps_sound : AreSound maps sides → AreSound maps' sides
  same_maps_sound sound = record {
    lawful = sound.lawful;
    usable = λ i m is u among. (let h = sound.usable i m is u among in
        record { is_known = subst IsTrue (sym (same_maps u.function)) h.is_known; within = h.within; size = h.size });
  }

-- ---- one more function of right sides

module _ (maps : FnRef → Bool) (sides : List Maker) (x : Maker) where
  abbrev longer : List Maker
  longer = sides ++ x ∷ []

  same_place : (n : ℕ) (s : Signature) (o : Option Maker) → slice_get sides n ≡ o → has_types o s ≡ true
      → slice_get longer n ≡ slice_get sides n
  same_place n s None is h = absurd cc
  same_place n s (Some m) is h = stays sides x m n is ∙ sym is

  known_still : (k : FnKind) (n : ℕ) (s : Signature) (b : Bool) → by_kind k b (has_types (slice_get sides n) s) ≡ true
      → by_kind k b (has_types (slice_get longer n) s) ≡ true
  known_still kind.Map n s b h = h
  known_still kind.Rhs n s b h = subst (λ o. has_types o s ≡ true) (sym (same_place n s (slice_get sides n) refl h)) h

  more : KeepsKnown (is_known maps sides) (is_known maps longer)
  more f h = known_still f.id.kind f.id.number f.sig (maps f) h

  side_still : (k : FnKind) (n : ℕ) (s : Signature) (b : Bool) → by_kind k b (has_types (slice_get sides n) s) ≡ true
      → by_kind k no_side (side_made (slice_get longer n)) ≡ by_kind k no_side (side_made (slice_get sides n))
  side_still kind.Map n s b h = refl
  side_still kind.Rhs n s b h = ap side_made (same_place n s (slice_get sides n) refl h)

  same_side : (f : FnRef) → IsTrue (is_known maps sides f) → side_in longer f ≡ side_in sides f
  same_side f h = side_still f.id.kind f.id.number f.sig (maps f) h

  usable_still : (ids : List Listed) (u : Use) → IsUsable (is_known maps sides) (side_in sides) ids u
      → IsUsable (is_known maps longer) (side_in longer) ids u
  usable_still ids u h =
      let same = sym (same_side u.function h.is_known) in
      record {
        is_known = more u.function h.is_known;
        within = subst (λ (r : RightSide). (y : Listed) → Among y r.ids → Among y ids) same h.within;
        size = subst (λ (r : RightSide). r.size ≤ u.most) same h.size;
      }

  all_usable : (m : Maker) → AreUsable (is_known maps sides) (side_in sides) m.side
      → AreUsable (is_known maps longer) (side_in longer) m.side
  all_usable m h u among = usable_still m.side.ids u (h u among)

  sound : AreSound maps sides → IsLawful x.sig x.side → AreUsable (is_known maps sides) (side_in sides) x.side
      → AreSound maps longer
  sound old lawful usable = record {
    lawful = λ i m is. elim (old_or_last sides x m i is) [
      | inl before ↦ old.lawful i m before
      | inr last ↦ subst (λ (y : Maker). IsLawful y.sig y.side) last lawful
    ];
    usable = λ i m is. elim (old_or_last sides x m i is) [
      | inl before ↦ all_usable m (old.usable i m before)
      | inr last ↦ all_usable m
          (subst (λ (y : Maker). AreUsable (is_known maps sides) (side_in sides) y.side) last usable)
    ];
  }

  -- the name of the last
  abbrev named : ℕ → Signature → FnRef
  named number s = record { id = record { kind = kind.Rhs; number = number }; sig = s }

  same_name : (number : ℕ) (s : Signature) → number ≡ length sides → s ≡ x.sig
      → named (length sides) x.sig ≡ named number s
  same_name number s e e' = λ i. record { id = record { kind = kind.Rhs; number = sym e i }; sig = sym e' i }

  known_last : IsTrue (is_known maps longer (named (length sides) x.sig))
  known_last = subst (λ o. has_types o x.sig ≡ true) (sym (last_there sides x)) (itself x.sig)

  means_last : (value : FnRef → List Value → Value)
      → Means value (side_in longer) (named (length sides) x.sig) (brought x)
  means_last value = record {
    same_kind = refl;
    same_sig = refl;
    values = λ e args. absurd cc;
    same_side = λ e. ap side_made (last_there sides x);
  }

  -- the same of an equal list, and of an equal name
  module _ (sides' : List Maker) (is : sides' ≡ longer) where
    pub one_more_sound : AreSound maps sides → IsLawful x.sig x.side → AreUsable (is_known maps sides) (side_in sides) x.side
        → AreSound maps sides'
    one_more_sound old lawful usable = subst (AreSound maps) (sym is) (sound old lawful usable)

    pub one_more_means : (names : List ℕ → Option FnRef) (value : FnRef → List Value → Value)
        → KeepsMeanings names names (is_known maps sides) (is_known maps sides') value value (side_in sides) (side_in sides')
    one_more_means names value =
        subst (λ l. KeepsMeanings names names (is_known maps sides) (is_known maps l) value value (side_in sides) (side_in l)) (sym is)
        (record { names = λ name. refl; known = more; values = λ f args h. refl; sides = same_side })

    module _ (number : ℕ) (s : Signature) (e : number ≡ length sides) (e' : s ≡ x.sig) where
      pub last_known :
          IsTrue (is_known maps sides' (record { id = record { kind = kind.Rhs; number = number }; sig = s }))
      last_known =
          subst (λ l. IsTrue (is_known maps l (named number s))) (sym is)
          (subst (λ f. IsTrue (is_known maps longer f)) (same_name number s e e') known_last)

      pub last_means : (value : FnRef → List Value → Value)
          → Means value (side_in sides')
          (record { id = record { kind = kind.Rhs; number = number }; sig = s }) (brought x)
      last_means value =
          subst (λ l. Means value (side_in l) (named number s) (brought x)) (sym is)
          (subst (λ f. Means value (side_in longer) f (brought x)) (same_name number s e e') (means_last value))
