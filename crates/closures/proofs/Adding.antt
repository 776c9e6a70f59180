-- Tables of functions with one more.
use Rattle.std.proofs.Common.{◌≡◌, ◌≤◌, ◌⊎◌, inl, inr, ℕ, zero, suc, Bool, true, List, [], ◌∷◌, ◌++◌, length}
use Rattle.std.proofs.Common.{Option, Some, None, slice_get, IsTrue, ◌∙◌, refl, sym, subst, ap}
use Rattle.inc_value.specs.Choice.{Among}
use Rattle.inc_value.specs.Sig.{Signature, IsMapSig}
use Rattle.inc_value.specs.declared.function.FnKind.{FnKind}
use Rattle.inc_value.specs.declared.function.FnKind.TheVariants as kind
use Rattle.inc_value.specs.declared.function.FnRef.{FnRef}
use Rattle.inc_value.specs.declared.value.Value.{Value}
use Rattle.node_arena.specs.Building.{Use}
use Rattle.node_arena.specs.Listing.{Listed}
use Rattle.node_arena.specs.Meanings.{IsLawfulMap, KeepsKnown}
use Rattle.node_arena.specs.RightSide.{RightSide, no_side, IsLawful, AreUsable, IsUsable, KeepsMeanings, Means}
use Rattle.closures.specs.Signature.{signature_same}
use Rattle.closures.specs.Tables.{MapMeaning, SideMeaning, by_kind, has_map, has_side, is_known}
use Rattle.closures.specs.Tables.{any_value, value_or, value_in, side_or, side_in, AreSound, map_brought, side_brought}

-- ---- lists with one more

get_more : {A : Type 0} (xs : List A) (x y : A) (n : ℕ) → slice_get xs n ≡ Some y → slice_get (xs ++ x ∷ []) n ≡ Some y
get_more [] x y n is = absurd cc
get_more (z ∷ zs) x y zero is = is
get_more (z ∷ zs) x y (suc n) is = get_more zs x y n is

get_last : {A : Type 0} (xs : List A) (x : A) → slice_get (xs ++ x ∷ []) (length xs) ≡ Some x
get_last [] x = refl
get_last (y ∷ ys) x = get_last ys x

old_or_last : {A : Type 0} (xs : List A) (x y : A) (i : ℕ) → slice_get (xs ++ x ∷ []) i ≡ Some y
    → (slice_get xs i ≡ Some y) ⊎ (x ≡ y)
old_or_last [] x y zero is = inr (let e : x ≡ y = cc in e)
old_or_last [] x y (suc i) is = absurd cc
old_or_last (z ∷ zs) x y zero is = inl is
old_or_last (z ∷ zs) x y (suc i) is = old_or_last zs x y i is

-- the function of the kind, at the number, with the types
abbrev named : FnKind → ℕ → Signature → FnRef
named k number s = record { id = record { kind = k; number = number }; sig = s }

named_as : (k : FnKind) (m n : ℕ) (s t : Signature) → n ≡ m → t ≡ s → named k m s ≡ named k n t
named_as k m n s t e e' = λ i. record { id = record { kind = k; number = sym e i }; sig = sym e' i }

-- ---- a map added

module _ (maps : List MapMeaning) (sides : List SideMeaning) (x : MapMeaning) where
  abbrev longer : List MapMeaning
  longer = maps ++ x ∷ []

  map_at_more : (n : ℕ) (s : Signature) (o : Option MapMeaning) → slice_get maps n ≡ o → has_map o s ≡ true
      → slice_get longer n ≡ slice_get maps n
  map_at_more n s None is h = absurd cc
  map_at_more n s (Some m) is h = get_more maps x m n is ∙ sym is

  more_at : (k : FnKind) (n : ℕ) (s : Signature) (b : Bool) → by_kind k (has_map (slice_get maps n) s) b ≡ true
      → by_kind k (has_map (slice_get longer n) s) b ≡ true
  more_at kind.Map n s b h = subst (λ o. has_map o s ≡ true) (sym (map_at_more n s (slice_get maps n) refl h)) h
  more_at kind.Rhs n s b h = h

  more_maps : KeepsKnown (is_known maps sides) (is_known longer sides)
  more_maps f h = more_at f.id.kind f.id.number f.sig (has_side (slice_get sides f.id.number) f.sig) h

  kept_at : (k : FnKind) (n : ℕ) (s : Signature) (b : Bool) (args : List Value)
      → by_kind k (has_map (slice_get maps n) s) b ≡ true
      → by_kind k (value_or (slice_get longer n) args) any_value
      ≡ by_kind k (value_or (slice_get maps n) args) any_value
  kept_at kind.Map n s b args h = ap (λ o. value_or o args) (map_at_more n s (slice_get maps n) refl h)
  kept_at kind.Rhs n s b args h = refl

  map_keeps : (names : List ℕ → Option FnRef)
      → KeepsMeanings names names (is_known maps sides) (is_known longer sides) (value_in maps) (value_in longer) (side_in sides) (side_in sides)
  map_keeps names = record {
    names = λ name. refl;
    known = more_maps;
    values = λ f args h. kept_at f.id.kind f.id.number f.sig (has_side (slice_get sides f.id.number) f.sig) args h;
    sides = λ f h. refl;
  }

  map_sound : AreSound maps sides → IsMapSig x.sig → IsLawfulMap x.sig x.value → AreSound longer sides
  map_sound sound is lawful = record {
    is_map = λ i m e. elim (old_or_last maps x m i e) [
      | inl old ↦ sound.is_map i m old
      | inr last ↦ subst (λ (y : MapMeaning). IsMapSig y.sig) last is
    ];
    lawful_map = λ i m e. elim (old_or_last maps x m i e) [
      | inl old ↦ sound.lawful_map i m old
      | inr last ↦ subst (λ (y : MapMeaning). IsLawfulMap y.sig y.value) last lawful
    ];
    lawful_side = sound.lawful_side;
    usable = λ i m e u among. (let h = sound.usable i m e u among in
        record { is_known = more_maps u.function h.is_known; within = h.within; size = h.size });
  }

  map_known : IsTrue (is_known longer sides (named kind.Map (length maps) x.sig))
  map_known = subst (λ o. has_map o x.sig ≡ true) (sym (get_last maps x)) (signature_same x.sig)

  map_means : (right : FnRef → RightSide)
      → Means (value_in longer) right (named kind.Map (length maps) x.sig) (map_brought x)
  map_means right = record {
    same_kind = refl;
    same_sig = refl;
    values = λ e args. ap (λ o. value_or o args) (get_last maps x);
    same_side = λ e. absurd cc;
  }

  -- so it is with a list that is equal, and under an equal name
  module _ (new : List MapMeaning) (is : new ≡ longer) where
    pub map_sound_as : AreSound maps sides → IsMapSig x.sig → IsLawfulMap x.sig x.value → AreSound new sides
    map_sound_as sound a b = subst (λ l. AreSound l sides) (sym is) (map_sound sound a b)

    pub map_keeps_as : (names : List ℕ → Option FnRef)
        → KeepsMeanings names names (is_known maps sides) (is_known new sides) (value_in maps) (value_in new) (side_in sides) (side_in sides)
    map_keeps_as names =
        subst (λ l. KeepsMeanings names names (is_known maps sides) (is_known l sides) (value_in maps) (value_in l) (side_in sides) (side_in sides))
        (sym is) (map_keeps names)

    module _ (number : ℕ) (s : Signature) (number_is : number ≡ length maps) (sig_is : s ≡ x.sig) where
      pub map_known_as : IsTrue (is_known new sides (named kind.Map number s))
      map_known_as =
          subst (λ l. IsTrue (is_known l sides (named kind.Map number s))) (sym is)
          (subst (λ f. IsTrue (is_known longer sides f)) (named_as kind.Map _ number _ s number_is sig_is) map_known)

      pub map_means_as : (right : FnRef → RightSide)
          → Means (value_in new) right (named kind.Map number s) (map_brought x)
      map_means_as right =
          subst (λ l. Means (value_in l) right (named kind.Map number s) (map_brought x)) (sym is)
          (subst (λ f. Means (value_in longer) right f (map_brought x))
          (named_as kind.Map _ number _ s number_is sig_is) (map_means right))

-- ---- a function of right sides added

module _ (maps : List MapMeaning) (sides : List SideMeaning) (x : SideMeaning) where
  abbrev longer_sides : List SideMeaning
  longer_sides = sides ++ x ∷ []

  side_at_more : (n : ℕ) (s : Signature) (o : Option SideMeaning) → slice_get sides n ≡ o → has_side o s ≡ true
      → slice_get longer_sides n ≡ slice_get sides n
  side_at_more n s None is h = absurd cc
  side_at_more n s (Some m) is h = get_more sides x m n is ∙ sym is

  more_sides_at : (k : FnKind) (n : ℕ) (s : Signature) (b : Bool) → by_kind k b (has_side (slice_get sides n) s) ≡ true
      → by_kind k b (has_side (slice_get longer_sides n) s) ≡ true
  more_sides_at kind.Map n s b h = h
  more_sides_at kind.Rhs n s b h =
      subst (λ o. has_side o s ≡ true) (sym (side_at_more n s (slice_get sides n) refl h)) h

  more_sides : KeepsKnown (is_known maps sides) (is_known maps longer_sides)
  more_sides f h = more_sides_at f.id.kind f.id.number f.sig (has_map (slice_get maps f.id.number) f.sig) h

  side_kept_at : (k : FnKind) (n : ℕ) (s : Signature) (b : Bool) → by_kind k b (has_side (slice_get sides n) s) ≡ true
      → by_kind k no_side (side_or (slice_get longer_sides n)) ≡ by_kind k no_side (side_or (slice_get sides n))
  side_kept_at kind.Map n s b h = refl
  side_kept_at kind.Rhs n s b h = ap side_or (side_at_more n s (slice_get sides n) refl h)

  side_kept : (f : FnRef) → IsTrue (is_known maps sides f) → side_in longer_sides f ≡ side_in sides f
  side_kept f h = side_kept_at f.id.kind f.id.number f.sig (has_map (slice_get maps f.id.number) f.sig) h

  side_keeps : (names : List ℕ → Option FnRef)
      → KeepsMeanings names names (is_known maps sides) (is_known maps longer_sides) (value_in maps) (value_in maps)
      (side_in sides) (side_in longer_sides)
  side_keeps names = record { names = λ name. refl; known = more_sides; values = λ f args h. refl; sides = side_kept }

  still_usable : (ids : List Listed) (u : Use) → IsUsable (is_known maps sides) (side_in sides) ids u
      → IsUsable (is_known maps longer_sides) (side_in longer_sides) ids u
  still_usable ids u h =
      let same = sym (side_kept u.function h.is_known) in
      record {
        is_known = more_sides u.function h.is_known;
        within = subst (λ (r : RightSide). (y : Listed) → Among y r.ids → Among y ids) same h.within;
        size = subst (λ (r : RightSide). r.size ≤ u.most) same h.size;
      }

  all_still : (m : SideMeaning) → AreUsable (is_known maps sides) (side_in sides) m.side
      → AreUsable (is_known maps longer_sides) (side_in longer_sides) m.side
  all_still m h u among = still_usable m.side.ids u (h u among)

  side_sound : AreSound maps sides → IsLawful x.sig x.side → AreUsable (is_known maps sides) (side_in sides) x.side
      → AreSound maps longer_sides
  side_sound sound lawful new = record {
    is_map = sound.is_map;
    lawful_map = sound.lawful_map;
    lawful_side = λ i m e. elim (old_or_last sides x m i e) [
      | inl old ↦ sound.lawful_side i m old
      | inr last ↦ subst (λ (y : SideMeaning). IsLawful y.sig y.side) last lawful
    ];
    usable = λ i m e. elim (old_or_last sides x m i e) [
      | inl old ↦ all_still m (sound.usable i m old)
      | inr last ↦ all_still m
          (subst (λ (y : SideMeaning). AreUsable (is_known maps sides) (side_in sides) y.side) last new)
    ];
  }

  side_known : IsTrue (is_known maps longer_sides (named kind.Rhs (length sides) x.sig))
  side_known = subst (λ o. has_side o x.sig ≡ true) (sym (get_last sides x)) (signature_same x.sig)

  side_means : (value : FnRef → List Value → Value)
      → Means value (side_in longer_sides) (named kind.Rhs (length sides) x.sig) (side_brought x)
  side_means value = record {
    same_kind = refl;
    same_sig = refl;
    values = λ e args. absurd cc;
    same_side = λ e. ap side_or (get_last sides x);
  }

  -- so it is with a list that is equal, and under an equal name
  module _ (new : List SideMeaning) (is : new ≡ longer_sides) where
    pub side_sound_as : AreSound maps sides → IsLawful x.sig x.side
        → AreUsable (is_known maps sides) (side_in sides) x.side → AreSound maps new
    side_sound_as sound a b = subst (λ l. AreSound maps l) (sym is) (side_sound sound a b)

    pub side_keeps_as : (names : List ℕ → Option FnRef)
        → KeepsMeanings names names (is_known maps sides) (is_known maps new) (value_in maps) (value_in maps) (side_in sides) (side_in new)
    side_keeps_as names =
        subst (λ l. KeepsMeanings names names (is_known maps sides) (is_known maps l) (value_in maps) (value_in maps) (side_in sides) (side_in l))
        (sym is) (side_keeps names)

    module _ (number : ℕ) (s : Signature) (number_is : number ≡ length sides) (sig_is : s ≡ x.sig) where
      pub side_known_as : IsTrue (is_known maps new (named kind.Rhs number s))
      side_known_as =
          subst (λ l. IsTrue (is_known maps l (named kind.Rhs number s))) (sym is)
          (subst (λ f. IsTrue (is_known maps longer_sides f)) (named_as kind.Rhs _ number _ s number_is sig_is)
          side_known)

      pub side_means_as : (value : FnRef → List Value → Value)
          → Means value (side_in new) (named kind.Rhs number s) (side_brought x)
      side_means_as value =
          subst (λ l. Means value (side_in l) (named kind.Rhs number s) (side_brought x)) (sym is)
          (subst (λ f. Means value (side_in longer_sides) f (side_brought x))
          (named_as kind.Rhs _ number _ s number_is sig_is) (side_means value))
