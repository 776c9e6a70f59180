-- What stands at a place is typed, and the calls that it makes are.
use Rattle.std.proofs.Common.{◌≡◌, inl, inr, ℕ, zero, suc, List, [], ◌∷◌, map, length, Option, None, Some, refl, ◌∙◌, ap, sym, subst, arith}
use Rattle.inc_value.specs.declared.function.FnRef.{FnRef}
use Rattle.inc_value.specs.declared.ty.Ty.TheVariants as ty
use Rattle.inc_value.specs.declared.ty.Ty.{Ty}
use Rattle.script_model.specs.Calls.{fold_calls, formula_calls, body_calls, calls_at, IsTyped}
use Rattle.inc_value.specs.Choice as choice
use Rattle.inc_value.specs.Choice.{and_then, Among}
use Rattle.script_model.specs.Values.{Value, Outcome, Val}
use Rattle.script_model.specs.Formula.{Formula, Formulas, Body, Entry, State, Meanings, entry_at, body_at, formula_of_body, Name, Apply, Fold, If, Join, Bind, End, More, Computed, Freeze, Expert}
use Rattle.script_model.specs.Evaluate.{Gathered, Unknown, SomeInvalid, Values, gathered, each_of, value_at}
use Rattle.script_model.specs.Need.{Edge, Argument, Test, Then, Else, Child, Left, Inside, Item, Named, Place, environment, argument_at, part_at, part_of, formula_at, ItemGives, StillStands, Visit, once, visit_with, formula_visits, body_visits, visits_at}
use Rattle.script_model.specs.Laws.{CallsAreTyped, VisitsCountCalls}
use Rattle.script_model.specs.Valid.{BoundsFit, FoldsOver, IsNamed, HasType, ArgumentsHaveTypes, ElementsHaveType, BodyHasType, Valid, KeepToTypes}
use Rattle.script_model.proofs.Places.{outer_stands, met_stands}
use Rattle.script_model.proofs.TypedValues.{Has, GatheredAre, fits_have, typed_wider, applied_has, pair_has, arguments_fit, elements_fit, links_fit, joined_are, value_has}

-- ---- what stands at a place

-- a type of the formula, below variables of binds whose types the values round the place have
pub record PlaceHasType (F : Meanings) (s : State) (owner : ℕ) (path : List Edge) (f : Formula) : Type 0 where
  pub bounds : List Ty
  pub ty : Ty
  pub fit : BoundsFit s (environment path) bounds
  pub typed : HasType F s owner bounds f ty

pub argument_typed : (F : Meanings) (s : State) (n : ℕ) (bounds : List Ty) (fs : Formulas) (tys : List Ty) (k : ℕ) (f : Formula)
    → ArgumentsHaveTypes F s n bounds fs tys → argument_at fs k ≡ Some f → (t : Ty) × HasType F s n bounds f t
argument_typed F s n bounds End tys k f h is = absurd (cc)
argument_typed F s n bounds (More g rest) [] k f h is = absurd h
argument_typed F s n bounds (More g rest) (t ∷ tys) zero f h is = let same : f ≡ g = cc in (t, rw same h.0)
argument_typed F s n bounds (More g rest) (t ∷ tys) (suc k) f h is = argument_typed F s n bounds rest tys k f h.1 is

pub element_typed : (F : Meanings) (s : State) (n : ℕ) (bounds : List Ty) (fs : Formulas) (t : Ty) (k : ℕ) (f : Formula)
    → ElementsHaveType F s n bounds fs t → argument_at fs k ≡ Some f → HasType F s n bounds f t
element_typed F s n bounds End t k f h is = absurd (cc)
element_typed F s n bounds (More g rest) t zero f h is = let same : f ≡ g = cc in rw same h.0
element_typed F s n bounds (More g rest) t (suc k) f h is = element_typed F s n bounds rest t k f h.1 is

-- at the end of an edge stands the part that it leads to
pub part_stands : (s : State) (owner : ℕ) (path : List Edge) (edge : Edge)
    → formula_at s owner (edge ∷ path) ≡ and_then (formula_at s owner path) (λ g. part_at g edge)
part_stands s owner path edge = by_body (body_at s owner)
  where
    by_formula : (f : Option Formula)
        → and_then f (λ f. part_of f (edge ∷ path)) ≡ and_then (and_then f (λ f. part_of f path)) (λ g. part_at g edge)
    by_formula None = refl
    by_formula (Some f) = refl

    by_body : (b : Option Body) → and_then b (λ body. and_then (formula_of_body body) (λ f. part_of f (edge ∷ path)))
        ≡ and_then (and_then b (λ body. and_then (formula_of_body body) (λ f. part_of f path))) (λ g. part_at g edge)
    by_body None = refl
    by_body (Some body) = by_formula (formula_of_body body)

pub part_is : (s : State) (owner : ℕ) (path : List Edge) (g : Formula) (edge : Edge) → formula_at s owner path ≡ Some g
    → formula_at s owner (edge ∷ path) ≡ part_at g edge
part_is s owner path g edge at = part_stands s owner path edge ∙ ap (λ f. and_then f (λ g. part_at g edge)) at

-- what the left of a bind gives, by its place
pub left_gives : (F : Meanings) (s : State) (owner : ℕ) (path : List Edge) (left body : Formula) (o : Outcome)
    → formula_at s owner path ≡ Some (Bind left body)
    → (g : ItemGives F s (Place owner (Left ∷ path)) o) → value_at F s g.0 (environment path) left ≡ Some o
left_gives F s owner path left body o is g =
    let below = part_is s owner path (Bind left body) Left is in
    sym (ap (λ f. and_then f (λ f. value_at F s g.0 (environment path) f)) below) ∙ g.1

module _ (F : Meanings) (s : State) (keep : KeepToTypes F) (valid : Valid F s) where
  part_typed : (owner : ℕ) (path : List Edge) (g : Formula) (edge : Edge) (f : Formula) → formula_at s owner path ≡ Some g
      → PlaceHasType F s owner path g
      → StillStands F s (Place owner (edge ∷ path)) → part_at g edge ≡ Some f → PlaceHasType F s owner (edge ∷ path) f
  part_typed owner path (Apply g fs) (Argument k) f at whole stands is =
      let part = argument_typed F s owner whole.bounds fs g.sig.takes k f whole.typed.1 is in
      record { bounds = whole.bounds; ty = part.0; fit = whole.fit; typed = part.1 }
  part_typed owner path (Fold g first fs) (Argument k) f at whole stands is =
      record {
        bounds =
            whole.bounds;
        ty = whole.typed.0;
        fit = whole.fit;
        typed = element_typed F s owner whole.bounds fs whole.typed.0 k f whole.typed.4 is;
      }
  part_typed owner path (If test a b) Test f at whole stands is =
      let same : f ≡ test = cc in rw same (record { bounds = whole.bounds; ty = ty.Bool; fit = whole.fit; typed = whole.typed.0 })
  part_typed owner path (If test a b) Then f at whole stands is =
      let same : f ≡ a = cc in rw same (record { bounds = whole.bounds; ty = whole.ty; fit = whole.fit; typed = whole.typed.1 })
  part_typed owner path (If test a b) Else f at whole stands is =
      let same : f ≡ b = cc in rw same (record { bounds = whole.bounds; ty = whole.ty; fit = whole.fit; typed = whole.typed.2 })
  part_typed owner path (Join child) Child f at whole stands is =
      let same : f ≡ child = cc in rw same (record { bounds = whole.bounds; ty = ty.Node whole.typed.0; fit = whole.fit; typed = whole.typed.1 })
  part_typed owner path (Bind left body) Left f at whole stands is =
      let same : f ≡ left = cc in rw same (record { bounds = whole.bounds; ty = whole.typed.0; fit = whole.fit; typed = whole.typed.1 })
  part_typed owner path (Bind left body) (Inside v) f at whole stands is =
      let same : f ≡ body = cc in
      let gives = left_gives F s owner path left body (Val v) at stands.0 in
      let has = value_has F s keep valid stands.0.0 owner (environment path) whole.bounds left whole.typed.0 (Val v) whole.fit whole.typed.1 gives in
      rw same (record { bounds = whole.typed.0 ∷ whole.bounds; ty = whole.ty; fit = (has, whole.fit); typed = whole.typed.2 })
  part_typed owner path g edge f at whole stands is = absurd (cc)

  body_typed : (n : ℕ) (b : Body) (t : Ty) (f : Formula) → BodyHasType F s n b t → formula_of_body b ≡ Some f → PlaceHasType F s n [] f
  body_typed n (Computed g kept) t f h is = let same : f ≡ g = cc in rw same (record { bounds = []; ty = t; fit = tt; typed = h.0 })
  body_typed n (Freeze g p frozen) t f h is = let same : f ≡ g = cc in rw same (record { bounds = []; ty = t; fit = tt; typed = h.0 })
  body_typed n b t f h is = absurd (cc)

  whole_typed : (n : ℕ) (f : Formula) (o : Option Entry) → entry_at s n ≡ o
      → and_then (and_then o (λ e. Some e.body)) (λ body. and_then (formula_of_body body) (λ f. Some f)) ≡ Some f → PlaceHasType F s n [] f
  whole_typed n f None at is = absurd (cc)
  whole_typed n f (Some e) at is = body_typed n e.body e.ty f (valid.entries n e at).typed (there (formula_of_body e.body) is)
    where
      there : (o : Option Formula) → and_then o (λ f. Some f) ≡ Some f → o ≡ Some f
      there None is = absurd (cc)
      there (Some g) is = is

  -- what stands at a place that stands is typed
  pub place_typed : (owner : ℕ) (path : List Edge) (f : Formula) → formula_at s owner path ≡ Some f
      → StillStands F s (Place owner path) → PlaceHasType F s owner path f
  place_typed owner [] f is stands = whole_typed owner f (entry_at s owner) refl is
  place_typed owner (edge ∷ path) f is stands =
      go (formula_at s owner path) refl (λ g at. place_typed owner path g at (outer_stands F s owner edge path stands))
      (sym (part_stands s owner path edge) ∙ is)
    where
      go : (o : Option Formula) → formula_at s owner path ≡ o
          → ((g : Formula) → formula_at s owner path ≡ Some g → PlaceHasType F s owner path g)
          → and_then o (λ g. part_at g edge) ≡ Some f → PlaceHasType F s owner (edge ∷ path) f
      go None at whole is = absurd (cc)
      go (Some g) at whole is = part_typed owner path g edge f at (whole g at) stands is

-- ---- calls

pub visit_values : (s : State) (i : Item) (cost : List Value → ℕ) (P : List Value → Type 0) (g : Gathered) (v : Visit) → GatheredAre P g
    → Among v (visit_with s i cost g) → P v.values
visit_values s i cost P Unknown v all among = absurd among
visit_values s i cost P SomeInvalid v all among = absurd among
visit_values s i cost P (Values vs) v all (inl same) = subst P (sym (ap (λ (v : Visit). v.values) same)) all
visit_values s i cost P (Values vs) v all (inr none) = absurd none

fold_calls_typed : (F : Meanings) (s : State) → KeepToTypes F → (f : FnRef) (t element : Ty) → IsNamed F f → FoldsOver f t element
    → (v : Value) (vs : List Value)
    → Has s v t → choice.Every (λ w. Has s w element) vs → choice.Every IsTyped (fold_calls F f v vs)
fold_calls_typed F s keep f t element named over v [] first rest = tt
fold_calls_typed F s keep f t element named over v (w ∷ vs) first rest =
    let have = pair_has s f t element v w over first rest.0 in
    let next = applied_has F s keep f t (v ∷ w ∷ []) named over.1 have in
    (have, fold_calls_typed F s keep f t element named over (F.value f (v ∷ w ∷ [])) vs next rest.1)

module _ (F : Meanings) (s : State) (keep : KeepToTypes F) (valid : Valid F s) (d : ℕ) where
  formula_calls_typed : (i : Item) (n : ℕ) (E : List Value) (bounds : List Ty) (f : Formula) (t : Ty) (v : Visit)
      → BoundsFit s E bounds → HasType F s n bounds f t
      → Among v (formula_visits s i (value_at F s d E) (Some f)) → choice.Every IsTyped (formula_calls F (Some f) v.values)
  formula_calls_typed i n E bounds (Apply f fs) t v fit h among =
      let all = arguments_fit F s keep valid (value_at F s d) (value_has F s keep valid d) n E bounds fit fs f.sig.takes h.1 in
      let fit = visit_values s i once (λ vs. BoundsFit s vs f.sig.takes) (gathered (each_of (value_at F s d E) fs)) v all among in
      (fits_have s v.values f.sig.takes fit, tt)
  formula_calls_typed i n E bounds (Fold f first fs) t v fit h among =
      let all = elements_fit F s keep valid (value_at F s d) (value_has F s keep valid d) n E bounds fit fs h.0 h.4 in
      let each = visit_values s i length (choice.Every (λ w. Has s w h.0)) (gathered (each_of (value_at F s d E) fs)) v all among in
      fold_calls_typed F s keep f t h.0 h.1 h.2 first v.values (typed_wider s n first t h.3) each
  formula_calls_typed i n E bounds f t v fit h among = absurd among

  place_calls_typed : (owner : ℕ) (path : List Edge) (o : Option Formula) (v : Visit) → formula_at s owner path ≡ o
      → StillStands F s (Place owner path)
      → Among v (formula_visits s (Place owner path) (value_at F s d (environment path)) o)
      → choice.Every IsTyped (formula_calls F o v.values)
  place_calls_typed owner path None v at stands among = absurd among
  place_calls_typed owner path (Some f) v at stands among =
      let place = place_typed F s keep valid owner path f at stands in
      formula_calls_typed (Place owner path) owner (environment path) place.bounds f place.ty v place.fit place.typed among

  body_calls_typed : (i : Item) (n : ℕ) (b : Body) (t : Ty) (v : Visit) → BodyHasType F s n b t
      → Among v (body_visits F s d i (Some b)) → choice.Every IsTyped (body_calls F (Some b) v.values)
  body_calls_typed i n (Freeze child p None) t v h among =
      let one = joined_are (λ vs. BoundsFit s vs []) (λ vs. BoundsFit s vs (t ∷ [])) (value_at F s d [] child) (Values [])
      (λ w vs gives all. (value_has F s keep valid d n [] [] child t (Val w) tt h.0 gives, all)) tt in
      let fit = visit_values s i once (λ vs. BoundsFit s vs (t ∷ [])) (gathered (value_at F s d [] child ∷ [])) v one among in
      (rw h.2 (fits_have s v.values (t ∷ []) fit), tt)
  body_calls_typed i n (Expert f first links stale) t v h among =
      let all = links_fit F s keep valid (value_at F s d) (value_has F s keep valid d) h.0 links h.4 in
      let each = visit_values s i length (choice.Every (λ w. Has s w h.0)) (gathered (map (λ m. value_at F s d [] (Name m)) links)) v all among in
      fold_calls_typed F s keep f t h.0 h.1 h.2 first v.values h.3 each
  body_calls_typed i n b t v h among = absurd among

  entry_calls_typed : (n : ℕ) (o : Option Entry) (v : Visit) → entry_at s n ≡ o
      → Among v (body_visits F s d (Named n) (and_then o (λ e. Some e.body)))
      → choice.Every IsTyped (body_calls F (and_then o (λ e. Some e.body)) v.values)
  entry_calls_typed n None v at among = absurd among
  entry_calls_typed n (Some e) v at among = body_calls_typed (Named n) n e.body e.ty v (valid.entries n e at).typed among

  item_calls_typed : (i : Item) (v : Visit) → StillStands F s i → Among v (visits_at F s d i)
      → choice.Every IsTyped (calls_at F s i v.values)
  item_calls_typed (Named n) v stands among = entry_calls_typed n (entry_at s n) v refl among
  item_calls_typed (Place owner path) v stands among = place_calls_typed owner path (formula_at s owner path) v refl stands among

pub calls_are_typed : CallsAreTyped
calls_are_typed F before s keep valid v visit met =
    item_calls_typed F s keep valid visit.0 v.item v (met_stands F before s v.item met) visit.1

-- ---- what a visit counts

counted : (s : State) (i : Item) (cost : List Value → ℕ) (g : Gathered) (v : Visit) → Among v (visit_with s i cost g)
    → v.cost ≡ cost v.values
counted s i cost Unknown v among = absurd among
counted s i cost SomeInvalid v among = absurd among
counted s i cost (Values vs) v (inl same) = ap (λ (v : Visit). v.cost) same ∙ ap cost (sym (ap (λ (v : Visit). v.values) same))
counted s i cost (Values vs) v (inr none) = absurd none

fold_counts : (F : Meanings) (f : FnRef) (v : Value) (vs : List Value) → length vs ≡ length (fold_calls F f v vs)
fold_counts F f v [] = refl
fold_counts F f v (w ∷ vs) = let rest = fold_counts F f (F.value f (v ∷ w ∷ [])) vs in grind arith

formula_counts : (F : Meanings) (s : State) (i : Item) (part : Formula → Option Outcome) (o : Option Formula) (v : Visit)
    → Among v (formula_visits s i part o) → v.cost ≡ length (formula_calls F o v.values)
formula_counts F s i part (Some (Apply f fs)) v among = counted s i once _ v among
formula_counts F s i part (Some (Fold f first fs)) v among = counted s i length _ v among ∙ fold_counts F f first v.values
formula_counts F s i part o v among = absurd among

body_counts : (F : Meanings) (s : State) (d : ℕ) (i : Item) (o : Option Body) (v : Visit) → Among v (body_visits F s d i o)
    → v.cost ≡ length (body_calls F o v.values)
body_counts F s d i (Some (Freeze child p None)) v among = counted s i once _ v among
body_counts F s d i (Some (Expert f first links stale)) v among = counted s i length _ v among ∙ fold_counts F f first v.values
body_counts F s d i o v among = absurd among

item_counts : (F : Meanings) (s : State) (d : ℕ) (i : Item) (v : Visit) → Among v (visits_at F s d i)
    → v.cost ≡ length (calls_at F s i v.values)
item_counts F s d (Named n) v among = body_counts F s d (Named n) (body_at s n) v among
item_counts F s d (Place owner path) v among =
    formula_counts F s (Place owner path) (value_at F s d (environment path)) (formula_at s owner path) v among

pub visits_count_calls : VisitsCountCalls
visits_count_calls F s v visit = item_counts F s visit.0 v.item v visit.1
