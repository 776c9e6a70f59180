-- What a valid state has by its types.
use Rattle.std.proofs.Common.{◌≡◌, ℕ, zero, suc, ◌<◌, true, List, [], ◌∷◌, length, Option, None, Some, refl, sym, ◌∙◌, ap, arith}
use Rattle.std.proofs.lemmas.Option.{slice_get_within}
use Rattle.inc_value.specs.declared.function.FnRef.{FnRef}
use Rattle.inc_value.specs.declared.ty.Ty.{Ty}
use Rattle.inc_value.specs.Choice.{and_then, Every as Each}
use Rattle.script_model.specs.Check.{target_of_body}
use Rattle.script_model.specs.Values.{Value, Int, Bool, Text, Reference, Val}
use Rattle.script_model.specs.Formula.{Formula, Formulas, TimedValue, Kept, Body, Entry, State, Meanings, entry_at, body_at, bind_at, bind_of, formula_of_body, Literal, Name, Bound, Apply, Fold, If, Join, Bind, At, Steps, Now, End, More, Computed, Freeze, Expert, Grab}
use Rattle.script_model.specs.Valid.{NameHasType, ValueHasType, StepsHaveType, HasType, ArgumentsHaveTypes, ElementsHaveType, BodyHasType, Valid}
use Rattle.script_model.specs.Need.{Edge, Argument, Test, Then, Else, Child, Left, Inside, argument_at, part_at, part_of, formula_at}
use Rattle.script_model.proofs.TypedCalls.{part_stands}
use Rattle.transfer.specs.Shows.{IsOwn}
use Rattle.transfer.specs.Items.{GrabsBind}
use Rattle.transfer.proofs.Places.{then_some}
use Rattle.transfer.proofs.Mentions.{ValueMentions, Mentions, AllMention}

-- ---- names and references are of earlier declarations

module _ (F : Meanings) (s : State) (P : ℕ → Type 0) where
  value_mentions : (n : ℕ) → ((k : ℕ) (t : Ty) → NameHasType s n k t → P k) → (v : Value) (t : Ty)
      → ValueHasType s n v t → ValueMentions P v
  value_mentions n low (Int z) t h = tt
  value_mentions n low (Bool b) t h = tt
  value_mentions n low (Text bytes) t h = tt
  value_mentions n low (Reference target base) t h = low target _ h.1

  steps_mention : (n : ℕ) → ((k : ℕ) (t : Ty) → NameHasType s n k t → P k) → (steps : List TimedValue) (t : Ty)
      → StepsHaveType s n steps t
      → Each (λ (s : TimedValue). ValueMentions P s.value) steps
  steps_mention n low [] t h = tt
  steps_mention n low (a ∷ []) t h = (value_mentions n low a.value t h, tt)
  steps_mention n low (a ∷ b ∷ steps) t h =
      (value_mentions n low a.value t h.0, steps_mention n low (b ∷ steps) t h.2)

  module _ (n : ℕ) (low : (k : ℕ) (t : Ty) → NameHasType s n k t → P k) where
    mutual
      typed_mentions : (bounds : List Ty) (f : Formula) (t : Ty) → HasType F s n bounds f t → Mentions P f
      typed_mentions bounds (Literal v) t h = value_mentions n low v t h
      typed_mentions bounds (Name k) t h = low k t h
      typed_mentions bounds (Bound k) t h = tt
      typed_mentions bounds (Apply f fs) t h = arguments_mention bounds fs f.sig.takes h.1
      typed_mentions bounds (Fold f v fs) t h = (value_mentions n low v t h.3, elements_mention bounds fs h.0 h.4)
      typed_mentions bounds (If test a b) t h =
          (typed_mentions bounds test _ h.0, typed_mentions bounds a t h.1, typed_mentions bounds b t h.2)
      typed_mentions bounds (Join child) t h = typed_mentions bounds child _ h.1
      typed_mentions bounds (Bind left body) t h =
          (typed_mentions bounds left h.0 h.1, typed_mentions (h.0 ∷ bounds) body t h.2)
      typed_mentions bounds (At time) t h = tt
      typed_mentions bounds (Steps v steps) t h = (value_mentions n low v t h.0, steps_mention n low steps t h.1)
      typed_mentions bounds Now t h = tt

      arguments_mention : (bounds : List Ty) (fs : Formulas) (tys : List Ty) → ArgumentsHaveTypes F s n bounds fs tys
          → AllMention P fs
      arguments_mention bounds End tys h = tt
      arguments_mention bounds (More f rest) [] h = absurd h
      arguments_mention bounds (More f rest) (t ∷ tys) h =
          (typed_mentions bounds f t h.0, arguments_mention bounds rest tys h.1)

      elements_mention : (bounds : List Ty) (fs : Formulas) (t : Ty) → ElementsHaveType F s n bounds fs t
          → AllMention P fs
      elements_mention bounds End t h = tt
      elements_mention bounds (More f rest) t h = (typed_mentions bounds f t h.0, elements_mention bounds rest t h.1)

  links_mention : (n : ℕ) → ((k : ℕ) (t : Ty) → NameHasType s n k t → P k) → (t : Ty) (links : List ℕ)
      → Each (λ m. NameHasType s n m t) links → Each P links
  links_mention n low t [] h = tt
  links_mention n low t (m ∷ links) h = (low m t h.0, links_mention n low t links h.1)

-- ---- parts

argument_mentions : (P : ℕ → Type 0) (fs : Formulas) (k : ℕ) (f : Formula) → AllMention P fs
    → argument_at fs k ≡ Some f → Mentions P f
argument_mentions P End k f h e = absurd (cc)
argument_mentions P (More g fs) zero f h e = let same : g ≡ f = cc in rw same at h.0
argument_mentions P (More g fs) (suc k) f h e = argument_mentions P fs k f h.1 e

part_mentions : (P : ℕ → Type 0) (g : Formula) (edge : Edge) (f : Formula) → Mentions P g → part_at g edge ≡ Some f
    → Mentions P f
part_mentions P (Apply h fs) (Argument k) f m e = argument_mentions P fs k f m e
part_mentions P (Fold h v fs) (Argument k) f m e = argument_mentions P fs k f m.1 e
part_mentions P (If t a b) Test f m e = let same : t ≡ f = cc in rw same at m.0
part_mentions P (If t a b) Then f m e = let same : a ≡ f = cc in rw same at m.1
part_mentions P (If t a b) Else f m e = let same : b ≡ f = cc in rw same at m.2
part_mentions P (Join c) Child f m e = let same : c ≡ f = cc in rw same at m
part_mentions P (Bind l b) Left f m e = let same : l ≡ f = cc in rw same at m.0
part_mentions P (Bind l b) (Inside v) f m e = let same : b ≡ f = cc in rw same at m.1
part_mentions P g edge f m e = absurd (cc)

-- ---- a declaration's body, by its entry

pub body_entry : (s : State) (k : ℕ) (b : Body) → body_at s k ≡ Some b → (e : Entry) × (entry_at s k ≡ Some e)
    × (e.body ≡ b)
body_entry s k b at = go (entry_at s k) refl at
  where
    go : (o : Option Entry) → entry_at s k ≡ o → and_then o (λ e. Some e.body) ≡ Some b
        → (e : Entry) × (entry_at s k ≡ Some e) × (e.body ≡ b)
    go None is at = absurd (cc)
    go (Some e) is at = (e, is, (cc))

pub bind_body : (s : State) (k : ℕ) (left body : Formula) → bind_at s k ≡ Some (left, body)
    → (kept : Kept) × (body_at s k ≡ Some (Computed (Bind left body) kept))
bind_body s k left body is = go (body_at s k) refl is
  where
    pair : (l b : Formula) (kept : Kept) → bind_of (Computed (Bind l b) kept) ≡ Some (left, body)
        → (l ≡ left) × (b ≡ body)
    pair l b kept e =
        let lefts : Some l ≡ Some left =
        ap (λ (p : Option (Formula × Formula)). and_then p (λ (p : Formula × Formula). Some p.0)) e in
        let bodies : Some b ≡ Some body =
        ap (λ (p : Option (Formula × Formula)). and_then p (λ (p : Formula × Formula). Some p.1)) e in
        ((cc), (cc))

    by_kind : (b : Body) → body_at s k ≡ Some b → bind_of b ≡ Some (left, body)
        → (kept : Kept) × (body_at s k ≡ Some (Computed (Bind left body) kept))
    by_kind (Computed (Bind l r) kept) at e = let same = pair l r kept e in (kept, rw (← same.0, ← same.1) at)
    by_kind b at e = absurd (cc)

    go : (o : Option Body) → body_at s k ≡ o → and_then o bind_of ≡ Some (left, body)
        → (kept : Kept) × (body_at s k ≡ Some (Computed (Bind left body) kept))
    go None at e = absurd (cc)
    go (Some b) at e = by_kind b at e

module _ (F : Meanings) (s : State) (valid : Valid F s) where
  pub body_typed : (k : ℕ) (b : Body) → body_at s k ≡ Some b → (t : Ty) × BodyHasType F s k b t
      × (k < length s.entries)
  body_typed k b at =
      let e = body_entry s k b at in
      let typed = (valid.entries k e.0 e.1).typed in
      (e.0.ty, rw e.2 at typed, slice_get_within s.entries k e.0 e.1)

  -- what a live grab is of is a bind
  pub valid_grabs : GrabsBind s
  valid_grabs k b v at =
      let h = (body_typed k (Grab b v true) at).1 in let is = bind_body s b h.left h.body h.stands in
      (h.left, h.body, is.0, is.1)

  -- a live grab's value is one that its bind's left may have
  pub grab_typed : (k b : ℕ) (v : Value) (left body : Formula) (kept : Kept) → body_at s k ≡ Some (Grab b v true)
      → body_at s b ≡ Some (Computed (Bind left body) kept)
      → (t : Ty) × HasType F s b [] left t × ValueHasType s (length s.entries) v t
  grab_typed k b v left body kept at is =
      let h = (body_typed k (Grab b v true) at).1 in
      let built : kept.built ≡ Some (Val v) = rw is at (h.built refl) in
      (body_typed b (Computed (Bind left body) kept) is).1.1 (Val v) built

  -- a declaration that is its own target
  abbrev pub IsOwnName : ℕ → Type 0
  IsOwnName t = (b : Body) × (body_at s t ≡ Some b) × IsOwn (Some b)

  pub name_own : (n t : ℕ) (u : Ty) → NameHasType s n t u → IsOwnName t
  name_own n t u name =
      let target = (valid.entries t name.entry name.stands).target_is in
      let is : body_at s t ≡ Some name.entry.body = ap (λ e. and_then e (λ (e : Entry). Some e.body)) name.stands in
      (name.entry.body, is, own name.entry.body is (sym target ∙ name.own))
    where
      own : (b : Body) → body_at s t ≡ Some b → target_of_body t b ≡ t → IsOwn (Some b)
      own (Computed (Name u) kept) is e =
          let earlier : u < t = (body_typed t (Computed (Name u) kept) is).1.0.earlier in
          let same : u ≡ t = e in
          absurd (omega (arith, earlier, same))
      own b is e = tt

  -- what another name stands for is its own target
  pub valid_resolved : (k t : ℕ) (kept : Kept) → body_at s k ≡ Some (Computed (Name t) kept) → IsOwn (body_at s t)
  valid_resolved k t kept at =
      let h = body_typed k (Computed (Name t) kept) at in
      let own = name_own k t h.0 h.1.0 in
      rw own.1 own.2

  -- names in a formula are their own targets
  whole_names : (k : ℕ) (f : Formula) → formula_at s k [] ≡ Some f → Mentions IsOwnName f
  whole_names k f at = go (body_at s k) refl at
    where
      by_kind : (b : Body) → body_at s k ≡ Some b → formula_of_body b ≡ Some f → Mentions IsOwnName f
      by_kind (Computed g kept) is e =
          let h = body_typed k (Computed g kept) is in
          let same : g ≡ f = cc in
          rw same at (typed_mentions F s IsOwnName k (λ j t name. name_own k j t name) [] g h.0 h.1.0)
      by_kind (Freeze child p frozen) is e =
          let h = body_typed k (Freeze child p frozen) is in
          let same : child ≡ f = cc in
          rw same at (typed_mentions F s IsOwnName k (λ j t name. name_own k j t name) [] child h.0 h.1.0)
      by_kind b is e = absurd (cc)

      go : (b : Option Body) → body_at s k ≡ b
          → and_then b (λ body. and_then (formula_of_body body) (λ f. part_of f [])) ≡ Some f
          → Mentions IsOwnName f
      go None is e = absurd (cc)
      go (Some b) is e = by_kind b is (whole b e)
        where
          whole : (b : Body) → and_then (formula_of_body b) (λ f. part_of f []) ≡ Some f → formula_of_body b ≡ Some f
          whole b e = taken (formula_of_body b) e
            where
              taken : (o : Option Formula) → and_then o (λ f. part_of f []) ≡ Some f → o ≡ Some f
              taken None e = absurd (cc)
              taken (Some g) e = e

  -- so in a formula at a place
  pub place_names : (owner : ℕ) (path : List Edge) (f : Formula) → formula_at s owner path ≡ Some f
      → Mentions IsOwnName f
  place_names owner [] f at = whole_names owner f at
  place_names owner (edge ∷ path) f at =
      let above = then_some (formula_at s owner path) (λ g. part_at g edge) f
      (sym (part_stands s owner path edge) ∙ at) in
      part_mentions IsOwnName above.0 edge f (place_names owner path above.0 above.1) above.2

  -- so with an expert's links
  pub link_names : (k : ℕ) (g : FnRef) (first : Value) (links : List ℕ) (stale : ℕ)
      → body_at s k ≡ Some (Expert g first links stale)
      → Each IsOwnName links
  link_names k g first links stale is =
      let h = body_typed k (Expert g first links stale) is in
      links_mention F s IsOwnName (length s.entries)
      (λ j t name. name_own (length s.entries) j t name) h.1.0 links h.1.4
