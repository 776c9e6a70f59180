-- What the commands for variables, experts, grabs and observers change keeps a state valid.
use Rattle.std.proofs.Common.{◌≡◌, inl, inr, ℕ, zero, suc, ◌+◌, ◌<◌, ◌≤◌, ◌^◌, true, false, not, cond, List, [], ◌∷◌, ◌++◌, length, map, slice_get, Option, None, Some, refl, sym, ◌∙◌, ap, subst, arith}
use Rattle.std.specs.Prelude as std
use Rattle.std.specs.Prelude.{filter, nat_eq, unwrap_or}
use Rattle.std.specs.Str.{bytes_eq}
use Rattle.std.proofs.lemmas.Bool.{eqb-true, eq-eqb}
use Rattle.std.proofs.lemmas.List.{length-append}
use Rattle.inc_value.specs.Ty.{same_ty, type_of_base}
use Rattle.inc_value.specs.declared.function.FnRef.{FnRef}
use Rattle.inc_value.specs.declared.ty.Base.TheVariants as base
use Rattle.inc_value.specs.declared.ty.Ty.TheVariants as ty
use Rattle.inc_value.specs.declared.ty.Ty.{Ty}
use Rattle.script_model.specs.Check as check
use Rattle.script_model.specs.Check.{element_of, kind_of_body}
use Rattle.inc_value.specs.Choice.{Every}
use Rattle.script_model.specs.Values.{Value, Outcome, Val, Invalid}
use Rattle.script_model.specs.Formula.{Formula, Body, Entry, Observer, Watch, State, Meanings, entry_at, bind_at, built_at, bind_of, links_of, places_of, places_of_body, Literal, Name, Bound, Apply, Fold, If, Join, Bind, At, Steps, Now, Variable, Computed, Expert, Grab, Unwatched, Fresh, Told}
use Rattle.script_model.specs.Step.{changed_at, declared_in, linked, unlinked, without_first, staled, is_live_grab, live_grab, alias, own_grab, grab_or, grab_of, watched, with_watch, new_observer}
use Rattle.script_model.specs.Valid.{NameHasType, ValueHasType, FoldsOver, HasType, GrabFits, BodyHasType, WatchFits, ValidObserver, Valid}
use Rattle.script_model.proofs.Growing.{NoneLives, Grows, type_lasts}
use Rattle.script_model.proofs.Typing.{some_is, own_named}
use Rattle.script_model.proofs.Effects.{Alike, alike_refl, changes_valid, Alone, declares_grow, built_stay, declares_valid, plain_declares_valid, keeps_entries, told_where, get_either}

-- ---- lists

every_with : {A : Type 0} (P : A → Type 0) (xs : List A) (x : A) → Every P xs → P x → Every P (xs ++ x ∷ [])
every_with P [] x h p = (p, tt)
every_with P (y ∷ ys) x h p = (h.0, every_with P ys x h.1 p)

every_without : (P : ℕ → Type 0) (n : ℕ) (xs : List ℕ) → Every P xs → Every P (without_first n xs)
every_without P n [] h = tt
every_without P n (x ∷ xs) h = go (nat_eq n x) (every_without P n xs h.1)
  where
    go : (b : std.Bool) → Every P (without_first n xs) → Every P (cond b xs (x ∷ without_first n xs))
    go true rest = h.1
    go false rest = (h.0, rest)

fewer : (n : ℕ) (xs : List ℕ) → length (without_first n xs) ≤ length xs
fewer n [] = omega arith
fewer n (x ∷ xs) = go (nat_eq n x) (fewer n xs)
  where
    go : (b : std.Bool) → length (without_first n xs) ≤ length xs → length (cond b xs (x ∷ without_first n xs)) ≤ suc (length xs)
    go true rest = omega arith
    go false rest = omega (arith, rest)

every_filtered : {A : Type 0} (P : A → Type 0) (p : A → std.Bool) (xs : List A) → Every P xs → Every P (filter p xs)
every_filtered P p [] h = tt
every_filtered P p (x ∷ xs) h = go (p x) (every_filtered P p xs h.1)
  where
    go : (b : std.Bool) → Every P (filter p xs) → Every P (cond b (x ∷ filter p xs) (filter p xs))
    go true rest = (h.0, rest)
    go false rest = rest

every_mapped : {A : Type 0} (P : A → Type 0) (f : A → A) → ((x : A) → P x → P (f x)) → (xs : List A) → Every P xs → Every P (map f xs)
every_mapped P f keeps [] h = tt
every_mapped P f keeps (x ∷ xs) h = (keeps x h.0, every_mapped P f keeps xs h.1)

-- ---- variables

one_entry : (s : State) (n : ℕ) (e x : Entry) → entry_at s n ≡ Some e → entry_at s n ≡ Some x → e ≡ x
one_entry s n e x is there = some_is e x (sym is ∙ there)

module _ (F : Meanings) (s : State) (valid : Valid F s) where
  -- where the next declaration will stand
  abbrev here : ℕ
  here = length s.entries

  pub assigns_valid : (n : ℕ) (v w : Value) (e : Entry) → entry_at s n ≡ Some e → e.body ≡ Variable w
      → ValueHasType s here v e.ty → Valid F (changed_at s n (λ body. Variable v))
  assigns_valid n v w e stands is typed = changes_valid s n (λ body. Variable v) alike F valid new
    where
      other_value : Alike (Variable w) (Variable v)
      other_value = record { binds = refl; built = refl; target = λ m. refl; live = λ bind u live. absurd (cc); places = refl }

      alike : (x : Entry) → entry_at s n ≡ Some x → Alike x.body (Variable v)
      alike x there = let same = one_entry s n e x stands there in rw (← same, is) other_value

      new : (x : Entry) → entry_at s n ≡ Some x → BodyHasType F s n (Variable v) x.ty
      new x there = let same = one_entry s n e x stands there in rw (← same) typed

  -- ---- experts

  alike_linked : (target : ℕ) (b : Body) → Alike b (linked target b)
  alike_linked target (Expert f first links stale) =
      record { binds = refl; built = refl; target = λ m. refl; live = λ bind u live. absurd (cc); places = refl }
  alike_linked target b = alike_refl b

  alike_unlinked : (target : ℕ) (b : Body) → Alike b (unlinked target b)
  alike_unlinked target (Expert f first links stale) =
      record { binds = refl; built = refl; target = λ m. refl; live = λ bind u live. absurd (cc); places = refl }
  alike_unlinked target b = alike_refl b

  alike_staled : (b : Body) → Alike b (staled b)
  alike_staled (Expert f first links stale) =
      record { binds = refl; built = refl; target = λ m. refl; live = λ bind u live. absurd (cc); places = refl }
  alike_staled b = alike_refl b

  same_ty_refl : (t : Ty) → same_ty t t ≡ true
  same_ty_refl ty.Int = refl
  same_ty_refl ty.Bool = refl
  same_ty_refl ty.Text = refl
  same_ty_refl (ty.Node base.Int) = refl
  same_ty_refl (ty.Node base.Bool) = refl
  same_ty_refl (ty.Node base.Text) = refl

  element_is : (f : FnRef) (t element : Ty) → FoldsOver f t element → element_of f f.sig.takes ≡ Some element
  element_is f t element folds = rw (folds.0, folds.1, same_ty_refl t) refl

  -- a link of the type that the expert takes
  link_has : (n target : ℕ) (u : Ty) (b : Body) (t : Ty) → kind_of_body b ≡ check.Expert u → NameHasType s here target u
      → length (links_of b) < 4096 → BodyHasType F s n b t → BodyHasType F s n (linked target b) t
  link_has n target u (Expert f first links stale) t kind named few h =
      let takes : unwrap_or (element_of f f.sig.takes) ty.Int ≡ u = cc in
      let element : h.0 ≡ u = rw (element_is f t h.0 h.2) at takes in
      (h.0, h.1, h.2, h.3, every_with _ links target h.4 (rw element named), (let e = length-append links (target ∷ []) in omega (arith, e, few)))
  link_has n target u b t kind named few h = h

  unlink_has : (n target : ℕ) (b : Body) (t : Ty) → BodyHasType F s n b t → BodyHasType F s n (unlinked target b) t
  unlink_has n target (Expert f first links stale) t h =
      (h.0, h.1, h.2, h.3, every_without _ target links h.4, (let less = fewer target links in omega (arith, less, h.5)))
  unlink_has n target b t h = h

  stale_has : (n : ℕ) (b : Body) (t : Ty) → BodyHasType F s n b t → BodyHasType F s n (staled b) t
  stale_has n (Expert f first links stale) t h = h
  stale_has n b t h = h

  pub links_valid : (n target : ℕ) (u : Ty) (e : Entry) → entry_at s n ≡ Some e → kind_of_body e.body ≡ check.Expert u
      → NameHasType s here target u → length (links_of e.body) < 4096 → Valid F (changed_at s n (linked target))
  links_valid n target u e stands kind named few =
      changes_valid s n (linked target) (λ x is. alike_linked target x.body) F valid
      (λ x is.
      let same = one_entry s n e x stands is in
      rw (← same) (link_has n target u e.body e.ty kind named few (valid.entries n e stands).typed))

  pub unlinks_valid : (n target : ℕ) → Valid F (changed_at s n (unlinked target))
  unlinks_valid n target =
      changes_valid s n (unlinked target) (λ x is. alike_unlinked target x.body) F valid
      (λ x is. unlink_has n target x.body x.ty (valid.entries n x is).typed)

  pub stales_valid : (n : ℕ) → Valid F (changed_at s n staled)
  stales_valid n = changes_valid s n staled (λ x is. alike_staled x.body) F valid (λ x is. stale_has n x.body x.ty (valid.entries n x is).typed)

  -- ---- grabs

  -- a formula has one type
  one_name : (n k m : ℕ) (t u : Ty) → NameHasType s n m t → NameHasType s k m u → t ≡ u
  one_name n k m t u h g = sym h.typed ∙ ap (λ (e : Entry). e.ty) (one_entry s m h.entry g.entry h.stands g.stands) ∙ g.typed

  one_node : (a b : _) → ty.Node a ≡ ty.Node b → a ≡ b
  one_node a b same = cc

  one_type : (n : ℕ) (bounds : List Ty) (f : Formula) (t u : Ty) → HasType F s n bounds f t → HasType F s n bounds f u → t ≡ u
  one_type n bounds (Literal v) t u h g = sym h.0 ∙ g.0
  one_type n bounds (Name m) t u h g = one_name n n m t u h g
  one_type n bounds (Bound k) t u h g = some_is t u (sym h ∙ g)
  one_type n bounds (Apply f arguments) t u h g = sym h.2 ∙ g.2
  one_type n bounds (Fold f first elements) t u h g = sym h.2.1 ∙ g.2.1
  one_type n bounds (If test a b) t u h g = one_type n bounds a t u h.1 g.1
  one_type n bounds (Join child) t u h g =
      let same = one_node h.0 g.0 (one_type n bounds child (ty.Node h.0) (ty.Node g.0) h.1 g.1) in
      sym h.2 ∙ ap type_of_base same ∙ g.2
  one_type n bounds (Bind left body) t u h g =
      let same = one_type n bounds left h.0 g.0 h.1 g.1 in
      one_type n (h.0 ∷ bounds) body t u h.2 (subst (λ w. HasType F s n (w ∷ bounds) body u) (sym same) g.2)
  one_type n bounds (At time) t u h g = h ∙ sym g
  one_type n bounds (Steps first steps) t u h g = sym h.0.0 ∙ g.0.0
  one_type n bounds Now t u h g = h ∙ sym g

  -- a live grab that was found, looking from the k-th declaration on
  record FoundGrab (bind k g : ℕ) (es : List Entry) : Type 0 where
    position : ℕ
    at : g ≡ k + position
    entry : Entry
    value : Value
    stands : slice_get es position ≡ Some entry
    is : entry.body ≡ Grab bind value true

  live_is : (bind : ℕ) (b : Body) → is_live_grab bind b ≡ true → (v : Value) × (b ≡ Grab bind v true)
  live_is bind (Grab b v true) e = let same = eqb-true bind b e in (v, rw same refl)
  live_is bind (Grab b v false) e = absurd (cc)
  live_is bind b e = absurd (cc)

  grab_found : (bind k g : ℕ) (es : List Entry) → live_grab bind k es ≡ Some g → FoundGrab bind k g es
  grab_found bind k g [] is = absurd (cc)
  grab_found bind k g (x ∷ es) is = go (is_live_grab bind x.body) refl (λ later. grab_found bind (suc k) g es later) is
    where
      go : (l : std.Bool) → is_live_grab bind x.body ≡ l → (live_grab bind (suc k) es ≡ Some g → FoundGrab bind (suc k) g es)
          → cond l (Some k) (live_grab bind (suc k) es) ≡ Some g → FoundGrab bind k g (x ∷ es)
      go true live later is =
          let grab = live_is bind x.body live in
          let same = some_is k g is in
          record { position = 0; at = omega (arith, same); entry = x; value = grab.0; stands = refl; is = grab.1 }
      go false live later is =
          let rest = later is in
          let further = rest.at in
          record {
            position = suc rest.position;
            at = omega (arith, further);
            entry = rest.entry;
            value = rest.value;
            stands = rest.stands;
            is = rest.is;
          }

  -- where none is found, none lives
  no_grab : (bind k : ℕ) (es : List Entry) → live_grab bind k es ≡ None → (i : ℕ) (e : Entry) (v : Value)
      → slice_get es i ≡ Some e → e.body ≡ Grab bind v true → ⊥
  no_grab bind k [] none i e v is live = cc
  no_grab bind k (x ∷ es) none i e v is live = go (is_live_grab bind x.body) refl none i is (no_grab bind (suc k) es)
    where
      go : (l : std.Bool) → is_live_grab bind x.body ≡ l → cond l (Some k) (live_grab bind (suc k) es) ≡ None → (i : ℕ)
          → slice_get (x ∷ es) i ≡ Some e
          → (live_grab bind (suc k) es ≡ None → (j : ℕ) (y : Entry) (w : Value) → slice_get es j ≡ Some y → y.body ≡ Grab bind w true → ⊥) → ⊥
      go true first none i is rest = cc
      go false first none zero is rest =
          let same : x ≡ e = some_is x e is in
          let lives : is_live_grab bind x.body ≡ true = rw (same, live) (eq-eqb bind bind refl) in
          cc
      go false first none (suc j) is rest = rest none j e v is live

  -- the body's places aren't too many
  abbrev Room : Body → Type 0
  Room body = places_of s + places_of_body body ≤ 1048575

  alias_room : (m : ℕ) → Room (alias m)
  alias_room m = let few = valid.places in omega (arith, few)

  -- another name for what has the type
  alias_valid : (name : List ℕ) (t : Ty) (m : ℕ) → NameHasType s here m t → Valid F (declared_in s name t (alias m))
  alias_valid name t m named = plain_declares_valid F s name t (alias m) valid (λ bind v is. absurd (cc)) (named, refl) (alias_room m)

  -- a grab where no grab of the bind lives
  grab_valid : (name : List ℕ) (t : Ty) (bind : ℕ) (v : Value) (left body : Formula) → bind < here
      → bind_at s bind ≡ Some (left, body) → HasType F s bind [] (Bind left body) t
      → built_at s bind ≡ Some (Val v) → NoneLives s bind → Valid F (declared_in s name t (Grab bind v true))
  grab_valid name t bind v left body earlier stands typed built none =
      declares_valid F s name t (Grab bind v true) valid alone fits (let few = valid.places in omega (arith, few))
    where
      alone : Alone F s name t (Grab bind v true)
      alone b w is = let same : bind ≡ b = cc in rw (← same) none

      grown : Grows s (declared_in s name t (Grab bind v true))
      grown = declares_grow F s name t (Grab bind v true) alone

      fits : GrabFits F (declared_in s name t (Grab bind v true)) here bind v true t
      fits = record {
        left = left;
        body = body;
        earlier = earlier;
        stands = grown.binds bind (left, body) stands;
        typed = type_lasts s (declared_in s name t (Grab bind v true)) grown F bind [] (Bind left body) t typed;
        built = λ live. built_stay F s name t (Grab bind v true) bind (Val v) built;
        alone = λ live m w e at_m is. elim (get_either s.entries _ e m at_m) [
          | inl front ↦ absurd (none m w (record { entry = e; stands = front; is = is }))
          | inr last ↦ last.0
        ];
      }

  -- a grab of a bind has the bind's type
  grab_typed : (n bind : ℕ) (v : Value) (u t : Ty) (left body : Formula) → bind_at s bind ≡ Some (left, body)
      → HasType F s bind [] (Bind left body) t → GrabFits F s n bind v true u → u ≡ t
  grab_typed n bind v u t left body there typed fits =
      let same = some_is (fits.left, fits.body) (left, body) (sym fits.stands ∙ there) in
      one_type bind [] (Bind left body) u t (subst (λ (p : Formula × Formula). HasType F s bind [] (Bind p.0 p.1) u) same fits.typed) typed

  grab_named : (bind g : ℕ) (left body : Formula) (t : Ty) → bind_at s bind ≡ Some (left, body)
      → HasType F s bind [] (Bind left body) t → live_grab bind 0 s.entries ≡ Some g → NameHasType s here g t
  grab_named bind g left body t there typed found =
      let grab = grab_found bind 0 g s.entries found in
      let i = grab.position in
      let e = grab.entry in
      let entry = valid.entries i e grab.stands in
      let own : e.target ≡ i = entry.target_is ∙ rw grab.is refl in
      let same : e.ty ≡ t = grab_typed i bind grab.value e.ty t left body there typed (rw grab.is at entry.typed) in
      let at = grab.at in
      let at_g : i ≡ g = omega (arith, at) in
      subst (λ k. NameHasType s here k t) at_g (subst (λ u. NameHasType s here i u) same (own_named s i e own grab.stands))

  -- an earlier declaration is one of all
  earlier_named : (n m : ℕ) (t : Ty) → n < here → NameHasType s n m t → NameHasType s here m t
  earlier_named n m t less h = record { entry = h.entry; earlier = omega (arith, less, h.earlier); stands = h.stands; typed = h.typed; own = h.own }

  -- what is grabbed of a bind that stands there
  pub takes_valid : (name : List ℕ) (t : Ty) (bind : ℕ) (e : Entry) → entry_at s bind ≡ Some e → e.target ≡ bind → e.ty ≡ t
      → kind_of_body e.body ≡ check.Bind
      → Valid F (declared_in s name t (grab_of s bind (bind_at s bind)))
  takes_valid name t bind e stands own same kind = by_body e.body refl kind (valid.entries bind e stands).typed
    where
      bind_named : NameHasType s here bind t
      bind_named = rw same at (own_named s bind e own stands)

      built_as : (left body : Formula) → bind_at s bind ≡ Some (left, body) → HasType F s bind [] (Bind left body) t
          → (built : Option Outcome) → built_at s bind ≡ built → NoneLives s bind
          → Valid F (declared_in s name t (own_grab bind built))
      built_as left body there typed (Some (Val v)) built none = grab_valid name t bind v left body bind_named.earlier there typed built none
      built_as left body there typed (Some Invalid) built none = alias_valid name t bind bind_named
      built_as left body there typed None built none = alias_valid name t bind bind_named

      by_grab : (left body : Formula) → bind_at s bind ≡ Some (left, body) → HasType F s bind [] (Bind left body) t
          → (g : Option ℕ) → live_grab bind 0 s.entries ≡ g
          → Valid F (declared_in s name t (grab_or bind (built_at s bind) g))
      by_grab left body there typed (Some g) found = alias_valid name t g (grab_named bind g left body t there typed found)
      by_grab left body there typed None found =
          built_as left body there typed (built_at s bind) refl (λ n v live. no_grab bind 0 s.entries found n live.entry v live.stands live.is)

      by_formula : (left body : Formula) → bind_at s bind ≡ Some (left, body) → HasType F s bind [] (Bind left body) t
          → Valid F (declared_in s name t (grab_of s bind (Some (left, body))))
      by_formula left (Name m) there typed = alias_valid name t m (earlier_named bind m t bind_named.earlier typed.2)
      by_formula left body there typed = by_grab left body there typed (live_grab bind 0 s.entries) refl

      by_body : (b : Body) → e.body ≡ b → kind_of_body b ≡ check.Bind → BodyHasType F s bind b e.ty
          → Valid F (declared_in s name t (grab_of s bind (bind_at s bind)))
      by_body (Computed (Bind left body) kept) is kind has =
          let there : bind_at s bind ≡ Some (left, body) = told_where s bind_of bind (left, body) e stands (rw is refl) in
          rw there (by_formula left body there (rw same at has.0))
      by_body b is kind has = absurd (cc)

  -- ---- observers and the clock

  keeps_same : (s' : State) → s'.entries ≡ s.entries → s'.now ≡ s.now → Every (ValidObserver s) s'.observers → Valid F s'
  keeps_same s' same now observers = keeps_entries F s s' valid same (omega (arith, now)) (rw now valid.now) observers

  pub observes_valid : (observer : List ℕ) (target : ℕ) (t : Ty) → NameHasType s here target t
      → Valid F (record s { observers = s.observers ++ new_observer observer target ∷ [] })
  observes_valid observer target t named =
      keeps_same (record s { observers = s.observers ++ new_observer observer target ∷ [] }) refl refl
      (every_with (ValidObserver s) s.observers (new_observer observer target) valid.observers
      (record { ty = t; target = named; shown = λ p is. absurd (cc); watch = tt }))

  pub unobserves_valid : (observer : List ℕ)
      → Valid F (record s { observers = filter (λ (o : Observer). not (bytes_eq observer o.name)) s.observers })
  unobserves_valid observer =
      keeps_same (record s { observers = filter (λ (o : Observer). not (bytes_eq observer o.name)) s.observers }) refl refl
      (every_filtered (ValidObserver s) (λ (o : Observer). not (bytes_eq observer o.name)) s.observers valid.observers)

  watched_fits : (t : Ty) (w : Watch) → WatchFits s t w → WatchFits s t (watched w)
  watched_fits t Unwatched h = tt
  watched_fits t Fresh h = tt
  watched_fits t (Told o) h = h

  watch_valid : (observer : List ℕ) (o : Observer) → ValidObserver s o → ValidObserver s (with_watch observer o)
  watch_valid observer o h = go (bytes_eq observer o.name)
    where
      go : (b : std.Bool) → ValidObserver s (cond b (record o { watch = watched o.watch }) o)
      go true = record { ty = h.ty; target = h.target; shown = h.shown; watch = watched_fits h.ty o.watch h.watch }
      go false = h

  pub watches_valid : (observer : List ℕ) → Valid F (record s { observers = map (with_watch observer) s.observers })
  watches_valid observer =
      keeps_same (record s { observers = map (with_watch observer) s.observers }) refl refl
      (every_mapped (ValidObserver s) (with_watch observer) (watch_valid observer) s.observers valid.observers)

  pub advances_valid : (time : ℕ) → s.now ≤ time → time < 2 ^ 63 → Valid F (record s { now = time })
  advances_valid time later small = keeps_entries F s (record s { now = time }) valid refl later small valid.observers
