-- Adding and dropping keep an arena sound.
use Rattle.std.proofs.Common.{arith, ◌≡◌, ◌<◌, ◌≤◌, ◌+◌, ◌-◌, ◌^◌, ◌≤ℤ◌, pos, ℕ, ℤ, List, [], ◌∷◌, ◌++◌, ◌⊎◌, inl, inr, length, Option, Some, None, refl, sym, subst, ap, ◌∙◌, IsSome, IfSome, slice_index_or}
use Rattle.std.proofs.lemmas.Int.{ints}
use Rattle.std.specs.List.{All, AllZip, Contains}
use Rattle.std.proofs.lemmas.List.Elements.{All-push, Contains-append_left, Contains-push}
use Rattle.std.proofs.lemmas.List.Sorted.{IsNonDecreasingBy-push}
use Rattle.inc_value.specs.declared.node.NodeId.{NodeId}
use Rattle.inc_value.specs.Ty.{type_of_base}
use Rattle.inc_value.specs.declared.ty.Ty.{Ty}
use Rattle.inc_value.specs.declared.ty.Ty.TheVariants as ty
use Rattle.inc_value.specs.declared.value.Value.{Value}
use Rattle.inc_value.specs.declared.value.Value.TheVariants as value
use Rattle.inc_value.specs.Choice.{Every}
use Rattle.inc_terms.specs.Term.{Step}
use Rattle.inc_terms.specs.Graph as graph
use Rattle.inc_terms.specs.Graph.{Row, Def}
use Rattle.inc_terms.specs.Clock.{IsTimed}
use Rattle.inc_terms.specs.Within.{Given}
use Rattle.inc_terms.specs.Within.{ValueWithin}
use Rattle.inc_terms.proofs.Quiet.{timed_on}
use Rattle.node_arena.specs.Arena.{Arena, row_at, IsLive, live, NamesGiven, with_value}
use Rattle.node_arena.specs.Sound.{IsSoundArena, IsOrder, IsKept}
use Rattle.node_arena.specs.Typing.{Fits, FitsNode, BindTakes, FoldTakes, ReferenceFits, HasType, Makes}
use Rattle.node_arena.proofs.Once.{all_below, rises_push}

-- ---- what was given stays given

module _ (count count' : ℕ) (le : count ≤ count') where
  given_more : (n : NodeId) → Given count n → Given count' n
  given_more n h = omega (arith, le, h)

  every_more : (ns : List NodeId) → Every (Given count) ns → Every (Given count') ns
  every_more [] h = tt
  every_more (n ∷ ns) h = (given_more n h.0, every_more ns h.1)

  value_more : (v : Value) → ValueWithin (Given count) v → ValueWithin (Given count') v
  value_more (value.Node n base) h = given_more n h
  value_more (value.Int z) h = tt
  value_more (value.Bool z) h = tt
  value_more (value.Text z) h = tt

  steps_more : (ss : List Step) → Every (λ (s : Step). ValueWithin (Given count) s.value) ss → Every (λ (s : Step). ValueWithin (Given count') s.value) ss
  steps_more [] h = tt
  steps_more (s ∷ ss) h = (value_more s.value h.0, steps_more ss h.1)

  pub names_more : (def : Def) → NamesGiven count def → NamesGiven count' def
  names_more (graph.Const v) h = value_more v h
  names_more (graph.Var v) h = value_more v h
  names_more (graph.Map f ns) h = (tt, every_more ns h.1)
  names_more (graph.Fold f v ns) h = (tt, value_more v h.1, every_more ns h.2)
  names_more (graph.If t a b) h = (given_more t h.0, given_more a h.1, given_more b h.2)
  names_more (graph.Join n) h = given_more n h
  names_more (graph.Bind l f ns) h = (tt, given_more l h.1, every_more ns h.2)
  names_more (graph.At t) h = tt
  names_more (graph.Steps v steps) h = (value_more v h.0, steps_more steps h.1)
  names_more graph.Now h = tt
  names_more (graph.Every base span) h = tt
  names_more (graph.Freeze n f) h = (tt, given_more n h.1)
  names_more (graph.Expert f v ns) h = (tt, value_more v h.1, every_more ns h.2)

-- ---- types stay where given nodes keep their rows or die

module _ (a a' : Arena) (fits : (n : NodeId) (t : Ty) → Given a.given n → Fits a n t → Fits a' n t) where
  all_fit : (ns : List NodeId) (ts : List Ty) → Every (Given a.given) ns → AllZip (Fits a) ns ts → AllZip (Fits a') ns ts
  all_fit [] [] given h = tt
  all_fit [] (t ∷ ts) given h = absurd h
  all_fit (n ∷ ns) [] given h = absurd h
  all_fit (n ∷ ns) (t ∷ ts) given h = (fits n t given.0 h.0, all_fit ns ts given.1 h.1)

  reference_fit : (v : Value) → ValueWithin (Given a.given) v → ReferenceFits a v → ReferenceFits a' v
  reference_fit (value.Node n base) given h = fits n (type_of_base base) given h
  reference_fit (value.Int z) given h = tt
  reference_fit (value.Bool z) given h = tt
  reference_fit (value.Text z) given h = tt

  pub has_type_still : (v : Value) (t : Ty) → ValueWithin (Given a.given) v → HasType a v t → HasType a' v t
  has_type_still v t given h = record { type = h.type; reference = reference_fit v given h.reference }

  each_fits : (t : Ty) (ns : List NodeId) → Every (Given a.given) ns → Every (λ n. Fits a n t) ns → Every (λ n. Fits a' n t) ns
  each_fits t [] given h = tt
  each_fits t (n ∷ ns) given h = (fits n t given.0 h.0, each_fits t ns given.1 h.1)

  fold_takes_still : (t : Ty) (ns : List NodeId) (tys : List Ty) → Every (Given a.given) ns → FoldTakes a t ns tys → FoldTakes a' t ns tys
  fold_takes_still t ns (first ∷ element ∷ []) given h = (h.0, each_fits element ns given h.1)
  fold_takes_still t ns [] given h = absurd h
  fold_takes_still t ns (first ∷ []) given h = absurd h
  fold_takes_still t ns (first ∷ element ∷ more ∷ tys) given h = absurd h

  bind_takes_still : (left : NodeId) (ns : List NodeId) (tys : List Ty) → Given a.given left → Every (Given a.given) ns
      → BindTakes a left ns tys → BindTakes a' left ns tys
  bind_takes_still left ns [] is given h = absurd h
  bind_takes_still left ns (t ∷ tys) is given h = (fits left t is h.0, all_fit ns tys given h.1)

  steps_still : (t : Ty) (ss : List Step) → Every (λ (s : Step). ValueWithin (Given a.given) s.value) ss
      → Every (λ (s : Step). HasType a s.value t) ss → Every (λ (s : Step). HasType a' s.value t) ss
  steps_still t [] given h = tt
  steps_still t (s ∷ ss) given h = (has_type_still s.value t given.0 h.0, steps_still t ss given.1 h.1)

  pub makes_still : (def : Def) (t : Ty) → NamesGiven a.given def → Makes a def t → Makes a' def t
  makes_still (graph.Const v) t given h = has_type_still v t given h
  makes_still (graph.Var v) t given h = has_type_still v t given h
  makes_still (graph.Map f ns) t given h = record { kind = h.kind; children = all_fit ns f.sig.takes given.1 h.children; gives = h.gives }
  makes_still (graph.Fold f v ns) t given h = record {
    kind = h.kind;
    takes = fold_takes_still t ns f.sig.takes given.2 h.takes;
    gives = h.gives;
    initial = has_type_still v t given.1 h.initial;
  }
  makes_still (graph.If test left right) t given h =
      (fits test ty.Bool given.0 h.0, fits left t given.1 h.1, fits right t given.2 h.2)
  makes_still (graph.Join kid) t given h = (h.0, h.1, fits kid (ty.Node h.0) given h.2)
  makes_still (graph.Bind left f captures) t given h = record {
    kind = h.kind;
    takes = bind_takes_still left captures f.sig.takes given.1 given.2 h.takes;
    gives = h.gives;
  }
  makes_still (graph.At time) t given h = h
  makes_still (graph.Steps v steps) t given h = (has_type_still v t given.0 h.0, steps_still t steps given.1 h.1)
  makes_still graph.Now t given h = h
  makes_still (graph.Every base span) t given h = h
  makes_still (graph.Freeze kid f) t given h = record { kind = h.kind; takes = h.takes; gives = h.gives; child = fits kid t given.1 h.child }
  makes_still (graph.Expert f v ns) t given h = record {
    kind = h.kind;
    takes = fold_takes_still t ns f.sig.takes given.2 h.takes;
    gives = h.gives;
    initial = has_type_still v t given.1 h.initial;
  }

module _ (a a' : Arena) (later : (n : NodeId) → Given a.given n → (row_at a' n ≡ row_at a n) ⊎ (row_at a' n ≡ None)) where
  fits_later : (n : NodeId) (t : Ty) → Given a.given n → Fits a n t → Fits a' n t
  fits_later n t given h =
      let P : Option Row → Type 0 = λ o. IfSome o (λ (r : Row). r.ty ≡ t) in
      elim (later n given) [ inl e ↦ subst P (sym e) h | inr e ↦ subst P (sym e) tt ]

  pub makes_later : (def : Def) (t : Ty) → NamesGiven a.given def → Makes a def t → Makes a' def t
  makes_later def t given h = makes_still a a' fits_later def t given h

-- ---- a node dropped

module _ (a a' : Arena) (ids : List NodeId) (kept : IsKept a ids) (less : (n : NodeId) → (row_at a' n ≡ row_at a n) ⊎ (row_at a' n ≡ None))
    (given : a'.given ≡ a.given) (time : a'.time ≡ a.time) (few : live a' + 1 ≡ live a) where
  was_row : (n : NodeId) (r : Row) → row_at a' n ≡ Some r → row_at a n ≡ Some r
  was_row n r is = elim (less n) [ inl e ↦ sym e ∙ is | inr e ↦ absurd (let e' = sym e ∙ is in cc) ]

  was_live : (n : NodeId) → IsLive a' n → IsLive a n
  was_live n is = elim (less n) [ inl e ↦ subst IsSome e is | inr e ↦ absurd (let e' = subst IsSome e is in cc) ]

  same_given : (n : NodeId) → Given a.given n → Given a'.given n
  same_given n h = omega (arith, given, h)

  sound_dropped : IsSoundArena a'
  sound_dropped = record {
    given = λ n is. same_given n (kept.sound.given n (was_live n is));
    slots = λ n is. kept.sound.slots n (was_live n is);
    generations = λ n m is is' e. kept.sound.generations n m (was_live n is) (was_live m is') e;
    names = λ n r is. names_more a.given a'.given (omega (arith, given)) r.def (kept.sound.names n r (was_row n r is));
    scopes = λ n r b is e. same_given b (kept.sound.scopes n r b (was_row n r is) e);
    types = λ n r is. makes_later a a' (λ k g. less k) r.def r.ty (kept.sound.names n r (was_row n r is)) (kept.sound.types n r (was_row n r is));
    timed = λ n r is. subst (λ t. IsTimed t r.def) (sym time) (kept.sound.timed n r (was_row n r is));
    time = subst (λ t. pos 0 ≤ℤ t) (sym time) kept.sound.time;
    few = (let h = kept.sound.few in omega (arith, few, h));
    count = (let h = kept.sound.count in subst (λ (x : ℕ). x < 2 ^ 64) (sym given) h);
  }

  order_dropped : IsOrder a' ids
  order_dropped = record {
    once = kept.order.once;
    rising = kept.order.rising;
    given = λ i d lt. same_given (slice_index_or ids i d) (kept.order.given i d lt);
    covers = λ n is. kept.order.covers n (was_live n is);
  }

  pub kept_dropped : IsKept a' ids
  kept_dropped = record { sound = sound_dropped; order = order_dropped }

-- ---- a node added

module _ (a a' : Arena) (ids : List NodeId) (kept : IsKept a ids) (id : NodeId) (row : Row)
    (more : (n : NodeId) → ((n ≡ id) × (row_at a' n ≡ Some row)) ⊎ (row_at a' n ≡ row_at a n))
    (gen : id.gen_ ≡ a.given) (slot : id.slot < 1048576) (names : NamesGiven a.given row.def) (types : Makes a row.def row.ty)
    (scope : IfSome row.scope (Given a.given)) (timed : IsTimed a.time row.def) (given : a'.given ≡ a.given + 1) (time : a'.time ≡ a.time) (count : a.given < 2 ^ 64 - 1)
    (few : live a < 1048576) (one : live a' ≡ live a + 1) where
  still : (n : NodeId) → Given a.given n → Given a'.given n
  still n h = omega (arith, given, h)

  new_or_old : (n : NodeId) → IsLive a' n → (n ≡ id) ⊎ IsLive a n
  new_or_old n is = elim (more n) [ inl h ↦ inl h.0 | inr e ↦ inr (subst IsSome e is) ]

  row_new_or_old : (n : NodeId) (r : Row) → row_at a' n ≡ Some r → (row ≡ r) ⊎ (row_at a n ≡ Some r)
  row_new_or_old n r is = elim (more n) [ inl h ↦ inl (let e = sym h.1 ∙ is in cc) | inr e ↦ inr (sym e ∙ is) ]

  id_given : Given a'.given id
  id_given = omega (arith, gen, given)

  older : (n : NodeId) → IsLive a n → n.gen_ ≡ id.gen_ → ⊥
  older n is e = let h = kept.sound.given n is in omega (arith, h, e, gen)

  later : (n : NodeId) → Given a.given n → (row_at a' n ≡ row_at a n) ⊎ (row_at a' n ≡ None)
  later n h = elim (more n) [ inl e ↦ absurd (let e' = ap (λ (m : NodeId). m.gen_) e.0 in omega (arith, e', gen, h)) | inr e ↦ inl e ]

  one_id : (n m : NodeId) → IsLive a' n → IsLive a' m → n.gen_ ≡ m.gen_ → n ≡ m
  one_id n m is is' e = elim (new_or_old n is) [
    | inl new ↦ elim (new_or_old m is') [
      | inl new' ↦ new ∙ sym new'
      | inr old' ↦ absurd (older m old' (sym e ∙ ap (λ (x : NodeId). x.gen_) new))
    ]
    | inr old ↦ elim (new_or_old m is') [
      | inl new' ↦ absurd (older n old (e ∙ ap (λ (x : NodeId). x.gen_) new'))
      | inr old' ↦ kept.sound.generations n m old old' e
    ]
  ]

  names_added : (n : NodeId) (r : Row) → row_at a' n ≡ Some r → NamesGiven a.given r.def
  names_added n r is = elim (row_new_or_old n r is) [
    | inl e ↦ subst (λ (x : Row). NamesGiven a.given x.def) e names
    | inr old ↦ kept.sound.names n r old
  ]

  types_added : (n : NodeId) (r : Row) → row_at a' n ≡ Some r → Makes a r.def r.ty
  types_added n r is = elim (row_new_or_old n r is) [
    | inl e ↦ subst (λ (x : Row). Makes a x.def x.ty) e types
    | inr old ↦ kept.sound.types n r old
  ]

  timed_added : (n : NodeId) (r : Row) → row_at a' n ≡ Some r → IsTimed a.time r.def
  timed_added n r is = elim (row_new_or_old n r is) [
    | inl e ↦ subst (λ (x : Row). IsTimed a.time x.def) e timed
    | inr old ↦ kept.sound.timed n r old
  ]

  scope_given : (s : Option NodeId) → IfSome s (Given a.given) → (b : NodeId) → s ≡ Some b → Given a.given b
  scope_given s h b e = subst (λ (x : Option NodeId). IfSome x (Given a.given)) e h

  sound_added : IsSoundArena a'
  sound_added = record {
    given = λ n is. elim (new_or_old n is) [ inl e ↦ subst (Given a'.given) (sym e) id_given | inr old ↦ still n (kept.sound.given n old) ];
    slots = λ n is. elim (new_or_old n is) [ inl e ↦ subst (λ (m : NodeId). m.slot < 1048576) (sym e) slot | inr old ↦ kept.sound.slots n old ];
    generations = one_id;
    names = λ n r is. names_more a.given a'.given (omega (arith, given)) r.def (names_added n r is);
    scopes = λ n r b is e. still b (elim (row_new_or_old n r is) [
      | inl same ↦ scope_given row.scope scope b (ap (λ (x : Row). x.scope) same ∙ e)
      | inr old ↦ kept.sound.scopes n r b old e
    ]);
    types = λ n r is. makes_later a a' later r.def r.ty (names_added n r is) (types_added n r is);
    timed = λ n r is. subst (λ t. IsTimed t r.def) (sym time) (timed_added n r is);
    time = subst (λ t. pos 0 ≤ℤ t) (sym time) kept.sound.time;
    few = omega (arith, few, one);
    count = subst (λ (x : ℕ). x < 2 ^ 64) (sym given) (omega (arith, count));
  }

  order_added : IsOrder a' (ids ++ id ∷ [])
  order_added = record {
    once = rises_push ids id kept.order.once (all_below ids id (subst (λ (x : ℕ). All (Given x) ids) (sym gen) kept.order.given));
    rising = IsNonDecreasingBy-push (λ (n : NodeId). n.gen_) ids id kept.order.rising
        (λ d some. let h = kept.order.given (length ids - 1) d (omega (arith, some)) in omega (arith, h, gen));
    given = All-push (Given a'.given) ids id (λ i d lt. still (slice_index_or ids i d) (kept.order.given i d lt)) id_given;
    covers = λ n is. elim (new_or_old n is) [
      | inl e ↦ subst (λ (m : NodeId). Contains (ids ++ id ∷ []) m) (sym e) (Contains-push ids id)
      | inr old ↦ Contains-append_left ids (id ∷ []) n (kept.order.covers n old)
    ];
  }

  pub kept_added : IsKept a' (ids ++ id ∷ [])
  kept_added = record { sound = sound_added; order = order_added }

-- ---- a variable set

module _ (a a' : Arena) (ids : List NodeId) (kept : IsKept a ids) (id : NodeId) (row : Row) (v : Value) (there : row_at a id ≡ Some row)
    (set : (n : NodeId) → ((n ≡ id) × (row_at a' n ≡ Some (with_value row v))) ⊎ (row_at a' n ≡ row_at a n))
    (names : ValueWithin (Given a.given) v) (has : FitsNode a id v) (given : a'.given ≡ a.given) (time : a'.time ≡ a.time) (few : live a' ≡ live a) where
  same_given_set : (n : NodeId) → Given a.given n → Given a'.given n
  same_given_set n h = omega (arith, given, h)

  was_live_set : (n : NodeId) → IsLive a' n → IsLive a n
  was_live_set n is = elim (set n) [
    | inl h ↦ subst IsSome (sym (ap (row_at a) h.0 ∙ there)) refl
    | inr e ↦ subst IsSome e is
  ]

  fits_set : (n : NodeId) (t : Ty) → Given a.given n → Fits a n t → Fits a' n t
  fits_set n t given' h =
      let P : Option Row → Type 0 = λ o. IfSome o (λ (r : Row). r.ty ≡ t) in
      elim (set n) [
        | inl s ↦ subst P (sym s.1) (let same : row.ty ≡ t = subst P (ap (row_at a) s.0 ∙ there) h in same)
        | inr e ↦ subst P (sym e) h
      ]

  has_set : HasType a v row.ty
  has_set = subst (λ (o : Option Row). IfSome o (λ (r : Row). HasType a v r.ty)) there has

  scope_set : (n : NodeId) (r : Row) (b : NodeId) → row_at a' n ≡ Some r → r.scope ≡ Some b → Given a'.given b
  scope_set n r b is e = elim (set n) [
    | inl s ↦ same_given_set b (kept.sound.scopes id row b there (let same : with_value row v ≡ r = let e' = sym s.1 ∙ is in cc in ap (λ (x : Row). x.scope) same ∙ e))
    | inr s ↦ same_given_set b (kept.sound.scopes n r b (sym s ∙ is) e)
  ]

  names_set : (n : NodeId) (r : Row) → row_at a' n ≡ Some r → NamesGiven a.given r.def
  names_set n r is = elim (set n) [
    | inl s ↦ subst (λ (x : Row). NamesGiven a.given x.def) (let same : with_value row v ≡ r = let e' = sym s.1 ∙ is in cc in same) names
    | inr s ↦ kept.sound.names n r (sym s ∙ is)
  ]

  types_set : (n : NodeId) (r : Row) → row_at a' n ≡ Some r → Makes a' r.def r.ty
  types_set n r is = elim (set n) [
    | inl s ↦ subst (λ (x : Row). Makes a' x.def x.ty) (let same : with_value row v ≡ r = let e' = sym s.1 ∙ is in cc in same)
        (has_type_still a a' fits_set v row.ty names has_set)
    | inr s ↦ makes_still a a' fits_set r.def r.ty (kept.sound.names n r (sym s ∙ is)) (kept.sound.types n r (sym s ∙ is))
  ]

  timed_set : (n : NodeId) (r : Row) → row_at a' n ≡ Some r → IsTimed a.time r.def
  timed_set n r is = elim (set n) [
    | inl s ↦ subst (λ (x : Row). IsTimed a.time x.def) (let same : with_value row v ≡ r = let e' = sym s.1 ∙ is in cc in same) tt
    | inr s ↦ kept.sound.timed n r (sym s ∙ is)
  ]

  sound_set : IsSoundArena a'
  sound_set = record {
    given = λ n is. same_given_set n (kept.sound.given n (was_live_set n is));
    slots = λ n is. kept.sound.slots n (was_live_set n is);
    generations = λ n m is is' e. kept.sound.generations n m (was_live_set n is) (was_live_set m is') e;
    names = λ n r is. names_more a.given a'.given (omega (arith, given)) r.def (names_set n r is);
    scopes = scope_set;
    types = types_set;
    timed = λ n r is. subst (λ t. IsTimed t r.def) (sym time) (timed_set n r is);
    time = subst (λ t. pos 0 ≤ℤ t) (sym time) kept.sound.time;
    few = (let h = kept.sound.few in omega (arith, few, h));
    count = (let h = kept.sound.count in subst (λ (x : ℕ). x < 2 ^ 64) (sym given) h);
  }

  order_set : IsOrder a' ids
  order_set = record {
    once = kept.order.once;
    rising = kept.order.rising;
    given = λ i d lt. same_given_set (slice_index_or ids i d) (kept.order.given i d lt);
    covers = λ n is. kept.order.covers n (was_live_set n is);
  }

  pub kept_set : IsKept a' ids
  kept_set = record { sound = sound_set; order = order_set }

-- ---- the time moved on

pub kept_moved : (a : Arena) (time : ℤ) (ids : List NodeId) → a.time ≤ℤ time → IsKept a ids
    → IsKept (record { slots = a.slots; given = a.given; time = time }) ids
kept_moved a time ids on kept =
    let a' : Arena = record { slots = a.slots; given = a.given; time = time } in
    record {
      sound = record {
        given = kept.sound.given;
        slots = kept.sound.slots;
        generations = kept.sound.generations;
        names = kept.sound.names;
        scopes = kept.sound.scopes;
        types = λ n r is. makes_still a a' (λ m t g h. h) r.def r.ty (kept.sound.names n r is) (kept.sound.types n r is);
        timed = λ n r is. timed_on a.time time on r.def (kept.sound.timed n r is);
        few = kept.sound.few;
        count = kept.sound.count;
        time = (let h = kept.sound.time in omega (arith, ints, h, on));
      };
      order = record {
        once = kept.order.once;
        rising = kept.order.rising;
        given = kept.order.given;
        covers = kept.order.covers;
      };
    }

-- ---- ids taken off the order

pub kept_reordered : (a : Arena) (ids ids' : List NodeId) → IsKept a ids → (IsOrder a ids → IsOrder a ids') → IsKept a ids'
kept_reordered a ids ids' kept h = record { sound = kept.sound; order = h kept.order }
