-- What a node gives by what its children show.
use Rattle.std.proofs.Common.{◌≡◌, ◌⊎◌, inl, inr, ℕ, zero, suc, ◌<◌, ◌+◌, ◌++◌, Bool, true, false, List, [], ◌∷◌, length, take, get_or, Option, None, Some}
use Rattle.std.proofs.Common.{refl, sym, ap, subst, ◌∙◌, IsSome, arith, append-nil}
use Rattle.std.specs.Prelude.{is_some, IfSome, IfNone, IfOk, option_and_then, Result, Ok, Err}
use Rattle.std.specs.List.{AllZip, cons_option, filter_map}
use Rattle.std.proofs.lemmas.List.{take_more}
use Rattle.std.proofs.lemmas.List.Elements.{filter_map-append}
use Rattle.std.proofs.lemmas.Option.{none-some, same_Some}
use Rattle.inc_value.specs.Choice.{Every, and_then}
use Rattle.inc_value.specs.Ty.{IsBase}
use Rattle.inc_value.specs.Value.{type_of, HaveTypes}
use Rattle.inc_value.specs.declared.function.FnRef.{FnRef}
use Rattle.inc_value.specs.declared.node.NodeId.{NodeId}
use Rattle.inc_value.specs.declared.node.Part.TheVariants.{Change, Main}
use Rattle.inc_value.specs.declared.outcome.Outcome.{Outcome}
use Rattle.inc_value.specs.declared.outcome.Outcome.TheVariants.{Val, Invalid}
use Rattle.inc_value.specs.declared.ty.Ty.{Ty}
use Rattle.inc_value.specs.declared.ty.Ty.TheVariants as ty
use Rattle.inc_value.specs.declared.value.Value.{Value}
use Rattle.inc_value.specs.declared.value.Value.TheVariants as value
use Rattle.inc_terms.specs.declared.def.Def as declared
use Rattle.inc_terms.specs.declared.def.Def.TheVariants as form
use Rattle.inc_terms.specs.Code.{def_of}
use Rattle.inc_terms.specs.Depend.{kids_of, main, change, subject_of, right_of, unfrozen}
use Rattle.inc_terms.specs.Evaluate.{Gathered, Unknown, SomeInvalid, Values, joined, given, with_value}
use Rattle.inc_terms.specs.Term.{Functions}
use Rattle.inc_terms.specs.Graph.{Graph, Row, Def, Const, Var, Map, Fold, Freeze, Expert}
use Rattle.inc_terms.specs.Clock.{clock_value, reads_clock}
use Rattle.inc_terms.specs.Work.{cost_of, predicate_cost, predicate_kids}
use Rattle.inc_terms.specs.Local.{own, frozen_or_seen, see_right}
use Rattle.expert_nodes.specs.Experts.{ExpertPlace, is_stale_at, kids_at}
use Rattle.point_map.specs.Rows.{Rows, at, Holds}
use Rattle.node_arena.specs.Arena.{Arena, row_at, NamesGiven}
use Rattle.node_arena.specs.Graph.{Holdings, graph_of, AllCallFit, CallsFit}
use Rattle.node_arena.specs.Meanings.{HaveMapSigs}
use Rattle.node_arena.specs.Sound.{IsSoundArena}
use Rattle.node_arena.specs.Typing.{Fits, Makes, MapMakes, FoldMakes, FoldTakes, FreezeMakes}
use Rattle.inc_terms.specs.Work.{taken_by}
use Rattle.stabilize_round.specs.Calling.{IsAnswer, cost_at, row_cost, or_none}
use Rattle.stabilize_round.specs.Counts.{RoseBy, RoseAtMost}
use Rattle.stabilize_round.specs.Freezing.{found, found_in}
use Rattle.stabilize_round.specs.Moves.{calls_of}
use Rattle.stabilize_round.specs.State.{Call}
use Rattle.node_outcomes.specs.Computing.{seen, seen_of, seen_together, value_shown, ShowsValue, CallFits, CallsOn, CallsSeen, IsDueOn, KeepsAnswers, MustCall, Noted, KeepsTypes, IsOfType, LooksAtSeen, has_part}
use Rattle.node_outcomes.specs.Computing.{ran_then, IsCalled, Calls, IsKnown, AllShow, LastWas, FoldFits, FreezeComputes, IsSeenDue, IsShown, KeepsOn, NotCalled, ReasonIn, ComputesCall, CallComputes, Computes, NotComputed, Ends}
use Rattle.node_outcomes.specs.Choosing.{built_by, held_in, right_in}
use Rattle.node_outcomes.specs.Row.{IsRewritten, kept_by, kept_in, with_last, value_of, value_in, outcome_in}
use Rattle.node_outcomes.specs.Progress.{Progress}
use Rattle.node_outcomes.proofs.ByClock.{none_taken_by_clock, own_by_clock, typed_by_clock}
use Rattle.node_outcomes.proofs.Held.{built_live, right_is}
use Rattle.node_outcomes.proofs.Reasons.{reason_of, reason_with, no_reason}
use Rattle.node_outcomes.proofs.Pairs.{IsPair, ShowsRight, gives_own_right, right_shows}

some_is : {A : Type 0} (x : Option A) → IsSome x → (a : A) × (x ≡ Some a)
some_is None h = cc
some_is (Some a) h = (a, refl)

-- ---- what is seen, and which value is shown

shown_outcome : (o : Option Outcome) (v : Value) → value_of o ≡ Some v → o ≡ Some (Val v)
shown_outcome None v e = cc
shown_outcome (Some Invalid) v e = cc
shown_outcome (Some (Val w)) v e = cc

outcome_shown : (o : Option Outcome) (v : Value) → o ≡ Some (Val v) → value_of o ≡ Some v
outcome_shown o v e = rw e refl

shown_is_seen : (k : Option Progress) (v : Value) → value_in k ≡ Some v → seen_of k ≡ Some (Val v)
shown_is_seen None v e = cc
shown_is_seen (Some k) v e = shown_outcome k.outcome v e

pub seen_is_shown : (k : Option Progress) (v : Value) → seen_of k ≡ Some (Val v) → value_in k ≡ Some v
seen_is_shown None v e = cc
seen_is_shown (Some k) v e = outcome_shown k.outcome v e

-- what is so of all values is so of those behind the first
so_of_rest : (P : Value → Type 0) (first : Option Value) (rest : List Value) → Every P (cons_option first rest) → Every P rest
so_of_rest P None rest all = all
so_of_rest P (Some v) rest all = all.1

-- values are put together of a first and the rest
record Joins (o : Option Outcome) (g : Gathered) (values : List Value) : Type 0 where
  first : Value
  rest : List Value
  is_first : o ≡ Some (Val first)
  is_rest : g ≡ Values rest
  both : values ≡ first ∷ rest

joins : (o : Option Outcome) (g : Gathered) (values : List Value) → joined o g ≡ Values values → Joins o g values
joins None g values e = cc
joins (Some Invalid) Unknown values e = cc
joins (Some Invalid) SomeInvalid values e = cc
joins (Some Invalid) (Values vs) values e = cc
joins (Some (Val v)) Unknown values e = cc
joins (Some (Val v)) SomeInvalid values e = cc
joins (Some (Val v)) (Values vs) values e = record { first = v; rest = vs; is_first = refl; is_rest = refl; both = cc }

module _ (rows : Rows Progress) where
  -- where nodes show values, these are put together
  together_from_shown : (nodes : List NodeId) (values : List Value) → AllZip (ShowsValue rows) nodes values → seen_together rows nodes ≡ Values values
  together_from_shown [] [] h = refl
  together_from_shown [] (v ∷ vs) h = absurd h
  together_from_shown (n ∷ ns) [] h = absurd h
  together_from_shown (n ∷ ns) (v ∷ vs) h =
      ap (λ (o : Option Outcome). joined o (seen_together rows ns)) (shown_is_seen (at rows (main n)) v h.0)
      ∙ ap (λ (g : Gathered). joined (Some (Val v)) g) (together_from_shown ns vs h.1)

  -- values that are put together are shown
  shown_from_together : (nodes : List NodeId) (values : List Value) → seen_together rows nodes ≡ Values values → AllZip (ShowsValue rows) nodes values
  shown_from_together [] [] e = tt
  shown_from_together [] (v ∷ vs) e = cc
  shown_from_together (n ∷ ns) [] e = let j = joins _ _ _ e in cc
  shown_from_together (n ∷ ns) (v ∷ vs) e =
      let j = joins (seen rows (main n)) (seen_together rows ns) (v ∷ vs) e in
      let first : j.first ≡ v = cc in let rest : j.rest ≡ vs = cc in (
        seen_is_shown (at rows (main n)) v (j.is_first ∙ ap (λ (x : Value). Some (Val x)) first),
        shown_from_together ns vs (j.is_rest ∙ ap Values rest),
      )

  -- nodes that all show a value show their values
  values_of_all : (nodes : List NodeId) → AllShow rows nodes → (values : List Value) × AllZip (ShowsValue rows) nodes values
  values_of_all [] h = ([], tt)
  values_of_all (n ∷ ns) h =
      let first = some_is (value_shown rows n) h.0 in let rest = values_of_all ns h.1 in
      (first.0 ∷ rest.0, (first.1, rest.1))

  pub all_of_values : (nodes : List NodeId) (values : List Value) → AllZip (ShowsValue rows) nodes values → AllShow rows nodes
  all_of_values [] [] h = tt
  all_of_values [] (v ∷ vs) h = absurd h
  all_of_values (n ∷ ns) [] h = absurd h
  all_of_values (n ∷ ns) (v ∷ vs) h = (ap is_some h.0, all_of_values ns vs h.1)

  -- the values that nodes show
  pub filter_is_values : (nodes : List NodeId) (values : List Value) → AllZip (ShowsValue rows) nodes values → filter_map (value_shown rows) nodes ≡ values
  filter_is_values [] [] h = refl
  filter_is_values [] (v ∷ vs) h = absurd h
  filter_is_values (n ∷ ns) [] h = absurd h
  filter_is_values (n ∷ ns) (v ∷ vs) h = rw (h.0, filter_is_values ns vs h.1) refl

  pub filter_is_shown : (nodes : List NodeId) → AllShow rows nodes → AllZip (ShowsValue rows) nodes (filter_map (value_shown rows) nodes)
  filter_is_shown nodes all =
      let w = values_of_all nodes all in
      subst (λ (vs : List Value). AllZip (ShowsValue rows) nodes vs) (sym (filter_is_values nodes w.0 w.1)) w.1

  -- what is so of all values that nodes show is so of each
  pub shown_by_each : (P : Value → Type 0) (nodes : List NodeId) (i : ℕ) (d : NodeId) (v : Value) → i < length nodes
      → value_shown rows (get_or nodes i d) ≡ Some v → Every P (filter_map (value_shown rows) nodes) → P v
  shown_by_each P [] i d v h e all = absurd (omega (arith, h))
  shown_by_each P (n ∷ ns) zero d v h e all = (rw e at all).0
  shown_by_each P (n ∷ ns) (suc i) d v h e all =
      shown_by_each P ns i d v (omega (arith, h)) e (so_of_rest P (value_shown rows n) (filter_map (value_shown rows) ns) all)

  -- one node more, which shows a value
  pub filter_some : (nodes : List NodeId) (i : ℕ) (d : NodeId) (v : Value) → i < length nodes → value_shown rows (get_or nodes i d) ≡ Some v
      → filter_map (value_shown rows) (take (i + 1) nodes) ≡ filter_map (value_shown rows) (take i nodes) ++ v ∷ []
  filter_some nodes i d v h e = rw (take_more nodes i d h, filter_map-append (value_shown rows) (take i nodes) (get_or nodes i d ∷ []), e) refl

  -- one node more, which shows none
  pub filter_none : (nodes : List NodeId) (i : ℕ) (d : NodeId) → i < length nodes → value_shown rows (get_or nodes i d) ≡ None
      → filter_map (value_shown rows) (take (i + 1) nodes) ≡ filter_map (value_shown rows) (take i nodes)
  filter_none nodes i d h e =
      rw (take_more nodes i d h, filter_map-append (value_shown rows) (take i nodes) (get_or nodes i d ∷ []), e) (append-nil _)

  -- what is so of the values that children show is so of what children show that all show a value
  pub all_fit : (P : List Value → Type 0) (nodes : List NodeId) → ((values : List Value) → AllZip (ShowsValue rows) nodes values → P values)
      → AllShow rows nodes → P (filter_map (value_shown rows) nodes)
  all_fit P nodes fit all = fit (filter_map (value_shown rows) nodes) (filter_is_shown nodes all)

  -- as many as there are nodes
  pub as_many : (nodes : List NodeId) (values : List Value) → AllZip (ShowsValue rows) nodes values → length values ≡ length nodes
  as_many [] [] h = refl
  as_many [] (v ∷ vs) h = absurd h
  as_many (n ∷ ns) [] h = absurd h
  as_many (n ∷ ns) (v ∷ vs) h = ap suc (as_many ns vs h.1)

  pub all_shown : (nodes : List NodeId) → AllShow rows nodes → length (filter_map (value_shown rows) nodes) ≡ length nodes
  all_shown nodes all = as_many nodes (filter_map (value_shown rows) nodes) (filter_is_shown nodes all)

-- ---- what a node gives whose function is called on what its children show

unmoved : (rows : Rows Progress) (n : NodeId) (kept : Progress) → at rows (main n) ≡ Some kept → IsRewritten rows rows (main n) (with_last kept.last)
unmoved rows n kept e = record { changed = rw e refl; others = λ q ne. refl }

no_rise : (n : ℕ) → RoseBy n 0 n
no_rise n = record { kept = omega arith; most = omega arith; exact = λ h. omega arith }

last_of_kept : (x : Option Progress) (kept : Progress) → x ≡ Some kept → option_and_then (λ (k : Progress). k.last) x ≡ kept.last
last_of_kept x kept e = rw e refl

-- where some is Invalid and none unknown, the function isn't called
invalid_gives : (f : List Value → Value) (g : Gathered) → (g ≡ Unknown → ⊥) → ((values : List Value) → g ≡ Values values → ⊥)
    → given f g ≡ Some Invalid
invalid_gives f Unknown known some = absurd (known refl)
invalid_gives f SomeInvalid known some = refl
invalid_gives f (Values vs) known some = absurd (some vs refl)

module _ (answer : List Value → Value) (t : Ty) (stale : Bool) (round : ℕ) (old : Noted) (n : NodeId) (nodes : List NodeId) (cost : ℕ)
    (there : Holds old.rows (main n)) where
  abbrev kept : Progress
  kept = (some_is (at old.rows (main n)) there).0

  is_kept : at old.rows (main n) ≡ Some kept
  is_kept = (some_is (at old.rows (main n)) there).1

  -- a child shows no value
  invalid_computes : (AllShow old.rows nodes → ⊥) → ComputesCall answer t stale round old old n nodes Invalid cost
  invalid_computes some = record {
    kept = kept;
    is_kept = is_kept;
    last = kept.last;
    called = false;
    calls = (refl, λ values e. absurd (none values e));
    gives = λ answers known. invalid_gives answer (seen_together old.rows nodes) known none;
    row = unmoved old.rows n kept is_kept;
    ran = refl;
    count = no_rise old.calls;
    shows = λ v e. cc;
    answer_typed = λ c e. inl e;
  } where
    none : (values : List Value) → seen_together old.rows nodes ≡ Values values → ⊥
    none values e = some (all_of_values old.rows nodes values (shown_from_together old.rows nodes values e))

  -- the children show what the function was last called on
  last_computes : (call : Call) (v : Value) → LastWas old.rows n call → AllZip (ShowsValue old.rows) nodes call.arguments → v ≡ call.result
      → (MustCall stale round old.rows nodes → ⊥) → ComputesCall answer t stale round old old n nodes (Val v) cost
  last_computes call v was shown is free = record {
    kept = kept;
    is_kept = is_kept;
    last = kept.last;
    called = false;
    calls = (refl, λ values e. (call, is_last, same values e, no_reason round old.rows stale n nodes values call was (same values e) free));
    gives = λ answers known. gives answers;
    row = unmoved old.rows n kept is_kept;
    ran = refl;
    count = no_rise old.calls;
    shows = λ w e. (call, is_last, cc);
    answer_typed = λ c e. inl e;
  } where
    is_last : kept.last ≡ Some call
    is_last = sym (last_of_kept (at old.rows (main n)) kept is_kept) ∙ was

    together : seen_together old.rows nodes ≡ Values call.arguments
    together = together_from_shown old.rows nodes call.arguments shown

    same : (values : List Value) → seen_together old.rows nodes ≡ Values values → call.arguments ≡ values
    same values e = let t = together in cc

    gives : ((c : Call) → kept.last ≡ Some c → c.result ≡ answer c.arguments) → given answer (seen_together old.rows nodes) ≡ Some (Val v)
    gives answers = ap (given answer) together ∙ (let e = answers call is_last in cc)

  -- the function need not be called
  pub known_computes : (o : Outcome) → IsKnown stale round old.rows n nodes (Some o) → ComputesCall answer t stale round old old n nodes o cost
  known_computes Invalid some = invalid_computes some
  known_computes (Val v) h = last_computes h.0 v h.1 h.2 h.3 h.4

  abbrev now_shown : List Value
  now_shown = filter_map (value_shown old.rows) nodes

  abbrev now_called : Call
  now_called = record { arguments = now_shown; result = answer now_shown }

  shown_together : IsKnown stale round old.rows n nodes None → seen_together old.rows nodes ≡ Values now_shown
  shown_together unknown = together_from_shown old.rows nodes now_shown (filter_is_shown old.rows nodes unknown.0)

  -- where its outcome isn't known the function is due
  now_due : IsKnown stale round old.rows n nodes None → IsDueOn stale n round old.rows nodes
  now_due unknown = record {
    values = now_shown;
    shows = shown_together unknown;
    reason = reason_of round old.rows stale n nodes now_shown (filter_is_shown old.rows nodes unknown.0) unknown.1;
  }

  -- the function was called
  called_computes : (new : Noted) (o : Outcome) → IsKnown stale round old.rows n nodes None → IsCalled answer t old new n now_shown o cost
      → ComputesCall answer t stale round old new n nodes o cost
  unfolding now_due
  called_computes new o unknown called = record {
    kept = kept;
    is_kept = is_kept;
    last = Some now_called;
    called = true;
    calls = (now_due unknown, refl);
    gives = λ answers known. ap (given answer) (shown_together unknown) ∙ sym (ap Some called.outcome);
    row = called.row;
    ran = called.ran;
    count = called.count;
    shows = λ v e. (now_called, refl, let h = called.outcome in cc);
    answer_typed = λ c e. inr (
      ap (λ (x : Call). type_of x.result) (sym (same_Some now_called c e)) ∙ called.type,
      subst (λ (x : Call). AllZip (ShowsValue old.rows) nodes x.arguments) (same_Some now_called c e) (filter_is_shown old.rows nodes unknown.0),
    );
  }

  -- so the calls' end is
  pub ends_computes : {E : Type 0} (new : Noted) (result : Result Outcome E) → IsKnown stale round old.rows n nodes None
      → Calls answer t old new n now_shown cost result → CallComputes answer t stale round old new n nodes cost result
  ends_computes new (Ok o) unknown called = called_computes new o unknown called
  ends_computes new (Err e) unknown m = record { rows = m.rows; ran = m.ran; count = inr (now_due unknown, m.count) }

-- ---- what a node gives

-- what shows a value has a row that does
record ShownBy (rows : Rows Progress) (n : NodeId) (v : Value) : Type 0 where
  row : Progress
  is_row : at rows (main n) ≡ Some row
  outcome : row.outcome ≡ Some (Val v)

shown_by : (rows : Rows Progress) (n : NodeId) (v : Value) → ShowsValue rows n v → ShownBy rows n v
shown_by rows n v e = go (at rows (main n)) refl e
  where
    go : (x : Option Progress) → at rows (main n) ≡ x → value_in x ≡ Some v → ShownBy rows n v
    go None is h = cc
    go (Some k) is h = record { row = k; is_row = is; outcome = shown_outcome k.outcome v h }

-- a main is there exactly where its node lives
pub has_main : (x : Option Row) → has_part x Main ≡ is_some x
has_main None = refl
has_main (Some r) = refl

-- a value of a base type names no node
base_of_type : (arena : Arena) (v : Value) (t : Ty) → type_of v ≡ t → IsBase t → IsOfType arena v t
base_of_type arena (value.Int z) t type base = record { type = record { type = type; reference = tt }; within = tt }
base_of_type arena (value.Bool z) t type base = record { type = record { type = type; reference = tt }; within = tt }
base_of_type arena (value.Text z) t type base = record { type = record { type = type; reference = tt }; within = tt }
base_of_type arena (value.Node m b) t type base = absurd (subst IsBase (sym type) base)

-- so a call whose result is of a base type fits it
pub base_fits : (arena : Arena) (t u : Ty) → t ≡ u → IsBase t → (c : Call) → type_of c.result ≡ t → IsOfType arena c.result u
base_fits arena t u same base c type = subst (IsOfType arena c.result) same (base_of_type arena c.result t type base)

module _ (arena : Arena) (held : Holdings) (rows : Rows Progress) (kept : KeepsTypes arena held rows) where
  -- what a node shows is of the type that it fits
  pub shown_of_type : (n : NodeId) (t : Ty) (v : Value) → Fits arena n t → ShowsValue rows n v → IsOfType arena v t
  shown_of_type n t v fits shows =
      let b = shown_by rows n v shows in
      let r = some_is (row_at arena n) (sym (has_main (row_at arena n)) ∙ sym (kept.rows (main n)) ∙ ap is_some b.is_row) in
      subst (IsOfType arena v) (subst (λ (x : Option Row). IfSome x (λ (k : Row). k.ty ≡ t)) r.1 fits)
      (kept.outcomes n r.0 b.row v r.1 b.is_row b.outcome)

  -- so it has the type
  shown_type : (n : NodeId) (t : Ty) (v : Value) → Fits arena n t → ShowsValue rows n v → type_of v ≡ t
  shown_type n t v fits shows = (shown_of_type n t v fits shows).type.type

  -- so what children show has the types that their function takes
  types_fit : (nodes : List NodeId) (takes : List Ty) (values : List Value) → AllZip (Fits arena) nodes takes
      → AllZip (ShowsValue rows) nodes values → HaveTypes values takes
  types_fit [] [] [] fits shows = refl
  types_fit [] [] (v ∷ vs) fits shows = absurd shows
  types_fit [] (t ∷ ts) values fits shows = absurd fits
  types_fit (n ∷ ns) [] values fits shows = absurd fits
  types_fit (n ∷ ns) (t ∷ ts) [] fits shows = absurd shows
  types_fit (n ∷ ns) (t ∷ ts) (v ∷ vs) fits shows =
      let first = shown_type n t v fits.0 shows.0 in let rest = types_fit ns ts vs fits.1 shows.1 in cc

  -- and what children show that are all of one type
  each_type : (nodes : List NodeId) (t : Ty) (values : List Value) → Every (λ (n : NodeId). Fits arena n t) nodes
      → AllZip (ShowsValue rows) nodes values → Every (λ (v : Value). type_of v ≡ t) values
  each_type [] t [] fits shows = tt
  each_type [] t (v ∷ vs) fits shows = absurd shows
  each_type (n ∷ ns) t [] fits shows = absurd shows
  each_type (n ∷ ns) t (v ∷ vs) fits shows = (shown_type n t v fits.0 shows.0, each_type ns t vs fits.1 shows.1)

  -- so what children show fits a fold
  fold_shown : (f : FnRef) (from : Value) (nodes : List NodeId) (t : Ty) (tys : List Ty) (values : List Value) → f.sig.takes ≡ tys
      → FoldTakes arena t nodes tys → f.sig.gives ≡ t → type_of from ≡ t → AllZip (ShowsValue rows) nodes values → FoldFits f from values
  fold_shown f from nodes t (first ∷ element ∷ []) values is takes gives type shows = record {
    element = element;
    takes = is ∙ ap (λ (x : Ty). x ∷ element ∷ []) (takes.0 ∙ sym gives);
    first = type ∙ sym gives;
    types = each_type nodes element values takes.1 shows;
  }
  fold_shown f from nodes t [] values is takes gives type shows = absurd takes
  fold_shown f from nodes t (first ∷ []) values is takes gives type shows = absurd takes
  fold_shown f from nodes t (first ∷ element ∷ more ∷ tys) values is takes gives type shows = absurd takes

-- what the code's definition holds
pub holds_value : (d : declared.Def) (v w : Value) → w ≡ v → (d ≡ form.Const v) ⊎ (d ≡ form.Var v) → (def_of d ≡ Const w) ⊎ (def_of d ≡ Var w)
holds_value d v w same (inl h) = inl (ap def_of h ∙ ap Const (sym same))
holds_value d v w same (inr h) = inr (ap def_of h ∙ ap Var (sym same))

-- a value is kept, or none is
pub by_kept : {P : Value → Type 0} {Q R : Type 0} (x : Option Value) → ((v : Value) → x ≡ Some v → P v → R) → (x ≡ None → Q → R) → IfSome x P → IfNone x Q → R
by_kept None some none p q = none refl q
by_kept (Some v) some none p q = some v refl p

-- the call by which a row keeps a value
record KeptCall (x : Option Progress) (v : Value) : Type 0 where
  row : Progress
  is_row : x ≡ Some row
  call : Call
  is_last : row.last ≡ Some call
  arguments : call.arguments ≡ v ∷ []

found_call : (last : Option Call) (v : Value) → found last ≡ Some v → (c : Call) × (last ≡ Some c) × (c.arguments ≡ v ∷ [])
found_call None v is = cc
found_call (Some c) v is = (c, refl, only c.arguments c.result is)
  where
    only : (values : List Value) (w : Value) → found_in values w ≡ Some v → values ≡ v ∷ []
    only [] w is = cc
    only (x ∷ []) (value.Bool true) is = ap (λ (y : Value). y ∷ []) (same_Some x v is)
    only (x ∷ []) (value.Bool false) is = cc
    only (x ∷ []) (value.Int z) is = cc
    only (x ∷ []) (value.Text z) is = cc
    only (x ∷ []) (value.Node m b) is = cc
    only (x ∷ y ∷ more) w is = cc

kept_call : (x : Option Progress) (v : Value) → kept_in x ≡ Some v → KeptCall x v
kept_call None v is = cc
kept_call (Some k) v is =
    let c = found_call k.last v (by_flag k.frozen is) in record { row = k; is_row = refl; call = c.0; is_last = c.1; arguments = c.2 }
  where
    by_flag : (b : Bool) → kept_by b k.last ≡ Some v → found k.last ≡ Some v
    by_flag true is = is
    by_flag false is = cc

module _ (F : Functions) (arena : Arena) (roots : Rows NodeId) (experts : List ExpertPlace) (round : ℕ) (old : Noted) (n : NodeId) (row : Row)
    (kept : KeepsTypes arena (held_in arena old.rows roots experts) old.rows) (sound : IsSoundArena arena) (is_row : row_at arena n ≡ Some row) where
  abbrev held : Holdings
  held = held_in arena old.rows roots experts

  abbrev stale : NodeId → Bool
  stale = is_stale_at experts

  abbrev G : Graph
  G = graph_of arena held

  there : Holds old.rows (main n)
  there = kept.rows (main n) ∙ has_main (row_at arena n) ∙ ap is_some is_row

  abbrev progress : Progress
  progress = (some_is (at old.rows (main n)) there).0

  is_progress : at old.rows (main n) ≡ Some progress
  is_progress = (some_is (at old.rows (main n)) there).1

  same_row : (r : Row) → row_at arena n ≡ Some r → row ≡ r
  same_row r e = same_Some row r (sym is_row ∙ e)

  abbrev gives_own : Def → Option Outcome
  gives_own d = own F G (seen old.rows) n d

  -- a node none of whose functions is called
  uncalled_computes : (o : Outcome) → taken_by G n row.def ≡ None
      → (LooksAtSeen old.rows G n row.def → gives_own row.def ≡ Some o) → ((v : Value) → o ≡ Val v → IsOfType arena v row.ty)
      → Computes F arena held stale round old old n o
  uncalled_computes o none gives typed = record {
    last = progress.last;
    called = false;
    computed = record {
      row = row;
      is_row = is_row;
      kept = progress;
      is_kept = is_progress;
      calls = (refl, λ nodes values takes e. absurd (none-some nodes (sym none ∙ takes)));
      own = λ answers looks. gives looks;
    };
    row = unmoved old.rows n progress is_progress;
    ran = refl;
    count = no_rise old.calls;
    typed = λ r v e is. subst (λ (x : Row). IsOfType arena v x.ty) (same_row r e) (typed v is);
    answer_typed = λ r c e is. kept.calls n r progress c e is_progress is;
  }

  -- what holds a value gives it
  pub holder_computes : (v : Value) → (row.def ≡ Const v) ⊎ (row.def ≡ Var v) → Computes F arena held stale round old old n (Val v)
  holder_computes v holds = uncalled_computes (Val v) (none_taken holds) (λ looks. gives holds)
      (λ w e. let value_is : v ≡ w = cc in subst (λ (x : Value). IsOfType arena x row.ty) value_is (typed holds))
    where
      none_taken : (row.def ≡ Const v) ⊎ (row.def ≡ Var v) → taken_by G n row.def ≡ None
      none_taken (inl h) = ap (taken_by G n) h
      none_taken (inr h) = ap (taken_by G n) h

      gives : (row.def ≡ Const v) ⊎ (row.def ≡ Var v) → gives_own row.def ≡ Some (Val v)
      gives (inl h) = ap gives_own h
      gives (inr h) = ap gives_own h

      typed : (row.def ≡ Const v) ⊎ (row.def ≡ Var v) → IsOfType arena v row.ty
      typed (inl h) = record {
        type = subst (λ (d : Def). Makes arena d row.ty) h (sound.types n row is_row);
        within = subst (NamesGiven arena.given) h (sound.names n row is_row);
      }
      typed (inr h) = record {
        type = subst (λ (d : Def). Makes arena d row.ty) h (sound.types n row is_row);
        within = subst (NamesGiven arena.given) h (sound.names n row is_row);
      }

  -- what it shows is of its type
  pub clock_typed : (v : Value) → clock_value arena.time row.def ≡ Some v → type_of v ≡ row.ty
  clock_typed v is = (typed_by_clock arena arena.time row.def row.ty v (sound.names n row is_row) (sound.types n row is_row) is).type.type

  -- what holds a value is of its type
  pub holder_typed : (v : Value) → (row.def ≡ Const v) ⊎ (row.def ≡ Var v) → type_of v ≡ row.ty
  holder_typed v (inl h) = (subst (λ (d : Def). Makes arena d row.ty) h (sound.types n row is_row)).type
  holder_typed v (inr h) = (subst (λ (d : Def). Makes arena d row.ty) h (sound.types n row is_row)).type

  -- what reads the clock gives what it shows at the time
  pub clock_computes : (v : Value) → reads_clock row.def ≡ true → clock_value arena.time row.def ≡ Some v → Computes F arena held stale round old old n (Val v)
  clock_computes v reads is = uncalled_computes (Val v) (none_taken_by_clock G n row.def reads) (λ looks. own_by_clock F G (seen old.rows) n row.def v is)
      (λ w e. let value_is : v ≡ w = cc in
      subst (λ (x : Value). IsOfType arena x row.ty) value_is
      (typed_by_clock arena arena.time row.def row.ty v (sound.names n row is_row) (sound.types n row is_row) is))

  pub clock_ends : {E : Type 0} (result : Result Outcome E) → reads_clock row.def ≡ true
      → IfOk result (λ (o : Outcome). (v : Value) × (o ≡ Val v) × (clock_value arena.time row.def ≡ Some v)) → Ends F arena held stale round old old n result
  clock_ends (Ok o) reads shows =
      subst (λ (x : Outcome). Computes F arena held stale round old old n x) (sym shows.1) (clock_computes shows.0 reads shows.2)
  clock_ends (Err e) reads h = record { rows = λ p. refl; ran = refl; count = inl refl }

  module _ (d : declared.Def) (is_def : row.def ≡ def_of d) (pair : IsPair (def_of d)) where
    there_change : Holds old.rows (change n)
    there_change =
        kept.rows (change n) ∙ ap (λ (x : Option Row). has_part x Change) is_row ∙ ap (λ (x : Def). is_some (subject_of x)) is_def ∙ pair.subject

    abbrev changed : Progress
    changed = (some_is (at old.rows (change n)) there_change).0

    is_changed : at old.rows (change n) ≡ Some changed
    is_changed = (some_is (at old.rows (change n)) there_change).1

    chooses : (o : Outcome) → ShowsRight old.rows (right_in old.rows roots n (def_of d)) o
        → ShowsRight old.rows (and_then changed.outcome (λ (c : Outcome). right_of G n (def_of d) c)) o
    chooses o shows =
        subst (λ (x : Option Progress). ShowsRight old.rows (and_then (outcome_in x) (λ (c : Outcome). right_of G n (def_of d) c)) o) is_changed
        (subst (λ (x : Option NodeId). ShowsRight old.rows x o) (right_is old.rows roots n G (def_of d) (built_live old.rows roots n arena experts row is_row
        ∙ ap (λ (x : Def). built_by x (outcome_in (at old.rows (change n))) (at roots (change n))) is_def)) shows)

    gives_right : (o : Outcome) → ShowsRight old.rows (right_in old.rows roots n (def_of d)) o → LooksAtSeen old.rows G n (def_of d)
        → gives_own (def_of d) ≡ Some o
    gives_right o shows looks =
        let changes_outcome : outcome_in (at old.rows (change n)) ≡ changed.outcome = ap outcome_in is_changed in
        pair.gives_right F G (seen old.rows) n
        ∙ ap (λ (x : Option Outcome). with_value x (λ (v : Value). see_right (seen old.rows) (right_of G n (def_of d) (Val v))))
        (ap seen_of is_changed)
        ∙ gives_own_right old.rows G n (def_of d) (kept.rootless n) o changed.outcome (subst IsSome changes_outcome (looks.choice pair.subject))
        (λ m c e right. looks.right m c (changes_outcome ∙ e) right) (chooses o shows)

    right_typed : (v : Value) → ShowsRight old.rows (right_in old.rows roots n (def_of d)) (Val v) → IsOfType arena v row.ty
    right_typed v shows =
        let right = right_shows old.rows G n (def_of d) v changed.outcome (chooses (Val v) shows) in
        let its = kept.rights n right.node row changed right.given is_row is_changed right.is_given
        (ap (λ (x : Def). right_of G n x right.given) is_def ∙ right.is_right) in
        shown_of_type arena held old.rows kept right.node row.ty v its.1 (seen_is_shown (at old.rows (main right.node)) v right.shows)

    -- what its right side shows is of its type
    pub pair_typed : (m : NodeId) (v : Value) → right_in old.rows roots n (def_of d) ≡ Some m → seen old.rows (main m) ≡ Some (Val v) → type_of v ≡ row.ty
    pair_typed m v is sees = (right_typed v (subst (λ (x : Option NodeId). ShowsRight old.rows x (Val v)) (sym is) (inl sees))).type.type

    -- a node of two points gives what the right side shows that its change chose
    pub pair_computes : (o : Outcome) → ShowsRight old.rows (right_in old.rows roots n (def_of d)) o → Computes F arena held stale round old old n o
    pair_computes o shows = uncalled_computes o (ap (taken_by G n) is_def ∙ pair.none_taken G n)
        (λ looks. subst (λ (x : Def). LooksAtSeen old.rows G n x → gives_own x ≡ Some o) (sym is_def) (gives_right o shows) looks)
        (λ v e. right_typed v (subst (λ (x : Outcome). ShowsRight old.rows (right_in old.rows roots n (def_of d)) x) e shows))

    -- so it ends that copies what a right side shows
    pub pair_ends : {E : Type 0} (m : NodeId) (result : Result Outcome E) → right_in old.rows roots n (def_of d) ≡ Some m
        → IfOk result (λ (o : Outcome). (seen old.rows (main m) ≡ Some o) ⊎ ((seen old.rows (main m) ≡ None) × (o ≡ Invalid)))
        → Ends F arena held stale round old old n result
    pair_ends m (Ok o) is shows = pair_computes o (subst (λ (x : Option NodeId). ShowsRight old.rows x o) (sym is) shows)
    pair_ends m (Err e) is h = record { rows = λ p. refl; ran = refl; count = inl refl }

  module _ (f : FnRef) (nodes : List NodeId) (is_map : row.def ≡ Map f nodes) where
    map_makes : MapMakes arena f nodes row.ty
    map_makes = subst (λ (d : Def). Makes arena d row.ty) is_map (sound.types n row is_row)

    -- what the children of a map show has the types that its function takes
    pub map_fits : (values : List Value) → AllZip (ShowsValue old.rows) nodes values → HaveTypes values f.sig.takes
    map_fits values shows = types_fit arena held old.rows kept nodes f.sig.takes values map_makes.children shows

    pub map_gives : f.sig.gives ≡ row.ty
    map_gives = map_makes.gives

    -- a known map gives a base type
    pub map_base : (known : FnRef → Bool) (ids : FnRef → List NodeId) → HaveMapSigs known → AllCallFit known ids arena → IsBase f.sig.gives
    map_base known ids sigs fit =
        let calls : CallsFit arena.given known ids (Map f nodes) =
        subst (CallsFit arena.given known ids) is_map (fit n row is_row) in
        (sigs f calls.0.0.0 calls.0.0.1).2

  module _ (f : FnRef) (from : Value) (nodes : List NodeId) (is_fold : row.def ≡ Fold f from nodes) where
    fold_makes : FoldMakes arena f from nodes row.ty
    fold_makes = subst (λ (d : Def). Makes arena d row.ty) is_fold (sound.types n row is_row)

    -- what the children of a fold show fits it
    pub fold_fits : (values : List Value) → AllZip (ShowsValue old.rows) nodes values → FoldFits f from values
    fold_fits values shows =
        fold_shown arena held old.rows kept f from nodes row.ty f.sig.takes values refl fold_makes.takes fold_makes.gives fold_makes.initial.type shows

    pub fold_gives : f.sig.gives ≡ row.ty
    fold_gives = fold_makes.gives

    -- a known function that is folded gives a base type
    pub fold_base : (known : FnRef → Bool) (ids : FnRef → List NodeId) → HaveMapSigs known → AllCallFit known ids arena → IsBase f.sig.gives
    fold_base known ids sigs fit =
        let calls : CallsFit arena.given known ids (Fold f from nodes) =
        subst (CallsFit arena.given known ids) is_fold (fit n row is_row) in
        (sigs f calls.0.0.0 calls.0.0.1).2

  -- ---- a node whose function is called on what its children show

  module _ (answer : List Value → Value) (t : Ty) (def : Def) (nodes : List NodeId) (cost : ℕ) (b : Bool) (is_def : row.def ≡ def)
      (takes : taken_by G n def ≡ Some nodes) (is_answer : (values : List Value) → IsAnswer F def values (answer values))
      (cost_is : or_none (cost_of G n def) ≡ cost) (marked : b ≡ stale n) where
    cost_here : cost ≡ cost_at G n
    cost_here = sym cost_is ∙ sym (ap (λ (d : Def). or_none (cost_of G n d)) is_def) ∙ sym (ap (λ (x : Option Row). row_cost G n x) is_row)

    takes_row : taken_by G n row.def ≡ Some nodes
    takes_row = ap (taken_by G n) is_def ∙ takes

    -- it was due
    due_here : IsDueOn b n round old.rows nodes → IsSeenDue G stale n round old.rows row.def
    due_here d = record {
      nodes = nodes;
      values = d.values;
      takes = takes_row;
      shows = d.shows;
      reason = reason_with round old.rows (λ (m : NodeId). b) stale n nodes d.values marked d.reason;
    }

    calls_here : (last last' : Option Call) (called : Bool) → CallsOn answer b n round old.rows nodes last last' called
        → CallsSeen F G stale n round old.rows row.def last last' called
    unfolding due_here
    calls_here last last' false h = (
      h.0,
      λ others values its e.
          let same : nodes ≡ others = same_Some nodes others (sym takes_row ∙ its) in
          let w = h.1 values (ap (seen_together old.rows) same ∙ e) in (
            w.0,
            w.1,
            w.2,
            λ reason. w.3 (reason_with round old.rows stale (λ (m : NodeId). b) n nodes values (sym marked)
                (subst (λ (ns : List NodeId). ReasonIn stale round old.rows n ns values) (sym same) reason)),
          ),
    )
    calls_here last last' true h = (
      due_here h.0,
      answer h.0.values,
      h.1,
      subst (λ (d : Def). IsAnswer F d h.0.values (answer h.0.values)) (sym is_def) (is_answer h.0.values),
    )

    -- it wasn't computed
    pub call_fails : (new : Noted) → NotCalled b round old new n nodes cost → NotComputed G stale round old new n
    call_fails new m = record {
      rows = m.rows;
      ran = m.ran;
      count = elim m.count [
        | inl same ↦ inl same
        | inr some ↦ inr (record {
          row = row;
          is_row = is_row;
          kept = progress;
          is_kept = is_progress;
          due = due_here some.0;
          count = subst (λ (k : ℕ). RoseAtMost old.calls k new.calls) cost_here some.1;
        })
      ];
    }

    module _ (fits_call : (c : Call) → type_of c.result ≡ t → AllZip (ShowsValue old.rows) nodes c.arguments → CallFits arena def row.ty c) where
      fits_last : (new : Noted) (o : Outcome) (m : ComputesCall answer t b round old new n nodes o cost) (r : Row) (c : Call) → row_at arena n ≡ Some r
          → m.last ≡ Some c → CallFits arena r.def r.ty c
      fits_last new o m r c e is = elim (m.answer_typed c is) [
        | inl was ↦ kept.calls n r m.kept c e m.is_kept was
        | inr its ↦ subst (λ (x : Row). CallFits arena x.def x.ty c) (same_row r e)
            (subst (λ (d : Def). CallFits arena d row.ty c) (sym is_def) (fits_call c its.0 its.1))
      ]

      -- a live node was computed, which gives this
      pub node_computes : (new : Noted) (o found : Outcome) (m : ComputesCall answer t b round old new n nodes found cost)
          → (KeepsAnswers F G old.rows → LooksAtSeen old.rows G n row.def → gives_own row.def ≡ Some o)
          → ((v : Value) → o ≡ Val v → IsOfType arena v row.ty) → Computes F arena held stale round old new n o
      node_computes new o found m own_is typed = record {
        last = m.last;
        called = m.called;
        computed = record {
          row = row;
          is_row = is_row;
          kept = m.kept;
          is_kept = m.is_kept;
          calls = calls_here m.kept.last m.last m.called m.calls;
          own = own_is;
        };
        row = m.row;
        ran = subst (λ (k : ℕ). new.ran ≡ ran_then (calls_of m.called k) old.ran n) cost_here m.ran;
        count = subst (λ (k : ℕ). RoseBy old.calls (calls_of m.called k) new.calls) cost_here m.count;
        typed = λ r v e is. subst (λ (x : Row). IsOfType arena v x.ty) (same_row r e) (typed v is);
        answer_typed = fits_last new found m;
      }

      module _ (from_answer : (values : List Value) (w : Value) → IsAnswer F def values w → w ≡ answer values)
          (own_is : gives_own def ≡ given answer (seen_together old.rows nodes)) (kids_are : kids_of G n def ≡ nodes)
          (result_typed : (c : Call) → CallFits arena def row.ty c → IsOfType arena c.result row.ty) where
        -- a live node was computed that gives what its function gives
        call_computes : (new : Noted) (o : Outcome) → ComputesCall answer t b round old new n nodes o cost → Computes F arena held stale round old new n o
        call_computes new o m = node_computes new o o m
            (λ answers looks. subst (λ (d : Def). gives_own d ≡ Some o) (sym is_def)
            (own_is ∙ m.gives (λ c is. from_answer c.arguments c.result (subst (λ (d : Def). IsAnswer F d c.arguments c.result) is_def
            (answers n row nodes m.kept c is_row takes_row m.is_kept is)))
            (subst (λ (ns : List NodeId). seen_together old.rows ns ≡ Unknown → ⊥) (ap (kids_of G n) is_def ∙ kids_are) looks.kids)))
            (λ v is. let w = m.shows v is in
            subst (λ (x : Value). IsOfType arena x row.ty) w.2
            (result_typed w.0 (subst (λ (d : Def). CallFits arena d row.ty w.0) is_def (fits_last new o m row w.0 is_row w.1))))

        -- so it ends
        pub call_ends : {E : Type 0} (new : Noted) (result : Result Outcome E) → CallComputes answer t b round old new n nodes cost result
            → Ends F arena held stale round old new n result
        call_ends new (Ok o) m = call_computes new o m
        call_ends new (Err e) m = call_fails new m

  -- ---- an expert

  module _ (f : FnRef) (from : Value) (is_expert : row.def ≡ Expert f from []) where
    expert_makes : FoldMakes arena f from [] row.ty
    expert_makes = subst (λ (d : Def). Makes arena d row.ty) is_expert (sound.types n row is_row)

    -- what the nodes show that an expert reads fits it
    pub expert_fits : (values : List Value) → AllZip (ShowsValue old.rows) (kids_at experts n) values → FoldFits f from values
    expert_fits values shows =
        fold_shown arena held old.rows kept f from (kids_at experts n) row.ty f.sig.takes values refl (kept.lists n row f from [] is_row is_expert)
        expert_makes.gives expert_makes.initial.type shows

    pub expert_gives : f.sig.gives ≡ row.ty
    expert_gives = expert_makes.gives

    pub expert_base : (known : FnRef → Bool) (ids : FnRef → List NodeId) → HaveMapSigs known → AllCallFit known ids arena → IsBase f.sig.gives
    expert_base known ids sigs fit =
        let calls : CallsFit arena.given known ids (Expert f from []) = subst (CallsFit arena.given known ids) is_expert (fit n row is_row) in
        (sigs f calls.0.0.0 calls.0.0.1).2

  -- ---- a freeze

  module _ (kid : NodeId) (f : FnRef) (is_freeze : row.def ≡ Freeze kid f) where
    freeze_makes : FreezeMakes arena kid f row.ty
    freeze_makes = subst (λ (d : Def). Makes arena d row.ty) is_freeze (sound.types n row is_row)

    -- what its child shows has the type that its predicate takes
    pub freeze_fits : (values : List Value) → AllZip (ShowsValue old.rows) (kid ∷ []) values → HaveTypes values f.sig.takes
    freeze_fits values shows =
        types_fit arena held old.rows kept (kid ∷ []) f.sig.takes values
        (subst (AllZip (Fits arena) (kid ∷ [])) (sym freeze_makes.takes) (freeze_makes.child, tt)) shows

    pub freeze_truth : f.sig.gives ≡ ty.Bool
    freeze_truth = freeze_makes.gives

    -- a value that its child shows is of its type
    pub kid_typed : (v : Value) → value_shown old.rows kid ≡ Some v → IsOfType arena v row.ty
    kid_typed v shows = shown_of_type arena held old.rows kept kid row.ty v freeze_makes.child shows

    each_typed : (values : List Value) → AllZip (ShowsValue old.rows) (kid ∷ []) values → Every (λ (v : Value). IsOfType arena v row.ty) values
    each_typed [] shows = absurd shows
    each_typed (v ∷ []) shows = (kid_typed v shows.0, tt)
    each_typed (v ∷ w ∷ vs) shows = absurd shows.1

    -- a value that it keeps is of its type
    pub kept_typed : (v : Value) → kept_in (at old.rows (main n)) ≡ Some v → IsOfType arena v row.ty
    kept_typed v is =
        let k = kept_call (at old.rows (main n)) v is in
        let fits = kept.calls n row k.row k.call is_row k.is_row k.is_last in
        (subst (λ (vs : List Value). Every (λ (x : Value). IsOfType arena x row.ty) vs) k.arguments
        (subst (λ (d : Def). CallFits arena d row.ty k.call) is_freeze fits)).0

    -- it keeps a value
    pub keeps_ends : {E : Type 0} (v : Value) (new : Noted) (result : Result Outcome E) → kept_in (at old.rows (main n)) ≡ Some v
        → KeepsOn v old new result → Ends F arena held stale round old new n result
    keeps_ends v new (Ok o) is h =
        subst (λ (x : Noted). Computes F arena held stale round old x n o) (sym h.1)
        (uncalled_computes o (ap (taken_by G n) is_freeze ∙ ap (predicate_kids kid) is)
        (λ looks. ap gives_own is_freeze ∙ ap (λ (x : Option Value). frozen_or_seen x (seen old.rows (main kid))) is ∙ sym (ap Some h.0))
        (λ w e. let value_is : v ≡ w = let e' = sym h.0 ∙ e in cc in subst (λ (x : Value). IsOfType arena x row.ty) value_is (kept_typed v is)))
    keeps_ends v new (Err e) is h =
        subst (λ (x : Noted). NotComputed G stale round old x n) (sym h) (record { rows = λ p. refl; ran = refl; count = inl refl })

    -- it keeps none
    pub freeze_ends : {E : Type 0} (new : Noted) (result : Result Outcome E) → kept_in (at old.rows (main n)) ≡ None → false ≡ stale n
        → FreezeComputes (F.value f) f.sig.gives round old new n kid result → Ends F arena held stale round old new n result
    freeze_ends new (Err e) none marked m =
        call_fails (F.value f) f.sig.gives (Freeze kid f) (kid ∷ []) 1 false is_freeze (ap (predicate_kids kid) none) (λ values. refl)
        (ap (λ (x : Option Value). or_none (predicate_cost x)) none) marked new m
    freeze_ends new (Ok o) none marked m =
        node_computes (F.value f) f.sig.gives (Freeze kid f) (kid ∷ []) 1 false is_freeze (ap (predicate_kids kid) none) (λ values. refl)
        (ap (λ (x : Option Value). or_none (predicate_cost x)) none) marked (λ c type shows. each_typed c.arguments shows) new o m.0 m.2
        (λ answers looks. ap gives_own is_freeze ∙ ap (λ (x : Option Value). frozen_or_seen x (seen old.rows (main kid))) none
        ∙ sees_kid o (subst (λ (ns : List NodeId). seen_together old.rows ns ≡ Unknown → ⊥) (ap (kids_of G n) is_freeze ∙ ap (unfrozen kid) none) looks.kids) m.1)
        (λ v is. elim m.1 [
          | inl sees ↦ kid_typed v (seen_is_shown (at old.rows (main kid)) v (sees ∙ ap Some is))
          | inr nothing ↦ absurd (let e = sym nothing.1 ∙ is in cc)
        ])
      where
        sees_kid : (o : Outcome) → (seen_together old.rows (kid ∷ []) ≡ Unknown → ⊥) → IsShown old.rows kid o → seen old.rows (main kid) ≡ Some o
        sees_kid o known (inl sees) = sees
        sees_kid o known (inr nothing) = absurd (known (ap (λ (x : Option Outcome). joined x (seen_together old.rows [])) nothing.0))
