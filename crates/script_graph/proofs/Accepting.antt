-- A stabilize that was accepted is one of the script.
use Rattle.std.proofs.Common.{◌≡◌, inl, inr, ℕ, ◌+◌, true, false, ◌&&◌, Bool, arith, List, [], ◌∷◌, map, Option, None, Some, IfSome, option_map, is_some, refl, ap, sym, subst, ◌∙◌, slice_get}
use Rattle.std.specs.List.{AllZip}
use Rattle.inc_value.specs.Choice.{Among, and_then}
use Rattle.inc_value.specs.declared.function.FnRef.{FnRef}
use Rattle.inc_value.specs.declared.node.NodeId.{NodeId}
use Rattle.inc_value.specs.declared.node.ObsId.{ObsId}
use Rattle.inc_value.specs.declared.outcome.Outcome.{Outcome as GraphOutcome}
use Rattle.inc_value.specs.declared.ty.Ty.{Ty}
use Rattle.inc_value.specs.declared.value.Value.{Value as GraphValue}
use Rattle.inc_terms.specs.Depend.{none_died}
use Rattle.inc_terms.specs.Graph.{Graph, Row, Built as BuiltFor}
use Rattle.inc_terms.specs.Rebuilding.{outcome_of}
use Rattle.inc_terms.specs.Term as term
use Rattle.inc_terms.specs.Term.{Functions}
use Rattle.graph.specs.Sound.{IsWhole}
use Rattle.graph.specs.Stabilizes.{Stabilizes as GraphStabilizes, left_by}
use Rattle.stabilizer.specs.Look as seen
use Rattle.graph.specs.Standing.{GraphView, graph, is_marked, look, shows_now, cutoff_of, AreRooted}
use Rattle.observers.specs.Observers.{in_use, looked_at as looked_in, node_at as looked_at}
use Rattle.observers.specs.declared.notice.Notice.{Notice as GraphNotice}
use Rattle.observers.specs.declared.observer.Observer.{Observer as Looking}
use Rattle.node_arena.specs.Arena.{row_at}
use Rattle.map_nodes.specs.declared.cutoff.Cutoff.TheVariants.{Equal}
use Rattle.stabilizer.specs.Telling.{shown_or}
use Rattle.stabilize_round.specs.Calling.{costs_of}
use Rattle.stabilize_round.specs.Counts.{RoseBy}
use Rattle.script_model.specs.Check.{is_among, target_of_body}
use Rattle.script_model.specs.Evaluate.{NameGives}
use Rattle.script_model.specs.Formula as script
use Rattle.script_model.specs.Formula.{State, Entry, Body, Formula, Observer, Watch, Told, Meanings, meanings_of, body_at, built_at, built_of_body, entry_at, Name, Bind, Variable, Computed, Freeze, After, Every, Expert, Grab}
use Rattle.script_model.specs.Need.{Visit, IsVisit, Needed}
use Rattle.script_model.specs.Leaves.{EveryReference}
use Rattle.script_model.specs.Settle.{BuildsFor, Notice, Settles, ShowAll, recorded}
use Rattle.script_model.specs.Step.{Moment, settles}
use Rattle.script_model.specs.Valid.{Valid, ValidObserver, WatchFits, OutcomeHasType}
use Rattle.script_model.specs.Values.{Value, Int, Bool as Truth, Text, Reference, Outcome, Val, Invalid, same_kept}
use Rattle.script_model.proofs.Leaves.{leaves_more, leaves_more_of, reference_more}
use Rattle.script_model.proofs.Settling.{settles_valid}
use Rattle.script_model.proofs.TypedValues.{declarations_have_types, values_have_types}
use Rattle.script_graph.specs.Growing.{functions_over}
use Rattle.script_graph.specs.Kept.{Kept, node_in, without_functions}
use Rattle.script_graph.specs.Represents.{graph_functions, besides, beside, there_in, AreNames, Represents, Watches}
use Rattle.script_graph.specs.Settled.{WasRun, Settled}
use Rattle.script_graph.specs.Stabilizing.{IsAccepted, IsNotice}
use Rattle.script_graph.specs.State.{MatchesMoment, Stands}
use Rattle.script_graph.specs.Today.{FreezesAreDeclared, IsDeclaredTarget, IsEarlierTarget, IsPlainBody, IsWithin, IsPartWithin, OwnNodesOf, RefersTo, AllPlain}
use Rattle.script_graph.proofs.Becoming as become
use Rattle.script_graph.proofs.Becoming.{IsThen, AllBuilt, body_then, recorded_of, same_target}
use Rattle.script_graph.proofs.Beside.{represented_fits}
use Rattle.script_graph.proofs.Building.{same_kepts, kept_itself, both_true, at, all, free, due, told_apart, left_typed, given_typed, kept_typed}
use Rattle.script_graph.proofs.CuttingShort.{kept_whole}
use Rattle.script_graph.proofs.Frozen.{root_is_unfrozen}
use Rattle.script_graph.proofs.Held.{held_needed}
use Rattle.script_graph.proofs.Leaving.{scopes_built}
use Rattle.script_graph.proofs.Looking.{observer_root}
use Rattle.script_graph.proofs.Middle.{IsStabilize, middle, given, fits_then, freezes_then, tops, rooted_then}
use Rattle.script_graph.proofs.Recalling.{IsRecalled, visit_is_recalled}
use Rattle.script_graph.proofs.Referring.{outcome_refers_more, typed_outcome_refers}
use Rattle.script_graph.proofs.Refusing.{IsSessions, kept_so, functions_so, moment_unbroken, stabilize_of}
use Rattle.script_graph.proofs.Remembering.{among_there, every_one}
use Rattle.script_graph.proofs.Showing.{ShowsThen, AllShow, all_show, made_then, notices_then, shows_then, names_then, watches_then, told_then}
use Rattle.script_graph.proofs.Staying.{shows_on, own_nodes_then}
use Rattle.script_graph.proofs.Told.{told_at, told_in_use, told_looked, same_in_both}
use Rattle.script_graph.proofs.Watching.{none_kept, roots_have_in}
use Rattle.script_graph.proofs.Without.{stabilizes_without}
use Rattle.transfer.specs.Both.{Both, graph_outcome, graph_value}
use Rattle.transfer.specs.Items.{RootsHave}
use Rattle.transfer.specs.Shows.{Declares, Fits, IsOwn}
use Rattle.transfer.proofs.Meanings.{names_agree}
use Rattle.transfer.proofs.Typed.{bind_body, body_entry, body_typed, valid_grabs}

-- ---- the stabilize

module _ (named : List ℕ → Option FnRef) (value : FnRef → List GraphValue → GraphValue) (m : Moment) (k : Kept) (g : GraphView (Unit {0}))
    (stands : Stands (meanings_of named value) k m) (unbroken : m.broken ≡ None) (c : IsStabilize (meanings_of named value) m.present k g)
    (whole : IsWhole c.meaning k.graph) (done : GraphStabilizes (graph_functions (meanings_of named value) k.bodies) k.graph g) where
  abbrev F : Meanings
  F = meanings_of named value

  abbrev M : Functions
  M = graph_functions F k.bodies

  abbrev s : State
  s = m.present

  abbrev before : State
  before = m.settled

  abbrev N : ℕ → NodeId
  N = node_in k.nodes

  abbrev y : Both
  y = middle F s k g

  abbrev G' : Graph
  G' = graph g

  fits : Fits y
  fits = fits_then named value s k g c

  abbrev built_at_end : ℕ → Option GraphOutcome
  built_at_end = at named value m k g stands unbroken c whole done

  abbrev frozen_at_end : ℕ → Option GraphValue
  frozen_at_end n = G'.frozen (N n)

  abbrev built : AllBuilt F before s N built_at_end frozen_at_end 0 s.entries
  built = all named value m k g stands unbroken c whole done

  abbrev now : ℕ → Option Outcome
  now = become.now_at F before s N built_at_end frozen_at_end built [] 0

  abbrev keeps : ℕ → Option Value
  keeps = become.keeps_at F before s N built_at_end frozen_at_end built [] 0

  -- ---- observers

  -- what a declaration gives refers to what is declared
  given_refers : (t : ℕ) (p : Outcome) → (b : Body) × (body_at s t ≡ Some b) → NameGives F s t p → RefersTo (IsDeclaredTarget s) p
  given_refers t p is gives =
      let e = body_entry s t is.0 is.1 in
      typed_outcome_refers s c.held.today.plain c.held.targets p e.0.ty
      (declarations_have_types F s c.keep c.valid t e.0 p e.1 gives)

  -- what was told last of an observer has the type of its target
  told_typed : (t : Ty) (v : Watch) → WatchFits s t v → (was : Outcome) → v ≡ Told was → OutcomeHasType s was t
  told_typed t v fits was is = subst (WatchFits s t) is fits

  shows_one : (o : ObsId) (z : Observer) → slice_get stands.matches.watches.made o.0 ≡ Some (Some z) → (p : Outcome) × ShowsThen F s k g z p
  shows_one o z at_o =
      let w = stands.matches.watches.observing o z at_o in
      let looks : looked_at g.observers o ≡ Some (N z.target) =
      ap (λ (os : List Looking). looked_at os o) done.observers
      ∙ (ap looked_in (told_at (shows_now g) k.graph.observers o.0) ∙ (told_looked (shows_now g) (slice_get k.graph.observers o.0) ∙ ap looked_in w.is)) in
      let q = done.shows o (N z.target) looks in
      let p = names_agree y fits z.target q.0 q.2 in
      let among : Among z s.observers = subst (Among z) (sym stands.matches.watches.in_order) (among_there stands.matches.watches.made o.0 z at_o) in
      let valid = every_one (ValidObserver s) z s.observers c.valid.observers among in
      let e = body_entry s z.target w.target.0 w.target.1 in
      let typed = declarations_have_types F s c.keep c.valid z.target e.0 p.0 e.1 p.2 in (
        p.0,
        record {
          gives = p.2;
          refers = given_refers z.target p.0 w.target p.2;
          shown = ap shown_or q.1 ∙ p.1;
          told = w.told;
          apart = λ was is. same_in_both N was p.0
              (told_apart named value m k g stands unbroken c whole done was p.0 valid.ty e.0.ty (told_typed valid.ty z.watch valid.watch was is) typed);
        },
      )

  pub shown : AllShow F s k g stands.matches.watches.made
  shown = all_show F s k g stands.matches.watches.made (λ j z at_j. shows_one (record { 0 = j }) z at_j)

  abbrev made : List (Option Observer)
  made = made_then F s k g stands.matches.watches.made shown

  -- ---- the state that it leaves

  abbrev then : State
  then = become.then F before s N built_at_end frozen_at_end built (there_in made) (s.accepted + 1)

  abbrev new : Kept
  new = record k { accepted = k.accepted + 1; graph = g }

  abbrev told : List Notice
  told = notices_then F s k g stands.matches.watches.made shown

  settled_so : Settles F before s then told
  settled_so = record {
    observers = subst (λ (xs : List Observer). ShowAll F s xs then.observers told) (sym stands.matches.watches.in_order)
        (shows_then F s k g stands.matches.watches.made shown);
    entries = become.become_all F before s N built_at_end frozen_at_end built (there_in made) (s.accepted + 1);
    now = refl;
    accepted = refl;
  }

  valid_then : Valid F then
  valid_then = settles_valid F before s then told c.keep c.valid settled_so

  body_of : (n : ℕ) (b : Body) → body_at s n ≡ Some b
      → (body_at then n ≡ Some (body_then s now b (now n) (keeps n))) × IsThen F before s N built_at_end frozen_at_end n b (now n) (keeps n)
  body_of n b is = become.body_of_then F before s N built_at_end frozen_at_end built (there_in made) (s.accepted + 1) n b is

  none_of : (n : ℕ) → body_at s n ≡ None → body_at then n ≡ None
  none_of n is = (become.body_none F before s N built_at_end frozen_at_end built (there_in made) (s.accepted + 1) n is).0

  body_was : (n : ℕ) (b : Body) → body_at then n ≡ Some b → (d : Body) × (body_at s n ≡ Some d) × (b ≡ body_then s now d (now n) (keeps n))
  body_was n b is = become.body_was F before s N built_at_end frozen_at_end built (there_in made) (s.accepted + 1) n b is

  built_now : (n : ℕ) → built_at then n ≡ now n
  built_now n = become.built_then F before s N built_at_end frozen_at_end built (there_in made) (s.accepted + 1) n

  own_then : (n : ℕ) (b : Body) → IsOwn (Some b) → IsOwn (Some (body_then s now b (now n) (keeps n)))
  own_then n (Computed (Name t) kept) own = own
  own_then n (Computed f kept) own = tt
  own_then n b own = tt

  own_at : (n : ℕ) → IsOwn (body_at s n) → IsOwn (body_at then n)
  own_at n own = go (body_at s n) refl own
    where
      go : (b : Option Body) → body_at s n ≡ b → IsOwn b → IsOwn (body_at then n)
      go None is own = subst IsOwn (sym (none_of n is)) tt
      go (Some b) is own = subst IsOwn (sym (body_of n b is).0) (own_then n b own)

  declared_then : (t : ℕ) → IsDeclaredTarget s t → IsDeclaredTarget then t
  declared_then t (b, is, own) = (body_then s now b (now t) (keeps t), (body_of t b is).0, own_then t b own)

  abbrev watched : Watches then new
  watched = watches_then F s k g stands.matches.watches shown then (k.accepted + 1) refl (λ n b is. (body_then s now b (now n) (keeps n), (body_of n b is).0))
      declared_then done.observers

  in_use_still : in_use g.observers ≡ in_use k.graph.observers
  in_use_still = ap in_use done.observers ∙ told_in_use (shows_now g) k.graph.observers

  -- ---- binds and grabs

  bind_was : (n : ℕ) (f : Formula) (kept : script.Kept) → body_at then n ≡ Some (Computed f kept) → (old : script.Kept) × (body_at s n ≡ Some (Computed f old))
  bind_was n f kept is = let d = body_was n (Computed f kept) is in go d.0 d.1 d.2
    where
      go : (d : Body) → body_at s n ≡ Some d → Computed f kept ≡ body_then s now d (now n) (keeps n)
          → (old : script.Kept) × (body_at s n ≡ Some (Computed f old))
      go (Computed h old) was same = let one : h ≡ f = cc in (old, was ∙ ap (λ (z : Formula). Some (Computed z old)) one)
      go (Grab bind v is_live) was same = absurd (cc)
      go d was same = absurd (cc)

  grab_was : (n b : ℕ) (v : Value) → body_at then n ≡ Some (Grab b v true)
      → (body_at s n ≡ Some (Grab b v true)) × (same_kept (built_at s b) (now b) ≡ true)
  grab_was n b v is = let d = body_was n (Grab b v true) is in go d.0 d.1 d.2
    where
      go : (d : Body) → body_at s n ≡ Some d → Grab b v true ≡ body_then s now d (now n) (keeps n)
          → (body_at s n ≡ Some (Grab b v true)) × (same_kept (built_at s b) (now b) ≡ true)
      go (Grab b' v' is_live) was same =
          let binds : b' ≡ b = cc in
          let values : v' ≡ v = cc in
          let lives : is_live && same_kept (built_at s b') (now b') ≡ true = cc in
          let both = both_true is_live (same_kept (built_at s b') (now b')) lives in (
            was ∙ (ap (λ z. Some (Grab z v' is_live)) binds ∙ (ap (λ z. Some (Grab b z is_live)) values ∙ ap (λ z. Some (Grab b v z)) both.0)),
            subst (λ z. same_kept (built_at s z) (now z) ≡ true) binds both.1,
          )
      go (Computed h old) was same = absurd (cc)
      go d was same = absurd (cc)

  alike : (n : ℕ) (left body : Formula) (kept : script.Kept) → body_at s n ≡ Some (Computed (Bind left body) kept)
      → built_at_end n ≡ option_map (graph_outcome N) (now n)
  alike n left body kept is = (body_of n (Computed (Bind left body) kept) is).1.0.1

  -- what a bind with a live grab was built for, in the script
  grab_built : (n b : ℕ) (v : Value) → body_at s n ≡ Some (Grab b v true) → built_at s b ≡ Some (Val v)
  grab_built n b v is = ((body_typed F s c.valid n (Grab b v true) is).1).built refl

  -- where a bind with a live grab is built for its value there, so it is in the script
  built_for : (n b : ℕ) (v : Value) → body_at s n ≡ Some (Grab b v true) → built_at_end b ≡ Some (graph_outcome N (Val v)) → now b ≡ Some (Val v)
  built_for n b v is out =
      let bind = valid_grabs F s c.valid n b v is in
      by_bind bind.0 bind.1 bind.2 bind.3
    where
      by_bind : (left body : Formula) (kept : script.Kept) → body_at s b ≡ Some (Computed (Bind left body) kept) → now b ≡ Some (Val v)
      by_bind left body kept at_b =
          by_built (now b) (body_of b (Computed (Bind left body) kept) at_b).1.0.0 (sym out ∙ alike b left body kept at_b)
        where
          was : kept.built ≡ Some (Val v)
          was = ap (λ (o : Option Body). and_then o built_of_body) (sym at_b) ∙ grab_built n b v is

          typed : (t : Ty) × OutcomeHasType s (Val v) t
          typed = kept_typed named value m k g stands unbroken c whole done b left body kept at_b (Val v) was

          by_built : (x : Option Outcome) → BuildsFor F before s b kept.built x → Some (graph_outcome N (Val v)) ≡ option_map (graph_outcome N) x
              → x ≡ Some (Val v)
          by_built None h same = absurd (cc)
          by_built (Some p) h same = elim h.either [
            | inl kept_so ↦ kept_so ∙ was
            | inr gives ↦
                let is_p : p ≡ gives.0 = (let e : Some p ≡ Some gives.0 = gives.3 in cc) in
                let one : graph_outcome N p ≡ graph_outcome N (Val v) = cc in
                let has = given_typed named value m k g stands unbroken c whole done b left body kept at_b gives.0 gives.2 in
                ap (λ z. Some z) (told_apart named value m k g stands unbroken c whole done p (Val v)
                (left_typed named value m k g stands unbroken c whole done b left body kept at_b).0 typed.0
                (subst (λ z. OutcomeHasType s z (left_typed named value m k g stands unbroken c whole done b left body kept at_b).0) (sym is_p) has)
                typed.1 one)
          ]

  -- ---- the graph holds the declarations

  abbrev z : Both
  z = beside F then new

  grab_then : (n b : ℕ) (v : Value) → body_at s n ≡ Some (Grab b v true) → Declares y (N n) (Some (Grab b v true))
      → Declares z (N n) (Some (Grab b v (true && same_kept (built_at s b) (now b))))
  grab_then n b v is (inl live) =
      let out : built_at_end b ≡ Some (graph_outcome N (Val v)) = ap outcome_of live.1 ∙ ap (λ o. Some o) live.2 in
      let same = kept_itself v (built_at s b) (now b) (grab_built n b v is) (built_for n b v is out) in
      subst (λ (t : Bool). Declares z (N n) (Some (Grab b v t))) (sym same) (inl live)
  grab_then n b v is (inr lost) = go (same_kept (built_at s b) (now b)) refl
    where
      go : (t : Bool) → same_kept (built_at s b) (now b) ≡ t → Declares z (N n) (Some (Grab b v (true && t)))
      go false e = (lost.1, refl)
      go true e =
          let is_now : now b ≡ Some (Val v) = sym (same_kepts (built_at s b) (now b) e) ∙ grab_built n b v is in
          let bind = valid_grabs F s c.valid n b v is in
          let out : built_at_end b ≡ Some (graph_outcome N (Val v)) = alike b bind.0 bind.1 bind.2 bind.3 ∙ ap (option_map (graph_outcome N)) is_now in
          absurd (by_built (G'.built (N b)) refl out)
        where
          by_built : (w : Option BuiltFor) → G'.built (N b) ≡ w → outcome_of w ≡ Some (graph_outcome N (Val v)) → ⊥
          by_built None built out = cc
          by_built (Some w) built out = lost.5 w built (cc)

  declares_some : (n : ℕ) (b : Body) → body_at s n ≡ Some b → Declares y (N n) (Some b) → Declares z (N n) (Some (body_then s now b (now n) (keeps n)))
  declares_some n (Variable v) is h = h
  declares_some n (Computed f kept) is h =
      shows_on F M N s then y.graph G' y.died none_died (λ n r row outside. row) (term.Ref (N n)) f h
  declares_some n (Grab b v true) is h = grab_then n b v is h
  declares_some n (Grab b v false) is h = (h.0, refl)
  declares_some n (After time) is h = h
  declares_some n (Every base span) is h = h
  declares_some n (Freeze child predicate None) is (kid, top, shows, none) = (
    kid,
    top,
    shows_on F M N s then y.graph G' y.died none_died (λ n r row outside. row) (term.Ref kid) child shows,
    (body_of n (Freeze child predicate None) is).1.1.1,
  )
  declares_some n (Freeze child predicate (Some v)) is (kid, top, shows, kept) = (
    kid,
    top,
    shows_on F M N s then y.graph G' y.died none_died (λ n r row outside. row) (term.Ref kid) child shows,
    (body_of n (Freeze child predicate (Some v)) is).1.1.1,
  )
  declares_some n (Expert f first links stale) is h = h

  declares_then : (n : ℕ) (b : Option Body) → body_at s n ≡ b → Declares z (N n) (body_at then n)
  declares_then n None is =
      subst (Declares z (N n)) (sym (none_of n is)) (let h = rw is at (fits.declared n) in (h.0, refl))
  declares_then n (Some b) is = subst (Declares z (N n)) (sym (body_of n b is).0) (declares_some n b is (rw is at (fits.declared n)))

  abbrev IsFine : Option Value → Type 0
  IsFine o = IfSome o (EveryReference (IsDeclaredTarget then))

  -- what a freeze keeps refers to what is declared
  recorded_refers : (predicate : FnRef) (o : Outcome) → RefersTo (IsDeclaredTarget then) o
      → IfSome (recorded F predicate o) (EveryReference (IsDeclaredTarget then))
  recorded_refers predicate Invalid refers = tt
  recorded_refers predicate (Val v) refers = by_value (F.value predicate (v ∷ [])) refl
    where
      by_value : (x : Value) → F.value predicate (v ∷ []) ≡ x → IsFine (recorded F predicate (Val v))
      by_value (Truth true) is = subst IsFine (sym (recorded_of F predicate v (Truth true) is)) refers
      by_value (Truth false) is = subst IsFine (sym (recorded_of F predicate v (Truth false) is)) tt
      by_value (Int i) is = subst IsFine (sym (recorded_of F predicate v (Int i) is)) tt
      by_value (Text bytes) is = subst IsFine (sym (recorded_of F predicate v (Text bytes) is)) tt
      by_value (Reference t base) is = subst IsFine (sym (recorded_of F predicate v (Reference t base) is)) tt

  keeps_refers : (n : ℕ) (child : Formula) (predicate : FnRef) (frozen : Option Value) → body_at s n ≡ Some (Freeze child predicate frozen)
      → IfSome frozen (EveryReference (IsDeclaredTarget s)) → IfSome (keeps n) (EveryReference (IsDeclaredTarget then))
  keeps_refers n child predicate (Some v) is refers =
      subst (λ (x : Option Value). IfSome x (EveryReference (IsDeclaredTarget then))) (sym (body_of n (Freeze child predicate (Some v)) is).1.1.0)
      (reference_more (IsDeclaredTarget s) (IsDeclaredTarget then) declared_then v refers)
  keeps_refers n child predicate None is refers =
      let h = (body_of n (Freeze child predicate None) is).1.1.0 in
      let typed = body_typed F s c.valid n (Freeze child predicate None) is in
      let has = values_have_types F s c.keep c.valid n [] [] child typed.0 h.0 tt typed.1.0 h.1 in
      subst (λ (x : Option Value). IfSome x (EveryReference (IsDeclaredTarget then))) (sym h.2)
      (recorded_refers predicate h.0 (outcome_refers_more (IsDeclaredTarget s) (IsDeclaredTarget then) declared_then h.0
      (typed_outcome_refers s c.held.today.plain c.held.targets h.0 typed.0 has)))

  plain_of : (n : ℕ) (b : Body) → body_at s n ≡ Some b → IsPlainBody (IsEarlierTarget s n) (IsDeclaredTarget s) b
      → IsPlainBody (IsEarlierTarget then n) (IsDeclaredTarget then) (body_then s now b (now n) (keeps n))
  plain_of n (Variable v) is fine = (fine.0, reference_more (IsDeclaredTarget s) (IsDeclaredTarget then) declared_then v fine.1)
  plain_of n (Computed f kept) is fine = (
    fine.0,
    leaves_more_of (IsEarlierTarget s n) (IsEarlierTarget then n) (IsDeclaredTarget s) (IsDeclaredTarget then)
        (λ t early. (early.0, own_at t early.1)) declared_then (Computed f kept) fine.1,
  )
  plain_of n (Grab bind v is_live) is fine =
      ((fine.0.0, own_at bind fine.0.1), reference_more (IsDeclaredTarget s) (IsDeclaredTarget then) declared_then v fine.1)
  plain_of n (After time) is fine = fine
  plain_of n (Every base span) is fine = fine
  plain_of n (Freeze child predicate frozen) is fine = (
    fine.0,
    (
      leaves_more (IsEarlierTarget s n) (IsEarlierTarget then n) (IsDeclaredTarget s) (IsDeclaredTarget then)
          (λ t early. (early.0, own_at t early.1)) declared_then child fine.1.0,
      keeps_refers n child predicate frozen is fine.1.1,
    ),
  )
  plain_of n (Expert f first links stale) is fine = (
    fine.0,
    leaves_more_of (IsEarlierTarget s n) (IsEarlierTarget then n) (IsDeclaredTarget s) (IsDeclaredTarget then)
        (λ t early. (early.0, own_at t early.1)) declared_then (Expert f first links stale) fine.1,
  )

  plain_then : AllPlain then
  plain_then n b is =
      let d = body_was n b is in
      subst (IsPlainBody (IsEarlierTarget then n) (IsDeclaredTarget then)) (sym d.2) (plain_of n d.0 d.1 (c.held.today.plain n d.0 d.1))

  aged_of : (n : ℕ) (b : Body) → OwnNodesOf G' (IsWithin k.nodes n) (IsPartWithin k.nodes n) (N n) b
      → OwnNodesOf G' (IsWithin k.nodes n) (IsPartWithin k.nodes n) (N n) (body_then s now b (now n) (keeps n))
  aged_of n (Variable v) own = own
  aged_of n (Computed f kept) own = own
  aged_of n (Grab bind v is_live) own = own
  aged_of n (After time) own = own
  aged_of n (Every base span) own = own
  aged_of n (Freeze child predicate frozen) own = own
  aged_of n (Expert f first links stale) own = own

  aged_then : (n : ℕ) (b : Body) → body_at then n ≡ Some b → OwnNodesOf G' (IsWithin k.nodes n) (IsPartWithin k.nodes n) (N n) b
  aged_then n b is =
      let d = body_was n b is in
      subst (OwnNodesOf G' (IsWithin k.nodes n) (IsPartWithin k.nodes n) (N n)) (sym d.2)
      (aged_of n d.0 (own_nodes_then F M N s s (graph k.graph) G' none_died y.died (tops named value s k g c)
      (IsWithin k.nodes n) (IsPartWithin k.nodes n) (N n) d.0
      (subst (λ (b : Option Body). Declares (beside F s k) (N n) b) d.1 (c.held.declares n)) (c.held.today.aged n d.0 d.1)))

  -- the freezes are those that were declared
  freezes_so_then : FreezesAreDeclared G' then k.nodes
  freezes_so_then n r kid f row def =
      let d = freezes_then named value s k g c n r kid f row def in record {
        position = d.position;
        child = d.child;
        predicate = d.predicate;
        frozen = keeps d.position;
        is_body = (body_of d.position (Freeze d.child d.predicate d.frozen) d.is_body).0;
        node = d.node;
      }

  targets_then : (n : ℕ) (e : Entry) → entry_at then n ≡ Some e → e.target ≡ target_of_body n e.body
  targets_then n e is =
      let d = become.entry_was F before s N built_at_end frozen_at_end built (there_in made) (s.accepted + 1) n e is in
      let bodies : e.body ≡ body_then s now d.0.body (now n) (keeps n) = ap (λ (x : Entry). x.body) d.2 in
      ap (λ (x : Entry). x.target) d.2
      ∙ (c.held.targets n d.0 d.1 ∙ (sym (same_target s now n d.0.body (now n) (keeps n)) ∙ ap (target_of_body n) (sym bodies)))

  refers_then : (n : ℕ) (o : Outcome) → built_at then n ≡ Some o → RefersTo (IsDeclaredTarget then) o
  refers_then n o is = go (body_at then n) refl is
    where
      by_formula : (f : Formula) (kept : script.Kept) → body_at then n ≡ Some (Computed f kept) → kept.built ≡ Some o → RefersTo (IsDeclaredTarget then) o
      by_formula (Bind left body) kept at_n out =
          let h = (body_typed F then valid_then n (Computed (Bind left body) kept) at_n).1 in
          let fit = h.1 o out in
          typed_outcome_refers then plain_then targets_then o fit.0 fit.2
      by_formula f kept at_n out =
          let h = (body_typed F then valid_then n (Computed f kept) at_n).1 in absurd (let none = h.1 in cc)

      go : (b : Option Body) → body_at then n ≡ b → and_then b built_of_body ≡ Some o → RefersTo (IsDeclaredTarget then) o
      go None at_n out = absurd (cc)
      go (Some (Computed f kept)) at_n out = by_formula f kept at_n out
      go (Some b) at_n out = absurd (cc)

  pub represented : Represents F then new
  represented = record {
    room = ap (λ (n : ℕ). k.room + n) (become.places_then F before s N built_at_end frozen_at_end built (there_in made) (s.accepted + 1)) ∙ c.held.room;
    clock = c.stays.clock ∙ c.held.clock;
    one_node_each = c.held.one_node_each ∙ sym (become.length_then F before s N built_at_end frozen_at_end built (there_in made) (s.accepted + 1));
    declares = λ n. declares_then n (body_at s n) refl;
    targets = targets_then;
    apart = λ i j d e is_i is_j own_i own_j same.
        let p = become.entry_was F before s N built_at_end frozen_at_end built (there_in made) (s.accepted + 1) i d is_i in
        let q = become.entry_was F before s N built_at_end frozen_at_end built (there_in made) (s.accepted + 1) j e is_j in
        c.held.apart i j p.0 q.0 p.1 q.1 (sym (ap (λ (x : Entry). x.target) p.2) ∙ own_i) (sym (ap (λ (x : Entry). x.target) q.2) ∙ own_j) same;
    built = λ n left body is.
        let b = bind_body then n left body is in
        let d = bind_was n (Bind left body) b.0 b.1 in
        alike n left body d.0 d.1 ∙ ap (option_map (graph_outcome N)) (sym (built_now n));
    refers = refers_then;
    grabs = λ n b v left t kept is is_bind.
        let was = grab_was n b v is in
        let bind = bind_was b (Bind left (Name t)) kept is_bind in
        c.held.grabs n b v left t bind.0 was.0 bind.1;
    today = record { plain = plain_then; aged = aged_then; freezes = freezes_so_then };
  }

  fits_new : Fits z
  fits_new = represented_fits named value then new c.keep valid_then (rooted_then named value s k g c) represented

  -- ---- the pair that it leaves

  have_new : RootsHave z (in_use k.graph.observers)
  have_new = subst (λ (ns : List NodeId). RootsHave z ns) in_use_still (roots_have_in z new (λ t. refl) fits_new.declared watched)

  recall : (v : Visit) → IsVisit F then v → Needed F then v.item → IsRecalled z g.nodes g v
  recall v is need =
      visit_is_recalled M k.graph g c.sound'.scopes (rooted_then named value s k g c) done F then k.nodes fits_new
      (valid_grabs F then valid_then) have_new v is need

  recalled : (v : Visit) → IsVisit F then v → Needed F then v.item → WasRun (besides F then k.nodes k.bodies G') new v
  recalled v is need =
      let r = recall v is need in
      record {
        node = r.node;
        is_node = r.is_node;
        given = c.sound'.nodes.given r.node (ap is_some r.is_row);
        call = r.call;
        is_last = r.is_last;
        values_are = r.values_are;
      }

  rooted : AreRooted g (in_use g.observers)
  rooted = subst (λ (ns : List NodeId). AreRooted g ns) (sym in_use_still)
      (subst (λ (count : ℕ). seen.AreRooted (look g) count (in_use k.graph.observers)) (sym done.since) done.right.roots)

  module _ (dead : (n : NodeId) → row_at g.nodes n ≡ None → cutoff_of g n ≡ Equal) where
    -- each cutoff is Equal still
    still_equal : (n : NodeId) → cutoff_of g n ≡ Equal
    still_equal n = by_row (row_at g.nodes n) refl
      where
        by_row : (x : Option Row) → row_at g.nodes n ≡ x → cutoff_of g n ≡ Equal
        by_row None is = dead n is
        by_row (Some r) is = done.right.cutoff n r is ∙ (stands.matches.settled unbroken).today.equal n

    settled : Settled F then then new
    settled = record {
      nodes = k.nodes;
      bodies = k.bodies;
      left = G';
      one_node_each = represented.one_node_each;
      fits = fits_new;
      scopes = c.sound'.scopes;
      still = record {
        formulas = λ owner path f e. e;
        bodies = λ n b has is. is;
        targets = λ n e is. (e, is, refl);
        names = λ n e is. refl;
        rows = λ n r u is def. is;
        freezes = λ n r kid f is def. is;
        lives = λ n r is. (r, is);
        built = λ b r is. refl;
      };
      built = scopes_built M k.graph g c.before c.after (given named value s k g c) c.sound.scopes c.built c.stays c.left done.builds c.sound'.scopes;
      grabs = λ n b v is. is;
      links = λ p q held link. (done.right.links p q (held_needed g rooted p held)).0 link;
      stamps = λ n. omega arith;
      marks = λ v n is need at stale same.
          let r = recall v is need in
          let node : r.node ≡ n = (let e : Some r.node ≡ Some n = sym r.is_node ∙ at in cc) in
          let fresh : is_marked g n ≡ false = ap (λ (q : NodeId). is_marked g q) (sym node) ∙ r.fresh in
          let clash : false ≡ true = sym fresh ∙ stale in cc;
      freezes = λ f n root.
          let is = root_is_unfrozen g f n root in
          let loose = is.0 in
          let d = freezes_so_then f loose.row loose.kid loose.predicate loose.is_row loose.is_freeze in
          let shows : Declares z (N d.position) (Some (Freeze d.child d.predicate d.frozen)) =
          subst (λ (b : Option Body). Declares z (N d.position) b) d.is_body (represented.declares d.position) in
          let none : option_map (graph_value N) d.frozen ≡ None = sym shows.3 ∙ (ap G'.frozen d.node ∙ loose.keeps_none) in
          record {
            position = d.position;
            child = d.child;
            predicate = d.predicate;
            was = d.is_body ∙ ap (λ (v : Option Value). Some (Freeze d.child d.predicate v)) (none_kept (graph_value N) d.frozen none);
            node = d.node ∙ is.2;
          };
      past = let same = done.since in omega (arith, same);
      ran = recalled;
      watched = λ x among is. observer_root then x among;
      today = record { plain = plain_then; targets = targets_then; equal = still_equal };
    }

    -- ---- the moment after it

    abbrev after : Moment
    after = record { settled = then; present = then; broken = None }

    names : AreNames new.names then
    names = record {
      declared = stands.matches.names.declared ∙ sym (become.declared_then F before s N built_at_end frozen_at_end built (there_in made) (s.accepted + 1));
      now = stands.matches.names.now;
      in_use = λ name. stands.matches.names.in_use name ∙ ap (λ (ns : List (List ℕ)). is_among ns name)
          (ap (map (λ (o : Observer). o.name)) stands.matches.watches.in_order ∙ sym (names_then F s k g stands.matches.watches.made shown));
    }

    abbrev matches_then : MatchesMoment F new after
    matches_then = record {
      names = names;
      accepted = ap (λ (n : ℕ). n + 1) stands.matches.accepted;
      broken = sym unbroken ∙ stands.matches.broken;
      represents = λ whole. represented;
      watches = watched;
      settled = λ whole. settled;
    }

    -- what is kept matches the moment after it
    pub accepted_stands : (called calls : ℕ) → RoseBy called (costs_of (left_by k.graph g) g.ran) calls → IsAccepted F m new called calls
    accepted_stands called calls rose = record {
      after = after;
      notices = told;
      stabilizes = settles told (free named value m k g stands unbroken c whole done) settled_so refl refl refl;
      work = costs_of (left_by k.graph g) g.ran;
      due = due named value m k g stands unbroken c whole done;
      within = rose.most;
      matches = matches_then;
      told = subst (λ (ns : List GraphNotice). AllZip (IsNotice then k.nodes made) ns told) (sym done.notices)
          (told_then F s k g stands.matches.watches shown then (k.accepted + 1) refl
          (λ n b is. (body_then s now b (now n) (keeps n), (body_of n b is).0)) declared_then done.observers);
    }

-- ---- over a graph with its functions

-- a stabilize of a session's graph that was accepted is one of its script
pub session_accepted : {A : Type 0} (named : List ℕ → Option FnRef) (value : FnRef → List GraphValue → GraphValue) (k : Kept) (old new : GraphView A)
    (c : IsSessions value k old new) → GraphStabilizes (functions_over value k.bodies) old new
    → ((n : NodeId) → row_at new.nodes n ≡ None → cutoff_of new n ≡ Equal) → (called calls : ℕ) → RoseBy called (costs_of (left_by old new) new.ran) calls
    → (m : Moment) → Stands (meanings_of named value) k m
    → IsAccepted (meanings_of named value) m (record k { accepted = k.accepted + 1; graph = without_functions new }) called calls
session_accepted named value k old new c done dead called calls rose m stands =
    accepted_stands named value m k (without_functions new) stands (moment_unbroken named value k old new c m stands)
    (stabilize_of named value k old new c m stands) (kept_whole named value k old new c m stands done.was)
    (kept_so named value k old new c m stands
    (λ (h : GraphView (Unit {0})). GraphStabilizes (graph_functions (meanings_of named value) k.bodies) h (without_functions new))
    (stabilizes_without (graph_functions (meanings_of named value) k.bodies) old new
    (functions_so named value k old new c m stands (λ (M : Functions). GraphStabilizes M old new) done))) dead called calls
    (kept_so named value k old new c m stands (λ (h : GraphView (Unit {0})). RoseBy called (costs_of (left_by h (without_functions new)) new.ran) calls) rose)
