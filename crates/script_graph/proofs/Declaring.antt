-- What is kept of a script after a declaration.
use Rattle.std.proofs.Common.{◌≡◌, ◌⊎◌, inl, inr, ℕ, zero, suc, ◌+◌, ◌<◌, ◌≤◌, Bool, true, List, [], ◌∷◌, ◌++◌, map, length, Option, None, Some, option_map, refl, ap, sym, subst, ◌∙◌, arith, slice_get}
use Rattle.std.proofs.lemmas.Option.{slice_get_within, slice_get-map}
use Rattle.std.proofs.lemmas.List.{length-append, map-append, get_or_append_left, get_or_at}
use Rattle.std.proofs.lemmas.List.Sums.{sum_by_push}
use Rattle.formula_lang.specs.Fits.{BodyFits, DeclarationFits, NameFits, ReferenceFits}
use Rattle.script_model.proofs.Leaves.{leaves_more_of}
use Rattle.script_model.specs.Leaves.{EveryReference}
use Rattle.script_graph.proofs.Laying.{body_plain}
use Rattle.inc_value.specs.Choice.{and_then}
use Rattle.inc_value.specs.declared.function.FnKind.{FnKind}
use Rattle.inc_value.specs.declared.function.FnRef.{FnRef}
use Rattle.inc_value.specs.declared.node.NodeId.{NodeId}
use Rattle.inc_value.specs.declared.ty.Ty.{Ty}
use Rattle.inc_value.specs.declared.value.Value.{Value as GraphValue}
use Rattle.graph.specs.Standing.{GraphView, graph}
use Rattle.link_table.proofs.Lists.{get_append_last, get_append_other}
use Rattle.inc_terms.specs.Graph as graph_def
use Rattle.inc_terms.specs.Graph.{Graph, Row}
use Rattle.inc_terms.specs.Rebuilding.{outcome_of}
use Rattle.inc_terms.specs.Within.{Given}
use Rattle.node_arena.specs.Arena.{row_at}
use Rattle.node_arena.specs.Sound as arena
use Rattle.script_model.specs.Check.{Declare, Declared, Names, declared_of, kind_of_body, names_of, target_of_body}
use Rattle.script_functions.specs.Bodies as Bodies
use Rattle.script_model.specs.Formula.{State, Body, Entry, Kept as KeptOf, Formula, Meanings, meanings_of, bind_of, body_at, built_at, built_of_body, entry_at, formula_of_body, places_of_body, Name, Bind, Variable, Computed, Freeze, After, Every, Expert, Grab}
use Rattle.script_model.specs.Need.{part_of, stamp_of_body}
use Rattle.script_model.specs.Step.{Moment, declared_in, moved}
use Rattle.script_model.specs.Values.{Value, Int, Bool as Truth, Text, Reference}
use Rattle.script_graph.specs.Growing.{Extends}
use Rattle.script_graph.specs.Kept.{Kept, arena_of, node_in, no_node}
use Rattle.script_graph.specs.Represents.{AreNames, beside, BuiltAlike, BuiltRefers, Represents}
use Rattle.script_graph.specs.Settled.{StampsGrow}
use Rattle.script_graph.specs.Today.{FreezesAreDeclared, RefersTo, IsPlainBody, IsEarlierTarget, IsDeclaredTarget, AllPlain, IsWithin, IsPartWithin, OwnNodesOf}
use Rattle.script_graph.specs.State.{MatchesMoment}
use Rattle.script_graph.proofs.Carrying.{watches_on, leaves_beside, settled_on}
use Rattle.script_graph.proofs.Extending.{BodiesServe, KeepsGraph, NodesGiven, body_past, body_there, body_within, built_still, declares_still, entry_body, extends_beside, extends_built, extends_keeps, extends_lists, extends_lives, extends_scopes, live_stays, never_given, node_past, still_counts}
use Rattle.script_graph.proofs.Owning.{HasOwnNode, own_body, own_node, own_nodes_of_on}
use Rattle.script_graph.proofs.Referring.{outcome_refers_more, value_refers_more}
use Rattle.transfer.specs.Both.{graph_outcome}
use Rattle.transfer.specs.Items.{FormulasStay, GrabsStay}
use Rattle.transfer.specs.Keeping.{GrabsForms, NodesApart}
use Rattle.transfer.specs.Shows.{Declares, IsOwn}
use Rattle.transfer.proofs.Places.{then_some}
use Rattle.transfer.proofs.Typed.{bind_body, body_entry}

-- ---- plain formulas

-- what is plain stays so where more has the properties
pub plain_body_more : (P Q R S : ℕ → Type 0) → ((n : ℕ) → P n → Q n) → ((n : ℕ) → R n → S n) → (b : Body) → IsPlainBody P R b → IsPlainBody Q S b
plain_body_more P Q R S more refers (Grab bind v is_live) fine = (more bind fine.0, value_refers_more R S refers v fine.1)
plain_body_more P Q R S more refers b fine = (fine.0, leaves_more_of P Q R S more refers b fine.1)

-- ---- names stand for declarations that are no other names

own_itself : (s : State) (n : ℕ) (e : Entry) → entry_at s n ≡ Some e → (b : Body) → e.body ≡ b → e.target ≡ n → IsOwn (Some b) → IsOwn (body_at s e.target)
own_itself s n e is b body target own =
    let here : body_at s n ≡ Some b = ap (λ (o : Option Entry). and_then o (λ (d : Entry). Some d.body)) is ∙ ap (λ b. Some b) body in
    subst (λ (j : ℕ). IsOwn (body_at s j)) (sym target) (subst IsOwn (sym here) own)

own_or_name : (s : State) (n : ℕ) (e : Entry) → entry_at s n ≡ Some e → AllPlain s → (b : Body) → e.body ≡ b → e.target ≡ target_of_body n b
    → IsOwn (body_at s e.target)
own_or_name s n e is plain (Computed (Name t) kept) body target =
    let here : body_at s n ≡ Some (Computed (Name t) kept) = ap (λ (o : Option Entry). and_then o (λ (d : Entry). Some d.body)) is ∙ ap (λ b. Some b) body in
    subst (λ (j : ℕ). IsOwn (body_at s j)) (sym target) (plain n (Computed (Name t) kept) here).1.1
own_or_name s n e is plain (Computed f kept) body target = own_itself s n e is (Computed f kept) body target tt
own_or_name s n e is plain b body target = own_itself s n e is b body target tt

-- an entry of a declared name
pub named_entry : (names : Names) (s : State) → names.declared ≡ (names_of s).declared → (place : ℕ) (d : Declared) → slice_get names.declared place ≡ Some d
    → (e : Entry) × (entry_at s place ≡ Some e) × (declared_of e ≡ d)
named_entry names s same place d is =
    go (slice_get s.entries place) refl (sym (slice_get-map declared_of s.entries place) ∙ (sym (ap (λ (ds : List Declared). slice_get ds place) same) ∙ is))
  where
    go : (o : Option Entry) → slice_get s.entries place ≡ o → option_map declared_of (slice_get s.entries place) ≡ Some d
        → (e : Entry) × (entry_at s place ≡ Some e) × (declared_of e ≡ d)
    go None at e = absurd (let none = rw at at e in cc)
    go (Some x) at e = let some = rw at at e in (x, at, (cc))

-- what a name that fits stands for is an earlier declaration that is no other name
pub fitting_target : (names : Names) (s : State) → names.declared ≡ (names_of s).declared → AllPlain s
    → ((n : ℕ) (e : Entry) → entry_at s n ≡ Some e → e.target ≡ target_of_body n e.body)
    → (position : ℕ) (ty : Ty) → NameFits names position ty → IsOwn (body_at s position)
fitting_target names s same plain targets position ty fits =
    let e = named_entry names s same fits.place fits.declared fits.stands in
    let own = own_or_name s fits.place e.0 e.1 plain e.0.body refl (targets fits.place e.0 e.1) in
    let target : e.0.target ≡ position = ap (λ (d : Declared). d.target) e.2 ∙ fits.target in
    subst (λ (j : ℕ). IsOwn (body_at s j)) target own

entry_there : (es : List Entry) (n : ℕ) → n < length es → (e : Entry) × (slice_get es n ≡ Some e)
entry_there [] n low = absurd (omega (arith, low))
entry_there (e ∷ es) zero low = (e, refl)
entry_there (e ∷ es) (suc n) low = entry_there es n (omega (arith, low))

module _ (names : Names) (s : State) (same : names.declared ≡ (names_of s).declared) (plain : AllPlain s)
    (targets : (n : ℕ) (e : Entry) → entry_at s n ≡ Some e → e.target ≡ target_of_body n e.body) where
  -- it is declared
  pub fitting_declared : (position : ℕ) (ty : Ty) → NameFits names position ty → IsDeclaredTarget s position
  fitting_declared position ty fits =
      let low = fits.earlier in
      let size = ap length same ∙ mapped s.entries in
      let e = entry_there s.entries position (omega (arith, low, size)) in
      let is : body_at s position ≡ Some e.0.body = ap (λ (o : Option Entry). and_then o (λ (d : Entry). Some d.body)) e.1 in
      (e.0.body, is, subst IsOwn is (fitting_target names s same plain targets position ty fits))
    where
      mapped : (es : List Entry) → length (map declared_of es) ≡ length es
      mapped [] = refl
      mapped (e ∷ es) = ap (λ n. suc n) (mapped es)

  -- a value that fits refers to what is declared
  pub fitting_refers : (v : Value) → ReferenceFits names v → EveryReference (IsDeclaredTarget s) v
  fitting_refers (Int z) fits = tt
  fitting_refers (Truth b) fits = tt
  fitting_refers (Text bytes) fits = tt
  fitting_refers (Reference target base) fits = fitting_declared target _ fits

-- ---- the state

module _ (s : State) (name : List ℕ) (ty : Ty) (body : Body) where
  abbrev then : State
  then = declared_in s name ty body

  abbrev entry : Entry
  entry = record { name = name; ty = ty; target = target_of_body (length s.entries) body; body = body }

  entry_old : (n : ℕ) → n < length s.entries → entry_at then n ≡ entry_at s n
  entry_old n low = get_append_other s.entries entry n (λ same. omega (arith, same, low))

  pub body_old : (n : ℕ) → n < length s.entries → body_at then n ≡ body_at s n
  body_old n low = ap (λ (o : Option Entry). and_then o (λ (e : Entry). Some e.body)) (entry_old n low)

  pub body_new : body_at then (length s.entries) ≡ Some body
  body_new = ap (λ (o : Option Entry). and_then o (λ (e : Entry). Some e.body)) (get_append_last s.entries entry)

  below : (n count : ℕ) → n < count + 1 → (n < count) ⊎ (n ≡ count)
  below n count less = grind (arith, less)

  place_of : (n : ℕ) → n < length then.entries → (n < length s.entries) ⊎ (n ≡ length s.entries)
  place_of n low = let size = length-append s.entries (entry ∷ []) in below n (length s.entries) (omega (arith, low, size))

  entry_of : (n : ℕ) (e : Entry) → entry_at then n ≡ Some e → ((n < length s.entries) × (entry_at s n ≡ Some e)) ⊎ ((n ≡ length s.entries) × (e ≡ entry))
  entry_of n e is = elim (place_of n (slice_get_within then.entries n e is)) [
    | inl low ↦ inl (low, sym (entry_old n low) ∙ is)
    | inr same ↦ inr (same, let there : Some entry ≡ Some e = sym (get_append_last s.entries entry) ∙ (ap (λ (j : ℕ). entry_at then j) (sym same) ∙ is) in cc)
  ]

  pub body_of : (n : ℕ) (b : Body) → body_at then n ≡ Some b → ((n < length s.entries) × (body_at s n ≡ Some b)) ⊎ ((n ≡ length s.entries) × (b ≡ body))
  body_of n b is =
      let e = body_entry then n b is in
      elim (entry_of n e.0 e.1) [
        | inl h ↦ inl (h.0, ap (λ (o : Option Entry). and_then o (λ (d : Entry). Some d.body)) h.1 ∙ ap (λ c. Some c) e.2)
        | inr h ↦ inr (h.0, sym e.2 ∙ ap (λ (d : Entry). d.body) h.1)
      ]

  -- formulas stay
  pub declared_formulas : FormulasStay s then
  declared_formulas owner path f is =
      let b = then_some (body_at s owner) (λ b. and_then (formula_of_body b) (λ g. part_of g path)) f is in
      let e = body_entry s owner b.0 b.1 in
      ap (λ (o : Option Body). and_then o (λ c. and_then (formula_of_body c) (λ g. part_of g path))) (body_old owner (slice_get_within s.entries owner e.0 e.1)) ∙ is

-- ---- what is declared

-- what fits is no grab: it has a node of its own, if it is no other name
pub own_declared : (known : FnRef → Bool) (names : Names) (body : Body) (ty : Ty) → BodyFits known names body ty → IsOwn (Some body) → HasOwnNode body
own_declared known names (Variable v) ty fits own = tt
own_declared known names (Computed (Name t) kept) ty fits own = absurd own
own_declared known names (Computed f kept) ty fits own = tt
own_declared known names (After time) ty fits own = tt
own_declared known names (Every base span) ty fits own = tt
own_declared known names (Freeze child predicate frozen) ty fits own = tt
own_declared known names (Expert f first links stale) ty fits own = tt
own_declared known names (Grab bind v is_live) ty fits own = absurd fits

-- nothing is kept of it
unbuilt_yet : (known : FnRef → Bool) (names : Names) (body : Body) (ty : Ty) → BodyFits known names body ty → built_of_body body ≡ None
unbuilt_yet known names (Variable v) ty fits = refl
unbuilt_yet known names (Computed f kept) ty fits = ap (λ (r : KeptOf). r.built) fits.1
unbuilt_yet known names (After time) ty fits = refl
unbuilt_yet known names (Every base span) ty fits = refl
unbuilt_yet known names (Freeze child predicate frozen) ty fits = refl
unbuilt_yet known names (Expert f first links stale) ty fits = refl
unbuilt_yet known names (Grab bind v is_live) ty fits = absurd fits

pub no_live_grab : (known : FnRef → Bool) (names : Names) (body : Body) (ty : Ty) → BodyFits known names body ty → (b : ℕ) (v : Value)
    → body ≡ Grab b v true → ⊥
no_live_grab known names (Variable v) ty fits b w e = cc
no_live_grab known names (Computed f kept) ty fits b w e = cc
no_live_grab known names (After time) ty fits b w e = cc
no_live_grab known names (Every base span) ty fits b w e = cc
no_live_grab known names (Freeze child predicate frozen) ty fits b w e = cc
no_live_grab known names (Expert f first links stale) ty fits b w e = cc
no_live_grab known names (Grab bind v is_live) ty fits b w e = fits

-- ---- what is kept

-- what is kept with one declaration more
abbrev pub with_declared : Kept → List ℕ → Ty → Body → NodeId → ℕ → List Bodies.Body → GraphView (Unit {0}) → Kept
with_declared k name ty body root room bodies g = record k {
  names = record k.names {
    declared = k.names.declared
        ++ record { name = name; ty = ty; kind = kind_of_body body; target = target_of_body (length k.names.declared) body } ∷ [];
  };
  nodes = k.nodes ++ root ∷ [];
  room = room;
  bodies = bodies;
  graph = g;
}

-- the node was given since the count, and no later than the root
abbrev pub IsSince : ℕ → NodeId → NodeId → Type 0
IsSince count root n = (count ≤ n.gen_) × (n.gen_ ≤ root.gen_)

-- or before the root
abbrev pub IsPartSince : ℕ → NodeId → NodeId → Type 0
IsPartSince count root n = (count ≤ n.gen_) × (n.gen_ < root.gen_)

-- each live freeze was there, or what is declared is one, and this is its node
abbrev pub FreezesAre : Graph → Graph → NodeId → Body → Type 0
FreezesAre G G' root body =
    (n : NodeId) (r : Row) (kid : NodeId) (f : FnRef) → G'.row n ≡ Some r → r.def ≡ graph_def.Freeze kid f
    → (G.row n ≡ Some r) ⊎ ((root ≡ n) × (child : Formula) × (predicate : FnRef) × (frozen : Option Value) × (body ≡ Freeze child predicate frozen))

-- what is declared anew fits behind what is there: it is plain; its node is that of no other name, if it is its own target; it isn't built; if it is a live
-- grab its bind's body is no name; its nodes were given since; and no other freeze was made
pub record IsNew (s : State) (name : List ℕ) (ty : Ty) (body : Body) (nodes : List NodeId) (count : ℕ) (root : NodeId) (before G : Graph) : Type 0 where
  pub plain : IsPlainBody (IsEarlierTarget (declared_in s name ty body) (length s.entries)) (IsDeclaredTarget (declared_in s name ty body)) body
  pub apart : IsOwn (Some body) → (i : ℕ) (e : Entry) → entry_at s i ≡ Some e → e.target ≡ i → node_in nodes i ≡ root → ⊥
  pub unkept : built_of_body body ≡ None
  pub unbuilt : (left below : Formula) (kept : KeptOf) → body ≡ Computed (Bind left below) kept → G.built root ≡ None
  pub grab : (b : ℕ) (v : Value) (left : Formula) (t : ℕ) (kept : KeptOf) → body ≡ Grab b v true → body_at s b ≡ Some (Computed (Bind left (Name t)) kept) → ⊥
  pub owned : OwnNodesOf G (IsSince count root) (IsPartSince count root) root body
  pub freezes : FreezesAre before G root body

module _ (F : Meanings) (k : Kept) (g : GraphView (Unit {0})) (bodies : List Bodies.Body) (Q : FnKind → FnRef → Type 0) (serve : BodiesServe F k bodies Q)
    (sound : arena.IsSoundArena (arena_of k)) (sound' : arena.IsSoundArena g.nodes) (more : Extends k.graph g) (m : Moment) (given : NodesGiven m.present k)
    (name : List ℕ) (ty : Ty) (body : Body) (root : NodeId) (room : ℕ) (room_is : room + places_of_body body ≡ k.room)
    (is_new : AreNames k.names m.present → Represents F m.present k
    → IsNew m.present name ty body k.nodes (arena_of k).given root (graph k.graph) (graph g)) where
  abbrev s : State
  s = m.present

  abbrev s' : State
  s' = declared_in s name ty body

  abbrev new : Kept
  new = with_declared k name ty body root room bodies g

  abbrev Of : NodeId → Type 0
  Of n = Given (arena_of k).given n

  keeps : KeepsGraph Of k g
  keeps = extends_keeps k g sound more

  names_on : AreNames k.names s → AreNames new.names s'
  names_on h = record {
    declared = ap (λ (t : ℕ). k.names.declared ++ record { name = name; ty = ty; kind = kind_of_body body; target = target_of_body t body } ∷ []) size
        ∙ (ap (λ (ds : List Declared). ds ++ declared_of (entry s name ty body) ∷ []) h.declared
        ∙ sym (map-append declared_of s.entries (entry s name ty body ∷ [])));
    now = h.now;
    in_use = h.in_use;
  }
    where
      mapped : (es : List Entry) → length (map declared_of es) ≡ length es
      mapped [] = refl
      mapped (e ∷ es) = ap (λ n. suc n) (mapped es)

      size : length k.names.declared ≡ length s.entries
      size = ap (λ (ds : List Declared). length ds) h.declared ∙ mapped s.entries

  module _ (names : AreNames k.names s) (held : Represents F s k)
      (shows : Declares (beside F s' new) root (Some body)) where
    new_is : IsNew s name ty body k.nodes (arena_of k).given root (graph k.graph) (graph g)
    new_is = is_new names held

    node_old : (n : ℕ) → n < length s.entries → node_in new.nodes n ≡ node_in k.nodes n
    node_old n low = get_or_append_left k.nodes (root ∷ []) no_node n (omega (arith, low, held.one_node_each))

    new_unbuilt : built_at s' (length s.entries) ≡ None
    new_unbuilt = ap (λ (o : Option Body). and_then o built_of_body) (body_new s name ty body) ∙ new_is.unkept

    node_new : node_in new.nodes (length s.entries) ≡ root
    node_new = get_or_at k.nodes root [] no_node (length s.entries) held.one_node_each

    own_old : (n t : ℕ) → n < length s.entries → IsEarlierTarget s n t → IsEarlierTarget s' n t
    own_old n t low early = (early.0, subst IsOwn (sym (body_old s name ty body t (omega (arith, early.0, low)))) early.1)

    target_on : (t : ℕ) → IsDeclaredTarget s t → IsDeclaredTarget s' t
    target_on t d = (d.0, body_old s name ty body t (body_within s t d.0 d.1) ∙ d.1, d.2)

    plain_each : AllPlain s'
    plain_each n b at = elim (body_of s name ty body n b at) [
      | inl h ↦ plain_body_more (IsEarlierTarget s n) (IsEarlierTarget s' n) (IsDeclaredTarget s) (IsDeclaredTarget s') (λ t early. own_old n t h.0 early)
          target_on b (held.today.plain n b h.1)
      | inr h ↦ subst (λ (j : ℕ). IsPlainBody (IsEarlierTarget s' j) (IsDeclaredTarget s') b) (sym h.0)
          (subst (λ (c : Body). IsPlainBody (IsEarlierTarget s' (length s.entries)) (IsDeclaredTarget s') c) (sym h.1)
          new_is.plain)
    ]

    declares_each : (n : ℕ) (b : Option Body) → body_at s' n ≡ b → Declares (beside F s' new) (node_in new.nodes n) b
    declares_each n None is = (ap (row_at g.nodes) past ∙ never_given g.nodes sound', refl)
      where
        past : node_in new.nodes n ≡ no_node
        past =
            let size = length-append k.nodes (root ∷ []) in
            let states = length-append s.entries (entry s name ty body ∷ []) in
            node_past new.nodes n (omega (arith, body_past s' n is, held.one_node_each, size, states))
    declares_each n (Some b) is = elim (body_of s name ty body n b is) [
      | inl h ↦ declares_still Of F s k held given s' new.nodes bodies Q serve g keeps node_old n b h.1
          (λ e r row. live_stays k.graph g sound more (node_in k.nodes n) r row) (λ base span e alike. still_counts k g s base span more.time alike)
          (extends_lists k g sound more s given n b h.1)
      | inr h ↦ subst (λ (c : Body). Declares (beside F s' new) (node_in new.nodes n) (Some c)) (sym h.1)
          (subst (λ (q : NodeId). Declares (beside F s' new) q (Some body)) (sym (ap (node_in new.nodes) h.0 ∙ node_new)) shows)
    ]

    within_old : (n : ℕ) → n < length s.entries → (q : NodeId) → IsWithin k.nodes n q → IsWithin new.nodes n q
    within_old n low q h = record {
      not_later = subst (λ (r : NodeId). q.gen_ ≤ r.gen_) (sym (node_old n low)) h.not_later;
      later = λ j less. subst (λ (r : NodeId). r.gen_ < q.gen_) (sym (node_old j (omega (arith, less, low)))) (h.later j less);
    }

    within_new : (q : NodeId) → IsSince (arena_of k).given root q → IsWithin new.nodes (length s.entries) q
    within_new q h = record {
      not_later = subst (λ (r : NodeId). q.gen_ ≤ r.gen_) (sym node_new) h.1;
      later = λ j less. subst (λ (r : NodeId). r.gen_ < q.gen_) (sym (node_old j less))
          (let b = body_there s j less in let low = given j b.0 b.1 in omega (arith, low, h.0));
    }

    part_old : (n : ℕ) → n < length s.entries → (q : NodeId) → IsPartWithin k.nodes n q → IsPartWithin new.nodes n q
    part_old n low q h = record {
      within = within_old n low q h.within;
      earlier = subst (λ (r : NodeId). q.gen_ < r.gen_) (sym (node_old n low)) h.earlier;
    }

    part_new : (q : NodeId) → IsPartSince (arena_of k).given root q → IsPartWithin new.nodes (length s.entries) q
    part_new q h = record {
      within = within_new q (h.0, let low = h.1 in omega (arith, low));
      earlier = subst (λ (r : NodeId). q.gen_ < r.gen_) (sym node_new) h.1;
    }

    -- what is so of the nodes of a declaration
    abbrev AgedAt : ℕ → NodeId → Body → Type 0
    AgedAt n q b = OwnNodesOf (graph g) (IsWithin new.nodes n) (IsPartWithin new.nodes n) q b

    aged_each : (n : ℕ) (b : Body) → body_at s' n ≡ Some b → AgedAt n (node_in new.nodes n) b
    aged_each n b at = elim (body_of s name ty body n b at) [
      | inl h ↦ subst (λ (q : NodeId). AgedAt n q b) (sym (node_old n h.0))
          (own_nodes_of_on (graph k.graph) (graph g) (IsWithin k.nodes n) (IsWithin new.nodes n) (IsPartWithin k.nodes n)
          (IsPartWithin new.nodes n) (within_old n h.0) (part_old n h.0) keeps.rows
          (λ q r kid f row def. live_stays k.graph g sound more q r row) (node_in k.nodes n) b (held.today.aged n b h.1))
      | inr h ↦ subst (λ (j : ℕ). AgedAt j (node_in new.nodes j) b) (sym h.0)
          (subst (λ (q : NodeId). AgedAt (length s.entries) q b) (sym node_new)
          (subst (λ (c : Body). AgedAt (length s.entries) root c) (sym h.1)
          (own_nodes_of_on (graph g) (graph g) (IsSince (arena_of k).given root) (IsWithin new.nodes (length s.entries)) (IsPartSince (arena_of k).given root)
          (IsPartWithin new.nodes (length s.entries)) within_new part_new (λ q r u row def. row) (λ q r kid f row def. row) root body new_is.owned)))
    ]

    freezes_each : FreezesAreDeclared (graph g) s' new.nodes
    freezes_each n r kid f row def = elim (new_is.freezes n r kid f row def) [
      | inl was ↦
          let d = held.today.freezes n r kid f was def in
          let low = body_within s d.position (Freeze d.child d.predicate d.frozen) d.is_body in record {
            position = d.position;
            child = d.child;
            predicate = d.predicate;
            frozen = d.frozen;
            is_body = body_old s name ty body d.position low ∙ d.is_body;
            node = node_old d.position low ∙ d.node;
          }
      | inr made ↦ record {
        position = length s.entries;
        child = made.1;
        predicate = made.2;
        frozen = made.3;
        is_body = body_new s name ty body ∙ ap (λ (b : Body). Some b) made.4;
        node = node_new ∙ made.0;
      }
    ]

    targets_each : (n : ℕ) (e : Entry) → entry_at s' n ≡ Some e → e.target ≡ target_of_body n e.body
    targets_each n e is = elim (entry_of s name ty body n e is) [
      | inl h ↦ held.targets n e h.1
      | inr h ↦ ap (λ (d : Entry). d.target) h.1 ∙ (ap (λ (j : ℕ). target_of_body j body) (sym h.0) ∙ ap (λ (d : Entry). target_of_body n d.body) (sym h.1))
    ]

    -- two declarations that are their own targets have two nodes: that of the new one was given later
    apart_each : NodesApart s' (node_in new.nodes)
    apart_each i j d e at_i at_j own_i own_j same = by_place (entry_of s name ty body i d at_i) (entry_of s name ty body j e at_j)
      where
        later : (i j : ℕ) (d e : Entry) → i < length s.entries → entry_at s i ≡ Some d → d.target ≡ i → j ≡ length s.entries → e ≡ entry s name ty body
            → e.target ≡ j → node_in new.nodes i ≡ node_in new.nodes j → ⊥
        later i j d e low at own_i last e_is own same =
            let target : target_of_body (length s.entries) body ≡ length s.entries = ap (λ (d : Entry). d.target) (sym e_is) ∙ (own ∙ last) in
            let node : node_in k.nodes i ≡ root = sym (node_old i low) ∙ (same ∙ (ap (node_in new.nodes) last ∙ node_new)) in
            new_is.apart (own_body s' plain_each (length s.entries) body (body_new s name ty body) target) i d at own_i node

        by_place : ((i < length s.entries) × (entry_at s i ≡ Some d)) ⊎ ((i ≡ length s.entries) × (d ≡ entry s name ty body))
            → ((j < length s.entries) × (entry_at s j ≡ Some e)) ⊎ ((j ≡ length s.entries) × (e ≡ entry s name ty body)) → i ≡ j
        by_place (inl a) (inl b) = held.apart i j d e a.1 b.1 own_i own_j (sym (node_old i a.0) ∙ (same ∙ node_old j b.0))
        by_place (inl a) (inr b) = absurd (later i j d e a.0 a.1 own_i b.0 b.1 own_j same)
        by_place (inr a) (inl b) = absurd (later j i e d b.0 b.1 own_j a.0 a.1 own_i (sym same))
        by_place (inr a) (inr b) = a.0 ∙ sym b.0

    -- a bind is an earlier one, or the new one, which isn't built
    built_each : BuiltAlike s' new
    built_each n left below at =
        let b = bind_body s' n left below at in
        elim (body_of s name ty body n (Computed (Bind left below) b.0) b.1) [
          | inl h ↦
              built_still Of F s k held given s' new.nodes bodies Q serve g keeps node_old n left below (ap (λ (o : Option Body). and_then o bind_of) h.1) h.0
              ∙ ap (λ (o : Option Body). option_map (graph_outcome (node_in new.nodes)) (and_then o built_of_body)) (sym (body_old s name ty body n h.0))
          | inr h ↦
              let node : node_in new.nodes n ≡ root = ap (node_in new.nodes) h.0 ∙ node_new in
              let none : built_at s' n ≡ None = ap (λ (j : ℕ). built_at s' j) h.0 ∙ new_unbuilt in
              ap (λ (q : NodeId). outcome_of ((graph g).built q)) node
              ∙ (ap outcome_of (new_is.unbuilt left below b.0 (sym h.1)) ∙ ap (option_map (graph_outcome (node_in new.nodes))) (sym none))
        ]

    refers_each : BuiltRefers s'
    refers_each n o built = go (body_at s' n) refl built
      where
        go : (x : Option Body) → body_at s' n ≡ x → and_then x built_of_body ≡ Some o → RefersTo (IsDeclaredTarget s') o
        go None at e = absurd (cc)
        go (Some b) at e = elim (body_of s name ty body n b at) [
          | inl h ↦ outcome_refers_more (IsDeclaredTarget s) (IsDeclaredTarget s') target_on o (held.refers n o (ap (λ (x : Option Body). and_then x built_of_body) h.1 ∙ e))
          | inr h ↦ absurd (let none = ap built_of_body h.1 ∙ new_is.unkept in
              let clash : None ≡ Some o = sym none ∙ e in cc)
        ]

    grabs_each : GrabsForms s'
    grabs_each n b v left t kept at bind =
        elim (body_of s name ty body n (Grab b v true) at) [
          | inl h ↦
              let low : b < length s.entries = (let early = (held.today.plain n (Grab b v true) h.1).0.0 in let n_low = h.0 in omega (arith, early, n_low)) in
              held.grabs n b v left t kept h.1 (sym (body_old s name ty body b low) ∙ bind)
          | inr h ↦
              let fine = subst (λ (c : Body). IsPlainBody (IsEarlierTarget s' (length s.entries)) (IsDeclaredTarget s') c) (sym h.1) new_is.plain in
              let low : b < length s.entries = fine.0.0 in
              new_is.grab b v left t kept (sym h.1) (sym (body_old s name ty body b low) ∙ bind)
        ]

    pub declared_represents : Represents F s' new
    declared_represents = record {
      room = let places = sum_by_push (λ (e : Entry). places_of_body e.body) s.entries (entry s name ty body) in omega (arith, room_is, held.room, places);
      clock = more.time ∙ held.clock;
      one_node_each =
          let size = length-append k.nodes (root ∷ []) in
          let states = length-append s.entries (entry s name ty body ∷ []) in
          omega (arith, held.one_node_each, size, states);
      declares = λ n. declares_each n (body_at s' n) refl;
      targets = targets_each;
      apart = apart_each;
      built = built_each;
      refers = refers_each;
      grabs = grabs_each;
      today = record {
        plain = plain_each;
        aged = aged_each;
        freezes = freezes_each;
      };
    }

  grabs_live : GrabsStay s s'
  grabs_live n b v was = body_old s name ty body n (body_within s n (Grab b v true) was) ∙ was

  stamps_grow : StampsGrow s s'
  stamps_grow n = go (body_at s n) refl
    where
      go : (b : Option Body) → body_at s n ≡ b → stamp_of_body (body_at s n) ≤ stamp_of_body (body_at s' n)
      go None is = let none = ap stamp_of_body is in omega (arith, none)
      go (Some b) is = let same = ap stamp_of_body (body_old s name ty body n (body_within s n b is)) in omega (arith, same)

  -- the script with the declaration is matched, where the new node shows it
  pub declared_matches : Declares (beside F s' new) root (Some body) → m.broken ≡ None → MatchesMoment F k m
      → MatchesMoment F new (record m { present = s' })
  declared_matches shows whole h =
      let held = h.represents whole in
      record {
        names = names_on h.names;
        accepted = h.accepted;
        broken = h.broken;
        represents = λ still. declared_represents h.names held shows;
        watches = watches_on s s' k new more.beside.observers refl refl refl refl (λ n b at. node_old h.names held shows n (body_within s n b at)) given
            (λ n b at. (b, body_old s name ty body n (body_within s n b at) ∙ at)) (target_on h.names held shows) h.watches;
        settled = λ still. settled_on F m.settled s s' k new
            (leaves_beside k new (extends_beside k.graph g more) more.given (λ n r kid f low row def. sym (more.rows n low) ∙ row))
            (record { stamps = stamps_grow; marks = λ n low marked. inl (sym (more.beside.of_nodes.marks n low) ∙ marked) }) (record {
              formulas = declared_formulas s name ty body;
              bodies = λ n b has at. body_old s name ty body n (body_within s n b at) ∙ at;
              targets = λ n e at. (e, entry_old s name ty body n (slice_get_within s.entries n e at) ∙ at, refl);
              names = λ n e at. node_old h.names held shows n (slice_get_within s.entries n e at);
              rows = keeps.rows;
              freezes = λ n r kid f is def. live_stays k.graph g sound more n r is;
              lives = extends_lives k g sound more;
              built = extends_built k g sound more;
            }) grabs_live (extends_scopes k g sound more) (λ x among at. among) (h.settled still);
      }

-- ---- a declaration that fits

module _ (named : List ℕ → Option FnRef) (value : FnRef → List GraphValue → GraphValue) (known : FnRef → Bool) (k : Kept) (g : GraphView (Unit {0}))
    (bodies : List Bodies.Body) (Q : FnKind → FnRef → Type 0) (serve : BodiesServe (meanings_of named value) k bodies Q)
    (sound : arena.IsSoundArena (arena_of k)) (sound' : arena.IsSoundArena g.nodes) (more : Extends k.graph g) (m : Moment) (given : NodesGiven m.present k)
    (name : List ℕ) (ty : Ty) (body : Body) (root : NodeId) (room : ℕ) (fits : DeclarationFits known k.names name ty body)
    (room_is : room + places_of_body body ≡ k.room)
    (owned : OwnNodesOf (graph g) (IsSince (arena_of k).given root) (IsPartSince (arena_of k).given root) root body)
    (fresh : HasOwnNode body → (graph g).built root ≡ None) (freezes : FreezesAre (graph k.graph) (graph g) root body) where
  abbrev F : Meanings
  F = meanings_of named value

  abbrev t : State
  t = m.present

  abbrev t' : State
  t' = declared_in t name ty body

  mapped : (es : List Entry) → length (map declared_of es) ≡ length es
  mapped [] = refl
  mapped (e ∷ es) = ap (λ n. suc n) (mapped es)

  module _ (names : AreNames k.names t) (held : Represents F t k) where
    fitting : (position : ℕ) (u : Ty) → NameFits k.names position u → IsEarlierTarget t' (length t.entries) position
    fitting position u fine =
        let own = fitting_target k.names t names.declared held.today.plain held.targets position u fine in
        let size = ap (λ (ds : List Declared). length ds) names.declared ∙ mapped t.entries in
        let low : position < length t.entries = (let early = fine.earlier in omega (arith, early, size)) in
        (low, subst IsOwn (sym (body_old t name ty body position low)) own)

    fitting_value : (v : Value) → ReferenceFits k.names v → EveryReference (IsDeclaredTarget t') v
    fitting_value v fine = value_refers_more (IsDeclaredTarget t) (IsDeclaredTarget t')
        (λ n d. (d.0, body_old t name ty body n (body_within t n d.0 d.1) ∙ d.1, d.2)) v
        (fitting_refers k.names t names.declared held.today.plain held.targets v fine)

    new_one : IsNew t name ty body k.nodes (arena_of k).given root (graph k.graph) (graph g)
    new_one = record {
      plain = body_plain known k.names (IsEarlierTarget t' (length t.entries)) (IsDeclaredTarget t') fitting fitting_value body ty fits.body_fits;
      apart = λ own i e at own_i node.
          let young = own_node (graph g) (IsSince (arena_of k).given root) (IsPartSince (arena_of k).given root) root body
          (own_declared known k.names body ty fits.body_fits own) owned in
          let old = given i e.body (entry_body t i e at) in
          let gens = ap (λ (q : NodeId). q.gen_) node in
          omega (arith, old, gens, young.0);
      unkept = unbuilt_yet known k.names body ty fits.body_fits;
      unbuilt = λ left below kept is. fresh (subst HasOwnNode (sym is) tt);
      grab = λ b v left u kept is bind. no_live_grab known k.names body ty fits.body_fits b v is;
      owned = owned;
      freezes = freezes;
    }

  pub declaring_stands : Declares (beside F t' (with_declared k name ty body root room bodies g)) root (Some body) → m.broken ≡ None → MatchesMoment F k m
      → MatchesMoment F (with_declared k name ty body root room bodies g) (moved m (Declare name ty body))
  declaring_stands shows whole h = declared_matches F k g bodies Q serve sound sound' more m given name ty body root room room_is new_one shows whole h
