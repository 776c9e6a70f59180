-- A script after a grab: a name for the right side that a bind has.
use Rattle.std.proofs.Common.{◌≡◌, ◌⊎◌, inl, inr, ℕ, zero, suc, ◌+◌, ◌<◌, Bool, true, false, cond, List, [], ◌∷◌, ◌++◌, length, Option, None, Some, IsTrue, option_map, refl, ap, sym, subst, ◌∙◌, arith, slice_get}
use Rattle.std.proofs.lemmas.List.{get_or_append_left, get_or_at}
use Rattle.std.proofs.lemmas.Option.{slice_get_within, slice_get-map, none-some}
use Rattle.std.proofs.lemmas.Bool.{eqb-true, eq-eqb}
use Rattle.formula_lang.specs.Fits.{GrabFits}
use Rattle.graph.specs.Standing.{graph}
use Rattle.inc_value.specs.Choice.{and_then}
use Rattle.inc_value.specs.declared.function.FnRef.{FnRef}
use Rattle.inc_value.specs.declared.node.NodeId.{NodeId}
use Rattle.inc_value.specs.declared.outcome.Outcome.TheVariants as outcome
use Rattle.inc_value.specs.Ty.{type_of_base}
use Rattle.inc_value.specs.declared.ty.Ty.{Ty}
use Rattle.inc_value.specs.declared.ty.Ty.TheVariants as types
use Rattle.inc_value.specs.declared.value.Value.{Value as GraphValue}
use Rattle.inc_terms.specs.Graph.{Row, Built as BuiltFor}
use Rattle.inc_terms.specs.Rebuilding.{outcome_of}
use Rattle.inc_terms.specs.Term as term
use Rattle.inc_terms.specs.Within.{Given}
use Rattle.link_table.proofs.Lists.{get_append_last}
use Rattle.node_arena.specs.Arena.{row_at}
use Rattle.node_arena.specs.Sound as arena
use Rattle.node_arena.specs.Typing.{Fits as FitsType}
use Rattle.script_model.specs.Check.{Declared, Kind, Take, Bind as BindKind, Grab as GrabKind, declared_of, is_bind, kind_of_body, target_of_body}
use Rattle.script_model.specs.Formula.{State, Body, Entry, Formula, Kept as KeptOf, Meanings, meanings_of, bind_at, bind_of, body_at, built_at, entry_at, places_of_body, Literal, Name, Bound, Apply, Fold, If, Join, Bind, At, Steps, Now, Computed, Grab}
use Rattle.script_model.specs.Step.{Moment, alias, declared_in, grab_of, grab_or, is_live_grab, live_grab, moved, own_grab}
use Rattle.script_model.specs.Valid.{KeepToTypes, Valid, HasType, BodyHasType}
use Rattle.script_model.specs.Values.{Value, Outcome, Val, Invalid, Bool as Truth}
use Rattle.script_graph.specs.Grabbing.{IsRightSide}
use Rattle.script_graph.specs.Growing.{functions_over}
use Rattle.script_graph.specs.Kept as kept
use Rattle.script_graph.specs.Kept.{Kept, arena_of, node_in}
use Rattle.script_graph.specs.Represents.{AreNames, beside, Represents}
use Rattle.script_graph.specs.Sound.{IsSoundSession}
use Rattle.script_graph.specs.State.{MatchesMoment, Stands}
use Rattle.script_graph.specs.Today.{IsDeclaredTarget}
use Rattle.script_graph.proofs.Beside.{represented_fits, rooted_binds}
use Rattle.inc_terms.proofs.Unfolding.{AnyFunction}
use Rattle.script_graph.proofs.Declared.{nodes_given}
use Rattle.script_graph.proofs.Declaring.{IsNew, body_old, declared_matches, named_entry, with_declared}
use Rattle.script_graph.proofs.Extending.{body_within, entry_body, extends_itself, same_serve}
use Rattle.script_graph.proofs.Owning.{own_body, own_or_grab}
use Rattle.script_graph.proofs.Referring.{value_agrees, value_refers_more}
use Rattle.script_graph.proofs.Rooting.{named_root, scoped_root, top_row}
use Rattle.script_graph.proofs.Sounding.{declared_at, declared_still, sound_declared}
use Rattle.stabilize_round.specs.Invariant.{Rooted}
use Rattle.script_model.proofs.Found.{some_same}
use Rattle.transfer.specs.Both.{Both, graph_outcome, graph_value}
use Rattle.transfer.specs.Shows.{Declares, Fits, IsOwn}
use Rattle.transfer.proofs.Places.{opened, plain_bind, then_some}
use Rattle.transfer.proofs.Typed.{body_entry, valid_grabs}

-- what is kept with one more declaration, which has a node that is there
abbrev pub with_grab : Kept → Declared → NodeId → Kept
with_grab k d root = record k { names = record k.names { declared = k.names.declared ++ d ∷ [] }; nodes = k.nodes ++ root ∷ [] }

-- another name for a declaration, or a grab of its own
abbrev pub alias_of : List ℕ → Ty → ℕ → Declared
alias_of name ty t = record { name = name; ty = ty; kind = kind_of_body (alias t); target = t }

abbrev pub grab_as : ℕ → List ℕ → Ty → Declared
grab_as n name ty = record { name = name; ty = ty; kind = GrabKind; target = n }

-- an own declaration of the type has the node
abbrev pub HasOwn : Kept → Ty → NodeId → ℕ → Type 0
HasOwn k ty root t = (d : Declared) × (slice_get k.names.declared t ≡ Some d) × (d.target ≡ t) × (node_in k.nodes t ≡ root) × (d.ty ≡ ty)

-- ---- that it fits together

module _ (k : Kept) (h : IsSoundSession k) (sound : arena.IsSoundArena (arena_of k)) (name : List ℕ) (ty : Ty) (root : NodeId) where
  abbrev count : ℕ
  count = length k.names.declared

  node_new : node_in (k.nodes ++ root ∷ []) count ≡ root
  node_new = get_or_at k.nodes root [] kept.no_node count h.one_node_each

  node_old : (n : ℕ) → n < count → node_in (k.nodes ++ root ∷ []) n ≡ node_in k.nodes n
  node_old n low = get_or_append_left k.nodes (root ∷ []) kept.no_node n (let each = h.one_node_each in omega (arith, low, each))

  pub alias_sound : (t : ℕ) → HasOwn k ty root t → IsSoundSession (with_grab k (alias_of name ty t) root)
  alias_sound t (d, is, itself, node, typed) =
      let low = slice_get_within k.names.declared t d is in
      sound_declared k h sound k.graph (extends_itself k.graph) name ty (alias t) root k.room k.bodies (λ grab. absurd (cc))
      (record {
        target = d;
        is_target = declared_still k.names.declared (declared_at count name ty (alias t)) t d is;
        itself = itself;
        typed = typed;
        node = node_old t low ∙ (node ∙ sym node_new);
      }) (λ self other. absurd (let same : t ≡ count = self in omega (arith, low, same))) h.few

  pub grab_sound : Given (arena_of k).given root × FitsType (arena_of k) root ty → IsSoundSession (with_grab k (grab_as count name ty) root)
  grab_sound fits =
      sound_declared k h sound k.graph (extends_itself k.graph) name ty (Grab 0 some_value false) root k.room k.bodies (λ grab. fits)
      (record { target = _; is_target = get_append_last k.names.declared _; itself = refl; typed = refl; node = refl })
      (λ self other. absurd (other refl)) h.few
    where
      some_value : Value
      some_value = Truth false

-- ---- the type of a right side

-- a declaration that is known for a bind is one
bind_known : (o : Option Declared) → IsTrue (is_bind (and_then o (λ (d : Declared). Some d.kind))) → (d : Declared) × (o ≡ Some d) × (d.kind ≡ BindKind)
bind_known None is = absurd (cc)
bind_known (Some d) is = (d, refl, by_kind d.kind is)
  where
    by_kind : (c : Kind) → IsTrue (is_bind (Some c)) → c ≡ BindKind
    by_kind BindKind is = refl
    by_kind c is = absurd (cc)

-- ---- live grabs

live_at : (b : ℕ) (body : Body) → is_live_grab b body ≡ true → (v : Value) × (body ≡ Grab b v true)
live_at b (Grab c v true) is = (v, ap (λ (n : ℕ). Grab n v true) (sym (eqb-true b c is)))
live_at b (Grab c v false) is = absurd (cc)
live_at b body is = absurd (cc)

-- the first live grab of a bind is one
grab_found : (b n : ℕ) (es : List Entry) (g : ℕ) → live_grab b n es ≡ Some g
    → (i : ℕ) × (e : Entry) × (g ≡ n + i) × (slice_get es i ≡ Some e) × (is_live_grab b e.body ≡ true)
grab_found b n [] g is = absurd (cc)
grab_found b n (e ∷ es) g is = go (is_live_grab b e.body) refl is (λ rest. grab_found b (suc n) es g rest)
  where
    go : (l : Bool) → is_live_grab b e.body ≡ l → cond l (Some n) (live_grab b (suc n) es) ≡ Some g
        → (live_grab b (suc n) es ≡ Some g → (i : ℕ) × (d : Entry) × (g ≡ suc n + i) × (slice_get es i ≡ Some d) × (is_live_grab b d.body ≡ true))
        → (i : ℕ) × (d : Entry) × (g ≡ n + i) × (slice_get (e ∷ es) i ≡ Some d) × (is_live_grab b d.body ≡ true)
    go true live is more = (0, e, (let same : n ≡ g = cc in omega (arith, same)), refl, live)
    go false live is more =
        let rest = more is in
        (suc rest.0, rest.1, (let at = rest.2 in omega (arith, at)), rest.3, rest.4)

-- where none is found there is none
none_found : (b n : ℕ) (es : List Entry) → live_grab b n es ≡ None → (i : ℕ) (e : Entry) → slice_get es i ≡ Some e → is_live_grab b e.body ≡ true → ⊥
none_found b n [] is i e at live = absurd (cc)
none_found b n (d ∷ es) is i e at live = go (is_live_grab b d.body) refl is (λ rest j at_j. none_found b (suc n) es rest j e at_j live) i at
  where
    go : (l : Bool) → is_live_grab b d.body ≡ l → cond l (Some n) (live_grab b (suc n) es) ≡ None
        → (live_grab b (suc n) es ≡ None → (j : ℕ) → slice_get es j ≡ Some e → ⊥) → (i : ℕ) → slice_get (d ∷ es) i ≡ Some e → ⊥
    go true first is more i at = absurd (cc)
    go false first is more zero at =
        let same : d ≡ e = cc in
        let clash : false ≡ true = sym first ∙ (ap (λ (x : Entry). is_live_grab b x.body) same ∙ live) in cc
    go false first is more (suc i) at = more is i at

-- ---- one type

-- a formula has one type
module _ (F : Meanings) (s : State) (n : ℕ) where
  pub one_type : (bounds : List Ty) (f : Formula) (t u : Ty) → HasType F s n bounds f t → HasType F s n bounds f u → t ≡ u
  one_type bounds (Literal v) t u a b = sym a.0 ∙ b.0
  one_type bounds (Name p) t u a b =
      let same : a.entry ≡ b.entry = (let e : Some a.entry ≡ Some b.entry = sym a.stands ∙ b.stands in cc) in
      sym a.typed ∙ (ap (λ (e : Entry). e.ty) same ∙ b.typed)
  one_type bounds (Bound k) t u a b = let e : Some t ≡ Some u = sym a ∙ b in cc
  one_type bounds (Apply f fs) t u a b = sym a.2 ∙ b.2
  one_type bounds (Fold f v fs) t u a b = sym a.2.1 ∙ b.2.1
  one_type bounds (If test x y) t u a b = one_type bounds x t u a.1 b.1
  one_type bounds (Join child) t u a b =
      let nodes = one_type bounds child (types.Node a.0) (types.Node b.0) a.1 b.1 in
      let bases : a.0 ≡ b.0 = cc in sym a.2 ∙ (ap type_of_base bases ∙ b.2)
  one_type bounds (Bind left body) t u a b =
      let lefts = one_type bounds left a.0 b.0 a.1 b.1 in
      one_type (b.0 ∷ bounds) body t u (subst (λ (w : Ty). HasType F s n (w ∷ bounds) body t) lefts a.2) b.2
  one_type bounds (At time) t u a b = a ∙ sym b
  one_type bounds (Steps v steps) t u a b = sym a.0.0 ∙ b.0.0
  one_type bounds Now t u a b = a ∙ sym b

-- ---- the right side of a bind

module _ (named : List ℕ → Option FnRef) (value : FnRef → List GraphValue → GraphValue) (k : Kept) (s : State)
    (keep : KeepToTypes (meanings_of named value)) (valid : Valid (meanings_of named value) s)
    (rooted : Rooted (functions_over value k.bodies) (graph k.graph)) (held : Represents (meanings_of named value) s k) where
  abbrev F : Meanings
  F = meanings_of named value

  abbrev x : Both
  x = beside F s k

  fits : Fits x
  fits = represented_fits named value s k keep valid (rooted_binds named value k rooted) held

  -- an own declaration that has the root of a body which is no name is the bind's live grab
  module _ (b : ℕ) (left below : Formula) (of : KeptOf) (is : body_at s b ≡ Some (Computed (Bind left below) of)) (w : BuiltFor) (v : Value) (root : NodeId)
      (built : (graph k.graph).built (node_in k.nodes b) ≡ Some w) (for : w.outcome ≡ outcome.Val (graph_value (node_in k.nodes) v)) (is_root : w.root ≡ Some root)
      (no_name : (t : ℕ) → below ≡ Name t → ⊥) where
    bind_entry : (e : Entry) × (entry_at s b ≡ Some e) × (e.target ≡ b)
    bind_entry =
        let e = body_entry s b (Computed (Bind left below) of) is in
        (e.0, e.1, held.targets b e.0 e.1 ∙ ap (target_of_body b) e.2)

    same_row : (r q : Row) → row_at (arena_of k) root ≡ Some r → row_at (arena_of k) root ≡ Some q → r ≡ q
    same_row r q first second = let e : Some r ≡ Some q = sym first ∙ second in cc

    pub root_of_own : (t : ℕ) (e : Entry) → entry_at s t ≡ Some e → e.target ≡ t → node_in k.nodes t ≡ root → (u : Value) × (e.body ≡ Grab b u true)
    root_of_own t e at itself node =
        elim (own_or_grab e.body (own_body s held.today.plain t e.body (entry_body s t e at) (sym (held.targets t e at) ∙ itself))) [
          | inl own ↦ absurd (
              let top = top_row x fits held.today.plain t e.body (entry_body s t e at) own in
              let row = scoped_root x fits b left below of is w v root built for is_root no_name in
              let same = same_row top.0 row.0 (ap (row_at (arena_of k)) (sym node) ∙ top.1) row.1 in
              let clash : None ≡ Some (node_in k.nodes b) = sym top.2 ∙ (ap (λ (r : Row). r.scope) same ∙ row.2) in cc)
          | inr (c, u, is_live, grab) ↦ by_life c u is_live grab
        ]
      where
        shown : (c : ℕ) (u : Value) → Declares x (node_in k.nodes t) (Some (Grab c u true))
            → (w : BuiltFor) × ((graph k.graph).built (node_in k.nodes c) ≡ Some w) × (w.outcome ≡ outcome.Val (graph_value (node_in k.nodes) u))
            × (w.root ≡ Some (node_in k.nodes t))
        shown c u (inl d) = d
        shown c u (inr lost) = absurd (let died = lost.2 in cc)

        by_life : (c : ℕ) (u : Value) (is_live : Bool) → e.body ≡ Grab c u is_live → (u : Value) × (e.body ≡ Grab b u true)
        by_life c u false grab = absurd (
            let body : body_at s t ≡ Some (Grab c u false) = entry_body s t e at ∙ ap (λ (d : Body). Some d) grab in
            let dead = rw body at (held.declares t) in
            let row = scoped_root x fits b left below of is w v root built for is_root no_name in
            none-some row.0 (sym dead.0 ∙ (ap (row_at (arena_of k)) node ∙ row.1)))
        by_life c u true grab =
            let body : body_at s t ≡ Some (Grab c u true) = entry_body s t e at ∙ ap (λ (d : Body). Some d) grab in
            let bind = valid_grabs F s valid t c u body in
            let there = shown c u (rw body at (held.declares t)) in
            let other = scoped_root x fits c bind.0 bind.1 bind.2 bind.3 there.0 u root there.1 there.2 (there.3 ∙ ap (λ (q : NodeId). Some q) node)
            (λ n is_name. held.grabs t c u bind.0 n bind.2 body (bind.3 ∙ ap (λ (f : Formula). Some (Computed (Bind bind.0 f) bind.2)) is_name)) in
            let row = scoped_root x fits b left below of is w v root built for is_root no_name in
            let rows = same_row other.0 row.0 other.1 row.1 in
            let scopes : Some (node_in k.nodes c) ≡ Some (node_in k.nodes b) = sym other.2 ∙ (ap (λ (r : Row). r.scope) rows ∙ row.2) in
            let nodes : node_in k.nodes c ≡ node_in k.nodes b = cc in
            let mine = bind_entry in
            let ce = body_entry s c (Computed (Bind bind.0 bind.1) bind.2) bind.3 in
            let binds : c ≡ b = held.apart c b ce.0 mine.0 ce.1 mine.1 (held.targets c ce.0 ce.1 ∙ ap (target_of_body c) ce.2) mine.2 nodes in
            (u, grab ∙ ap (λ (n : ℕ). Grab n u true) binds)

-- ---- that it is matched

some_or_none : {A : Type 0} (o : Option A) → (o ≡ None) ⊎ ((a : A) × (o ≡ Some a))
some_or_none None = inl refl
some_or_none (Some a) = inr (a, refl)

is_name_or : (f : Formula) → ((t : ℕ) × (f ≡ Name t)) ⊎ ((t : ℕ) → f ≡ Name t → ⊥)
is_name_or (Name t) = inl (t, refl)
is_name_or f = inr (λ t e. cc)

-- what a grab declares where its bind's body is no name
other_grab : (s : State) (b : ℕ) (left below : Formula) → ((t : ℕ) → below ≡ Name t → ⊥)
    → grab_of s b (Some (left, below)) ≡ grab_or b (built_at s b) (live_grab b 0 s.entries)
other_grab s b left (Name t) no_name = absurd (no_name t refl)
other_grab s b left below no_name = refl

module _ (named : List ℕ → Option FnRef) (value : FnRef → List GraphValue → GraphValue) (k : Kept) (h : IsSoundSession k) (sound : arena.IsSoundArena (arena_of k))
    (rooted : Rooted (functions_over value k.bodies) (graph k.graph)) (name : List ℕ) (ty : Ty) (b : ℕ) (root : NodeId)
    (grab_fits : GrabFits k.names name ty b) (is_right : IsRightSide k b root) (m : Moment) (stands : Stands (meanings_of named value) k m)
    (whole : m.broken ≡ None) where
  abbrev M : Meanings
  M = meanings_of named value

  abbrev s : State
  s = m.present

  valid : Valid M s
  valid = stands.valid.1

  held : Represents M s k
  held = stands.matches.represents whole

  names : AreNames k.names s
  names = stands.matches.names

  abbrev declarations : ℕ
  declarations = length k.names.declared

  -- ---- the bind

  kind_bind : (body : Body) → kind_of_body body ≡ BindKind → (left : Formula) × (below : Formula) × (of : KeptOf) × (body ≡ Computed (Bind left below) of)
  kind_bind (Computed (Bind left below) of) is = (left, below, of, refl)
  kind_bind (Computed f of) is = absurd (cc)
  kind_bind body is = absurd (cc)

  -- the bind's entry, of the grab's type
  bind_is : (e : Entry) × (left : Formula) × (below : Formula) × (of : KeptOf) × (entry_at s b ≡ Some e) × (e.body ≡ Computed (Bind left below) of) × (e.ty ≡ ty)
  bind_is =
      let d = bind_known (slice_get k.names.declared b) grab_fits.is_bind in
      let e = named_entry k.names s names.declared b d.0 d.1 in
      let body = kind_bind e.0.body (ap (λ (c : Declared). c.kind) e.2 ∙ d.2) in
      let f = grab_fits.bind_fits in
      let t = (h.has_nodes f.place f.declared f.stands).target in
      let there : slice_get k.names.declared b ≡ Some t.target = subst (λ (j : ℕ). slice_get k.names.declared j ≡ Some t.target) f.target t.is_target in
      let same : t.target ≡ d.0 = (let c : Some t.target ≡ Some d.0 = sym there ∙ d.1 in cc) in
      let typed : d.0.ty ≡ ty = ap (λ (c : Declared). c.ty) (sym same) ∙ (t.typed ∙ f.typed) in
      (e.0, body.0, body.1, body.2, e.1, body.3, ap (λ (c : Declared). c.ty) e.2 ∙ typed)

  abbrev left : Formula
  left = bind_is.1

  abbrev below : Formula
  below = bind_is.2

  abbrev of : KeptOf
  of = bind_is.3

  bind_body_is : body_at s b ≡ Some (Computed (Bind left below) of)
  bind_body_is = entry_body s b bind_is.0 bind_is.4 ∙ ap (λ (c : Body). Some c) bind_is.5

  bind_at_is : bind_at s b ≡ Some (left, below)
  bind_at_is = ap (λ (o : Option Body). and_then o bind_of) bind_body_is

  bind_low : b < length s.entries
  bind_low = slice_get_within s.entries b bind_is.0 bind_is.4

  -- it is built for a value, and has the root
  built_is : (w : BuiltFor) × (v : Value) × ((graph k.graph).built (node_in k.nodes b) ≡ Some w) × (w.outcome ≡ outcome.Val (graph_value (node_in k.nodes) v))
      × (w.root ≡ Some root) × (built_at s b ≡ Some (Val v))
  built_is =
      let w = then_some ((graph k.graph).built (node_in k.nodes b)) (λ (w : BuiltFor). w.root) root is_right in
      let alike : Some w.0.outcome ≡ option_map (graph_outcome (node_in k.nodes)) (built_at s b) = sym (ap outcome_of w.1) ∙ held.built b left below bind_at_is in
      go w.0 w.1 w.2 (built_at s b) refl alike
    where
      go : (w : BuiltFor) → (graph k.graph).built (node_in k.nodes b) ≡ Some w → w.root ≡ Some root → (o : Option Outcome) → built_at s b ≡ o
          → Some w.outcome ≡ option_map (graph_outcome (node_in k.nodes)) o
          → (w : BuiltFor) × (v : Value) × ((graph k.graph).built (node_in k.nodes b) ≡ Some w) × (w.outcome ≡ outcome.Val (graph_value (node_in k.nodes) v))
          × (w.root ≡ Some root) × (built_at s b ≡ Some (Val v))
      go w is is_root None at alike = absurd (cc)
      go w is is_root (Some (Val v)) at alike = (w, v, is, (cc), is_root, at)
      go w is is_root (Some Invalid) at alike = absurd (
          let invalid : w.outcome ≡ outcome.Invalid = cc in
          let d = rw bind_body_is at (held.declares b) in
          let o = opened (graph k.graph) None (node_in k.nodes b) (term.Bind d.0 d.1 d.2) d.3 in
          let p = plain_bind o.0.def d.0 d.1 d.2 o.3 in
          let none = (rooted (node_in k.nodes b) o.0 p.0 d.1 p.1 w o.1 p.2 is).rootless invalid in
          let clash : None ≡ Some root = sym none ∙ is_root in cc)

  -- ---- what is declared

  -- an own declaration of the type whose node is the root
  abbrev IsOwnAlias : ℕ → Type 0
  IsOwnAlias t = (e : Entry) × (entry_at s t ≡ Some e) × (e.target ≡ t) × (node_in k.nodes t ≡ root) × (e.ty ≡ ty)

  -- another name for one of those, or a grab, where none of them is an own declaration that has the root
  abbrev Comes : Body → Type 0
  Comes body = ((t : ℕ) × (body ≡ alias t) × IsOwnAlias t)
      ⊎ ((v : Value) × (body ≡ Grab b v true) × (built_at s b ≡ Some (Val v)) × ((t : ℕ) → below ≡ Name t → ⊥)
      × ((t : ℕ) (e : Entry) → entry_at s t ≡ Some e → e.target ≡ t → node_in k.nodes t ≡ root → ⊥))

  typed_bind : HasType M s b [] (Bind left below) ty
  typed_bind =
      let typed = (valid.entries b bind_is.0 bind_is.4).typed in
      let there = subst (λ (c : Body). BodyHasType M s b c bind_is.0.ty) bind_is.5 typed in
      subst (λ (t : Ty). HasType M s b [] (Bind left below) t) bind_is.6 there.0

  -- a live grab of the bind is of the type
  live_typed : (g : ℕ) (e : Entry) (u : Value) → entry_at s g ≡ Some e → e.body ≡ Grab b u true → e.ty ≡ ty
  live_typed g e u at grab =
      let typed : BodyHasType M s g (Grab b u true) e.ty = subst (λ (c : Body). BodyHasType M s g c e.ty) grab (valid.entries g e at).typed in
      let binds : Some (typed.left, typed.body) ≡ Some (left, below) = sym typed.stands ∙ bind_at_is in
      let pairs = some_same (typed.left, typed.body) (left, below) binds in
      one_type M s b [] (Bind left below) e.ty ty (subst (λ (p : Formula × Formula). HasType M s b [] (Bind p.0 p.1) e.ty) pairs typed.typed) typed_bind

  comes_named : (t : ℕ) → below ≡ Name t → Comes (grab_of s b (bind_at s b))
  comes_named t e =
      let w = built_is in
      let node = named_root (beside M s k) (represented_fits named value s k stands.keep valid (rooted_binds named value k rooted) held)
      b left below of bind_body_is w.0 w.1 root w.2 w.3 w.4 t e in
      let typed = subst (λ (f : Formula). HasType M s b (typed_bind.0 ∷ []) f ty) e typed_bind.2 in
      inl (t, ap (grab_of s b) (bind_at_is ∙ ap (λ (f : Formula). Some (left, f)) e), (typed.entry, typed.stands, typed.own, sym node, typed.typed))

  comes_other : ((t : ℕ) → below ≡ Name t → ⊥) → Comes (grab_of s b (bind_at s b))
  comes_other no_name = by_live (some_or_none (live_grab b 0 s.entries))
    where
      body_is : grab_of s b (bind_at s b) ≡ grab_or b (built_at s b) (live_grab b 0 s.entries)
      body_is = ap (grab_of s b) bind_at_is ∙ other_grab s b left below no_name

      by_live : (live_grab b 0 s.entries ≡ None) ⊎ ((g : ℕ) × (live_grab b 0 s.entries ≡ Some g)) → Comes (grab_of s b (bind_at s b))
      by_live (inl none) =
          let w = built_is in
          inr (
            w.1,
            body_is ∙ (ap (grab_or b (built_at s b)) none ∙ ap (own_grab b) w.5),
            w.5,
            no_name,
            λ t e at itself node.
                let u = root_of_own named value k s stands.keep valid rooted held b left below of bind_body_is w.0 w.1 root w.2 w.3 w.4 no_name t e at itself node in
                none_found b 0 s.entries none t e at (ap (is_live_grab b) u.1 ∙ eq-eqb b b refl),
          )
      by_live (inr (g, found)) =
          let w = built_is in
          let i = grab_found b 0 s.entries g found in
          let place : g ≡ i.0 = (let sum = i.2 in omega (arith, sum)) in
          let at : entry_at s g ≡ Some i.1 = ap (λ (n : ℕ). slice_get s.entries n) place ∙ i.3 in
          let u = live_at b i.1.body i.4 in
          let body : body_at s g ≡ Some (Grab b u.0 true) = entry_body s g i.1 at ∙ ap (λ (c : Body). Some c) u.1 in
          let there = shown_live g u.0 (rw body at (held.declares g)) in
          let same : there.0 ≡ w.0 = (let c : Some there.0 ≡ Some w.0 = sym there.1 ∙ w.2 in cc) in
          let node : node_in k.nodes g ≡ root = (let c : Some (node_in k.nodes g) ≡ Some root = sym there.2 ∙ (ap (λ (x : BuiltFor). x.root) same ∙ w.4) in cc) in
          inl (g, body_is ∙ ap (grab_or b (built_at s b)) found, (i.1, at, held.targets g i.1 at ∙ ap (target_of_body g) u.1, node, live_typed g i.1 u.0 at u.1))
        where
          shown_live : (g : ℕ) (u : Value) → Declares (beside M s k) (node_in k.nodes g) (Some (Grab b u true))
              → (w : BuiltFor) × ((graph k.graph).built (node_in k.nodes b) ≡ Some w) × (w.root ≡ Some (node_in k.nodes g))
          shown_live g u (inl d) = (d.0, d.1, d.3)
          shown_live g u (inr lost) = absurd (let died = lost.2 in cc)

  comes : Comes (grab_of s b (bind_at s b))
  comes = elim (is_name_or below) [ inl t ↦ comes_named t.0 t.1 | inr no_name ↦ comes_other no_name ]

  -- ---- what is kept

  module _ (body : Body) (come : Comes body) where
    new_node : IsNew s name ty body k.nodes (arena_of k).given root (graph k.graph) (graph k.graph)
    new_node = by_case come
      where
        by_case : Comes body → IsNew s name ty body k.nodes (arena_of k).given root (graph k.graph) (graph k.graph)
        by_case (inl (t, is, (e, at, itself, node, typed))) =
            subst (λ (c : Body). IsNew s name ty c k.nodes (arena_of k).given root (graph k.graph) (graph k.graph)) (sym is) (record {
              plain = (
                tt,
                (
                  slice_get_within s.entries t e at,
                  subst IsOwn (sym (body_old s name ty (alias t) t (slice_get_within s.entries t e at) ∙ entry_body s t e at))
                      (own_body s held.today.plain t e.body (entry_body s t e at) (sym (held.targets t e at) ∙ itself)),
                ),
              );
              apart = λ own i d at_i own_i same. own;
              unkept = refl;
              unbuilt = λ l f o same. cc;
              grab = λ c v l u o same bound. cc;
              owned = tt;
              freezes = λ n r kid f row def. inl row;
            })
        by_case (inr (v, is, built, no_name, none)) =
            subst (λ (c : Body). IsNew s name ty c k.nodes (arena_of k).given root (graph k.graph) (graph k.graph)) (sym is) (record {
              plain = (
                (bind_low, subst IsOwn (sym (body_old s name ty (Grab b v true) b bind_low ∙ bind_body_is)) tt),
                value_refers_more (IsDeclaredTarget s) (IsDeclaredTarget (declared_in s name ty (Grab b v true)))
                    (λ n d. (d.0, body_old s name ty (Grab b v true) n (body_within s n d.0 d.1) ∙ d.1, d.2)) v (held.refers b (Val v) built),
              );
              apart = λ own i d at_i own_i same. none i d at_i own_i same;
              unkept = refl;
              unbuilt = λ l f o same. cc;
              grab = λ c u l t o same bound.
                  let binds : b ≡ c = cc in
                  let e : Some (Computed (Bind left below) of) ≡ Some (Computed (Bind l (Name t)) o) = sym bind_body_is ∙ (ap (body_at s) binds ∙ bound) in
                  no_name t (cc);
              owned = tt;
              freezes = λ n r kid f row def. inl row;
            })

    abbrev after : Kept
    after = with_declared k name ty body root k.room k.bodies k.graph

    old_node : (t : ℕ) → t < length s.entries → node_in (k.nodes ++ root ∷ []) t ≡ node_in k.nodes t
    old_node t low = get_or_append_left k.nodes (root ∷ []) kept.no_node t (let each = held.one_node_each in omega (arith, low, each))

    abbrev Shown : Body → Type 0
    Shown c = Declares (beside M (declared_in s name ty c) (with_declared k name ty c root k.room k.bodies k.graph)) root (Some c)

    shows_it : Declares (beside M (declared_in s name ty body) after) root (Some body)
    shows_it = by_case come
      where
        by_case : Comes body → Shown body
        by_case (inl (t, is, (e, at, itself, node, typed))) =
            subst Shown (sym is) (ap (λ (q : NodeId). term.Ref q) (sym (old_node t (slice_get_within s.entries t e at) ∙ node)))
        by_case (inr (v, is, built, no_name, none)) =
            let w = built_is in
            let values : Some (Val w.1) ≡ Some (Val v) = sym w.5 ∙ built in
            let same : w.1 ≡ v = cc in
            let agree = value_agrees (IsDeclaredTarget s) (node_in k.nodes) (node_in (k.nodes ++ root ∷ [])) (λ t d. old_node t (body_within s t d.0 d.1)) v
            (held.refers b (Val v) built) in
            subst Shown (sym is) (inl (
              w.0,
              ap (λ (q : NodeId). (graph k.graph).built q) (old_node b bind_low) ∙ w.2,
              w.3 ∙ ap (λ (u : Value). outcome.Val (graph_value (node_in k.nodes) u)) same ∙ ap (λ (u : GraphValue). outcome.Val u) agree,
              w.4,
            ))

    places_none : places_of_body body ≡ 0
    places_none = elim come [ inl c ↦ ap places_of_body c.1 | inr c ↦ ap places_of_body c.1 ]

    matched : MatchesMoment M after (record m { present = declared_in s name ty body })
    matched =
        declared_matches M k k.graph k.bodies AnyFunction (same_serve M k) sound sound (extends_itself k.graph) m (nodes_given k h sound s names) name ty body root k.room
        (let none = places_none in omega (arith, none)) (λ names held. new_node) shows_it whole stands.matches

  -- another name for an own declaration of the type that has the root
  pub alias_stands : (t : ℕ) → HasOwn k ty root t → MatchesMoment M (with_grab k (alias_of name ty t) root) (moved m (Take name ty b))
  alias_stands t (d, is, itself, node, typed) =
      let body = grab_of s b (bind_at s b) in
      subst (λ (c : Declared). MatchesMoment M (with_grab k c root) (moved m (Take name ty b))) (declared_is comes) (matched body comes)
    where
      own_entry : (e : Entry) × (entry_at s t ≡ Some e) × (e.target ≡ t)
      own_entry = let e = named_entry k.names s names.declared t d is in (e.0, e.1, ap (λ (c : Declared). c.target) e.2 ∙ itself)

      declared_is : Comes (grab_of s b (bind_at s b)) → declared_at declarations name ty (grab_of s b (bind_at s b)) ≡ alias_of name ty t
      declared_is (inl (u, body_is, (e, at, own, same, ty_is))) =
          let mine = own_entry in
          let names_same : u ≡ t = held.apart u t e mine.0 at mine.1 own mine.2 (same ∙ sym node) in
          ap (declared_at declarations name ty) (body_is ∙ ap alias names_same)
      declared_is (inr (v, body_is, built, no_name, none)) = absurd (let mine = own_entry in none t mine.0 mine.1 mine.2 node)

  -- a grab of its own, where there is none
  pub grab_stands : ((t : ℕ) → HasOwn k ty root t → ⊥) → MatchesMoment M (with_grab k (grab_as declarations name ty) root) (moved m (Take name ty b))
  grab_stands none =
      let body = grab_of s b (bind_at s b) in
      subst (λ (c : Declared). MatchesMoment M (with_grab k c root) (moved m (Take name ty b))) (declared_is comes) (matched body comes)
    where
      declared_is : Comes (grab_of s b (bind_at s b)) → declared_at declarations name ty (grab_of s b (bind_at s b)) ≡ grab_as declarations name ty
      declared_is (inl (u, body_is, (e, at, own, same, ty_is))) = absurd (
          let there : slice_get k.names.declared u ≡ Some (declared_of e) =
          ap (λ (ds : List Declared). slice_get ds u) names.declared ∙ (slice_get-map declared_of s.entries u ∙ ap (option_map declared_of) at) in
          none u (declared_of e, there, own, same, ty_is))
      declared_is (inr (v, body_is, built, no_name, others)) = ap (declared_at declarations name ty) body_is
