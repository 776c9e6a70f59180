-- What the right side that a bind has in the graph tells of what it was last built for.
use Rattle.std.proofs.Common.{◌≡◌, ◌⊎◌, ◌<◌, ◌≤◌, ◌+◌, arith, inl, inr, ℕ, true, false, List, Option, option_map, slice_get, None, Some, IsTrue, IsFalse, refl, ap, sym, subst, ◌∙◌}
use Rattle.std.proofs.lemmas.Bool.{cases_lt}
use Rattle.std.specs.Prelude.{IfNone, IfSome}
use Rattle.formula_lang.specs.Fits.{GrabFits}
use Rattle.graph.specs.Sound.{IsSoundGraph as IsSoundGraph}
use Rattle.graph.specs.Standing.{GraphView, graph, root_in}
use Rattle.inc_terms.specs.Graph.{Built, Def, Row}
use Rattle.inc_terms.specs.Local.{IsRooted}
use Rattle.inc_terms.specs.Rebuilding.{outcome_of}
use Rattle.inc_terms.specs.Within.{Given}
use Rattle.inc_value.specs.declared.function.FnRef.{FnRef}
use Rattle.inc_value.specs.declared.value.Value.{Value as GraphValue}
use Rattle.inc_value.specs.Choice.{and_then}
use Rattle.inc_value.specs.declared.node.NodeId.{NodeId}
use Rattle.inc_value.specs.declared.value.Value as engine
use Rattle.inc_value.specs.declared.outcome.Outcome.TheVariants as outcome
use Rattle.inc_value.specs.declared.ty.Ty.{Ty}
use Rattle.node_arena.specs.Arena.{row_at}
use Rattle.node_arena.specs.Sound as arenas
use Rattle.node_arena.specs.Typing as typing
use Rattle.node_arena.specs.Typing.{Makes}
use Rattle.session.specs.Grabbed.{IsGrabbedAs, IsOwnOfType}
use Rattle.session.specs.Replies.{IsOwnNode}
use Rattle.stabilize_round.specs.Invariant.{Rooted}
use Rattle.node_outcomes.specs.Meaning.{Meaning}
use Rattle.script_graph.proofs.Declaring.{named_entry}
use Rattle.script_graph.proofs.Grabbing.{HasOwn, alias_sound, alias_stands, grab_sound, grab_stands, with_grab}
use Rattle.script_graph.specs.Grabbing.{IsRightSide}
use Rattle.script_graph.specs.Growing.{functions_over}
use Rattle.script_graph.specs.Kept.{Kept, arena_of, node_in, without_functions}
use Rattle.script_graph.specs.Sound.{HasLiveNode, IsLiveBind, IsSoundSession}
use Rattle.script_graph.specs.State.{MatchesMoment, Stands}
use Rattle.script_model.specs.Check.{Bind, Declared, Grab, Kind, Names, Take, is_bind, kind_of_body}
use Rattle.script_model.specs.Formula as model
use Rattle.script_model.specs.Formula.{Body, Computed, Entry, Formula, Meanings, bind_at, bind_of, built_at, meanings_of}
use Rattle.script_model.specs.Step.{Moment, is_built, moved}
use Rattle.script_model.specs.Values.{Outcome, Val, Invalid}
use Rattle.transfer.specs.Both.{graph_outcome, graph_value}

-- ---- what a bind was built for

module _ (nodes : ℕ → NodeId) where
  -- with a root it was built for a value
  by_root : (w : Built) (kept : Option Outcome) → (w.outcome ≡ outcome.Invalid → w.root ≡ None) → Some w.outcome ≡ option_map (graph_outcome nodes) kept
      → (root : NodeId) → w.root ≡ Some root → is_built kept ≡ true
  by_root w None rootless alike root is = absurd (cc)
  by_root w (Some (Val v)) rootless alike root is = refl
  by_root w (Some Invalid) rootless alike root is =
      let invalid : w.outcome ≡ outcome.Invalid = cc in
      let none : None ≡ Some root = sym (rootless invalid) ∙ is in
      absurd (cc)

  pub root_built : (built : Option Built) (kept : Option Outcome) → ((w : Built) → built ≡ Some w → w.outcome ≡ outcome.Invalid → w.root ≡ None)
      → outcome_of built ≡ option_map (graph_outcome nodes) kept → (root : NodeId) → root_in built ≡ Some root → is_built kept ≡ true
  root_built None kept rootless alike root is = absurd (cc)
  root_built (Some w) kept rootless alike root is = by_root w kept (rootless w refl) alike root is

  -- without one it was built for Invalid, or never
  by_none : (w : Built) (kept : Option Outcome) → ((v : engine.Value) → w.outcome ≡ outcome.Val v → (root : NodeId) × (w.root ≡ Some root))
      → Some w.outcome ≡ option_map (graph_outcome nodes) kept → w.root ≡ None → is_built kept ≡ false
  by_none w None rooted alike none = refl
  by_none w (Some Invalid) rooted alike none = refl
  by_none w (Some (Val v)) rooted alike none =
      let is : w.outcome ≡ outcome.Val (graph_value nodes v) = cc in
      let root = rooted (graph_value nodes v) is in
      let e : None ≡ Some root.0 = sym none ∙ root.1 in
      absurd (cc)

  pub none_built : (built : Option Built) (kept : Option Outcome)
      → ((w : Built) → built ≡ Some w → (v : engine.Value) → w.outcome ≡ outcome.Val v → (root : NodeId) × (w.root ≡ Some root))
      → outcome_of built ≡ option_map (graph_outcome nodes) kept → root_in built ≡ None → is_built kept ≡ false
  none_built None None rooted alike none = refl
  none_built None (Some o) rooted alike none = absurd (cc)
  none_built (Some w) kept rooted alike none = by_none w kept (rooted w refl) alike none

-- what was answered is the root
pub is_root : (o : Option NodeId) (built : Option Built) → o ≡ root_in built → IfSome o (λ (r : NodeId). root_in built ≡ Some r)
is_root None built is = tt
is_root (Some r) built is = sym is

pub with_root : {P : Type 0} (o : Option NodeId) (built : Option Built) → o ≡ root_in built → ((r : NodeId) → root_in built ≡ Some r → P)
    → IfSome o (λ (r : NodeId). P)
with_root None built is so = tt
with_root (Some r) built is so = so r (sym is)

pub without_root : {P : Type 0} (o : Option NodeId) (built : Option Built) → o ≡ root_in built → (root_in built ≡ None → P) → IfNone o P
without_root None built is so = so (sym is)
without_root (Some r) built is so = tt

-- ---- the bind of a grab

bind_there : (b : Body) → kind_of_body b ≡ Bind → (both : Formula × Formula) × (bind_of b ≡ Some both)
bind_there (Computed (model.Bind left body) kept) is = ((left, body), refl)
bind_there b is = absurd (cc)

kind_is : (k : Option Kind) → IsTrue (is_bind k) → k ≡ Some Bind
kind_is (Some Bind) is = refl
kind_is k is = absurd (cc)

module _ (k : Kept) (sound : IsSoundSession k) (name : List ℕ) (ty : Ty) (bind : ℕ) (fits : GrabFits k.names name ty bind) where
  -- its declaration stands for itself
  target : (d : Declared) × (slice_get k.names.declared bind ≡ Some d) × (d.target ≡ bind) × (d.kind ≡ Bind)
  target =
      let f = fits.bind_fits in
      let t = (sound.has_nodes f.place f.declared f.stands).target in
      let at : slice_get k.names.declared bind ≡ Some t.target = subst (λ (n : ℕ). slice_get k.names.declared n ≡ Some t.target) f.target t.is_target in
      let kind : and_then (slice_get k.names.declared bind) (λ d. Some d.kind) ≡ Some Bind = kind_is _ fits.is_bind in
      let same : Some t.target.kind ≡ Some Bind = sym (ap (λ (o : Option Declared). and_then o (λ d. Some d.kind)) at) ∙ kind in
      (t.target, at, t.itself ∙ f.target, (cc))

  -- its node is a live bind
  live : IsLiveBind (arena_of k) (node_in k.nodes bind)
  live =
      let t = target in
      ((sound.has_nodes bind t.0 t.1).live t.2 (λ grab. let e : Bind ≡ Grab = sym t.3 ∙ grab in cc)).bind t.3

  -- of each moment it is a bind
  its_bind : (F : Meanings) (m : Moment) → MatchesMoment F k m → (both : Formula × Formula) × (bind_at m.present bind ≡ Some both)
  its_bind F m matches =
      let t = target in
      let e = named_entry k.names m.present matches.names.declared bind t.0 t.1 in
      let b = bind_there e.0.body (ap (λ (d : Declared). d.kind) e.2 ∙ t.3) in
      (b.0, ap (λ (o : Option Entry). and_then (and_then o (λ (d : Entry). Some d.body)) bind_of) e.1 ∙ b.1)

  module _ {A : Type 0} (W : Meaning) (g : GraphView A) (graph_is : k.graph ≡ without_functions g) (unbroken : k.broken ≡ None) (sane : IsSoundGraph W g) where
    abbrev its_built : Option Built
    its_built = (graph g).built (node_in k.nodes bind)

    rooted : (w : Built) → its_built ≡ Some w → IsRooted W.functions (graph g) (node_in k.nodes bind) live.2 live.3 w
    rooted w is =
        let there = subst (λ (s : GraphView (Unit {0})). row_at s.nodes (node_in k.nodes bind) ≡ Some live.0) graph_is live.4 in
        sane.built (node_in k.nodes bind) live.0 live.1 live.2 live.3 w there live.5 is

    alike : (F : Meanings) (m : Moment) → MatchesMoment F k m → outcome_of its_built ≡ option_map (graph_outcome (node_in k.nodes)) (built_at m.present bind)
    alike F m matches =
        let b = its_bind F m matches in
        ap (λ (s : GraphView (Unit {0})). outcome_of ((graph s).built (node_in k.nodes bind))) (sym graph_is)
        ∙ (matches.represents (matches.broken ∙ unbroken)).built bind b.0.0 b.0.1 b.1

    pub built_of_root : (F : Meanings) (m : Moment) → MatchesMoment F k m → (root : NodeId) → root_in its_built ≡ Some root
        → IsTrue (is_built (built_at m.present bind))
    built_of_root F m matches root is =
        root_built (node_in k.nodes) its_built (built_at m.present bind) (λ w at. (rooted w at).rootless) (alike F m matches) root is

    pub unbuilt_of_none : (F : Meanings) (m : Moment) → MatchesMoment F k m → root_in its_built ≡ None → IsFalse (is_built (built_at m.present bind))
    unbuilt_of_none F m matches none =
        none_built (node_in k.nodes) its_built (built_at m.present bind) (λ w at v is. let r = (rooted w at).unfolds v is in (r.0, r.1)) (alike F m matches) none

-- ---- the root's type

by_built : {P : Type 0} (built : Option Built) (root : NodeId) → root_in built ≡ Some root → ((w : Built) → built ≡ Some w → w.root ≡ Some root → P) → P
by_built None root is go = absurd (cc)
by_built (Some w) root is go = go w refl is

module _ (k : Kept) (sound : IsSoundSession k) (name : List ℕ) (ty : Ty) (bind : ℕ) (fits : GrabFits k.names name ty bind) {A : Type 0} (W : Meaning) (g : GraphView A)
    (graph_is : k.graph ≡ without_functions g) (sane : IsSoundGraph W g) where
  -- its declaration's node is live
  its_live : HasLiveNode (arena_of k) k.nodes bind (target k sound name ty bind fits).0
  its_live =
      let t = target k sound name ty bind fits in
      (sound.has_nodes bind t.0 t.1).live t.2 (λ grab. let e : Bind ≡ Grab = sym t.3 ∙ grab in cc)

  -- which is of the bind's type
  live_ty : its_live.row.ty ≡ ty
  unfolding target
  live_ty =
      let f = fits.bind_fits in
      let t = (sound.has_nodes f.place f.declared f.stands).target in
      its_live.typed ∙ (t.typed ∙ f.typed)

  there : row_at g.nodes (node_in k.nodes bind) ≡ Some its_live.row
  there = subst (λ (s : GraphView (Unit {0})). row_at s.nodes (node_in k.nodes bind) ≡ Some its_live.row) graph_is its_live.is_row

  pub root_fits : (root : NodeId) → root_in ((graph g).built (node_in k.nodes bind)) ≡ Some root
      → Given (arena_of k).given root × typing.Fits (arena_of k) root ty
  root_fits root is = by_built ((graph g).built (node_in k.nodes bind)) root is (λ w built is_root.
      let b = live k sound name ty bind fits in
      let here : row_at g.nodes (node_in k.nodes bind) ≡ Some b.0 =
      subst (λ (s : GraphView (Unit {0})). row_at s.nodes (node_in k.nodes bind) ≡ Some b.0) graph_is b.4 in
      let e : Some b.0 ≡ Some its_live.row = sym here ∙ there in
      let same : b.0 ≡ its_live.row = cc in
      let makes = subst (λ (d : Def). Makes g.nodes d b.0.ty) b.5 (sane.nodes.types (node_in k.nodes bind) b.0 here) in
      let gives : b.2.sig.gives ≡ ty = makes.gives ∙ (ap (λ (r : Row). r.ty) same ∙ live_ty) in
      let fit = sane.typed (node_in k.nodes bind) b.0 b.1 b.2 b.3 w root here b.5 built is_root in
      subst (λ (s : GraphView (Unit {0})). Given s.nodes.given root × typing.Fits s.nodes root ty) (sym graph_is)
      (fit.0, subst (typing.Fits g.nodes root) gives fit.1))

-- ---- the declaration of a type that has a node

module _ (names : Names) (nodes : List NodeId) (n : NodeId) (ty : Ty) (position : ℕ) (d : Declared) (there : slice_get names.declared position ≡ Some d) where
  -- it stands for itself, and is of the type
  pub own_typed : IsOwnNode names nodes n position → d.ty ≡ ty → IsOwnOfType names nodes n ty position
  own_typed own typed =
      let e : Some own.declared ≡ Some d = sym own.is_declared ∙ there in
      let same : own.declared ≡ d = cc in
      record { own = own; typed = ap (λ (x : Declared). x.ty) same ∙ typed }

  pub type_of_own : IsOwnOfType names nodes n ty position → d.ty ≡ ty
  type_of_own is =
      let e : Some d ≡ Some is.own.declared = sym there ∙ is.own.is_declared in
      let same : d ≡ is.own.declared = cc in
      ap (λ (x : Declared). x.ty) same ∙ is.typed

-- what is so of none before a position, nor of it, is so of none up to it
pub none_more : (P : ℕ → Type 0) (i : ℕ) → ((p : ℕ) → p < i → P p → ⊥) → (P i → ⊥) → (p : ℕ) → p < i + 1 → P p → ⊥
none_more P i before here p low is = go (cases_lt p i)
  where
    go : (p < i) ⊎ (i ≤ p) → ⊥
    go (inl less) = before p less is
    go (inr more) = let same : p ≡ i = omega (arith, low, more) in here (subst P same is)

-- ---- a name for the root

module _ (k : Kept) (ty : Ty) (root : NodeId) where
  has_own : (t : ℕ) → IsOwnOfType k.names k.nodes root ty t → HasOwn k ty root t
  has_own t is = (is.own.declared, is.own.is_declared, is.own.own, is.own.is_node, is.typed)

  own_has : (t : ℕ) → HasOwn k ty root t → IsOwnOfType k.names k.nodes root ty t
  own_has t has = record { own = record { declared = has.0; is_declared = has.1; own = has.2; is_node = has.3 }; typed = has.4 }

  -- the name as it is declared
  abbrev named_as : List ℕ → Kind → ℕ → Declared
  named_as name kind target = record { name = name; ty = ty; kind = kind; target = target }

  module _ (name : List ℕ) (kind : Kind) (target : ℕ) (is : IsGrabbedAs k.names k.nodes root ty kind target) where
    -- what is kept with it fits together
    pub grabbed_sound : (sound : IsSoundSession k) → arenas.IsSoundArena (arena_of k) → Given (arena_of k).given root × typing.Fits (arena_of k) root ty
        → IsSoundSession (with_grab k (named_as name kind target) root)
    grabbed_sound sound arena fits = go is
      where
        go : IsGrabbedAs k.names k.nodes root ty kind target → IsSoundSession (with_grab k (named_as name kind target) root)
        go (inl (kind_is, own)) = rw kind_is (alias_sound k sound arena name ty root target (has_own target own))
        go (inr (kind_is, itself, none)) = rw (kind_is, itself) (grab_sound k sound arena name ty root fits)

    -- and matches the moment behind the grab
    pub grabbed_stands : (named : List ℕ → Option FnRef) (value : FnRef → List GraphValue → GraphValue) (sound : IsSoundSession k) → arenas.IsSoundArena (arena_of k)
        → Rooted (functions_over value k.bodies) (graph k.graph) → (bind : ℕ) → GrabFits k.names name ty bind → IsRightSide k bind root → (m : Moment)
        → Stands (meanings_of named value) k m → m.broken ≡ None
        → MatchesMoment (meanings_of named value) (with_grab k (named_as name kind target) root) (moved m (Take name ty bind))
    grabbed_stands named value sound arena rooted bind fits right m stands unbroken = go is
      where
        go : IsGrabbedAs k.names k.nodes root ty kind target
            → MatchesMoment (meanings_of named value) (with_grab k (named_as name kind target) root) (moved m (Take name ty bind))
        go (inl (kind_is, own)) =
            rw kind_is (alias_stands named value k sound arena rooted name ty bind root fits right m stands unbroken target (has_own target own))
        go (inr (kind_is, itself, none)) =
            rw (kind_is, itself)
            (grab_stands named value k sound arena rooted name ty bind root fits right m stands unbroken (λ t has. none t (own_has t has)))
