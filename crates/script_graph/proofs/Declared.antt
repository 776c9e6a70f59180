-- A script after a declaration, after one that was taken back, and after an assignment, over a graph with its functions.
use Rattle.std.proofs.Common.{◌≡◌, ◌⊎◌, inl, inr, ℕ, pos, ◌+◌, ◌<◌, ◌≤◌, Bool, true, List, [], ◌∷◌, ◌++◌, cond, map, length, Option, None, Some, IfSome, IsTrue, option_map, unwrap_or, refl, ap, sym, subst, ◌∙◌, arith, slice_get}
use Rattle.std.proofs.lemmas.List.{get_or_append_left, get_or_at}
use Rattle.std.proofs.lemmas.Option.{none-some, slice_get-get_or, slice_get-map}
use Rattle.formula_lang.specs.Fits.{AssignmentFits, BodyFits, DeclarationFits, NameFits, ReferenceFits}
use Rattle.formula_elab.specs.Laying.{laid_body}
use Rattle.formula_elab.specs.Made.{StandsAlike, StandsIn}
use Rattle.formula_elab.specs.Names.{EveryNameOf}
use Rattle.formula_elab.specs.Opened.{filled, node_at, node_of}
use Rattle.formula_elab.specs.Types.{type_at}
use Rattle.formula_elab.specs.declared.make.Made.{Made}
use Rattle.formula_elab.specs.declared.opened.Open.{Open}
use Rattle.formula_elab.specs.declared.plan.Planned.{Planned}
use Rattle.formula_elab.proofs.Weights.{one_node_each}
use Rattle.graph.specs.Effects.{Sets, TakesBack, TakesBeside}
use Rattle.graph.specs.Standing.{GraphView, graph}
use Rattle.inc_value.specs.declared.function.FnKind.{FnKind}
use Rattle.inc_value.specs.declared.function.FnRef.{FnRef}
use Rattle.inc_value.specs.Ty.{same_ty, type_of_base}
use Rattle.inc_value.specs.declared.node.NodeId.{NodeId}
use Rattle.inc_value.specs.declared.node.ObsId.{ObsId}
use Rattle.inc_value.specs.declared.ty.Base.TheVariants as base
use Rattle.inc_value.specs.declared.ty.Ty.{Ty}
use Rattle.inc_value.specs.declared.ty.Ty.TheVariants as types
use Rattle.inc_value.specs.declared.value.Value.{Value as GraphValue}
use Rattle.inc_value.specs.Choice.{and_then}
use Rattle.inc_terms.specs.Graph.{Row}
use Rattle.inc_terms.specs.Term.{Functions}
use Rattle.link_table.proofs.Lists.{get_append_last}
use Rattle.inc_terms.specs.Within.{Given, ValueWithin}
use Rattle.node_arena.specs.Arena.{Arena, row_at, IsVariable}
use Rattle.node_arena.specs.Sound as arena
use Rattle.node_arena.specs.Typing as typing
use Rattle.node_arena.specs.Typing.{Fits, FitsNode, HasType}
use Rattle.script_functions.specs.Bodies as Bodies
use Rattle.script_functions.specs.Keeping.{is_known, makers, side_in}
use Rattle.script_model.specs.Check.{Assign, Declare, Declared, Kind, Names, Variable as VariableKind, Bind as BindKind, Expert as ExpertKind, Grab as GrabKind, declared_of, element_of, is_variable, kind_of_body, target_of_body}
use Rattle.script_model.specs.Formula.{State, Body, Formula, Kept as KeptOf, Meanings, meanings_of, places_of_body, Name, Bind, Variable, Computed, Freeze, After, Every, Expert, Grab}
use Rattle.script_model.specs.Step.{Moment, declared_in, moved}
use Rattle.script_model.specs.Valid.{FoldsOver}
use Rattle.script_model.specs.Values.{Value, Int, Bool as Truth, Text, Reference, type_of}
use Rattle.script_graph.specs.Growing.{AllPlannedFit, AreServed, Extends, IsMaking, KeepsBodies, PartFits, functions_over}
use Rattle.script_graph.specs.Kept as kept
use Rattle.script_graph.specs.Kept.{Kept, arena_of, node_in, without_functions}
use Rattle.script_graph.specs.Represents.{AreNames, beside, graph_functions}
use Rattle.script_graph.specs.Sound.{AreFew, HasLiveNode, HasTarget, HaveNodes, IsLiveBind, IsSoundSession}
use Rattle.script_graph.specs.State.{MatchesMoment}
use Rattle.script_graph.proofs.Bodies.{AreKnown, IsKnownSide, terms_stay}
use Rattle.script_graph.proofs.Declaring.{declaring_stands, with_declared}
use Rattle.script_graph.proofs.Extending.{BodiesServe, NodesGiven, WereLive, beside_without, counts_at, extends_without, stands_on, taken_back_extends}
use Rattle.script_graph.proofs.Few.{few_back, few_made}
use Rattle.script_graph.proofs.Functions.{functions_are}
use Rattle.script_graph.proofs.Laying.{body_laid_out, every_name_of, graph_type, laid_fits}
use Rattle.script_graph.proofs.Owned.{IsOfKind, made_declares, made_owned, made_root, made_unbuilt, made_unfrozen}
use Rattle.script_graph.proofs.Owning.{HasOwnNode}
use Rattle.script_graph.proofs.Setting.{setting_stands}
use Rattle.script_graph.proofs.Unfrozen.{made_freezes}
use Rattle.script_graph.proofs.Sounding.{declared_at, declared_still, node_fits, node_given, sound_declared, sound_on, sound_set}
use Rattle.transfer.specs.Both.{Both, graph_value}
use Rattle.transfer.specs.Keeping.{TermsStay}
use Rattle.transfer.proofs.Typed.{body_entry}

-- ---- the nodes of names

pub same_default : (nodes : List NodeId) (n : ℕ) → n < length nodes → node_at nodes n ≡ node_in nodes n
same_default nodes n low =
    let e : Some (node_at nodes n) ≡ Some (node_in nodes n) = sym (slice_get-get_or nodes n _ low) ∙ slice_get-get_or nodes n _ low in cc

-- what a name that fits stands for has its node, which was given, and is of the name's type or dead
pub names_there : (a : Arena) → arena.IsSoundArena a → (names : Names) (nodes : List NodeId) → length nodes ≡ length names.declared
    → HaveNodes a names.declared nodes → (position : ℕ) (t : Ty) → NameFits names position t
    → Given a.given (node_at nodes position) × Fits a (node_at nodes position) t
names_there a sound names nodes one_each has position t fits =
    let target = (has fits.place fits.declared fits.stands).target in
    let own = node_fits a sound names.declared nodes has fits.declared.target target.target target.is_target in
    let low : position < length nodes = omega (arith, fits.earlier, one_each) in
    let same : node_at nodes position ≡ node_in nodes fits.declared.target = same_default nodes position low ∙ ap (node_in nodes) (sym fits.target) in
    subst (λ (q : NodeId). Given a.given q × Fits a q t) (sym same)
    (own.0, subst (Fits a (node_in nodes fits.declared.target)) (target.typed ∙ fits.typed) own.1)

-- it is declared with the name's type
pub names_typed : (a : Arena) (names : Names) (nodes : List NodeId) → HaveNodes a names.declared nodes → (position : ℕ) (t : Ty)
    → NameFits names position t → type_at names position ≡ t
names_typed a names nodes has position t fits =
    let own = (has fits.place fits.declared fits.stands).target in
    let there : slice_get names.declared position ≡ Some own.target =
    subst (λ (j : ℕ). slice_get names.declared j ≡ Some own.target) fits.target own.is_target in
    ap (λ (o : Option Declared). elim o [ None ↦ types.Int | Some d ↦ d.ty ]) there ∙ (own.typed ∙ fits.typed)

-- the positions of names are those of nodes
pub names_within : (known : FnRef → Bool) (names : Names) (nodes : List NodeId) → length nodes ≡ length names.declared → (body : Body) (ty : Ty)
    → BodyFits known names body ty → EveryNameOf (λ n. n < length nodes) body
names_within known names nodes one_each body ty fits =
    every_name_of known names (λ n. n < length nodes) (λ position t fine. omega (arith, fine.earlier, one_each)) body ty fits

-- ---- after a declaration

-- what counts spans counts them from the present time on, a freeze keeps nothing, and an expert lists nothing
stands_alike : (known : FnRef → Bool) (names : Names) (x : Both) (n : NodeId) (body : Body) (ty : Ty) → BodyFits known names body ty
    → x.graph.now ≡ pos x.state.now → names.now ≡ x.state.now
    → (HasOwnNode body → (x.graph.frozen n ≡ None) × (x.graph.lists n ≡ [])) → StandsAlike x n body
stands_alike known names x n (Every base span) ty fits clock now none =
    let is = fits.1 in counts_at x.graph.now x.state.now base span clock (omega (arith, is, now))
stands_alike known names x n (Freeze child predicate frozen) ty fits clock now none =
    (none tt).0 ∙ sym (ap (option_map (graph_value x.nodes)) fits.1)
stands_alike known names x n (Expert f first links stale) ty fits clock now none = (none tt).1 ∙ sym (ap (map x.nodes) fits.1)
stands_alike known names x n body ty fits clock now none = tt

-- what is declared is no grab
no_grab : (known : FnRef → Bool) (names : Names) (body : Body) (ty : Ty) → BodyFits known names body ty → kind_of_body body ≡ GrabKind → ⊥
no_grab known names (Variable v) ty fits is = cc
no_grab known names (Computed (Bind left body) kept) ty fits is = cc
no_grab known names (Computed f kept) ty fits is = cc
no_grab known names (After time) ty fits is = cc
no_grab known names (Every base span) ty fits is = cc
no_grab known names (Freeze child predicate frozen) ty fits is = cc
no_grab known names (Expert f first links stale) ty fits is = cc
no_grab known names (Grab bind v is_live) ty fits is = fits

-- what stands for itself has a node of its own
own_of_target : (known : FnRef → Bool) (names : Names) (body : Body) (ty : Ty) → BodyFits known names body ty
    → target_of_body (length names.declared) body ≡ length names.declared → HasOwnNode body
own_of_target known names (Variable v) ty fits itself = tt
own_of_target known names (Computed (Name t) kept) ty fits itself =
    let low = fits.0.earlier in let same : t ≡ length names.declared = itself in absurd (omega (arith, low, same))
own_of_target known names (Computed f kept) ty fits itself = tt
own_of_target known names (After time) ty fits itself = tt
own_of_target known names (Every base span) ty fits itself = tt
own_of_target known names (Freeze child predicate frozen) ty fits itself = tt
own_of_target known names (Expert f first links stale) ty fits itself = tt
own_of_target known names (Grab bind v is_live) ty fits itself = absurd fits

variable_of : (body : Body) → kind_of_body body ≡ VariableKind → (v : Value) × (body ≡ Variable v)
variable_of (Variable v) is = (v, refl)
variable_of (Computed (Bind left body) kept) is = absurd (cc)
variable_of (Computed f kept) is = absurd (cc)
variable_of body is = absurd (cc)

bind_of_kind : (body : Body) → kind_of_body body ≡ BindKind → (left : Formula) × (below : Formula) × (kept : KeptOf) × (body ≡ Computed (Bind left below) kept)
bind_of_kind (Computed (Bind left body) kept) is = (left, body, kept, refl)
bind_of_kind (Computed f kept) is = absurd (cc)
bind_of_kind body is = absurd (cc)

pub expert_of_kind : (body : Body) (element : Ty) → kind_of_body body ≡ ExpertKind element
    → (f : FnRef) × (first : Value) × (links : List ℕ) × (stale : ℕ) × (body ≡ Expert f first links stale)
    × (unwrap_or (element_of f f.sig.takes) types.Int ≡ element)
expert_of_kind (Expert f first links stale) element is = (f, first, links, stale, refl, (cc))
expert_of_kind (Computed (Bind left body) kept) element is = absurd (cc)
expert_of_kind (Computed f kept) element is = absurd (cc)
expert_of_kind body element is = absurd (cc)

same_ty_itself : (t : Ty) → same_ty t t ≡ true
same_ty_itself types.Int = refl
same_ty_itself types.Bool = refl
same_ty_itself types.Text = refl
same_ty_itself (types.Node base.Int) = refl
same_ty_itself (types.Node base.Bool) = refl
same_ty_itself (types.Node base.Text) = refl

-- the elements of a fold
folded_element : (f : FnRef) (t element : Ty) → FoldsOver f t element → unwrap_or (element_of f f.sig.takes) types.Int ≡ element
folded_element f t element folds =
    ap (λ (tys : List Ty). unwrap_or (element_of f tys) types.Int) folds.0
    ∙ ap (λ (b : Bool). unwrap_or (cond b (Some element) None) types.Int) (ap (same_ty t) folds.1 ∙ same_ty_itself t)

-- it has its target
new_target : (known : FnRef → Bool) (a : Arena) (names : Names) (nodes : List NodeId) → HaveNodes a names.declared nodes → (made : List Made)
    (name : List ℕ) (body : Body) (ty : Ty) → BodyFits known names body ty
    → ((position : ℕ) → position < length names.declared
    → node_at nodes position ≡ node_in (nodes ++ node_of made (laid_body (node_at nodes) (type_at names) 0 body).root ∷ []) position)
    → node_in (nodes ++ node_of made (laid_body (node_at nodes) (type_at names) 0 body).root ∷ []) (length names.declared)
    ≡ node_of made (laid_body (node_at nodes) (type_at names) 0 body).root
    → HasTarget (names.declared ++ declared_at (length names.declared) name ty body ∷ []) (nodes ++ node_of made (laid_body (node_at nodes) (type_at names) 0 body).root ∷ [])
    (length names.declared) (declared_at (length names.declared) name ty body)
new_target known a names nodes has made name (Computed (Name t) kept) ty fits same new =
    let own = (has fits.0.place fits.0.declared fits.0.stands).target in
    let last = declared_at (length names.declared) name ty (Computed (Name t) kept) in
    record {
      target = own.target;
      is_target = subst (λ (j : ℕ). slice_get (names.declared ++ last ∷ []) j ≡ Some own.target) fits.0.target
          (declared_still names.declared last fits.0.declared.target own.target own.is_target);
      itself = own.itself ∙ fits.0.target;
      typed = own.typed ∙ fits.0.typed;
      node = sym (same t fits.0.earlier) ∙ sym new;
    }
new_target known a names nodes has made name (Computed f kept) ty fits same new =
    record { target = _; is_target = get_append_last names.declared _; itself = refl; typed = refl; node = refl }
new_target known a names nodes has made name body ty fits same new =
    record { target = _; is_target = get_append_last names.declared _; itself = refl; typed = refl; node = refl }

-- the nodes of declarations were given
pub nodes_given : (k : Kept) → IsSoundSession k → arena.IsSoundArena (arena_of k) → (s : State) → AreNames k.names s → NodesGiven s k
nodes_given k h sound s names n b is =
    let e = body_entry s n b is in
    let declared : slice_get k.names.declared n ≡ Some (declared_of e.0) =
    ap (λ (ds : List Declared). slice_get ds n) names.declared ∙ (slice_get-map declared_of s.entries n ∙ ap (option_map declared_of) e.1) in
    node_given (arena_of k) sound k.names.declared k.nodes h.has_nodes n (declared_of e.0) declared

module _ {F : Type 0} (first now : GraphView F) (names : Names) (nodes : List NodeId) (observers : List ObsId) (room accepted : ℕ) (broken : Option ℕ)
    (bodies bodies' : List Bodies.Body) where
  abbrev before : Kept
  before = record {
    names = names;
    nodes = nodes;
    observers = observers;
    room = room;
    accepted = accepted;
    broken = broken;
    bodies = bodies;
    graph = without_functions first;
  }

  -- where nodes were added and taken back, all is as it was
  abbrev returned : Kept
  returned = record before { bodies = bodies'; graph = without_functions now }

  module _ (h : IsSoundSession before) (sound : arena.IsSoundArena first.nodes) (sound' : arena.IsSoundArena now.nodes) (maps : FnRef → Bool) (are : AreKnown maps bodies first)
      (most : ℕ) (keeps : KeepsBodies bodies bodies' most) where
    abbrev Q : FnKind → FnRef → Type 0
    Q = IsKnownSide (is_known maps (makers bodies))

    serve : (M : Meanings) → BodiesServe M before bodies' Q
    serve M x functions is =
        subst (λ (bs : List Bodies.Body). TermsStay x (graph_functions M bs) Q) (sym keeps.behind) (terms_stay maps bodies keeps.more first are M x functions is)

    pub returned_sound : Extends first now → WereLive first.nodes now.nodes → IsSoundSession returned
    returned_sound more were =
        sound_on before h sound (without_functions now) (extends_without first now more) bodies'
        (subst (λ (bs : List Bodies.Body). AreFew bs now.nodes room) (sym keeps.behind) (few_back maps bodies keeps.more first are now.nodes room were more.given h.few))

    pub returned_stands : Extends first now → WereLive first.nodes now.nodes → (named : List ℕ → Option FnRef) (value : FnRef → List GraphValue → GraphValue) (m : Moment)
        → MatchesMoment (meanings_of named value) before m → MatchesMoment (meanings_of named value) returned m
    returned_stands more were named value m matches =
        stands_on (meanings_of named value) before (without_functions now) bodies' Q (serve (meanings_of named value)) sound sound'
        (extends_without first now more) were m (nodes_given before h sound m.present matches.names) matches

    module _ (name : List ℕ) (ty : Ty) (body : Body) (fits : DeclarationFits maps names name ty body)
        (made : List Made) (less : ℕ) (room_is : less + places_of_body body ≡ room) where
      abbrev makes : List Planned
      makes = (laid_body (node_at nodes) (type_at names) 0 body).makes

      abbrev root : NodeId
      root = node_of made (laid_body (node_at nodes) (type_at names) 0 body).root

      abbrev after : Kept
      after = with_declared before name ty body root less bodies' (without_functions now)

      node_new : node_in (nodes ++ root ∷ []) (length names.declared) ≡ root
      node_new = get_or_at nodes root [] kept.no_node (length names.declared) h.one_node_each

      node_same : (position : ℕ) → position < length names.declared → node_at nodes position ≡ node_in (nodes ++ root ∷ []) position
      node_same position low =
          let inside : position < length nodes = (let each = h.one_node_each in omega (arith, low, each)) in
          same_default nodes position inside ∙ sym (get_or_append_left nodes (root ∷ []) kept.no_node position inside)

      there : (position : ℕ) (t : Ty) → NameFits names position t → Given first.nodes.given (node_at nodes position) × Fits first.nodes (node_at nodes position) t
      there = names_there first.nodes sound names nodes h.one_node_each h.has_nodes

      declared_type : (position : ℕ) (t : Ty) → NameFits names position t → type_at names position ≡ t
      declared_type = names_typed first.nodes names nodes h.has_nodes

      laid : AllPlannedFit maps first.nodes makes × PartFits first.nodes makes ty (laid_body (node_at nodes) (type_at names) 0 body).root
      laid = laid_fits maps first.nodes (node_at nodes) (type_at names) names there declared_type h.clock body ty fits.body_fits

      -- over functions that are those of the library and these bodies
      module _ (named : List ℕ → Option FnRef) (value : FnRef → List GraphValue → GraphValue)
          (making : IsMaking (functions_over value bodies') first now makes made) (whole : length made ≡ length makes) where
        abbrev H : Functions
        H = functions_over value bodies'

        more : Extends (without_functions first) (without_functions now)
        more = extends_without first now making.extends

        pub declared_stands : (m : Moment) → m.broken ≡ None
            → MatchesMoment (meanings_of named value) before m → MatchesMoment (meanings_of named value) after (moved m (Declare name ty body))
        declared_stands m unbroken matches =
            let M = meanings_of named value in
            let x = beside M (declared_in m.present name ty body) after in
            let stands = subst (λ (f : Functions). StandsIn f (graph now) makes made) (sym (functions_are named value bodies')) making.stands in
            declaring_stands named value maps before (without_functions now) bodies' Q (serve M) sound sound' more m
            (nodes_given before h sound m.present matches.names) name ty body root less fits room_is
            (made_owned maps names H first now (node_at nodes) (type_at names) made body ty fits.body_fits making whole)
            (λ own. made_unbuilt maps names H first now (node_at nodes) (type_at names) made body ty fits.body_fits making whole own)
            (made_freezes H first now (node_at nodes) (type_at names) made body making)
            (made_declares maps names x (node_at nodes) (type_at names) made body ty fits.body_fits
            (λ position t fine. node_same position fine.earlier)
            (stands_alike maps names x root body ty fits.body_fits (making.extends.time ∙ (matches.represents unbroken).clock) matches.names.now
            (λ own. made_unfrozen maps names H first now (node_at nodes) (type_at names) made body ty fits.body_fits making whole own)) stands whole)
            unbroken matches

        module _ (known' : FnRef → Bool) (served : AreServed known' (side_in (makers bodies')) makes made) where
          few : AreFew bodies' now.nodes less
          few = subst (λ (bs : List Bodies.Body). AreFew bs now.nodes less) (sym keeps.behind)
              (few_made maps bodies keeps.more H first now are makes made making known'
              (subst (λ (bs : List Bodies.Body). AreServed known' (side_in (makers bs)) makes made) keeps.behind served) sound' room less
              (let each = one_node_each (node_at nodes) (type_at names) body (body_laid_out maps names body ty fits.body_fits) in omega (arith, each, room_is)) h.few)

          abbrev last : Declared
          last = declared_at (length names.declared) name ty body

          live_new : target_of_body (length names.declared) body ≡ length names.declared
              → HasLiveNode now.nodes (nodes ++ root ∷ []) (length names.declared) last
          live_new itself =
              let own = own_of_target maps names body ty fits.body_fits itself in
              let t = made_root maps names H first now (node_at nodes) (type_at names) made body ty fits.body_fits making whole laid.1 own in
              record {
                row = t.0;
                is_row = ap (row_at now.nodes) node_new ∙ t.2;
                typed = t.3;
                outside = t.4;
                variable = λ is. variable_here t.0 t.1 t.2 t.5 t.6 is;
                bind = λ is. bind_here t.0 t.1 t.2 t.5 t.6 is;
                expert = λ element is. expert_here t.0 t.1 t.2 t.5 t.6 element is;
              }
            where
              variable_here : (row : Row) (z : Open) → row_at now.nodes root ≡ Some row → row.def ≡ filled made z
                  → IsOfKind maps names H first now (node_at nodes) (type_at names) made body z
                  → kind_of_body body ≡ VariableKind → IsVariable now.nodes (node_in (nodes ++ root ∷ []) (length names.declared))
              variable_here row z is def of_kind kind =
                  let v = variable_of body kind in
                  let w = subst (λ (b : Body). IsOfKind maps names H first now (node_at nodes) (type_at names) made b z) v.1 of_kind in
                  record { row = row; value = w.0; there = ap (row_at now.nodes) node_new ∙ is; variable = def ∙ ap (filled made) w.1 }

              bind_here : (row : Row) (z : Open) → row_at now.nodes root ≡ Some row → row.def ≡ filled made z
                  → IsOfKind maps names H first now (node_at nodes) (type_at names) made body z
                  → kind_of_body body ≡ BindKind → IsLiveBind now.nodes (node_in (nodes ++ root ∷ []) (length names.declared))
              bind_here row z is def of_kind kind =
                  let b = bind_of_kind body kind in
                  let w = subst (λ (b : Body). IsOfKind maps names H first now (node_at nodes) (type_at names) made b z) b.3 of_kind in
                  (row, _, _, _, ap (row_at now.nodes) node_new ∙ is, def ∙ ap (filled made) w.3)

              expert_here : (row : Row) (z : Open) → row_at now.nodes root ≡ Some row → row.def ≡ filled made z
                  → IsOfKind maps names H first now (node_at nodes) (type_at names) made body z → (element : Ty)
                  → kind_of_body body ≡ ExpertKind element → TakesBeside now.nodes (node_in (nodes ++ root ∷ []) (length names.declared)) element
              expert_here row z is def of_kind element kind =
                  let e = expert_of_kind body element kind in
                  let w = subst (λ (b : Body). IsOfKind maps names H first now (node_at nodes) (type_at names) made b z) e.4 of_kind in
                  let folds = (subst (λ (b : Body). BodyFits maps names b ty) e.4 fits.body_fits).0 in
                  let same : folds.element ≡ element = sym (folded_element e.0 ty folds.element folds.folds) ∙ e.5 in (
                    row,
                    e.0,
                    graph_value (node_at nodes) e.1,
                    [],
                    ap (row_at now.nodes) node_new ∙ is,
                    def ∙ ap (filled made) w,
                    folds.folds.0 ∙ (ap (λ (t : Ty). t ∷ folds.element ∷ []) (sym folds.folds.1) ∙ ap (λ (t : Ty). e.0.sig.gives ∷ t ∷ []) same),
                  )

          pub declared_sound : IsSoundSession after
          declared_sound =
              sound_declared before h sound (without_functions now) more name ty body root less bodies' (λ grab. absurd (no_grab maps names body ty fits.body_fits grab))
              (new_target maps first.nodes names nodes h.has_nodes made name body ty fits.body_fits node_same node_new) (λ itself other. live_new itself) few

  -- ---- after an assignment

  module _ (h : IsSoundSession before) (sound : arena.IsSoundArena first.nodes) (sound' : arena.IsSoundArena now.nodes) (target : ℕ) (w : GraphValue)
      (sets : Sets first now (node_in nodes target) w) where
    -- what is kept with the variable set
    abbrev set_kept : Kept
    set_kept = record before { graph = without_functions now }

    sets_without : Sets (without_functions first) (without_functions now) (node_in nodes target) w
    sets_without = record {
      beside = beside_without (Given first.nodes.given) first now sets.beside;
      given = sets.given;
      set = sets.set;
    }

    pub set_sound : IsVariable first.nodes (node_in nodes target) → IsSoundSession set_kept
    set_sound variable = sound_set before h sound (without_functions now) (node_in nodes target) w sets_without variable

    pub set_stands : (v : Value) → AssignmentFits names target v → (named : List ℕ → Option FnRef) (value : FnRef → List GraphValue → GraphValue)
        (m : Moment) → graph_value (node_in nodes) v ≡ w → MatchesMoment (meanings_of named value) before m
        → MatchesMoment (meanings_of named value) set_kept (moved m (Assign target v))
    set_stands v fits named value m is matches =
        setting_stands named value before (without_functions now) sound sound' m target w v is sets_without fits
        (nodes_given before h sound m.present matches.names) matches

-- ---- nodes that were taken back

module _ {F : Type 0} (first full now : GraphView F) (count : ℕ) (more : Extends first full) (back : TakesBack full now count)
    (since : count ≡ first.nodes.given) where
  pub back_extends : Extends first now
  back_extends = taken_back_extends first full now count more back (omega (arith, since))

  below_or : (i j : ℕ) → (i < j) ⊎ (j ≤ i)
  below_or i j = grind arith

  -- what is live was live first
  pub back_live : WereLive first.nodes now.nodes
  back_live n r is = elim (below_or n.gen_ count) [
    | inl low ↦ sym (more.rows n (omega (arith, low, since))) ∙ (sym (back.older n low) ∙ is)
    | inr high ↦ absurd (none-some r (sym (back.dropped n high) ∙ is))
  ]

-- ---- a variable that may be set

-- the node is a variable that takes the value
pub record TakesValue (a : Arena) (n : NodeId) (w : GraphValue) : Type 0 where
  pub variable : IsVariable a n
  pub given : Given a.given n
  pub within : ValueWithin (Given a.given) w
  pub fits : FitsNode a n w

kind_known : (o : Option Declared) → IsTrue (is_variable (and_then o (λ (d : Declared). Some d.kind)))
    → (d : Declared) × (o ≡ Some d) × (d.kind ≡ VariableKind)
kind_known None is = absurd (cc)
kind_known (Some d) is = (d, refl, by_kind d.kind is)
  where
    by_kind : (k : Kind) → IsTrue (is_variable (Some k)) → k ≡ VariableKind
    by_kind VariableKind is = refl
    by_kind k is = absurd (cc)

module _ (a : Arena) (names : Names) (nodes : List NodeId) (sound : arena.IsSoundArena a) (one_each : length nodes ≡ length names.declared)
    (has : HaveNodes a names.declared nodes) where
  -- what a name that fits stands for was given, and is of its type or dead
  pub named_fits : (position : ℕ) (ty : Ty) → NameFits names position ty → Given a.given (node_in nodes position) × Fits a (node_in nodes position) ty
  named_fits position ty fits =
      let target = (has fits.place fits.declared fits.stands).target in
      let own = node_fits a sound names.declared nodes has fits.declared.target target.target target.is_target in
      subst (λ (q : ℕ). Given a.given (node_in nodes q) × Fits a (node_in nodes q) ty) fits.target
      (own.0, subst (Fits a (node_in nodes fits.declared.target)) (target.typed ∙ fits.typed) own.1)

  -- what a value that fits refers to is given
  value_within : (v : Value) → ReferenceFits names v → ValueWithin (Given a.given) (graph_value (node_in nodes) v)
  value_within (Int z) fits = tt
  value_within (Truth b) fits = tt
  value_within (Text bytes) fits = tt
  value_within (Reference target b) fits = (named_fits target (type_of_base b) fits).0

  -- and of its type
  value_fits : (v : Value) → ReferenceFits names v → typing.ReferenceFits a (graph_value (node_in nodes) v)
  value_fits (Int z) fits = tt
  value_fits (Truth b) fits = tt
  value_fits (Text bytes) fits = tt
  value_fits (Reference target b) fits = (named_fits target (type_of_base b) fits).1

  -- a variable that fits is live
  variable_live : (target : ℕ) (ty : Ty) → NameFits names target ty → (d : Declared) → slice_get names.declared target ≡ Some d → d.kind ≡ VariableKind
      → (d.ty ≡ ty) × HasLiveNode a nodes target d
  variable_live target ty fits d is kind =
      let t = (has fits.place fits.declared fits.stands).target in
      let there : slice_get names.declared target ≡ Some t.target = subst (λ (j : ℕ). slice_get names.declared j ≡ Some t.target) fits.target t.is_target in
      let same : t.target ≡ d = (let e : Some t.target ≡ Some d = sym there ∙ is in cc) in
      let itself : d.target ≡ target = ap (λ (c : Declared). c.target) (sym same) ∙ (t.itself ∙ fits.target) in
      (ap (λ (c : Declared). c.ty) (sym same) ∙ (t.typed ∙ fits.typed), (has target d is).live itself (λ grab. let clash : VariableKind ≡ GrabKind = sym kind ∙ grab in cc))

  -- an assignment that fits
  pub assigned_takes : (target : ℕ) (v : Value) → AssignmentFits names target v → TakesValue a (node_in nodes target) (graph_value (node_in nodes) v)
  assigned_takes target v fits =
      let d = kind_known (slice_get names.declared target) fits.variable in
      let own = variable_live target (type_of v) fits.name d.0 d.1 d.2 in
      record {
        variable = own.1.variable d.2;
        given = sound.given (node_in nodes target) (rw own.1.is_row refl);
        within = value_within v fits.refers;
        fits = subst (λ (o : Option Row). IfSome o (λ (r : Row). HasType a (graph_value (node_in nodes) v) r.ty)) (sym own.1.is_row)
            (record { type = graph_type (node_in nodes) v ∙ sym (own.1.typed ∙ own.0); reference = value_fits v fits.refers });
      }
