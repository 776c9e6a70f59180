-- Functions of nodes stay fit over calls between stabilizes.
use Rattle.std.proofs.Common.{◌≡◌, ◌⊎◌, inl, inr, ◌≤◌, Bool, List, [], ◌∷◌, Option, None, Some, Ok, Err, IfSome, refl, sym, ap, subst, ◌∙◌, arith}
use Rattle.std.specs.Prelude.{Result, IsTrue, OnOk, OnErr, is_some}
use Rattle.std.proofs.lemmas.Option.{none-some, same_Some}
use Rattle.inc_value.specs.Choice.{Among, Every}
use Rattle.inc_value.specs.declared.function.FnKind.{FnKind}
use Rattle.inc_value.specs.declared.function.FnKind.TheVariants as kind
use Rattle.inc_value.specs.declared.function.FnRef.{FnRef}
use Rattle.inc_value.specs.declared.node.NodeId.{NodeId}
use Rattle.inc_value.specs.declared.ty.Ty.{Ty}
use Rattle.inc_value.specs.declared.value.Value.{Value}
use Rattle.inc_terms.specs.Graph as graph
use Rattle.inc_terms.specs.Graph.{Row, Def}
use Rattle.inc_terms.specs.Term.{Step}
use Rattle.inc_terms.specs.Within.{Given, Fit, DefWithin, ValueWithin}
use Rattle.node_arena.specs.Arena.{Arena, row_at, Changes, IsLive, IsSet, with_value}
use Rattle.node_arena.specs.Graph.{CallsFit}
use Rattle.node_arena.specs.Listing.{Listed}
use Rattle.node_arena.specs.RightSide.{RightSide, SidesHold}
use Rattle.node_arena.specs.RightSideLaws.{ids_of, IsFitIn, AllFit, SidesLast}
use Rattle.node_arena.specs.Typing.{Fits, Makes}
use Rattle.node_arena.proofs.Graph.{calls_more}
use Rattle.node_arena.proofs.RightSides.{fit_lasts, listed_of}
use Rattle.stabilize_round.proofs.Points.{node_or_other}
use Rattle.wiring.specs.Kept.{IsKept}
use Rattle.wiring.specs.declared.work.Work.{Work}
use Rattle.stabilizer.specs.Weights.{weight_of, weight_in, weight_at, IsInScope, SidesFit}
use Rattle.stabilizer.specs.declared.parts.Parts.{Parts}
use Rattle.stabilizer.proofs.Building.Weighing.{ScopesStay, scopes_stay, sides_last}
use Rattle.graph.specs.Effects.{CallsKnown}
use Rattle.node_arena.proofs.Growing.{value_any}

-- ---- of a definition

every_unit : (ns : List NodeId) → Every (λ (n : NodeId). Unit {0}) ns
every_unit [] = tt
every_unit (n ∷ ns) = (tt, every_unit ns)

every_step : (steps : List Step) → Every (λ (s : Step). ValueWithin (λ (n : NodeId). Unit {0}) s.value) steps
every_step [] = tt
every_step (s ∷ steps) = (value_any s.value, every_step steps)

-- each function of the definition is fit
abbrev pub IsDefFit : (FnRef → Bool) → (FnRef → RightSide) → Arena → Def → Type 0
IsDefFit known right a def = DefWithin (λ (n : NodeId). Unit {0}) (IsFitIn known right a) def

-- what makes its type has functions of the kinds that stand there, and maps list no node
module _ (known : FnRef → Bool) (right : FnRef → RightSide) (sides : SidesHold known right) where
  map_fits : (a : Arena) (f : FnRef) → IsTrue (known f) → f.id.kind ≡ kind.Map → IsFitIn known right a kind.Map f
  map_fits a f k is = ((k, is), λ x among. absurd (subst (λ (ids : List Listed). Among x ids) (sides.maps f (k, is)).ids among))

  pub known_fits : (a b : Arena) (ty : Ty) (def : Def) → CallsKnown known right a def → Makes b def ty → IsDefFit known right a def
  known_fits a b ty (graph.Const v) k m = value_any v
  known_fits a b ty (graph.Var v) k m = value_any v
  known_fits a b ty (graph.Fold f v ns) k m = (map_fits a f k m.kind, value_any v, every_unit ns)
  known_fits a b ty (graph.Map f ns) k m = (map_fits a f k m.kind, every_unit ns)
  known_fits a b ty (graph.If t l r) k m = (tt, tt, tt)
  known_fits a b ty (graph.Join kid) k m = tt
  known_fits a b ty (graph.Bind l f captures) k m = (((k.0, m.kind), k.1), tt, every_unit captures)
  known_fits a b ty (graph.At t) k m = tt
  known_fits a b ty (graph.Steps v steps) k m = (value_any v, every_step steps)
  known_fits a b ty graph.Now k m = tt
  known_fits a b ty (graph.Every base span) k m = tt
  known_fits a b ty (graph.Freeze kid f) k m = (map_fits a f k m.kind, tt)
  known_fits a b ty (graph.Expert f v ns) k m = (map_fits a f k m.kind, value_any v, every_unit ns)

-- then they list given nodes
pub calls_fit : (known : FnRef → Bool) (right : FnRef → RightSide) (a : Arena) (def : Def) → IsDefFit known right a def
    → CallsFit a.given known (ids_of right) def
calls_fit known right a def fit = calls_more (IsFitIn known right a) (Fit a.given known (ids_of right))
    (λ k f h. (h.0, λ n among. (let x = listed_of (right f).ids n among in subst (Given a.given) x.2 (h.1 x.0 x.1).0))) def fit

-- ---- of all nodes

module _ (known : FnRef → Bool) (right : FnRef → RightSide) (old new : Arena) (le : old.given ≤ new.given) where
  -- rows stay or go
  pub fit_left : ((n : NodeId) → (row_at new n ≡ row_at old n) ⊎ (row_at new n ≡ None)) → SidesFit known right old → SidesFit known right new
  fit_left rows fit = sides_last known known right right old new (λ f h. refl) rows all_left fit
    where
      all_left : AllFit known right new
      all_left n r is = elim (rows n) [
        | inl same ↦ calls_more (IsFitIn known right old) (IsFitIn known right new)
            (fit_lasts known known right right old new (record { keeps = λ f h. h; same = λ f h. refl }) le (λ m given. rows m)) r.def
            (fit.all n r (sym same ∙ is))
        | inr none ↦ absurd (none-some r (sym none ∙ is))
      ]

  -- a node is added whose functions fit
  all_added : ((n : NodeId) → Given old.given n → row_at new n ≡ row_at old n) → (id : NodeId) (row : Row) → Changes old new id (Some row)
      → IsDefFit known right old row.def → AllFit known right old → AllFit known right new
  all_added keeps id row changes own fit n r is =
      calls_more (IsFitIn known right old) (IsFitIn known right new)
      (fit_lasts known known right right old new (record { keeps = λ f h. h; same = λ f h. refl }) le (λ m given. inl (keeps m given))) r.def
      (elim (node_or_other n id) [
        | inl e ↦
            subst (λ (x : Option Row). IfSome x (λ (q : Row). IsDefFit known right old q.def))
            (sym changes.changed ∙ (ap (row_at new) (sym e) ∙ is)) own
        | inr other ↦ fit n r (sym (changes.others n other) ∙ is)
      ])

  -- it stands in no scope, and its own is empty
  module _ (work : Work) (kept : IsKept old work) (id : NodeId) (row : Row) (changes : Changes old new id (Some row)) (fresh : id.gen_ ≡ old.given)
      (top : row.scope ≡ None) where
    was_other : (n b : NodeId) → IsInScope new b n → IsInScope old b n
    was_other n b s = elim (node_or_other n id) [
      | inl e ↦ absurd (none-some b (sym top ∙ (ap (λ (r : Row). r.scope)
          (same_Some row s.row (sym changes.changed ∙ (ap (row_at new) (sym e) ∙ s.is_row))) ∙ s.scope)))
      | inr other ↦ record { row = s.row; is_row = sym (changes.others n other) ∙ s.is_row; scope = s.scope }
    ]

    was_live : (n b : NodeId) → IsInScope old b n → IsLive old b
    was_live n b s = ap is_some (kept.scopes n s.row b s.is_row s.scope).4

    not_new : (n : NodeId) → IsLive old n → n ≡ id → ⊥
    not_new n live e = let given = kept.sound.given n live in let same = ap (λ (m : NodeId). m.gen_) e in absurd (omega (arith, given, same, fresh))

    scopes_added : ScopesStay right right old new
    scopes_added = record {
      nodes = λ n b s. let was = was_other n b s in
          let weight : weight_at right new n ≡ weight_at right old n
          = ap (weight_in right) (changes.others n (not_new n (ap is_some was.is_row))) in
          (was, omega (arith, weight));
      binds = λ b r left f captures is def. elim (node_or_other b id) [
        | inl e ↦ inl (λ n s. not_new b (was_live n b (was_other n b s)) e)
        | inr other ↦ inr (sym (changes.others b other) ∙ is, refl)
      ];
    }

    pub fit_added : ((n : NodeId) → Given old.given n → row_at new n ≡ row_at old n) → IsDefFit known right old row.def
        → SidesFit known right old → SidesFit known right new
    fit_added keeps own fit = record {
      all = all_added keeps id row changes own fit.all;
      scopes = scopes_stay right right old new scopes_added fit.scopes;
    }

-- a node counts as one at least
counts_as_one : (right : FnRef → RightSide) (def : Def) → 1 ≤ weight_of right def
counts_as_one right (graph.Bind left f captures) = omega arith
counts_as_one right _ = omega arith

-- a variable is set
module _ (known : FnRef → Bool) (right : FnRef → RightSide) (old new : Arena) (le : old.given ≤ new.given) (id : NodeId) (v : Value)
    (set : IsSet old new id v) where
  abbrev has_type : Ty → Option Row → Type 0
  has_type t x = IfSome x (λ (r : Row). r.ty ≡ t)

  fits_set : (n : NodeId) (t : Ty) → Fits old n t → Fits new n t
  fits_set n t h = elim (node_or_other n id) [
    | inl e ↦
        subst (has_type t) (sym (ap (row_at new) e ∙ set.changes.changed)) (subst (has_type t) (ap (row_at old) e ∙ set.there) h)
    | inr other ↦ subst (has_type t) (sym (set.changes.others n other)) h
  ]

  fit_in : (k : FnKind) (f : FnRef) → IsFitIn known right old k f → IsFitIn known right new k f
  fit_in k f h = (h.0, λ x among. (let g = (h.1 x among).0 in omega (arith, g, le), fits_set x.node x.ty (h.1 x among).1))

  all_set : AllFit known right old → AllFit known right new
  all_set fit n r is = elim (node_or_other n id) [
    | inl e ↦
        subst (λ (x : Option Row). IfSome x (λ (q : Row). IsDefFit known right new q.def))
        (sym set.changes.changed ∙ (ap (row_at new) (sym e) ∙ is)) (value_any v)
    | inr other ↦ calls_more (IsFitIn known right old) (IsFitIn known right new) fit_in r.def (fit n r (sym (set.changes.others n other) ∙ is))
  ]

  row_set : (n : NodeId) (r : Row) → row_at new n ≡ Some r → (row_at old n ≡ Some r) ⊎ ((n ≡ id) × (r ≡ with_value set.row v))
  row_set n r is = elim (node_or_other n id) [
    | inl e ↦ inr (e, same_Some r (with_value set.row v) (sym is ∙ (ap (row_at new) e ∙ set.changes.changed)))
    | inr other ↦ inl (sym (set.changes.others n other) ∙ is)
  ]

  scopes_set : ScopesStay right right old new
  scopes_set = record {
    nodes = λ n b s. elim (row_set n s.row s.is_row) [
      | inl e ↦
          let weight : weight_at right new n ≡ weight_at right old n = ap (weight_in right) (s.is_row ∙ sym e) in
          (record { row = s.row; is_row = e; scope = s.scope }, omega (arith, weight))
      | inr h ↦
          let was : row_at old n ≡ Some set.row = ap (row_at old) h.0 ∙ set.there in
          let weight : weight_at right old n ≡ weight_of right set.row.def = ap (weight_in right) was in
          let one = counts_as_one right set.row.def in
          let now : weight_at right new n ≡ 1 = ap (weight_in right) (s.is_row ∙ ap (λ (r : Row). Some r) h.1) in
          let scope : set.row.scope ≡ Some b = sym (ap (λ (r : Row). r.scope) h.1) ∙ s.scope in
          (record { row = set.row; is_row = was; scope = scope }, omega (arith, weight, one, now))
    ];
    binds = λ b r left f captures is def. elim (row_set b r is) [
      | inl e ↦ inr (e, refl)
      | inr h ↦ absurd (let var : graph.Var v ≡ graph.Bind left f captures = sym (ap (λ (r : Row). r.def) h.1) ∙ def in cc)
    ];
  }

  pub fit_set : SidesFit known right old → SidesFit known right new
  fit_set fit = record { all = all_set fit.all; scopes = scopes_stay right right old new scopes_set fit.scopes }

-- or isn't
pub set_answer_fit : {T E : Type 0} (known : FnRef → Bool) (right : FnRef → RightSide) (old new : Parts) (id : NodeId) (v : Value) (r : Result T E)
    → OnOk r (IsSet old.arena new.arena id v) → OnErr r (new ≡ old) → old.arena.given ≤ new.arena.given → SidesFit known right old.arena
    → SidesFit known right new.arena
set_answer_fit known right old new id v (Ok u) set err le fit = fit_set known right old.arena new.arena le id v set fit
set_answer_fit known right old new id v (Err e) set err le fit = subst (λ (p : Parts). SidesFit known right p.arena) (sym err) fit

-- more functions are known
pub fit_more : (known known' : FnRef → Bool) (right right' : FnRef → RightSide) (a : Arena) → SidesLast known known' right right' → SidesFit known right a
    → SidesFit known' right' a
fit_more known known' right right' a last fit = sides_last known known' right right' a a last.same (λ n. inl refl) all_more fit
  where
    all_more : AllFit known' right' a
    all_more n r is = calls_more (IsFitIn known right a) (IsFitIn known' right' a)
        (fit_lasts known known' right right' a a last (omega arith) (λ m given. inl refl)) r.def (fit.all n r is)
