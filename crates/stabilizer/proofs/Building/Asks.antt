-- What is asked before what is inside a bind dies, and before a right side is built, holds.
use Rattle.std.proofs.Common.{◌≡◌, ◌⊎◌, inl, inr, ℕ, ◌<◌, Bool, true, List, [], ◌∷◌, Option, None, Some, refl, sym, ap, subst, ◌∙◌}
use Rattle.std.proofs.Math.Path.{fun_ext}
use Rattle.std.specs.Prelude.{is_some, option_map, IfSome}
use Rattle.std.specs.List.{AllZip}
use Rattle.std.proofs.lemmas.Option.{none-some, same_Some}
use Rattle.inc_value.specs.Choice.{Every}
use Rattle.inc_value.specs.declared.function.FnKind.TheVariants.{Rhs}
use Rattle.inc_value.specs.declared.function.FnRef.{FnRef}
use Rattle.inc_value.specs.declared.node.NodeId.{NodeId}
use Rattle.inc_value.specs.declared.node.Part.TheVariants.{Main}
use Rattle.inc_value.specs.declared.outcome.Outcome.{Outcome}
use Rattle.inc_value.specs.declared.outcome.Outcome.TheVariants.{Val, Invalid}
use Rattle.inc_value.specs.declared.ty.Ty.{Ty}
use Rattle.inc_value.specs.declared.value.Value.{Value}
use Rattle.inc_value.specs.declared.value.Value.TheVariants as value
use Rattle.inc_terms.specs.Depend.{main, change}
use Rattle.inc_terms.specs.Graph as graph
use Rattle.inc_terms.specs.Graph.{Graph, Row}
use Rattle.inc_terms.specs.Rebuild.{Inside, direct, nested}
use Rattle.inc_terms.specs.Term.{Functions}
use Rattle.inc_terms.specs.Unfold.{Unfolds}
use Rattle.inc_terms.specs.Within.{Given, DefWithin, KnownAs, ValueWithin}
use Rattle.point_map.specs.Rows.{at, Holds}
use Rattle.node_arena.specs.Arena.{Arena, row_at, NamesGiven}
use Rattle.node_arena.specs.Building.{building_in}
use Rattle.node_arena.specs.Graph.{AllCallFit}
use Rattle.node_arena.specs.Meanings.{SameKnown}
use Rattle.node_arena.specs.RightSide.{RightSide, MayBuild, IsRoot, IsEmpty, AreTaken, SameSides}
use Rattle.node_arena.specs.RightSideLaws.{meaning, IsFitIn, ids_of}
use Rattle.node_arena.specs.Typing.{Fits, ReferenceFits, BindTakes, BindMakes, Makes}
use Rattle.node_arena.proofs.RightSides.{fit_lists_given, same_rows_unfold}
use Rattle.node_outcomes.specs.Computing.{has_part, seen_of, IsOfType}
use Rattle.node_outcomes.specs.Row.{without_outcome}
use Rattle.node_outcomes.specs.Progress.{Progress}
use Rattle.wiring.specs.Kept.{IsKept}
use Rattle.stabilizer.specs.Dying.{HasDied, LeavesStanding, StandsBut, IsBindOf}
use Rattle.stabilizer.specs.Kept.{graph_in, KeepsScopes}
use Rattle.stabilizer.specs.Rebuilding.{IsToBuild}
use Rattle.stabilizer.specs.Weights.{SidesFit}
use Rattle.stabilizer.specs.declared.parts.Parts.{Parts}
use Rattle.stabilizer.proofs.Building.Built.{fit_fewer}
use Rattle.stabilizer.proofs.Building.Anew.{HasRoot}

-- ---- who is inside

-- the rows alone tell who is inside
pub inside_same : (G G' : Graph) (b n : NodeId) → ((m : NodeId) → G'.row m ≡ G.row m) → Inside G b n → Inside G' b n
inside_same G G' b n rows (direct row scope) = direct (rows n ∙ row) scope
inside_same G G' b n rows (nested {c} row scope i) = nested (rows n ∙ row) scope (inside_same G G' b c rows i)

-- by the scopes those stand in scopes that do so by the nodes, but for what is inside the bind's
pub stands_but : (old cut : Parts) (b : NodeId) → KeepsScopes old.arena old.scopes → LeavesStanding old cut b → cut.arena ≡ old.arena
    → StandsBut cut b
stands_but old cut b kept leaves same = record {
  stands = λ n c. (
    (λ h. let k = (leaves.stands n c).0 h in
        let r = (kept.stands n c).0 k.0 in
        (r.0, rows n ∙ r.1, r.2, λ i. k.1 (back n i))),
    (λ h. (leaves.stands n c).1 ((kept.stands n c).1 (h.0, sym (rows n) ∙ h.1, h.2), λ i. h.3 (forth n i))),
  );
  none = leaves.none;
}
  where
    rows : (n : NodeId) → row_at cut.arena n ≡ row_at old.arena n
    rows n = ap (λ (a : Arena). row_at a n) same

    back : (n : NodeId) → Inside (graph_in cut) b n → Inside (graph_in old) b n
    back n i = inside_same (graph_in cut) (graph_in old) b n (λ m. sym (rows m)) i

    forth : (n : NodeId) → Inside (graph_in old) b n → Inside (graph_in cut) b n
    forth n i = inside_same (graph_in old) (graph_in cut) b n rows i

-- ---- after the deaths

none_mapped : (x : Option Progress) → is_some x ≡ true → option_map without_outcome x ≡ None → ⊥
none_mapped None here e = cc
none_mapped (Some k) here e = none-some _ (sym e)

fits_any : (t : Ty) (x y : Option Row) → (x ≡ None) ⊎ (x ≡ y) → IfSome y (λ (r : Row). r.ty ≡ t) → IfSome x (λ (r : Row). r.ty ≡ t)
fits_any t x y (inl e) h = subst (λ (o : Option Row). IfSome o (λ (r : Row). r.ty ≡ t)) (sym e) tt
fits_any t x y (inr e) h = subst (λ (o : Option Row). IfSome o (λ (r : Row). r.ty ≡ t)) (sym e) h

fits_row : (t : Ty) (x : Option Row) (r : Row) → x ≡ Some r → IfSome x (λ (r : Row). r.ty ≡ t) → r.ty ≡ t
fits_row t x r e h = subst (λ (o : Option Row). IfSome o (λ (r : Row). r.ty ≡ t)) e h

-- a node that shows a value has a row
shown_value : (x : Option Progress) (v : Value) → seen_of x ≡ Some (Val v) → (k : Progress) × (x ≡ Some k) × (k.outcome ≡ Some (Val v))
shown_value None v e = absurd (let h : Invalid ≡ Val v = same_Some _ _ e in cc)
shown_value (Some k) v e = (k, refl, e)

has_row : (x : Option Row) → has_part x Main ≡ true → (r : Row) × (x ≡ Some r)
has_row None e = absurd (cc)
has_row (Some r) e = (r, refl)

module _ (old cut dead : Parts) (b : NodeId) (same : cut.arena ≡ old.arena) (died : HasDied cut dead b) (own : Holds cut.work.rows (change b)) where
  -- the bind stands outside of its scope
  pub outside : Inside (graph_in cut) b b → ⊥
  outside i = none_mapped (at cut.work.rows (change b)) own (sym died.own ∙ died.gone (change b) i)

  -- so it keeps its row
  pub bind_stays : row_at dead.arena b ≡ row_at old.arena b
  bind_stays = elim (died.nodes b) [
    | inl h ↦ absurd (outside h.0)
    | inr h ↦ h.1 ∙ ap (λ (a : Arena). row_at a b) same
  ]

  -- no id was given
  pub dead_given : dead.arena.given ≡ old.arena.given
  dead_given = died.given ∙ ap (λ (a : Arena). a.given) same

  -- each row is as it was, or gone
  pub rows_last : (n : NodeId) → (row_at dead.arena n ≡ None) ⊎ (row_at dead.arena n ≡ row_at old.arena n)
  rows_last n = elim (died.nodes n) [
    | inl h ↦ inl h.1
    | inr h ↦ inr (h.1 ∙ ap (λ (a : Arena). row_at a n) same)
  ]

  fits_still : (n : NodeId) (t : Ty) → Fits old.arena n t → Fits dead.arena n t
  fits_still n t h = fits_any t (row_at dead.arena n) (row_at old.arena n) (rows_last n) h

  reference_still : (v : Value) → ReferenceFits old.arena v → ReferenceFits dead.arena v
  reference_still (value.Node n base) h = fits_still n _ h
  reference_still (value.Int x) h = tt
  reference_still (value.Bool x) h = tt
  reference_still (value.Text x) h = tt

  all_still : (ns : List NodeId) (ts : List Ty) → AllZip (Fits old.arena) ns ts → AllZip (Fits dead.arena) ns ts
  all_still [] [] h = tt
  all_still [] (t ∷ ts) h = absurd h
  all_still (n ∷ ns) [] h = absurd h
  all_still (n ∷ ns) (t ∷ ts) h = (fits_still n t h.0, all_still ns ts h.1)

  -- functions of live nodes fit on
  pub dead_fit : (known : FnRef → Bool) (right : FnRef → RightSide) → SidesFit known right old.arena → SidesFit known right dead.arena
  dead_fit known right fit = fit_fewer known right old.arena dead.arena dead_given (λ m. elim (rows_last m) [ inl e ↦ inr e | inr e ↦ inl e ]) fit

  -- ---- a right side can be built

  module _ (kept : IsKept old.arena old.work) (f : FnRef) (captures : List NodeId) (given : Outcome) (to : IsToBuild old b f captures given) where
    -- the bind has the function by which it is built
    pub is_bind_of : IsBindOf dead.arena b f
    is_bind_of r l g captures' row bind =
        let same : r ≡ to.row = same_Some r to.row (sym row ∙ (bind_stays ∙ to.is_row)) in
        let defs : graph.Bind l g captures' ≡ graph.Bind to.left f captures = sym bind ∙ (ap (λ (x : Row). x.def) same ∙ to.is_bind) in
        cc

    makes : BindMakes old.arena to.left f captures to.row.ty
    makes = subst (λ (d : graph.Def). Makes old.arena d to.row.ty) to.is_bind (kept.sound.types b to.row to.is_row)

    -- right sides have the bind's type
    pub gives_type : f.sig.gives ≡ to.row.ty
    gives_type = makes.gives

    fits : (known : FnRef → Bool) (right : FnRef → RightSide) → SidesFit known right old.arena → IsFitIn known right old.arena Rhs f
    fits known right fit =
        (subst (λ (d : graph.Def). DefWithin (λ n. Unit {0}) (IsFitIn known right old.arena) d) to.is_bind (fit.all b to.row to.is_row)).0

    -- its function is known
    pub is_known : (known : FnRef → Bool) (right : FnRef → RightSide) → SidesFit known right old.arena → KnownAs known Rhs f
    is_known known right all = (fits known right all).0

    named : Every (Given old.arena.given) captures
    named = (subst (λ (d : graph.Def). NamesGiven old.arena.given d) to.is_bind (kept.sound.names b to.row to.is_row)).2

    -- nobody stands in its scope
    pub scope_empty : IsEmpty dead.arena b
    scope_empty n r row scope = elim (died.nodes n) [
      | inl h ↦ none-some r (sym h.1 ∙ row)
      | inr h ↦ h.0 (direct (sym h.1 ∙ row) scope)
    ]

    module _ (left : Value) (is : given ≡ Val left) where
      sees_value : seen_of (at old.work.rows (main to.left)) ≡ Some (Val left)
      sees_value = elim to.sees [
        | inl e ↦ e ∙ ap (λ (o : Outcome). Some o) is
        | inr h ↦ absurd (let x : Val left ≡ Invalid = sym is ∙ h.1 in cc)
      ]

      left_row : (r : Row) × (row_at old.arena to.left ≡ Some r)
      left_row =
          let k = shown_value (at old.work.rows (main to.left)) left sees_value in
          has_row (row_at old.arena to.left) (sym (kept.rows (main to.left)) ∙ ap is_some k.1)

      of_type : IsOfType old.arena left left_row.0.ty
      of_type =
          let k = shown_value (at old.work.rows (main to.left)) left sees_value in
          kept.outcomes to.left left_row.0 k.0 left left_row.1 k.1 k.2

      taken_of : (tys : List Ty) → BindTakes old.arena to.left captures tys → AreTaken dead.arena left captures tys
      taken_of [] h = absurd h
      taken_of (first ∷ rest) h =
          let same_ty : left_row.0.ty ≡ first = fits_row first (row_at old.arena to.left) left_row.0 left_row.1 h.0 in (
            record {
              type = of_type.type.type ∙ same_ty;
              reference = reference_still left of_type.type.reference;
            },
            all_still captures rest h.1,
          )

      -- what a right side is built on can be built on
      pub may_build : (known : FnRef → Bool) (right : FnRef → RightSide) → SidesFit known right old.arena
          → MayBuild (building_in b dead.arena) f.sig (right f) left captures
      may_build known right all = record {
        empty = scope_empty;
        fit = λ x among. let k = (fits known right all).1 x among in
            (subst (λ (c : ℕ). x.node.gen_ < c) (sym dead_given) k.0, fits_still x.node x.ty k.1);
        left_given = subst (λ (c : ℕ). ValueWithin (Given c) left) (sym dead_given) of_type.within;
        captures_given = subst (λ (c : ℕ). Every (Given c) captures) (sym dead_given) named;
        taken = taken_of f.sig.takes makes.takes;
      }

-- ---- roots

-- the root that was built
pub built_root : (known : FnRef → Bool) (value' : FnRef → List Value → Value) (right : FnRef → RightSide) (arena : Arena) (b : NodeId) (f : FnRef)
    (captures : List NodeId) (left : Value) (root : NodeId) (type : Ty)
    → IsRoot (building_in b arena) captures root ((right f).term left) type
    → HasRoot (meaning value' right) arena b f captures (Val left) (Some root)
built_root known value' right arena b f captures left root type is = record {
  given = λ m e. subst (λ (x : NodeId). Given arena.given x) (same_Some root m e) is.given;
  rooted = λ G rows. record {
    unfolds = λ v e. (
      root,
      refl,
      subst (λ (x : Value). Unfolds G (Some b) captures root ((right f).term x)) (same_value left v e)
          (same_rows_unfold arena G rows (Some b) captures root ((right f).term left) is.unfolds),
    );
    rootless = λ e. absurd (cc);
  };
  inside = λ n r row scope. refl;
}
  where
    same_value : (v w : Value) → Val v ≡ Val w → v ≡ w
    same_value v w e = cc

-- none is built for Invalid
pub no_root_built : (F : Functions) (arena : Arena) (b : NodeId) (f : FnRef) (captures : List NodeId) → IsEmpty arena b
    → HasRoot F arena b f captures Invalid None
no_root_built F arena b f captures empty = record {
  given = λ m e. absurd (none-some m e);
  rooted = λ G rows. record { unfolds = λ v e. absurd (cc); rootless = λ e. refl };
  inside = λ n r row scope. absurd (empty n r row scope);
}

-- ---- functions fit afterwards

-- the nodes that they list were given, by what they listed when the round began
pub fit_then : (known known' : FnRef → Bool) (right right' : FnRef → RightSide) (arena : Arena) → SameKnown known known' → SameSides right right'
    → SidesFit known' right' arena → AllCallFit known (ids_of right) arena
fit_then known known' right right' arena same_known same_sides fit =
    subst (λ (k : FnRef → Bool). AllCallFit k (ids_of right) arena) (fun_ext same_known)
    (subst (λ (r : FnRef → RightSide). AllCallFit known' (ids_of r) arena) (fun_ext same_sides) (fit_lists_given known' right' arena fit.all))
