-- The right side that a subject's outcome chooses was given, and fits its node, where a bind's root does.
use Rattle.std.proofs.Common.{◌≡◌, ◌⊎◌, inl, inr, refl, sym, ap, subst, Bool, Option, None, Some, true, false}
use Rattle.std.specs.Prelude.{cond}
use Rattle.inc_value.specs.declared.node.NodeId.{NodeId}
use Rattle.inc_value.specs.Ty.{base_of, type_of_base}
use Rattle.inc_value.specs.declared.outcome.Outcome.{Outcome}
use Rattle.inc_value.specs.declared.outcome.Outcome.TheVariants.{Val, Invalid}
use Rattle.inc_value.specs.declared.ty.Base.{Base}
use Rattle.inc_value.specs.declared.ty.Base.TheVariants as base
use Rattle.inc_value.specs.declared.ty.Ty.{Ty}
use Rattle.inc_value.specs.declared.ty.Ty.TheVariants as ty
use Rattle.inc_value.specs.declared.value.Value.{Value}
use Rattle.inc_value.specs.declared.value.Value.TheVariants as value
use Rattle.inc_terms.specs.Depend.{main, subject_of, right_of, root_for}
use Rattle.inc_terms.specs.Graph as graph
use Rattle.inc_terms.specs.Graph.{Row, Built, Def}
use Rattle.inc_terms.specs.Same.{same_outcome}
use Rattle.inc_terms.specs.Within.{Given}
use Rattle.point_map.specs.Rows.{Rows, at}
use Rattle.node_arena.specs.Arena.{Arena, row_at, NamesGiven}
use Rattle.node_arena.specs.Graph.{Holdings, graph_of}
use Rattle.node_arena.specs.Sound.{IsSoundArena}
use Rattle.node_arena.specs.Typing.{Fits, Makes}
use Rattle.node_outcomes.specs.Computing.{seen, KeepsTypes, IsOfType}
use Rattle.node_outcomes.specs.Progress.{Progress}
use Rattle.node_outcomes.proofs.Computing.{shown_of_type, seen_is_shown}

-- the type of a base type is that base type's
base_back : (t : Ty) (b : Base) → base_of t ≡ Some b → type_of_base b ≡ t
base_back ty.Int b e = let is : base.Int ≡ b = cc in ap type_of_base (sym is)
base_back ty.Bool b e = let is : base.Bool ≡ b = cc in ap type_of_base (sym is)
base_back ty.Text b e = let is : base.Text ≡ b = cc in ap type_of_base (sym is)
base_back (ty.Node c) b e = cc

module _ (arena : Arena) (held now : Holdings) (rows : Rows Progress) (kept : KeepsTypes arena held rows) where
  -- what is seen of the node, or Invalid where nothing is
  abbrev Shown : NodeId → Outcome → Type 0
  Shown s o = (seen rows (main s) ≡ Some o) ⊎ ((seen rows (main s) ≡ None) × (o ≡ Invalid))

  -- a value that is shown is of the type that its node fits
  value_of_type : (s : NodeId) (t : Ty) (v : Value) → Fits arena s t → Shown s (Val v) → IsOfType arena v t
  value_of_type s t v fits (inl e) = shown_of_type arena held rows kept s t v fits (seen_is_shown (at rows (main s)) v e)
  value_of_type s t v fits (inr h) = absurd (let e = h.1 in cc)

  -- a reference leads to a node of the base type
  leads : (s m : NodeId) (b c : Base) → Fits arena s (ty.Node b) → Shown s (Val (value.Node m c)) → Given arena.given m × Fits arena m (type_of_base b)
  leads s m b c fits shows =
      let of_type = value_of_type s (ty.Node b) (value.Node m c) fits shows in
      let same : c ≡ b = let e = of_type.type.type in cc in
      (of_type.within, subst (λ (x : Base). Fits arena m (type_of_base x)) same of_type.type.reference)

  -- what is chosen of what a bind is built for is its root
  root_chosen : (x : Option Built) (o : Outcome) (m : NodeId) → root_for x o ≡ Some m → (w : Built) × (x ≡ Some w) × (w.root ≡ Some m)
  root_chosen None o m e = cc
  root_chosen (Some w) o m e = (w, refl, told (same_outcome o w.outcome) e)
    where
      told : (b : Bool) → cond b w.root None ≡ Some m → w.root ≡ Some m
      told true is = is
      told false is = cc

  fits_so : (n s m : NodeId) (t : Ty) (def : Def) (o : Outcome) → NamesGiven arena.given def → Makes arena def t → subject_of def ≡ Some s → Shown s o
      → ((w : Built) → now.built n ≡ Some w → w.root ≡ Some m → Given arena.given m × Fits arena m t)
      → right_of (graph_of arena now) n def o ≡ Some m → Given arena.given m × Fits arena m t
  fits_so n s m t (graph.If test left right) (Val (value.Bool true)) names makes is shows roots e =
      let its : left ≡ m = cc in subst (λ (x : NodeId). Given arena.given x × Fits arena x t) its (names.1, makes.1)
  fits_so n s m t (graph.If test left right) (Val (value.Bool false)) names makes is shows roots e =
      let its : right ≡ m = cc in subst (λ (x : NodeId). Given arena.given x × Fits arena x t) its (names.2, makes.2)
  fits_so n s m t (graph.If test left right) (Val (value.Int z)) names makes is shows roots e = cc
  fits_so n s m t (graph.If test left right) (Val (value.Text x)) names makes is shows roots e = cc
  fits_so n s m t (graph.If test left right) (Val (value.Node k c)) names makes is shows roots e = cc
  fits_so n s m t (graph.If test left right) Invalid names makes is shows roots e = cc
  fits_so n s m t (graph.Join kid) (Val (value.Node k c)) names makes is shows roots e =
      let its : k ≡ m = cc in let subject : s ≡ kid = cc in
      let leads_there = leads kid k makes.0 c makes.2 (subst (λ (x : NodeId). Shown x (Val (value.Node k c))) subject shows) in
      subst (λ (x : NodeId). Given arena.given x × Fits arena x t) its
      (leads_there.0, subst (Fits arena k) (base_back t makes.0 makes.1) leads_there.1)
  fits_so n s m t (graph.Join kid) (Val (value.Int z)) names makes is shows roots e = cc
  fits_so n s m t (graph.Join kid) (Val (value.Bool z)) names makes is shows roots e = cc
  fits_so n s m t (graph.Join kid) (Val (value.Text x)) names makes is shows roots e = cc
  fits_so n s m t (graph.Join kid) Invalid names makes is shows roots e = cc
  fits_so n s m t (graph.Bind l f caps) o names makes is shows roots e = let w = root_chosen (now.built n) o m e in roots w.0 w.1 w.2
  fits_so n s m t def o names makes is shows roots e = cc

  -- what a node's subject shows chooses a right side that was given and fits the node, where a root that is held for it was and does
  pub right_fits : IsSoundArena arena → (n s m : NodeId) (r : Row) (o : Outcome) → row_at arena n ≡ Some r → subject_of r.def ≡ Some s → Shown s o
      → ((w : Built) → now.built n ≡ Some w → w.root ≡ Some m → Given arena.given m × Fits arena m r.ty)
      → right_of (graph_of arena now) n r.def o ≡ Some m → Given arena.given m × Fits arena m r.ty
  right_fits sound n s m r o is subject shows roots e = fits_so n s m r.ty r.def o (sound.names n r is) (sound.types n r is) subject shows roots e
