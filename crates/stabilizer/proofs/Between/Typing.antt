-- Values keep their types where given nodes keep theirs or die, and right sides what they fit.
use Rattle.std.proofs.Common.{◌≡◌, ◌≤◌, List, [], ◌∷◌, Option, None, Some, refl, sym, subst, ◌∙◌, arith}
use Rattle.std.specs.Prelude.{IfSome}
use Rattle.inc_value.specs.Choice.{Every}
use Rattle.inc_value.specs.declared.node.NodeId.{NodeId}
use Rattle.inc_value.specs.Ty.{type_of_base}
use Rattle.inc_value.specs.declared.ty.Ty.{Ty}
use Rattle.inc_value.specs.declared.value.Value.{Value}
use Rattle.inc_value.specs.declared.value.Value.TheVariants as value
use Rattle.inc_terms.specs.Graph as graph
use Rattle.inc_terms.specs.Graph.{Row, Def}
use Rattle.inc_terms.specs.Within.{Given, ValueWithin}
use Rattle.node_arena.specs.Arena.{Arena, row_at}
use Rattle.node_arena.specs.Typing.{Fits, FoldTakes, ReferenceFits}
use Rattle.node_outcomes.specs.Computing.{CallFits, IsOfType}
use Rattle.stabilize_round.specs.State.{Call}

-- a live node that was given before is of the type that it had
abbrev pub KeepsTypes : Arena → Arena → Type 0
KeepsTypes before arena =
    (n : NodeId) (r : Row) → Given before.given n → row_at arena n ≡ Some r → (was : Row) × (row_at before n ≡ Some was) × (was.ty ≡ r.ty)

module _ (before arena : Arena) (more : before.given ≤ arena.given) (types : KeepsTypes before arena) where
  given_still : (n : NodeId) → Given before.given n → Given arena.given n
  given_still n g = omega (arith, more, g)

  by_row : (n : NodeId) (t : Ty) (x : Option Row) → row_at arena n ≡ x → Given before.given n → Fits before n t → IfSome x (λ (r : Row). r.ty ≡ t)
  by_row n t None e given fits = tt
  by_row n t (Some r) e given fits =
      let was = types n r given e in
      let had : was.0.ty ≡ t = subst (λ (x : Option Row). IfSome x (λ (y : Row). y.ty ≡ t)) was.1 fits in
      sym was.2 ∙ had

  fits_still : (n : NodeId) (t : Ty) → Given before.given n → Fits before n t → Fits arena n t
  fits_still n t given fits = by_row n t (row_at arena n) refl given fits

  reference_still : (v : Value) → ValueWithin (Given before.given) v → ReferenceFits before v → ReferenceFits arena v
  reference_still (value.Node n base) given fits = fits_still n (type_of_base base) given fits
  reference_still (value.Int z) given fits = tt
  reference_still (value.Bool z) given fits = tt
  reference_still (value.Text z) given fits = tt

  within_still : (v : Value) → ValueWithin (Given before.given) v → ValueWithin (Given arena.given) v
  within_still (value.Node n base) given = given_still n given
  within_still (value.Int z) given = tt
  within_still (value.Bool z) given = tt
  within_still (value.Text z) given = tt

  pub typed_still : (v : Value) (t : Ty) → IsOfType before v t → IsOfType arena v t
  typed_still v t h = record {
    type = record { type = h.type.type; reference = reference_still v h.within h.type.reference };
    within = within_still v h.within;
  }

  every_typed : (t : Ty) (vs : List Value) → Every (λ (v : Value). IsOfType before v t) vs → Every (λ (v : Value). IsOfType arena v t) vs
  every_typed t [] h = tt
  every_typed t (v ∷ vs) h = (typed_still v t h.0, every_typed t vs h.1)

  -- so do last calls
  pub call_still : (def : Def) (t : Ty) (c : Call) → CallFits before def t c → CallFits arena def t c
  call_still (graph.Freeze kid f) t c h = every_typed t c.arguments h
  call_still (graph.Const v) t c h = typed_still c.result t h
  call_still (graph.Var v) t c h = typed_still c.result t h
  call_still (graph.Map f ns) t c h = typed_still c.result t h
  call_still (graph.Fold f v ns) t c h = typed_still c.result t h
  call_still (graph.If x y z) t c h = typed_still c.result t h
  call_still (graph.Join kid) t c h = typed_still c.result t h
  call_still (graph.Bind l f ns) t c h = typed_still c.result t h
  call_still (graph.At z) t c h = typed_still c.result t h
  call_still (graph.Steps v steps) t c h = typed_still c.result t h
  call_still graph.Now t c h = typed_still c.result t h
  call_still (graph.Every base span) t c h = typed_still c.result t h
  call_still (graph.Expert f v ns) t c h = typed_still c.result t h

  -- and what experts list
  pub listed_still : (ns : List NodeId) → Every (Given before.given) ns → Every (Given arena.given) ns
  listed_still [] h = tt
  listed_still (n ∷ ns) h = (given_still n h.0, listed_still ns h.1)

  every_fits : (t : Ty) (ns : List NodeId) → Every (Given before.given) ns → Every (λ (n : NodeId). Fits before n t) ns
      → Every (λ (n : NodeId). Fits arena n t) ns
  every_fits t [] given h = tt
  every_fits t (n ∷ ns) given h = (fits_still n t given.0 h.0, every_fits t ns given.1 h.1)

  pub folds_still : (t : Ty) (ns : List NodeId) (tys : List Ty) → Every (Given before.given) ns → FoldTakes before t ns tys → FoldTakes arena t ns tys
  folds_still t ns [] given h = h
  folds_still t ns (x ∷ []) given h = h
  folds_still t ns (x ∷ y ∷ []) given h = (h.0, every_fits y ns given h.1)
  folds_still t ns (x ∷ y ∷ z ∷ tys) given h = h

  pub right_still : (n : NodeId) (t : Ty) → Given before.given n × Fits before n t → Given arena.given n × Fits arena n t
  right_still n t h = (given_still n h.0, fits_still n t h.0 h.1)
