-- Which freezes fire.
use Rattle.std.proofs.Common.{◌≡◌, true, List, [], ◌∷◌, Option, None, Some, refl, ap, ◌∙◌}
use Rattle.inc_value.specs.declared.function.FnRef.{FnRef}
use Rattle.inc_value.specs.declared.node.NodeId.{NodeId}
use Rattle.inc_value.specs.declared.value.Value.{Value}
use Rattle.inc_value.specs.declared.value.Value.TheVariants as value
use Rattle.inc_terms.specs.Graph as graph
use Rattle.inc_terms.specs.Graph.{Row, Def}
use Rattle.stabilize_round.specs.State.{Call}
use Rattle.stabilize_round.specs.Freezing.{found_in, fires, row_fires, or_else}

-- none whose predicate was never called
pub never_called : (def : Def) (frozen : Option Value) → fires def frozen None ≡ None
never_called (graph.Freeze kid f) None = refl
never_called (graph.Freeze kid f) (Some v) = refl
never_called _ frozen = refl

-- none that keeps a value
pub frozen_rests : (x : Option Row) (v : Value) (last : Option Call) → row_fires x (Some v) last ≡ None
frozen_rests None v last = refl
frozen_rests (Some r) v last = by_def r.def
  where
    by_def : (def : Def) → fires def (Some v) last ≡ None
    by_def (graph.Freeze kid f) = refl
    by_def _ = refl

-- what it is that fires
pub record Firing (x : Option Row) (frozen : Option Value) (last : Option Call) (v : Value) : Type 0 where
  pub row : Row
  pub kid : NodeId
  pub predicate : FnRef
  pub call : Call
  pub is_row : x ≡ Some row
  pub is_freeze : row.def ≡ graph.Freeze kid predicate
  pub keeps_none : frozen ≡ None
  pub is_last : last ≡ Some call
  pub arguments : call.arguments ≡ v ∷ []
  pub result : call.result ≡ value.Bool true

pub firing : (x : Option Row) (frozen : Option Value) (last : Option Call) (v : Value) → row_fires x frozen last ≡ Some v → Firing x frozen last v
firing None frozen last v e = absurd (cc)
firing (Some r) frozen last v e = by_def r.def refl frozen last e
  where
    by_call : (kid : NodeId) (f : FnRef) → r.def ≡ graph.Freeze kid f → (c : Call) → (vs : List Value) → c.arguments ≡ vs
        → (w : Value) → c.result ≡ w → found_in vs w ≡ Some v → Firing (Some r) None (Some c) v
    by_call kid f is c (u ∷ []) a (value.Bool true) b e = let same : u ≡ v = cc in record {
      row = r;
      kid = kid;
      predicate = f;
      call = c;
      is_row = refl;
      is_freeze = is;
      keeps_none = refl;
      is_last = refl;
      arguments = a ∙ ap (λ (y : Value). y ∷ []) same;
      result = b;
    }
    by_call kid f is c _ a _ b e = absurd (cc)

    by_def : (def : Def) → r.def ≡ def → (frozen : Option Value) (last : Option Call) → fires def frozen last ≡ Some v
        → Firing (Some r) frozen last v
    by_def (graph.Freeze kid f) is None (Some c) e = by_call kid f is c c.arguments refl c.result refl e
    by_def (graph.Freeze kid f) is None None e = absurd (cc)
    by_def (graph.Freeze kid f) is (Some w) last e = absurd (cc)
    by_def _ is frozen last e = absurd (cc)

pub firing_fires : (x : Option Row) (frozen : Option Value) (last : Option Call) (v : Value) → Firing x frozen last v → row_fires x frozen last ≡ Some v
firing_fires x frozen last v h =
    rw (h.is_row, h.is_freeze, h.keeps_none, h.is_last, h.arguments, h.result) refl

-- what doesn't fire keeps what it kept
pub rests : (x frozen : Option Value) → x ≡ None → or_else x frozen ≡ frozen
rests x frozen e = rw e refl

pub kept_now : (x frozen : Option Value) (v : Value) → x ≡ Some v → or_else x frozen ≡ Some v
kept_now x frozen v e = rw e refl
