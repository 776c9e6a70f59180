-- The worked pair fits.
use Rattle.std.proofs.Common.{◌≡◌, ℕ, zero, suc, pos, true, List, [], ◌∷◌, None, Some, refl, sym, ◌∙◌}
use Rattle.inc_value.specs.declared.function.FnRef.{FnRef}
use Rattle.inc_value.specs.declared.node.NodeId.{NodeId}
use Rattle.inc_value.specs.declared.outcome.Outcome.TheVariants as outcome
use Rattle.inc_value.specs.declared.ty.Ty.TheVariants as ty
use Rattle.inc_value.specs.declared.value.Value.{Value as GraphValue}
use Rattle.inc_value.specs.declared.value.Value.TheVariants as held
use Rattle.inc_terms.specs.Graph as graph
use Rattle.inc_terms.specs.Graph.{Row}
use Rattle.inc_terms.specs.Local.{IsRooted}
use Rattle.inc_terms.specs.Same.{same_outcome}
use Rattle.inc_terms.specs.Term as term
use Rattle.inc_terms.specs.Unfold.{Unfolds}
use Rattle.script_model.specs.Formula as script
use Rattle.script_model.specs.Formula.{body_at, Name, Computed, Grab}
use Rattle.script_model.specs.Values.{Value}
use Rattle.transfer.specs.Shows.{Declares, IsOwn, Own}
use Rattle.transfer.specs.Laws.{SomeFit, BodyHasNodes}
use Rattle.transfer.specs.Worked.{node, function, rows, builts, nodes, both}

declared : (k : ℕ) → Declares both (nodes k) (body_at both.state k)
declared zero = (record { def = graph.Var (held.Int (pos 1)); ty = _; scope = None }, refl, refl, refl)
declared (suc zero) = (
  term.Ref (node 0),
  function 1,
  term.End,
  (node 1, record { def = graph.Bind (node 0) (function 1) []; ty = _; scope = None }, refl, refl, refl, refl),
  refl,
  [],
  tt,
  λ (v : GraphValue). (term.More _ (term.More (term.Ref (node 0)) term.End), refl, ((Own v, refl, refl), (refl, tt))),
)
declared (suc (suc k)) = (refl, refl)

resolved : (k t : ℕ) (kept : script.Kept) → body_at both.state k ≡ Some (Computed (Name t) kept)
    → IsOwn (body_at both.state t)
resolved zero t kept e = absurd (cc)
resolved (suc zero) t kept e = absurd (cc)
resolved (suc (suc k)) t kept e = absurd (cc)

is_rooted : (s g : ℕ) (r : Row) (l : NodeId) (f : FnRef) (caps : List NodeId) (w : graph.Built) → rows s g ≡ Some r
    → r.def ≡ graph.Bind l f caps → builts s g ≡ Some w
    → IsRooted both.functions both.graph (record { slot = s; gen_ = g }) f caps w
is_rooted (suc zero) (suc zero) r l f caps w row def built = record { unfolds = unfolds; rootless = rootless }
  where
    root : Some (node 3) ≡ w.root
    root = let e : record { outcome = outcome.Val (held.Int (pos 1)); root = Some (node 3) } ≡ w =
        cc in λ i. (e i).root

    first : outcome.Val (held.Int (pos 1)) ≡ w.outcome
    first = let e : record { outcome = outcome.Val (held.Int (pos 1)); root = Some (node 3) } ≡ w =
        cc in λ i. (e i).outcome

    outside : (r : Row) → rows 0 0 ≡ Some r → r.scope ≡ Some (node 1) → ⊥
    outside r e s =
        let scope : None ≡ r.scope = (let e' = e in scope_of r e') in let n : None ≡ Some (node 1) = scope ∙ s in cc
      where
        scope_of : (r : Row) → Some (record { def = graph.Var (held.Int (pos 1)); ty = ty.Int; scope = None }) ≡ Some
            r → None ≡ r.scope
        scope_of r e =
            let e' : record { def = graph.Var (held.Int (pos 1)); ty = ty.Int; scope = None } ≡ r = cc in
            λ i. (e' i).scope

    at_one : Unfolds both.graph (Some (node 1)) caps (node 3)
        (term.Map (function 0) (term.More (term.Const (held.Int (pos 1))) (term.More (term.Ref (node 0)) term.End)))
    at_one = (
      node 2 ∷ node 0 ∷ [],
      (
        record { def = graph.Map (function 0) (node 2 ∷ node 0 ∷ []); ty = ty.Int; scope = Some (node 1) },
        refl,
        refl,
        refl,
      ),
      (
        (record { def = graph.Const (held.Int (pos 1)); ty = ty.Int; scope = Some (node 1) }, refl, refl, refl),
        ((refl, outside), tt),
      ),
    )

    unfolds : (v : GraphValue) → w.outcome ≡ outcome.Val v → (root : NodeId) × (w.root ≡ Some root)
        × Unfolds both.graph (Some (node 1)) caps root (both.functions.term f v)
    unfolds v for_v = let value : held.Int (pos 1) ≡ v = cc in (node 3, sym root, rw (← value) at_one)

    rootless : w.outcome ≡ outcome.Invalid → w.root ≡ None
    rootless e = let never = first ∙ e in absurd (cc)
is_rooted s g r l f caps w row def built = absurd (cc)

no_grabs : (k b : ℕ) (v : Value) → body_at both.state k ≡ Some (Grab b v true) → ⊥
no_grabs zero b v e = cc
no_grabs (suc zero) b v e = cc
no_grabs (suc (suc k)) b v e = cc

pub worked_fits : SomeFit
worked_fits =
    record {
      clock = refl;
      functions = λ nodes f vs. refl;
      declared = declared;
      resolved = resolved;
      rooted = λ b r l f caps w row def built. is_rooted b.slot b.gen_ r l f caps w row def built;
      grabbed = λ k b v e. absurd (no_grabs k b v e);
    }

pub worked_nodes : BodyHasNodes
unfolding same_outcome
worked_nodes = record { body = refl; variable = refl; name = refl; other = refl }
