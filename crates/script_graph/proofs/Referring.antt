-- What values refer to.
use Rattle.std.proofs.Common.{◌≡◌, ℕ, true, Option, None, Some, option_map, refl, ap, sym, ◌∙◌}
use Rattle.script_model.proofs.Leaves.{reference_more}
use Rattle.script_model.specs.Leaves.{EveryReference}
use Rattle.inc_value.specs.Choice.{and_then}
use Rattle.inc_value.specs.declared.node.NodeId.{NodeId}
use Rattle.inc_value.specs.declared.ty.Ty.{Ty}
use Rattle.inc_value.specs.declared.outcome.Outcome.TheVariants as outcome
use Rattle.inc_value.specs.declared.value.Value.TheVariants as engine
use Rattle.script_model.specs.Check.{target_of_body}
use Rattle.observers.specs.declared.observer.Watch.TheVariants as watch
use Rattle.script_model.specs.Formula.{State, Entry, Observer, Watch, Unwatched, Fresh, Told, entry_at}
use Rattle.script_model.specs.Valid.{NameHasType, ValueHasType, OutcomeHasType}
use Rattle.script_model.specs.Values.{Value, Int, Bool, Text, Reference, Outcome, Val, Invalid}
use Rattle.script_graph.specs.Represents.{graph_observer, graph_watch}
use Rattle.script_graph.specs.Today.{AllPlain, IsDeclaredTarget, RefersTo}
use Rattle.script_graph.proofs.Owning.{own_body}
use Rattle.transfer.specs.Both.{graph_value, graph_outcome}

-- ---- in another graph

module _ (P : ℕ → Type 0) (nodes nodes' : ℕ → NodeId) (same : (t : ℕ) → P t → nodes' t ≡ nodes t) where
  -- a value is the same where that is to which it refers has the same node
  pub value_agrees : (v : Value) → EveryReference P v → graph_value nodes v ≡ graph_value nodes' v
  value_agrees (Int z) refers = refl
  value_agrees (Bool b) refers = refl
  value_agrees (Text bytes) refers = refl
  value_agrees (Reference target base) refers = ap (λ (n : NodeId). engine.Node n base) (sym (same target refers))

  -- so is an outcome
  pub outcome_agrees : (o : Outcome) → RefersTo P o → graph_outcome nodes o ≡ graph_outcome nodes' o
  outcome_agrees (Val v) refers = ap (λ w. outcome.Val w) (value_agrees v refers)
  outcome_agrees Invalid refers = refl

  shown_agrees : (o : Option Outcome) → ((p : Outcome) → o ≡ Some p → RefersTo P p)
      → option_map (graph_outcome nodes) o ≡ option_map (graph_outcome nodes') o
  shown_agrees None refers = refl
  shown_agrees (Some p) refers = ap (λ o. Some o) (outcome_agrees p (refers p refl))

  watch_agrees : (w : Watch) → ((p : Outcome) → w ≡ Told p → RefersTo P p) → graph_watch nodes w ≡ graph_watch nodes' w
  watch_agrees Unwatched refers = refl
  watch_agrees Fresh refers = refl
  watch_agrees (Told p) refers = ap (λ o. watch.Since o) (outcome_agrees p (refers p refl))

  -- so is an observer of the same node
  pub observer_agrees : (x : Observer) → nodes' x.target ≡ nodes x.target → ((p : Outcome) → x.shown ≡ Some p → RefersTo P p)
      → ((p : Outcome) → x.watch ≡ Told p → RefersTo P p) → graph_observer nodes x ≡ graph_observer nodes' x
  observer_agrees x node shown told = λ i. record {
    node = sym node i;
    in_use = true;
    shown = shown_agrees x.shown shown i;
    watch = watch_agrees x.watch told i;
  }

-- ---- what has the one property has the other

module _ (P Q : ℕ → Type 0) (more : (t : ℕ) → P t → Q t) where
  pub value_refers_more : (v : Value) → EveryReference P v → EveryReference Q v
  value_refers_more v refers = reference_more P Q more v refers

  pub outcome_refers_more : (o : Outcome) → RefersTo P o → RefersTo Q o
  outcome_refers_more (Val v) refers = value_refers_more v refers
  outcome_refers_more Invalid refers = tt

-- ---- in a plain state

module _ (s : State) (plain : AllPlain s) (targets : (n : ℕ) (e : Entry) → entry_at s n ≡ Some e → e.target ≡ target_of_body n e.body) where
  -- what has a type as a name is declared, and is no other name
  pub named_is_declared : (below position : ℕ) (t : Ty) → NameHasType s below position t → IsDeclaredTarget s position
  named_is_declared below position t h =
      let is = ap (λ (o : Option Entry). and_then o (λ (e : Entry). Some e.body)) h.stands in
      (h.entry.body, is, own_body s plain position h.entry.body is (sym (targets position h.entry h.stands) ∙ h.own))

  -- what has a type as a value refers to what is declared
  pub typed_value_refers : (below : ℕ) (v : Value) (t : Ty) → ValueHasType s below v t → EveryReference (IsDeclaredTarget s) v
  typed_value_refers below (Int z) t h = tt
  typed_value_refers below (Bool b) t h = tt
  typed_value_refers below (Text bytes) t h = tt
  typed_value_refers below (Reference target base) t h = named_is_declared below target _ h.1

  pub typed_outcome_refers : (o : Outcome) (t : Ty) → OutcomeHasType s o t → RefersTo (IsDeclaredTarget s) o
  typed_outcome_refers (Val v) t h = typed_value_refers _ v t h
  typed_outcome_refers Invalid t h = tt
