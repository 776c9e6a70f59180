-- What a node shows it shows in every graph that keeps its rows, and whatever the nodes of names that the formula
-- doesn't mention.
use Rattle.std.proofs.Common.{◌≡◌, ℕ, zero, suc, List, [], ◌∷◌, map, Option, None, Some, refl, slice_get}
use Rattle.inc_value.specs.declared.function.FnKind.{FnKind}
use Rattle.inc_value.specs.declared.function.FnKind.TheVariants as kind
use Rattle.inc_value.specs.declared.function.FnRef.{FnRef}
use Rattle.inc_value.specs.declared.node.NodeId.{NodeId}
use Rattle.inc_value.specs.declared.value.Value.{Value as GraphValue}
use Rattle.inc_value.specs.Choice.{Every as Each}
use Rattle.inc_terms.specs.Graph.{Graph}
use Rattle.inc_terms.specs.Term as term
use Rattle.inc_terms.specs.Term.{Term, Terms, Functions}
use Rattle.inc_terms.specs.Within.{TermWithin, TermsWithin}
use Rattle.script_model.specs.Values.{Value, Int, Bool, Text, Reference}
use Rattle.script_model.specs.Formula.{Formula, Formulas, TimedValue, Literal, Name, Bound, Apply, Fold, If, Join, Bind, At, Steps, Now, End, More, State}
use Rattle.transfer.specs.Both.{Both, graph_value}
use Rattle.transfer.specs.Shows.{Mode, Spelled, Built, Binding, Opens, Spot, Own, Fills, Writes, WritesAll, Shows, ShowsAll, graph_step}
use Rattle.transfer.specs.Keeping.{left_by, AnyNode, TermsStay, RowsStay}
use Rattle.transfer.proofs.Agreement.{plain_reads}
use Rattle.transfer.proofs.Mentions.{ValueMentions, Mentions, AllMention}

module _ (x : Both) (H : Functions) (Q : FnKind → FnRef → Type 0) (terms : TermsStay x H Q) (G : Graph) (s : State)
    (nodes : ℕ → NodeId) (P : ℕ → Type 0)
    (same : (k : ℕ) → P k → nodes k ≡ x.nodes k)
    (kept : RowsStay x.graph G) where
  pub value_on : (v : Value) → ValueMentions P v → graph_value nodes v ≡ graph_value x.nodes v
  value_on (Int z) p = refl
  value_on (Bool b) p = refl
  value_on (Text bytes) p = refl
  value_on (Reference t b) p = rw (same t p) refl

  opens_on : (m : Mode) (t u : Term) → Opens x.graph m t u → Opens G m t u
  opens_on Spelled t u h = h
  opens_on (Built S) t u (n, r, e, row, scope, def) = (n, r, e, kept n r u row def, scope, def)

  steps_on : (steps : List TimedValue) → Each (λ (s : TimedValue). ValueMentions P s.value) steps
      → map (graph_step nodes) steps ≡ map (graph_step x.nodes) steps
  steps_on [] p = refl
  steps_on (step ∷ steps) p = rw (value_on step.value p.0, steps_on steps p.1) refl

  fills_on : (E : List Binding) (inner : List (Option ℕ)) (caps : Terms)
      → Each (λ (b : Binding). ValueMentions P b.value) E → Fills x E inner caps
      → Fills (left_by x H G s nodes) E inner caps
  fills_on [] [] caps p h = h
  fills_on [] (j ∷ inner) caps p h = h
  fills_on (b ∷ E) [] caps p h = h
  fills_on (b ∷ E) (None ∷ inner) caps p h = fills_on E inner caps p.1 h
  fills_on (b ∷ E) (Some j ∷ inner) caps p h =
      let open_on = opens_on b.mode h.0.0 (term.Const (graph_value x.nodes b.value)) h.0.2 in
      ((h.0.0, h.0.1, rw (value_on b.value p.0) open_on), fills_on E inner caps p.1 h.1)

  -- what is written in the terms of a known function is so in those that it has then
  body_on : (spots : List Spot) (g : FnRef) (f : Formula) → Q kind.Rhs g
      → ((v : GraphValue) → Writes (left_by x H G s nodes) (Own v ∷ spots) (x.functions.term g v) f)
      → (v : GraphValue) → Writes (left_by x H G s nodes) (Own v ∷ spots) (H.term g v) f
  body_on spots g f known w v = rw (terms.same g v known) (w v)

  mutual
    writes_on : (spots : _) (t : Term) (f : Formula) → Mentions P f → TermWithin AnyNode Q t → Writes x spots t f
        → Writes (left_by x H G s nodes) spots t f
    writes_on spots t (Literal v) p known w = rw (value_on v p) w
    writes_on spots t (Name k) p known w = rw (same k p) w
    writes_on spots t (Bound k) p known w = w
    writes_on spots t (Apply g fs) p known w =
        let parts = rw w.1 at known in (w.0, w.1, all_writes_on spots w.0 fs p parts.1 w.2)
    writes_on spots t (Fold g v fs) p known w =
        let parts = rw w.1 at known in
        (w.0, rw (value_on v p.0) w.1, all_writes_on spots w.0 fs p.1 parts.2 w.2)
    writes_on spots t (If test a b) p known w =
        let parts = rw w.3 at known in (
          w.0,
          w.1,
          w.2,
          w.3,
          writes_on spots w.0 test p.0 parts.0 w.4,
          writes_on spots w.1 a p.1 parts.1 w.5,
          writes_on spots w.2 b p.2 parts.2 w.6,
        )
    writes_on spots t (Join c) p known w =
        let parts = rw w.1 at known in (w.0, w.1, writes_on spots w.0 c p parts w.2)
    writes_on spots t (Bind l b) p known w =
        let parts = rw w.3 at known in (
          w.0,
          w.1,
          w.2,
          w.3,
          writes_on spots w.0 l p.0 parts.1 w.4,
          w.5,
          w.6,
          body_on _ w.1 b parts.0
              (λ v. writes_on _ (x.functions.term w.1 v) b p.1 (terms.within w.1 v parts.0) (w.7 v)),
        )
    writes_on spots t (At time) p known w = w
    writes_on spots t (Steps v ss) p known w = rw (value_on v p.0, steps_on ss p.1) w
    writes_on spots t Now p known w = w

    all_writes_on : (spots : _) (ts : Terms) (fs : Formulas) → AllMention P fs → TermsWithin AnyNode Q ts
        → WritesAll x spots ts fs → WritesAll (left_by x H G s nodes) spots ts fs
    all_writes_on spots term.End End p known w = w
    all_writes_on spots term.End (More f fs) p known w = w
    all_writes_on spots (term.More t ts) End p known w = w
    all_writes_on spots (term.More t ts) (More f fs) p known w =
        (writes_on spots t f p.0 known.0 w.0, all_writes_on spots ts fs p.1 known.1 w.1)

  -- the function of a bind that a node shows is known
  known_bind : (S : Option NodeId) (t : Term) (p : Term) (g : FnRef) (caps : Terms)
      → Opens x.graph (Built S) t (term.Bind p g caps) → Q kind.Rhs g
  known_bind S t p g caps (n, r, e, row, scope, def) =
      (rw (plain_reads x.graph n r.def (term.Bind p g caps) def) at (terms.rows n r row)).0

  module _ (S : Option NodeId) (E : List Binding) (known : Each (λ (b : Binding). ValueMentions P b.value) E) where
    variable_on : (E : List Binding) → Each (λ (b : Binding). ValueMentions P b.value) E → (k : ℕ) (b : Binding)
        → slice_get E k ≡ Some b
        → ValueMentions P b.value
    variable_on [] p k b e = absurd (cc)
    variable_on (c ∷ E) p zero b e = let same : c ≡ b = cc in rw same at p.0
    variable_on (c ∷ E) p (suc k) b e = variable_on E p.1 k b e

    mutual
      pub shows_on : (t : Term) (f : Formula) → Mentions P f → Shows x (Built S) E t f
          → Shows (left_by x H G s nodes) (Built S) E t f
      shows_on t (Literal v) p h = rw (value_on v p) (opens_on (Built S) t (term.Const (graph_value x.nodes v)) h)
      shows_on t (Name k) p h = rw (same k p) h
      shows_on t (Bound k) p h =
          let open_on = opens_on h.0.mode t (term.Const (graph_value x.nodes h.0.value)) h.2 in
          (h.0, h.1, rw (value_on h.0.value (variable_on E known k h.0 h.1)) open_on)
      shows_on t (Apply g fs) p h = (h.0, opens_on (Built S) t (term.Map g h.0) h.1, all_show_on h.0 fs p h.2)
      shows_on t (Fold g v fs) p h = (
        h.0,
        rw (value_on v p.0) (opens_on (Built S) t (term.Fold g (graph_value x.nodes v) h.0) h.1),
        all_show_on h.0 fs p.1 h.2,
      )
      shows_on t (If test a b) p h = (
        h.0,
        h.1,
        h.2,
        opens_on (Built S) t (term.If h.0 h.1 h.2) h.3,
        shows_on h.0 test p.0 h.4,
        shows_on h.1 a p.1 h.5,
        shows_on h.2 b p.2 h.6,
      )
      shows_on t (Join c) p h = (h.0, opens_on (Built S) t (term.Join h.0) h.1, shows_on h.0 c p h.2)
      shows_on t (Bind l b) p h = (
        h.0,
        h.1,
        h.2,
        opens_on (Built S) t (term.Bind h.0 h.1 h.2) h.3,
        shows_on h.0 l p.0 h.4,
        h.5,
        fills_on E h.5 h.2 known h.6,
        body_on _ h.1 b (known_bind S t h.0 h.1 h.2 h.3)
            (λ v. writes_on _ (x.functions.term h.1 v) b p.1 (terms.within h.1 v (known_bind S t h.0 h.1 h.2 h.3))
            (h.7 v)),
      )
      shows_on t (At time) p h = opens_on (Built S) t (term.At _) h
      shows_on t (Steps v ss) p h = rw (value_on v p.0, steps_on ss p.1) (opens_on (Built S) t (term.Steps _ _) h)
      shows_on t Now p h = opens_on (Built S) t term.Now h

      all_show_on : (ts : Terms) (fs : Formulas) → AllMention P fs → ShowsAll x (Built S) E ts fs
          → ShowsAll (left_by x H G s nodes) (Built S) E ts fs
      all_show_on term.End End p h = h
      all_show_on term.End (More f fs) p h = h
      all_show_on (term.More t ts) End p h = h
      all_show_on (term.More t ts) (More f fs) p h = (shows_on t f p.0 h.0, all_show_on ts fs p.1 h.1)
