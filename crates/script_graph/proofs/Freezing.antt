-- Which value a freeze keeps once a stabilize was accepted.
use Rattle.std.proofs.Common.{◌≡◌, inl, inr, ℕ, true, false, List, [], ◌∷◌, Option, None, Some, option_map, refl, ap, sym, subst, ◌∙◌}
use Rattle.inc_value.specs.Choice.{Among, and_then, here}
use Rattle.inc_value.specs.declared.function.FnRef.{FnRef}
use Rattle.inc_value.specs.declared.node.NodeId.{NodeId}
use Rattle.inc_value.specs.declared.node.Part.TheVariants.{Main}
use Rattle.inc_value.specs.declared.node.Point.{Point}
use Rattle.inc_value.specs.declared.outcome.Outcome.TheVariants as outcome
use Rattle.inc_value.specs.declared.value.Value.{Value as GraphValue}
use Rattle.inc_value.specs.declared.value.Value.TheVariants as held
use Rattle.inc_terms.specs.Depend.{fixed, fixed_reads, main}
use Rattle.inc_terms.specs.Evaluate.{NodeGives, Of}
use Rattle.inc_terms.specs.Graph as graph_def
use Rattle.inc_terms.specs.Graph.{Graph, Row}
use Rattle.inc_terms.specs.Term as term
use Rattle.inc_terms.specs.Term.{Functions}
use Rattle.inc_terms.proofs.Evaluation.{one_outcome}
use Rattle.inc_terms.proofs.Local.{needed_more}
use Rattle.stabilizer.specs.Left.{IsObservedIn}
use Rattle.stabilize_round.specs.Ended.{Fires}
use Rattle.graph.specs.Stabilizes.{Stabilizes as GraphStabilizes, left_by, died_by}
use Rattle.graph.specs.Standing.{GraphView, graph}
use Rattle.observers.specs.Observers.{in_use}
use Rattle.script_model.specs.Evaluate.{Gives}
use Rattle.script_model.specs.Formula.{State, Body, Formula, Meanings, meanings_of, body_at, formula_of_body, Freeze}
use Rattle.script_model.specs.Need.{part_of, formula_at}
use Rattle.script_model.specs.Settle.{recorded}
use Rattle.script_model.specs.Values.{Value, Int, Bool as Truth, Text, Reference, Outcome, Val, Invalid}
use Rattle.script_graph.specs.Kept.{Kept, node_in}
use Rattle.script_graph.specs.Represents.{graph_functions}
use Rattle.script_graph.proofs.Becoming.{recorded_of}
use Rattle.script_graph.proofs.Middle.{IsStabilize, middle, fits_then, rooted_then}
use Rattle.script_graph.proofs.Recalling.{needed_is_right}
use Rattle.transfer.specs.Both.{Both, graph_outcome, graph_value}
use Rattle.transfer.specs.Items.{node_at}
use Rattle.transfer.specs.Shows.{Declares, Fits}
use Rattle.transfer.proofs.Carriers.{place_agrees}
use Rattle.transfer.proofs.Places.{stands_none}

module _ (named : List ℕ → Option FnRef) (value : FnRef → List GraphValue → GraphValue) (s : State) (k : Kept) (g : GraphView (Unit {0}))
    (c : IsStabilize (meanings_of named value) s k g) (done : GraphStabilizes (graph_functions (meanings_of named value) k.bodies) k.graph g) where
  abbrev F : Meanings
  F = meanings_of named value

  abbrev M : Functions
  M = graph_functions F k.bodies

  abbrev N : ℕ → NodeId
  N = node_in k.nodes

  abbrev y : Both
  y = middle F s k g

  abbrev G' : Graph
  G' = graph g

  abbrev observed : List NodeId
  observed = in_use k.graph.observers

  abbrev IsObserved : Point → Type 0
  IsObserved p = IsObservedIn M (left_by k.graph g) (died_by k.graph g) observed p

  fits : Fits y
  fits = fits_then named value s k g c

  -- what a freeze keeps it keeps
  pub still_frozen : (n : ℕ) (child : Formula) (predicate : FnRef) (v : Value) → body_at s n ≡ Some (Freeze child predicate (Some v))
      → G'.frozen (N n) ≡ Some (graph_value N v)
  still_frozen n child predicate v is =
      let d : Declares y (N n) (Some (Freeze child predicate (Some v))) = rw is at (fits.declared n) in
      (done.right.froze (N n) (graph_value N v)).1 (inl d.3)

  module _ (n : ℕ) (child : Formula) (predicate : FnRef) (is : body_at s n ≡ Some (Freeze child predicate None)) where
    there : Declares y (N n) (Some (Freeze child predicate None))
    there = rw is at (fits.declared n)

    abbrev kid : NodeId
    kid = there.0

    abbrev row : Row
    row = there.1.0

    -- its child is needed
    kid_needed : IsObserved (main kid)
    kid_needed =
        let need : IsObserved (main (N n)) = (
          N n,
          inr (record {
            row = row;
            kid = kid;
            predicate = predicate;
            is_row = there.1.1;
            is_freeze = there.1.3;
            keeps_none = there.3;
          }),
          here,
        ) in
        let exact = needed_is_right M k.graph g c.sound'.scopes (rooted_then named value s k g c) done (main (N n)) need row there.1.1 in
        let def = there.1.3 in
        let none = there.3 in
        let reads : Among (main kid) (fixed_reads y.graph (N n) row.def Main) = rw (def, none) (inl refl) in
        needed_more M y.graph y.died observed (main (N n)) (main kid) need (fixed there.1.1 exact.0 reads)

    -- it gives what the formula gives
    kid_gives : (p : Outcome) × NodeGives M y.graph kid (graph_outcome N p) × Gives F s [] child p
    kid_gives =
        let sees = done.right.sees kid kid_needed in
        let formula : formula_at s n [] ≡ Some child =
        ap (λ (b : Option Body). and_then b (λ (d : Body). and_then (formula_of_body d) (λ (f : Formula). part_of f []))) is in
        let row_is = there.1.1 in
        let def = there.1.3 in
        let node : node_at y n [] ≡ Some kid = rw (is, row_is, def) refl in
        let p = place_agrees y fits n [] child kid sees.0 formula node (stands_none y) sees.2 in
        (p.0, subst (λ o. NodeGives M y.graph kid o) p.1 sees.2, (p.2.0, rw formula at p.2.1))

    -- where it keeps a value now, it fires
    fires : (v : GraphValue) → G'.frozen (N n) ≡ Some v → Fires M y.graph (N n) v
    fires v e = elim ((done.right.froze (N n) v).0 e) [
      | inl kept ↦ absurd (let clash : None ≡ Some v = sym there.3 ∙ kept in cc)
      | inr h ↦ h
    ]

    -- and its child gives that
    fired : (v : GraphValue) → Fires M y.graph (N n) v
        → NodeGives M y.graph kid (outcome.Val v) × (M.value predicate (v ∷ []) ≡ held.Bool true)
    fired v h =
        let rows : h.row ≡ row = (let e : Some h.row ≡ Some row = sym h.is_row ∙ there.1.1 in cc) in
        let defs : graph_def.Freeze h.kid h.predicate ≡ graph_def.Freeze kid predicate = sym h.is_freeze ∙ (ap (λ (q : Row). q.def) rows ∙ there.1.3) in
        let kids : h.kid ≡ kid = cc in
        let predicates : h.predicate ≡ predicate = cc in (
          subst (λ (q : NodeId). NodeGives M y.graph q (outcome.Val v)) kids h.gives,
          subst (λ (f : FnRef). M.value f (v ∷ []) ≡ held.Bool true) predicates h.holds,
        )

    none_frozen : ((v : GraphValue) → Fires M y.graph (N n) v → ⊥) → G'.frozen (N n) ≡ None
    none_frozen rests = go (G'.frozen (N n)) refl
      where
        go : (x : Option GraphValue) → G'.frozen (N n) ≡ x → G'.frozen (N n) ≡ None
        go None e = e
        go (Some v) e = absurd (rests v (fires v e))

    -- a predicate that gives another value than true keeps it from firing
    not_true : (w : Value) (x : Value) → F.value predicate (w ∷ []) ≡ x → (graph_value N x ≡ held.Bool true → ⊥)
        → NodeGives M y.graph kid (graph_outcome N (Val w)) → (v : GraphValue) → Fires M y.graph (N n) v → ⊥
    not_true w x is_x other gives v h =
        let f = fired v h in
        let one : outcome.Val (graph_value N w) ≡ outcome.Val v =
        one_outcome M y.graph (Of (term.Ref kid)) (outcome.Val (graph_value N w)) (outcome.Val v) gives f.0 in
        let same : graph_value N w ≡ v = cc in
        let given : M.value predicate (v ∷ []) ≡ graph_value N x =
        subst (λ (z : GraphValue). M.value predicate (z ∷ []) ≡ graph_value N x) same
        (fits.functions N predicate (w ∷ []) ∙ ap (graph_value N) is_x) in
        other (sym given ∙ f.1)

    by_value : (w x : Value) → F.value predicate (w ∷ []) ≡ x → NodeGives M y.graph kid (graph_outcome N (Val w))
        → G'.frozen (N n) ≡ option_map (graph_value N) (recorded F predicate (Val w))
    by_value w (Truth true) is_x gives =
        (done.right.froze (N n) (graph_value N w)).1 (inr (record {
          row = row;
          kid = kid;
          predicate = predicate;
          is_row = there.1.1;
          is_freeze = there.1.3;
          keeps_none = there.3;
          gives = gives;
          holds = fits.functions N predicate (w ∷ []) ∙ ap (graph_value N) is_x;
        })) ∙ sym (ap (option_map (graph_value N)) (recorded_of F predicate w (Truth true) is_x))
    by_value w (Truth false) is_x gives =
        none_frozen (not_true w (Truth false) is_x (λ e. cc) gives) ∙ sym (ap (option_map (graph_value N)) (recorded_of F predicate w (Truth false) is_x))
    by_value w (Int z) is_x gives =
        none_frozen (not_true w (Int z) is_x (λ e. cc) gives) ∙ sym (ap (option_map (graph_value N)) (recorded_of F predicate w (Int z) is_x))
    by_value w (Text bytes) is_x gives =
        none_frozen (not_true w (Text bytes) is_x (λ e. cc) gives) ∙ sym (ap (option_map (graph_value N)) (recorded_of F predicate w (Text bytes) is_x))
    by_value w (Reference t base) is_x gives =
        none_frozen (not_true w (Reference t base) is_x (λ e. cc) gives)
        ∙ sym (ap (option_map (graph_value N)) (recorded_of F predicate w (Reference t base) is_x))

    by_outcome : (p : Outcome) → NodeGives M y.graph kid (graph_outcome N p) → G'.frozen (N n) ≡ option_map (graph_value N) (recorded F predicate p)
    by_outcome (Val w) gives = by_value w (F.value predicate (w ∷ [])) refl gives
    by_outcome Invalid gives = none_frozen (λ v h.
        let one : outcome.Invalid ≡ outcome.Val v = one_outcome M y.graph (Of (term.Ref kid)) outcome.Invalid (outcome.Val v) gives (fired v h).0 in cc)

    -- a freeze that kept none keeps what its predicate is true of
    pub freezes_so : (o : Outcome) × Gives F s [] child o × (G'.frozen (N n) ≡ option_map (graph_value N) (recorded F predicate o))
    freezes_so = let p = kid_gives in (p.0, p.2, by_outcome p.0 p.1)
