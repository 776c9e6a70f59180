-- What is needed once a stabilize was accepted, which calls it made, and what it built binds for.
use Rattle.std.proofs.Common.{◌≡◌, inl, inr, ℕ, true, false, ◌&&◌, Bool, List, [], ◌∷◌, length, Option, None, Some, option_map, refl, ap, sym, subst, ◌∙◌, arith}
use Rattle.inc_value.specs.Choice.{and_then}
use Rattle.inc_value.specs.declared.function.FnRef.{FnRef}
use Rattle.inc_value.specs.declared.node.NodeId.{NodeId}
use Rattle.inc_value.specs.declared.node.Part.TheVariants.{Change as ChangePart, Main as MainPart}
use Rattle.inc_value.specs.declared.node.Point.{Point}
use Rattle.inc_value.specs.declared.outcome.Outcome.{Outcome as GraphOutcome}
use Rattle.inc_value.specs.declared.ty.Ty.{Ty}
use Rattle.inc_value.specs.declared.value.Value.{Value as GraphValue}
use Rattle.inc_terms.specs.Depend.{change}
use Rattle.inc_terms.specs.Evaluate.{NodeGives}
use Rattle.inc_terms.specs.Graph as graph_def
use Rattle.inc_terms.specs.Graph.{Graph, Row}
use Rattle.inc_terms.specs.Local.{Exact}
use Rattle.inc_terms.specs.Rebuilding.{outcome_of}
use Rattle.inc_terms.specs.Term as term
use Rattle.inc_terms.specs.Term.{Functions}
use Rattle.stabilizer.specs.Left.{IsObservedIn, IsMetIn, IsBuiltMetIn}
use Rattle.graph.specs.Sound.{IsWhole}
use Rattle.graph.specs.Stabilizes.{Stabilizes as GraphStabilizes, left_by, died_by}
use Rattle.graph.specs.Standing.{look, GraphView, graph}
use Rattle.observers.specs.Observers.{in_use}
use Rattle.stabilize_round.specs.Calling.{costs_of}
use Rattle.script_model.specs.Blocked.{InTheWay, on_cycle, too_deep}
use Rattle.script_model.specs.Formula as script
use Rattle.script_model.specs.Formula.{State, Entry, Body, Formula, Meanings, meanings_of, bind_of, body_at, built_of_body, If, Join, Bind, Computed, Freeze}
use Rattle.script_model.specs.Need.{Edge, Item, Place, Left, ItemGives, Needed, Met, WithinWork, formula_at}
use Rattle.script_model.specs.Settle.{recorded}
use Rattle.script_model.specs.Step.{Moment, NothingNeededIsBlocked}
use Rattle.script_model.specs.Valid.{HasType, OutcomeHasType}
use Rattle.script_model.specs.Values.{Value, Outcome, Val, Invalid, same_kept, same_outcome}
use Rattle.script_model.proofs.Places.{same_values, met_stands}
use Rattle.script_model.proofs.TypedValues.{values_have_types}
use Rattle.script_graph.specs.Kept.{Kept, node_in}
use Rattle.script_graph.specs.Represents.{graph_functions}
use Rattle.script_graph.specs.Settled.{side_of, observed_by}
use Rattle.script_graph.specs.State.{Stands}
use Rattle.script_graph.proofs.Becoming.{BuiltThen, IsThen, AllBuilt, all_built}
use Rattle.script_graph.proofs.Circling.{parts_are_apart}
use Rattle.script_graph.proofs.Freezing.{freezes_so, still_frozen}
use Rattle.script_graph.proofs.Middle.{IsStabilize, IsBindNode, middle, given, fits_then, tops, bind_node, left_node, left_formula, rooted_then}
use Rattle.script_graph.proofs.Recalling.{shown_at, needed_is_right, run_right}
use Rattle.script_graph.proofs.Refusing.{met_is_closed}
use Rattle.script_graph.proofs.Remembering.{meeting_is_covered, due_is_covered, stood, observed_among}
use Rattle.script_graph.proofs.Watching.{roots_have_in}
use Rattle.transfer.specs.Both.{Both, graph_value, graph_outcome}
use Rattle.transfer.specs.Items.{node_at, GrabsBind, RootsHave, CoveredBy, IsChoice, by_main, by_choice, by_left, by_variable, scope_at}
use Rattle.transfer.specs.Shows.{Fits}
use Rattle.transfer.proofs.Agreement.{same_itself}
use Rattle.transfer.proofs.Carriers.{place_agrees}
use Rattle.transfer.proofs.Chains.{left_bind}
use Rattle.transfer.proofs.Deep.{needed_is_shallow, needed_is_on_no_cycle}
use Rattle.transfer.proofs.Having.{needed_has_points}
use Rattle.transfer.proofs.Keeping.{same_known}
use Rattle.transfer.proofs.Places.{opened, part_above, place_shows, plain_if, plain_join, stands_none}
use Rattle.transfer.proofs.Staying.{stands_own}
use Rattle.transfer.proofs.Typed.{body_typed, valid_grabs}

-- ---- outcomes

pub same_outcomes : (o p : Outcome) → same_outcome o p ≡ true → o ≡ p
same_outcomes (Val v) (Val w) e = ap (λ z. Val z) (same_values v w e)
same_outcomes Invalid Invalid e = refl
same_outcomes (Val v) Invalid e = absurd (cc)
same_outcomes Invalid (Val w) e = absurd (cc)

pub outcome_itself : (o : Outcome) → same_outcome o o ≡ true
outcome_itself (Val v) = same_itself v
outcome_itself Invalid = refl

pub same_kepts : (a b : Option Outcome) → same_kept a b ≡ true → a ≡ b
same_kepts None None e = refl
same_kepts (Some o) (Some p) e = ap (λ z. Some z) (same_outcomes o p e)
same_kepts None (Some p) e = absurd (cc)
same_kepts (Some o) None e = absurd (cc)

pub kept_itself : (v : Value) (a b : Option Outcome) → a ≡ Some (Val v) → b ≡ Some (Val v) → same_kept a b ≡ true
kept_itself v a b e f = ap (λ z. same_kept z b) e ∙ (ap (λ z. same_kept (Some (Val v)) z) f ∙ same_itself v)

pub both_true : (a b : Bool) → a && b ≡ true → (a ≡ true) × (b ≡ true)
both_true true true e = (refl, refl)
both_true true false e = absurd (cc)
both_true false b e = absurd (cc)

-- ---- the stabilize

module _ (named : List ℕ → Option FnRef) (value : FnRef → List GraphValue → GraphValue) (m : Moment) (k : Kept) (g : GraphView (Unit {0}))
    (stands : Stands (meanings_of named value) k m) (unbroken : m.broken ≡ None) (c : IsStabilize (meanings_of named value) m.present k g)
    (whole : IsWhole c.meaning k.graph) (done : GraphStabilizes (graph_functions (meanings_of named value) k.bodies) k.graph g) where
  abbrev F : Meanings
  F = meanings_of named value

  abbrev M : Functions
  M = graph_functions F k.bodies

  abbrev s : State
  s = m.present

  abbrev before : State
  before = m.settled

  abbrev N : ℕ → NodeId
  N = node_in k.nodes

  abbrev y : Both
  y = middle F s k g

  abbrev G' : Graph
  G' = graph g

  abbrev observed : List NodeId
  observed = in_use k.graph.observers

  fits : Fits y
  fits = fits_then named value s k g c

  grabs_now : GrabsBind s
  grabs_now = valid_grabs F s c.valid

  have : RootsHave y observed
  have = roots_have_in y k (λ t. refl) fits.declared stands.matches.watches

  -- ---- what is needed

  abbrev IsObserved : Point → Type 0
  IsObserved p = IsObservedIn M (left_by k.graph g) (died_by k.graph g) observed p

  exact : (p : Point) → IsObserved p → Exact M y.graph (shown_at g) p
  exact = needed_is_right M k.graph g c.sound'.scopes (rooted_then named value s k g c) done

  -- nothing that is needed is on a cycle or too deep
  pub free : NothingNeededIsBlocked F m
  free i need blocked = by_cause i need blocked
    where
      by_cause : (j : Item) → Needed F s j → InTheWay F s j → ⊥
      by_cause j n (on_cycle {n = t} cycle) = needed_is_on_no_cycle y fits grabs_now observed have (shown_at g) exact t n cycle
      by_cause j n (too_deep deep) =
          needed_is_shallow y fits c.valid observed have (shown_at g) exact (λ p is long. done.right.shallow p is long) j n deep

  -- ---- calls

  pub due : WithinWork F before s (costs_of (left_by k.graph g) g.ran)
  due = due_is_covered named value m k g stands unbroken c whole (costs_of (left_by k.graph g) g.ran)
      (done.right.work (side_of k.graph) (observed_by k.graph) (stood named value m k g stands unbroken c whole)
      (observed_among named value m k g stands unbroken c whole) (costs_of (left_by k.graph g) g.ran) (omega arith))

  -- ---- what binds are built for

  -- what binds are built for now
  abbrev pub at : ℕ → Option GraphOutcome
  at n = outcome_of (G'.built (N n))

  -- and what freezes keep
  abbrev pub frozen_at : ℕ → Option GraphValue
  frozen_at n = G'.frozen (N n)

  pub told_apart : (p q : Outcome) (t u : Ty) → OutcomeHasType s p t → OutcomeHasType s q u → graph_outcome N p ≡ graph_outcome N q → p ≡ q
  told_apart (Val v) (Val w) t u first second same =
      let values : graph_value N v ≡ graph_value N w = cc in
      ap (λ z. Val z) (same_known s N c.held.apart (length s.entries) (length s.entries) t u v w first second values)
  told_apart Invalid Invalid t u first second same = refl
  told_apart (Val v) Invalid t u first second same = absurd (cc)
  told_apart Invalid (Val w) t u first second same = absurd (cc)

  module _ (n : ℕ) (left body : Formula) (kept : script.Kept) (is : body_at s n ≡ Some (Computed (Bind left body) kept)) where
    there : IsBindNode named value s k g c n
    there = bind_node named value s k g c n left body kept is

    on : G'.row (N n) ≡ Some there.row
    on = tops named value s k g c (N n) there.row there.is_row there.outside

    formula : formula_at s n (Left ∷ []) ≡ Some left
    formula = left_formula named value s k g c n left body kept is

    -- what its left's node gives the left gives
    gives_now : (r : Row) (l : NodeId) (f : FnRef) (caps : List NodeId) (o : GraphOutcome) → G'.row (N n) ≡ Some r → r.def ≡ graph_def.Bind l f caps
        → NodeGives M y.graph l o → (p : Outcome) × (o ≡ graph_outcome N p) × ItemGives F s (Place n (Left ∷ [])) p
    gives_now r l f caps o row def gives =
        place_agrees y fits n (Left ∷ []) left l o formula (left_node named value s k g c n left body kept is y refl r l f caps row def) (stands_none y) gives

    pub left_typed : (t : Ty) × HasType F s n [] left t
    left_typed = let h = (body_typed F s c.valid n (Computed (Bind left body) kept) is).1 in (h.0.0, h.0.1)

    pub given_typed : (p : Outcome) → ItemGives F s (Place n (Left ∷ [])) p → OutcomeHasType s p left_typed.0
    given_typed p gives =
        values_have_types F s c.keep c.valid n [] [] left left_typed.0 p tt left_typed.1 (gives.0, rw formula at gives.1)

    pub kept_typed : (p : Outcome) → kept.built ≡ Some p → (t : Ty) × OutcomeHasType s p t
    kept_typed p built =
        let h = (body_typed F s c.valid n (Computed (Bind left body) kept) is).1 in
        let fit = h.1 p built in (fit.0, fit.2)

    -- where its left is needed its change is
    change_needed : Needed F s (Place n (Left ∷ [])) → IsObserved (change (N n))
    change_needed need =
        let h = (needed_has_points y fits grabs_now y.died (λ d b e. e) (shown_at g) observed have exact (Place n (Left ∷ [])) need).1 in
        let root : node_at y n [] ≡ Some (N n) = rw is refl in
        let same : h.0 ≡ N n = (let e : Some h.0 ≡ Some (N n) = sym h.1 ∙ root in cc) in
        subst (λ (b : NodeId). IsObserved (change b)) same h.2

    -- what it is built for, if it wasn't built in this stabilize
    was_alike : G'.built (N n) ≡ (graph k.graph).built (N n) → at n ≡ option_map (graph_outcome N) kept.built
    was_alike same =
        ap outcome_of same
        ∙ (c.held.built n left body (ap (λ (b : Option Body). and_then b bind_of) is)
        ∙ ap (λ (b : Option Body). option_map (graph_outcome N) (and_then b built_of_body)) is)

    by_kept : (p : Outcome) → ItemGives F s (Place n (Left ∷ [])) p → (x : Option Outcome) → kept.built ≡ x
        → Some (graph_outcome N p) ≡ option_map (graph_outcome N) x → x ≡ Some p
    by_kept p gives None built same = absurd (cc)
    by_kept p gives (Some q) built same =
        let one : graph_outcome N q ≡ graph_outcome N p = cc in
        let typed = kept_typed q built in
        ap (λ z. Some z) (told_apart q p typed.0 left_typed.0 typed.1 (given_typed p gives) one)

    stays_so : G'.built (N n) ≡ (graph k.graph).built (N n) → BuiltThen F before s N at frozen_at n (Computed (Bind left body) kept) kept.built
    stays_so same = (
      record {
        needed = λ need.
            let run = run_right M k.graph g c.sound'.scopes (rooted_then named value s k g c) done (N n) there.left there.row there.function there.captures
            (change_needed need) on there.is_bind in
            let p = gives_now there.row there.left there.function there.captures run.0 on there.is_bind run.2 in
            let built : at n ≡ Some (graph_outcome N p.0) = ap outcome_of run.3.1 ∙ ap (λ z. Some z) (run.3.2 ∙ p.1) in
            (p.0, p.2, by_kept p.0 p.2 kept.built refl (sym built ∙ was_alike same));
        either = inl refl;
      },
      was_alike same,
    )

    -- the left place is met where the bind's change is
    left_met : IsMetIn M (left_by k.graph g) (died_by k.graph g) (look k.graph) (in_use k.graph.observers) (change (N n)) → Met F before s (Place n (Left ∷ []))
    left_met met = by_cover (meeting_is_covered named value m k g stands unbroken c whole (change (N n)) met)
      where
        no_choice : (owner : ℕ) (path : List Edge) (b : NodeId) (f : Option Formula) → formula_at s owner path ≡ f → IsChoice f → node_at y owner path ≡ Some b
            → b ≡ N n → ⊥
        no_choice owner path b None at choice node same = choice
        no_choice owner path b (Some (If test t e)) at choice node same =
            let shows = place_shows y fits owner path b (If test t e) at node in
            let o = opened G' (scope_at y owner path) b (term.If shows.0 shows.1 shows.2) shows.3 in
            let d = plain_if o.0.def shows.0 shows.1 shows.2 o.3 in
            let rows : o.0 ≡ there.row = (let z : Some o.0 ≡ Some there.row = sym o.1 ∙ (ap G'.row same ∙ on) in cc) in
            let clash : graph_def.If d.0 d.1 d.2 ≡ graph_def.Bind there.left there.function there.captures =
            sym d.3 ∙ (ap (λ (q : Row). q.def) rows ∙ there.is_bind) in cc
        no_choice owner path b (Some (Join child)) at choice node same =
            let shows = place_shows y fits owner path b (Join child) at node in
            let o = opened G' (scope_at y owner path) b (term.Join shows.0) shows.1 in
            let d = plain_join o.0.def shows.0 o.3 in
            let rows : o.0 ≡ there.row = (let z : Some o.0 ≡ Some there.row = sym o.1 ∙ (ap G'.row same ∙ on) in cc) in
            let clash : graph_def.Join d.0 ≡ graph_def.Bind there.left there.function there.captures =
            sym d.1 ∙ (ap (λ (q : Row). q.def) rows ∙ there.is_bind) in cc
        no_choice owner path b (Some f) at choice node same = choice

        by_place : (owner : ℕ) (path : List Edge) (b : NodeId) → Met F before s (Place owner (Left ∷ path)) → node_at y owner path ≡ Some b → b ≡ N n
            → Met F before s (Place n (Left ∷ []))
        by_place owner path b is_met node same =
            let f = (met_is_closed named value m k g stands unbroken c whole).there owner (Left ∷ path) is_met in
            let above = part_above s owner path Left f.0 f.1 in
            let bind = left_bind above.0 f.0 above.2 in
            let at_path : formula_at s owner path ≡ Some (Bind bind.0 bind.1) = above.1 ∙ ap (λ z. Some z) bind.2 in
            let env = stands_own y c.keep c.valid owner path (Bind bind.0 bind.1) at_path (met_stands F before s (Place owner (Left ∷ path)) is_met) in
            elim (parts_are_apart named value m k g stands unbroken c whole owner path (Bind bind.0 bind.1) b n (Computed (Bind left body) kept) env
            at_path tt node is tt (sym same)) [
              | inl h ↦ subst (λ (z : ℕ). Met F before s (Place z (Left ∷ []))) h.0
                  (subst (λ z. Met F before s (Place owner (Left ∷ z))) h.1 is_met)
              | inr h ↦ absurd (let clash = h.1 in cc)
            ]

        by_cover : CoveredBy y (Met F before s) (change (N n)) → Met F before s (Place n (Left ∷ []))
        by_cover (i, is_met, by_main node e) = absurd (let parts : ChangePart ≡ MainPart = ap (λ (p : Point). p.part) e in cc)
        by_cover (i, is_met, by_choice {owner} {path} {n = b} place node choice e) =
            absurd (no_choice owner path b (formula_at s owner path) refl choice node (ap (λ (p : Point). p.node) (sym e)))
        by_cover (i, is_met, by_left {owner} {path} {b} place node e) =
            by_place owner path b (subst (Met F before s) place is_met) node (ap (λ (p : Point). p.node) (sym e))
        by_cover (i, is_met, by_variable place node row scope built for def e) =
            absurd (let parts : ChangePart ≡ MainPart = ap (λ (p : Point). p.part) e in cc)

    built_so : IsBuiltMetIn M (left_by k.graph g) (died_by k.graph g) (look k.graph) (in_use k.graph.observers) (N n)
        → (now : Option Outcome) × BuiltThen F before s N at frozen_at n (Computed (Bind left body) kept) now
    built_so h =
        let p = gives_now h.right.row h.right.left h.right.function h.right.captures h.right.built.outcome h.right.is_row h.right.is_bind h.right.gives in (
          Some p.0,
          (
            record { needed = λ need. (p.0, p.2, refl); either = inr (p.0, left_met h.met, p.2, refl) },
            ap outcome_of h.right.is_built ∙ ap (λ z. Some z) p.1,
          ),
        )

    bind_now : (now : Option Outcome) × BuiltThen F before s N at frozen_at n (Computed (Bind left body) kept) now
    bind_now = elim (done.builds.stays (N n) there.row (given named value s k g c (N n) there.row there.is_row) on) [
      | inl same ↦ (kept.built, stays_so same)
      | inr (inl right) ↦ built_so right
      | inr (inr refused) ↦ absurd (cc)
    ]

  became : (n : ℕ) (b : Body) → body_at s n ≡ Some b → (now : Option Outcome) × (keeps : Option Value) × IsThen F before s N at frozen_at n b now keeps
  became n (Computed (Bind left body) kept) is = let h = bind_now n left body kept is in (h.0, None, (h.1, tt))
  became n (Computed f kept) is = (kept.built, None, (refl, tt))
  became n (Freeze child predicate None) is =
      let h = freezes_so named value s k g c done n child predicate is in
      (None, recorded F predicate h.0, (refl, ((h.0, h.1, refl), h.2)))
  became n (Freeze child predicate (Some v)) is = (None, Some v, (refl, (refl, still_frozen named value s k g c done n child predicate v is)))
  became n b is = (None, None, (refl, tt))

  pub all : AllBuilt F before s N at frozen_at 0 s.entries
  all = all_built F before s N at frozen_at 0 s.entries (λ j e is i same.
      let index : j ≡ i = omega (arith, same) in
      subst (λ (z : ℕ). (now : Option Outcome) × (keeps : Option Value) × IsThen F before s N at frozen_at z e.body now keeps) index
      (became j e.body (ap (λ (o : Option Entry). and_then o (λ (d : Entry). Some d.body)) is)))
