-- Outcomes of a graph that a script gives at some depth.
use Rattle.std.proofs.Common.{◌≡◌, ℕ, ◌+◌, ◌≤◌, List, ◌∷◌, map, Option, None, Some, refl, arith}
use Rattle.inc_value.specs.declared.node.NodeId.{NodeId}
use Rattle.inc_value.specs.declared.outcome.Outcome.{Outcome as GraphOutcome}
use Rattle.inc_value.specs.declared.outcome.Outcome.TheVariants as outcome
use Rattle.inc_value.specs.declared.value.Value.{Value as GraphValue}
use Rattle.inc_terms.specs.Evaluate as engine
use Rattle.script_model.specs.Values.{Value, Outcome, Val, Invalid}
use Rattle.script_model.specs.Evaluate.{SomeInvalid, Values, gathered, given, with_value}
use Rattle.script_model.proofs.Evaluation.{EachUnder, gathered_under}
use Rattle.transfer.specs.Both.{graph_value, graph_outcome}

-- where the graph has an outcome, the script has it at some depth
abbrev pub Said : (ℕ → NodeId) → (ℕ → Option Outcome) → Option GraphOutcome → Type 0
Said nodes at None = Unit {0}
Said nodes at (Some o) = (p : Outcome) × (o ≡ graph_outcome nodes p) × (d : ℕ) × (at d ≡ Some p)

abbrev pub Stays : (ℕ → Option Outcome) → Type 0
Stays at = (d e : ℕ) (p : Outcome) → d ≤ e → at d ≡ Some p → at e ≡ Some p

abbrev pub AllStay : (ℕ → List (Option Outcome)) → Type 0
AllStay at = (d e : ℕ) → d ≤ e → EachUnder (at d) (at e)

-- likewise of several
abbrev pub GathersSaid : (ℕ → NodeId) → (ℕ → List (Option Outcome)) → engine.Gathered → Type 0
GathersSaid nodes at engine.Unknown = Unit {0}
GathersSaid nodes at engine.SomeInvalid = (d : ℕ) × (gathered (at d) ≡ SomeInvalid)
GathersSaid nodes at (engine.Values vs) = (ws : List Value) × (vs ≡ map (graph_value nodes) ws) × (d : ℕ)
    × (gathered (at d) ≡ Values ws)

invalid_alone : (nodes : ℕ → NodeId) (p : Outcome) → outcome.Invalid ≡ graph_outcome nodes p → p ≡ Invalid
invalid_alone nodes Invalid e = refl
invalid_alone nodes (Val v) e = absurd (cc)

pub value_alone : (nodes : ℕ → NodeId) (v : GraphValue) (p : Outcome) → outcome.Val v ≡ graph_outcome nodes p
    → (w : Value) × (p ≡ Val w) × (v ≡ graph_value nodes w)
value_alone nodes v Invalid e = absurd (cc)
value_alone nodes v (Val w) e = (w, refl, (cc))

module _ (nodes : ℕ → NodeId) where
  pub with_said : (at : ℕ → Option Outcome) (next : ℕ → Value → Option Outcome) (a : Option GraphOutcome)
      (after : GraphValue → Option GraphOutcome)
      → Stays at → ((v : Value) → Stays (λ d. next d v)) → Said nodes at a
      → ((w : Value) → Said nodes (λ d. next d w) (after (graph_value nodes w)))
      → Said nodes (λ d. with_value (at d) (next d)) (engine.with_value a after)
  with_said at next None after sf sg h k = tt
  with_said at next (Some outcome.Invalid) after sf sg h k =
      let same = invalid_alone nodes h.0 h.1 in (Invalid, refl, h.2, rw (h.3, same) refl)
  with_said at next (Some (outcome.Val v)) after sf sg h k =
      let w = value_alone nodes v h.0 h.1 in
      rw w.2 (go w.0 (after (graph_value nodes w.0)) (rw w.1 at h.3) (k w.0))
    where
      go : (w : Value) (b : Option GraphOutcome) → at h.2 ≡ Some (Val w) → Said nodes (λ d. next d w) b
          → Said nodes (λ d. with_value (at d) (next d)) b
      go w None e s = tt
      go w (Some o) e s =
          let d : ℕ = h.2 + s.2 in
          let le : h.2 ≤ d = omega arith in
          let le' : s.2 ≤ d = omega arith in
          let first : at d ≡ Some (Val w) = sf h.2 d (Val w) le e in
          let second : next d w ≡ Some s.0 = sg w s.2 d s.0 le' s.3 in
          (s.0, s.1, d, rw (first, second) refl)

  pub joined_said : (at : ℕ → Option Outcome) (rest : ℕ → List (Option Outcome)) (a : Option GraphOutcome)
      (g : engine.Gathered)
      → Stays at → AllStay rest → Said nodes at a → GathersSaid nodes rest g
      → GathersSaid nodes (λ d. at d ∷ rest d) (engine.joined a g)
  joined_said at rest None g sf sg h k = tt
  joined_said at rest (Some outcome.Invalid) engine.Unknown sf sg h k = tt
  joined_said at rest (Some outcome.Invalid) engine.SomeInvalid sf sg h k =
      let d : ℕ = h.2 + k.0 in
      let same = invalid_alone nodes h.0 h.1 in
      let first : at d ≡ Some h.0 = sf h.2 d h.0 (omega arith) h.3 in
      let second = rw k.1 at (gathered_under (rest k.0) (rest d) (sg k.0 d (omega arith))) in
      (d, rw (first, same, second) refl)
  joined_said at rest (Some outcome.Invalid) (engine.Values vs) sf sg h k =
      let d : ℕ = h.2 + k.2 in
      let same = invalid_alone nodes h.0 h.1 in
      let first : at d ≡ Some h.0 = sf h.2 d h.0 (omega arith) h.3 in
      let second = rw k.3 at (gathered_under (rest k.2) (rest d) (sg k.2 d (omega arith))) in
      (d, rw (first, same, second) refl)
  joined_said at rest (Some (outcome.Val v)) engine.Unknown sf sg h k = tt
  joined_said at rest (Some (outcome.Val v)) engine.SomeInvalid sf sg h k =
      let d : ℕ = h.2 + k.0 in
      let w = value_alone nodes v h.0 h.1 in
      let first : at d ≡ Some h.0 = sf h.2 d h.0 (omega arith) h.3 in
      let second = rw k.1 at (gathered_under (rest k.0) (rest d) (sg k.0 d (omega arith))) in
      (d, rw (first, w.1, second) refl)
  joined_said at rest (Some (outcome.Val v)) (engine.Values vs) sf sg h k =
      let d : ℕ = h.2 + k.2 in
      let w = value_alone nodes v h.0 h.1 in
      let first : at d ≡ Some h.0 = sf h.2 d h.0 (omega arith) h.3 in
      let second = rw k.3 at (gathered_under (rest k.2) (rest d) (sg k.2 d (omega arith))) in
      both w.0 k.0 d w.2 k.1 (rw w.1 at first) second
    where
      both : (w : Value) (ws : List Value) (d : ℕ) → v ≡ graph_value nodes w → vs ≡ map (graph_value nodes) ws
          → at d ≡ Some (Val w) → gathered (rest d) ≡ Values ws
          → GathersSaid nodes (λ d. at d ∷ rest d) (engine.Values (v ∷ vs))
      both w ws d e e' f g = (w ∷ ws, rw (e, e') refl, d, rw (f, g) refl)

  pub given_said : (at : ℕ → List (Option Outcome)) (f : List Value → Value) (h : List GraphValue → GraphValue)
      (g : engine.Gathered)
      → ((ws : List Value) → h (map (graph_value nodes) ws) ≡ graph_value nodes (f ws)) → GathersSaid nodes at g
      → Said nodes (λ d. given f (gathered (at d))) (engine.given h g)
  given_said at f h engine.Unknown fit s = tt
  given_said at f h engine.SomeInvalid fit s = (Invalid, refl, s.0, rw s.1 refl)
  given_said at f h (engine.Values vs) fit s = (Val (f s.0), rw (s.1, fit s.0) refl, s.2, rw s.3 refl)
