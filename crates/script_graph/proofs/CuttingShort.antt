-- A stabilize that was cut short.
use Rattle.std.proofs.Common.{◌≡◌, ℕ, ◌+◌, ◌≤◌, List, length, Option, Some, None, refl, ap, sym, ◌∙◌, slice_get}
use Rattle.inc_value.specs.declared.function.FnRef.{FnRef}
use Rattle.inc_value.specs.declared.node.ObsId.{ObsId}
use Rattle.inc_value.specs.declared.value.Value.{Value as GraphValue}
use Rattle.inc_terms.specs.Term.{Functions}
use Rattle.graph.specs.Sound.{IsWhole}
use Rattle.graph.specs.Standing.{GraphView}
use Rattle.observers.specs.Observers.{node_at}
use Rattle.graph.specs.Stabilizes.{IsRefusedFor, HasCalledMet}
use Rattle.graph.specs.declared.fault.Kept.{Kept as Cause}
use Rattle.observers.specs.declared.observer.Observer.{Observer as Looking}
use Rattle.script_model.specs.Formula.{State, Meanings, meanings_of}
use Rattle.script_model.specs.Run.{most_calls}
use Rattle.script_model.specs.Step.{Moment}
use Rattle.script_graph.specs.Growing.{functions_over}
use Rattle.script_graph.specs.Kept.{Kept, without_functions}
use Rattle.script_graph.specs.Represents.{graph_functions, Watches}
use Rattle.script_graph.specs.Stabilizing.{IsCutShort}
use Rattle.script_graph.specs.State.{MatchesMoment, Stands}
use Rattle.script_graph.proofs.Refusing.{IsSessions, kept_so, functions_so, moment_unbroken, stabilize_of, few_calls}

-- ---- broken

-- observers stay
pub record KeepsObservers {A B : Type 0} (old : GraphView A) (new : GraphView B) : Type 0 where
  pub observers : new.observers ≡ old.observers
  pub rooted : new.rooted ≡ old.rooted

-- the observers of a session that broke are there still
watches_broken : (s : State) (k : Kept) (g : GraphView (Unit {0})) (number : ℕ) → KeepsObservers k.graph g → Watches s k
    → Watches s (record k { broken = Some number; graph = g })
watches_broken s k g number keeps w = record {
  made = w.made;
  one_each = w.one_each ∙ sym (ap (λ (os : List Looking). length os) keeps.observers);
  in_order = w.in_order;
  ended = λ o at. looks o ∙ w.ended o at;
  observing = λ o x at. let h = w.observing o x at in
      record { is = ap (λ (os : List Looking). slice_get os o.0) keeps.observers ∙ h.is; target = h.target; refers = h.refers; told = h.told };
  named = w.named;
  apart = w.apart;
}
  where
    looks : (o : ObsId) → node_at g.observers o ≡ node_at k.graph.observers o
    looks o = ap (λ (os : List Looking). node_at os o) keeps.observers

-- what is kept of a script that broke matches the broken moment, where observers stayed
pub broken_matches : (F : Meanings) (m : Moment) (k : Kept) (g : GraphView (Unit {0})) (number : ℕ) → KeepsObservers k.graph g → MatchesMoment F k m
    → MatchesMoment F (record k { broken = Some number; graph = g }) (record m { broken = Some number })
broken_matches F m k g number keeps matches = record {
  names = matches.names;
  accepted = matches.accepted;
  broken = refl;
  represents = λ whole. absurd (cc);
  watches = watches_broken m.present k g number keeps matches.watches;
  settled = λ whole. absurd (cc);
}

-- ---- over a graph with its functions

-- what is whole stays so without functions
pub kept_whole : {A : Type 0} (named : List ℕ → Option FnRef) (value : FnRef → List GraphValue → GraphValue) (k : Kept) (old new : GraphView A)
    (c : IsSessions value k old new) (m : Moment) (stands : Stands (meanings_of named value) k m) → old.refused ≡ None
    → IsWhole (stabilize_of named value k old new c m stands).meaning k.graph
kept_whole named value k old new c m stands was =
    (stabilize_of named value k old new c m stands).sound.whole (ap (λ (h : GraphView (Unit {0})). h.refused) c.same ∙ was)

module _ {A : Type 0} (named : List ℕ → Option FnRef) (value : FnRef → List GraphValue → GraphValue) (k : Kept) (old new : GraphView A)
    (c : IsSessions value k old new) (m : Moment) (stands : Stands (meanings_of named value) k m) where
  abbrev F : Meanings
  F = meanings_of named value

  -- so the script allows as many calls as a refused stabilize of a session's graph made
  pub session_calls : (called calls : ℕ) → old.refused ≡ None → HasCalledMet (functions_over value k.bodies) old new called calls
      → calls ≤ called + most_calls m.present
  session_calls called calls was few =
      few_calls named value m k (without_functions new) stands (moment_unbroken named value k old new c m stands)
      (stabilize_of named value k old new c m stands) (kept_whole named value k old new c m stands was) called calls
      (kept_so named value k old new c m stands (λ (h : GraphView (Unit {0})). HasCalledMet (graph_functions F k.bodies) h (without_functions new) called calls)
      (functions_so named value k old new c m stands (λ (M : Functions). HasCalledMet M old new called calls) few))

  -- and it leaves the broken moment
  pub session_broken : (number : ℕ) (cause : Cause) → IsRefusedFor (functions_over value k.bodies) old new cause
      → MatchesMoment F (record k { broken = Some number; graph = without_functions new }) (record m { broken = Some number })
  session_broken number cause done =
      broken_matches F m k (without_functions new) number
      (kept_so named value k old new c m stands (λ (h : GraphView (Unit {0})). KeepsObservers h (without_functions new))
      (record { observers = done.observers; rooted = done.rooted })) stands.matches

  -- a stabilize of a session's graph that was cut short is one of its script
  pub session_cut_short : (cause : Cause) (called calls : ℕ) → IsRefusedFor (functions_over value k.bodies) old new cause
      → HasCalledMet (functions_over value k.bodies) old new called calls
      → IsCutShort F m (record k { broken = Some 0; graph = without_functions new }) called calls
  session_cut_short cause called calls done few =
      record { matches = session_broken 0 cause done; within = session_calls called calls done.was few }
