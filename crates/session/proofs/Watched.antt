-- What is kept once an observer is watched.
use Rattle.std.proofs.Common.{◌≡◌, ℕ, List, length, Some, ap, sym, subst, ◌∙◌, slice_get}
use Rattle.graph.specs.Effects.{Watches as Watching}
use Rattle.graph.specs.Standing.{GraphView}
use Rattle.inc_value.specs.declared.node.ObsId.{ObsId}
use Rattle.script_model.specs.Check.{Watch}
use Rattle.script_model.specs.Formula.{Meanings}
use Rattle.script_model.specs.Step.{Moment, moved}
use Rattle.script_graph.specs.Kept.{Kept, without_functions}
use Rattle.script_graph.specs.Sound.{IsSoundSession}
use Rattle.script_graph.specs.State.{MatchesMoment}
use Rattle.script_graph.proofs.Watched.{watched_length, watching_sound, watching_stands}

-- a graph whose observer is watched, but for its functions
watches_so : {F : Type 0} (old new : GraphView F) (o : ObsId) → Watching old new o → Watching (without_functions old) (without_functions new) o
watches_so old new o h = record { known = h.known; rest = ap without_functions h.rest }

module _ {F : Type 0} (k : Kept) (old new : GraphView F) (graph_is : k.graph ≡ without_functions old) (o : ObsId) (watches : Watching old new o) where
  watches_now : Watching k.graph (without_functions new) o
  watches_now = subst (λ (g : GraphView (Unit {0})). Watching g (without_functions new) o) (sym graph_is) (watches_so old new o watches)

  -- there are as many observers
  pub as_many : IsSoundSession k → length new.observers ≡ length old.observers
  as_many sound = ap (λ (h : GraphView F). length h.observers) watches.rest ∙ watched_length old.observers o.0

  -- what is kept fits together
  pub watched_sound : IsSoundSession k → IsSoundSession (record k { graph = without_functions new })
  watched_sound sound = watching_sound k o (without_functions new) watches_now sound

  -- and it matches the moment in which the observer of the name is watched
  pub watched_stands : (name : List ℕ) (i : ℕ) → slice_get k.observers i ≡ Some o → slice_get k.names.observers i ≡ Some name
      → (G : Meanings) (m : Moment) → MatchesMoment G k m → MatchesMoment G (record k { graph = without_functions new }) (moved m (Watch name))
  watched_stands name i at_id at_name G m stands = watching_stands k o (without_functions new) watches_now name i at_id at_name G m stands
