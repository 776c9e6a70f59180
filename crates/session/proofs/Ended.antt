-- What is kept once an observer is ended.
use Rattle.std.proofs.Common.{◌≡◌, ℕ, zero, suc, ◌+◌, ◌<◌, Bool, true, false, cond, not, nat_lt, List, [], ◌∷◌, length, None, Some, IsSome, refl, ap, sym, subst, ◌∙◌, arith, swap_remove, slice_get}
use Rattle.std.proofs.lemmas.Bool.{lt-ltb}
use Rattle.std.proofs.lemmas.Option.{slice_get_within}
use Rattle.std.proofs.lemmas.Slice.Eq.{bytes_eq-Decides}
use Rattle.std.specs.List.{position_or_len}
use Rattle.std.specs.Str.{bytes_eq}
use Rattle.indexmap.specs.IndexMap.{swap_remove_by}
use Rattle.graph.specs.Effects.{Ends}
use Rattle.script_graph.proofs.Extending.{top_without, nodes_without}
use Rattle.graph.specs.Standing.{GraphView}
use Rattle.observers.specs.Observers.{node_at}
use Rattle.inc_value.specs.declared.node.ObsId.{ObsId}
use Rattle.script_model.specs.Check.{Names, Unobserve}
use Rattle.script_model.specs.Formula.{Meanings}
use Rattle.script_model.specs.Step.{Moment, moved}
use Rattle.script_graph.specs.Kept.{Kept, without_functions}
use Rattle.script_graph.specs.Sound.{IsSoundSession}
use Rattle.script_graph.specs.State.{MatchesMoment}
use Rattle.script_graph.proofs.Ending.{ending_sound, ending_stands}
use Rattle.session.proofs.Observed.{by_position}
use Rattle.script_graph.proofs.Ending.{among_at}

-- ---- the place of a name

-- the first place of a name is the one that its test finds
found_first : (name : List ℕ) (names : List (List ℕ)) (i : ℕ) → slice_get names i ≡ Some name
    → ((j : ℕ) → j < i → slice_get names j ≡ Some name → ⊥) → position_or_len (bytes_eq name) names ≡ i
found_first name [] i at first = absurd (cc)
found_first name (x ∷ names) zero at first = let same : x ≡ name = cc in rw ((bytes_eq-Decides name x).1 (sym same)) refl
found_first name (x ∷ names) (suc i) at first =
    go (bytes_eq name x) refl (found_first name names i at (λ j less there. first (suc j) (omega (arith, less)) there))
  where
    go : (b : Bool) → bytes_eq name x ≡ b → position_or_len (bytes_eq name) names ≡ i
        → cond (not b) (1 + position_or_len (bytes_eq name) names) 0 ≡ suc i
    go true is rest = absurd (first 0 (omega arith) (ap (λ (n : List ℕ). Some n) (sym ((bytes_eq-Decides name x).0 is))))
    go false is rest = omega (arith, rest)

-- so the name leaves that place
same_place : (name : List ℕ) (names : List (List ℕ)) (i : ℕ) → slice_get names i ≡ Some name
    → ((j : ℕ) → j < i → slice_get names j ≡ Some name → ⊥) → (d : List ℕ) × (swap_remove_by (bytes_eq name) names ≡ swap_remove names i d)
same_place name names i at first =
    by_position (bytes_eq name) names i
    (ap (λ (n : ℕ). cond (nat_lt n (length names)) (Some n) None) (found_first name names i at first)
    ∙ ap (λ (b : Bool). cond b (Some i) None) (lt-ltb i (length names) (slice_get_within names i name at)))

-- ---- the observer at a place

-- it is in use
pub is_looking : (k : Kept) → IsSoundSession k → (i : ℕ) (o : ObsId) → slice_get k.observers i ≡ Some o → IsSome (node_at k.graph.observers o)
is_looking k sound i o at_id = sound.looking o (among_at k.observers i o at_id)

-- ---- a graph whose observer was ended, but for its functions

ends_so : {F : Type 0} (old new : GraphView F) (o : ObsId) → Ends old new o → Ends (without_functions old) (without_functions new) o
ends_so old new o h = record {
  node = h.node;
  was = h.was;
  observers = h.observers;
  top = top_without old new h.top;
  nodes = h.nodes;
  of_nodes = nodes_without (λ n. Unit {0}) old new h.of_nodes;
  cutoff = h.cutoff;
  fewer_links = h.fewer_links;
  fewer_roots = h.fewer_roots;
}

-- ---- what is kept without the observer

module _ {F : Type 0} (k : Kept) (old new : GraphView F) (graph_is : k.graph ≡ without_functions old) (sound : IsSoundSession k) (name : List ℕ) (i : ℕ)
    (o : ObsId) (at_name : slice_get k.names.observers i ≡ Some name)
    (first : (j : ℕ) → j < i → slice_get k.names.observers j ≡ Some name → ⊥) (at_id : slice_get k.observers i ≡ Some o)
    (ends : Ends old new o) where
  place : (d : List ℕ) × (swap_remove_by (bytes_eq name) k.names.observers ≡ swap_remove k.names.observers i d)
  place = same_place name k.names.observers i at_name first

  ends_now : Ends k.graph (without_functions new) o
  ends_now = subst (λ (g : GraphView (Unit {0})). Ends g (without_functions new) o) (sym graph_is) (ends_so old new o ends)

  module _ (names : Names) (os : List ObsId) (names_are : names ≡ record k.names { observers = swap_remove_by (bytes_eq name) k.names.observers })
      (os_are : os ≡ swap_remove k.observers i o) where
    names_now : names ≡ record k.names { observers = swap_remove k.names.observers i place.0 }
    names_now = names_are ∙ ap (λ (l : List (List ℕ)). record k.names { observers = l }) place.1

    -- what is kept fits together
    pub ended_sound : IsSoundSession (record k { names = names; observers = os; graph = without_functions new })
    ended_sound =
        rw (names_now, os_are)
        (ending_sound k name place.0 i o (without_functions new) sound at_id at_name ends_now)

    -- and it matches the moment without the observer
    pub ended_stands : k.broken ≡ None → (G : Meanings) (m : Moment) → MatchesMoment G k m
        → MatchesMoment G (record k { names = names; observers = os; graph = without_functions new }) (moved m (Unobserve name))
    ended_stands unbroken G m stands =
        rw (names_now, os_are)
        (ending_stands k name place.0 i o (without_functions new) sound at_id at_name ends_now G m stands (stands.broken ∙ unbroken))
