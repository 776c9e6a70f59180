-- How a stabilize of a script ends.
use Rattle.std.specs.List.{AllZip}
use Rattle.std.specs.Prelude.{◌≡◌, ◌⊎◌, ◌<◌, ◌≤◌, ◌+◌, ℕ, List, [], ◌∷◌, ◌++◌, map, length, Option, None, Some, slice_get}
use Rattle.height_order.specs.Chains.{StartsAt}
use Rattle.inc_value.specs.declared.node.NodeId.{NodeId}
use Rattle.inc_value.specs.declared.node.Point.{Point}
use Rattle.inc_terms.specs.Depend.{main}
use Rattle.graph.specs.Standing.{GraphView, IsOwner, graph}
use Rattle.node_arena.specs.Arena.{row_at}
use Rattle.observers.specs.declared.notice.Notice.{Notice as GraphNotice}
use Rattle.observers.specs.declared.notice.Told.{Told}
use Rattle.observers.specs.declared.notice.Told.TheVariants as notice
use Rattle.script_model.specs.Check.{Declared}
use Rattle.script_model.specs.Formula.{State, Observer, Meanings}
use Rattle.script_model.specs.Need.{WithinWork}
use Rattle.script_model.specs.Run.{most_calls}
use Rattle.script_model.specs.Settle.{Notice, First, Changed, TurnedInvalid}
use Rattle.script_model.specs.Step as step
use Rattle.script_model.specs.Step.{Moment, Stable, Stabilizes, Tells}
use Rattle.script_model.specs.Values.{Val}
use Rattle.script_graph.specs.Kept.{Kept, node_in}
use Rattle.script_graph.specs.State.{MatchesMoment}
use Rattle.script_graph.specs.Today.{IsDeclaredTarget, RefersTo}
use Rattle.transfer.specs.Both.{graph_outcome}
use Rattle.wiring.specs.declared.refused.Refused.{Refused}
use Rattle.wiring.specs.declared.refused.Refused.TheVariants.{Cycle, Height}

-- what the script tells of an observer, as the graph tells it
abbrev pub graph_told : (ℕ → NodeId) → Notice → Told
graph_told nodes (First observer p) = notice.Init (graph_outcome nodes p)
graph_told nodes (Changed observer was v) = notice.Change (graph_outcome nodes was) (graph_outcome nodes (Val v))
graph_told nodes (TurnedInvalid observer) = notice.Invalid

-- the name of the observer of which it is told
abbrev pub name_told : Notice → List ℕ
name_told (First observer p) = observer
name_told (Changed observer was v) = observer
name_told (TurnedInvalid observer) = observer

-- what a notice refers to has the property
abbrev pub NoticeRefersTo : (ℕ → Type 0) → Notice → Type 0
NoticeRefersTo P (First observer p) = RefersTo P p
NoticeRefersTo P (Changed observer was v) = RefersTo P was × RefersTo P (Val v)
NoticeRefersTo P (TurnedInvalid observer) = Unit {0}

-- a notice of the graph is the script's, of an observer that is there; what it refers to is declared
pub record IsNotice (s : State) (nodes : List NodeId) (made : List (Option Observer)) (t : GraphNotice) (n : Notice) : Type 0 where
  pub observer : Observer
  pub is_there : slice_get made t.observer.0 ≡ Some (Some observer)
  pub named : observer.name ≡ name_told n
  pub same : t.told ≡ graph_told (node_in nodes) n
  pub refers : NoticeRefersTo (IsDeclaredTarget s) n

-- it was accepted: the model accepts it with these notices, no more functions were called than are due, the moment after it is matched, and the graph's
-- notices are these
pub record IsAccepted (F : Meanings) (m : Moment) (new : Kept) (called calls : ℕ) : Type 0 where
  pub after : Moment
  pub notices : List Notice
  pub stabilizes : Stabilizes F m after (Stable (m.present.accepted + 1) ∷ map (λ n. Tells n) notices)
  pub work : ℕ
  pub due : WithinWork F m.settled m.present work
  pub within : calls ≤ called + work
  pub matches : MatchesMoment F new after
  pub told : AllZip (IsNotice after.present new.nodes matches.watches.made) new.graph.notices notices

-- it was refused for what is too deep: the model may refuse it so, functions were called no more than by one visit of each place, and the broken moment is
-- matched
pub record IsTooDeep (F : Meanings) (m : Moment) (new : Kept) (target called calls : ℕ) : Type 0 where
  pub after : Moment
  pub stabilizes : Stabilizes F m after (step.Refused (step.Height target) ∷ [])
  pub within : calls ≤ called + most_calls m.present
  pub matches : MatchesMoment F new after

-- it was refused for a cycle: the model may refuse it so, functions were called no more than by one visit of each place, and the broken moment is matched
pub record IsCircular (F : Meanings) (m : Moment) (new : Kept) (targets : List ℕ) (called calls : ℕ) : Type 0 where
  pub after : Moment
  pub stabilizes : Stabilizes F m after (step.Refused (step.Cycle targets) ∷ [])
  pub within : calls ≤ called + most_calls m.present
  pub matches : MatchesMoment F new after

-- it found no memory: the broken moment is matched, and functions were called no more than by one visit of each place
pub record IsCutShort (F : Meanings) (m : Moment) (new : Kept) (called calls : ℕ) : Type 0 where
  pub matches : MatchesMoment F new (record m { broken = Some 0 })
  pub within : calls ≤ called + most_calls m.present

-- the chain of points that was too long begins at this point
abbrev pub ChainBegins : Option Refused → Point → Type 0
ChainBegins (Some (Height points)) p = StartsAt points.items p
ChainBegins met p = ⊥

-- the node stands in the scope, or in one within it, of a bind outside all scopes, whose main the point is
abbrev pub IsOwnRoot : {A : Type 0} → GraphView A → Point → NodeId → Type 0
IsOwnRoot g p n = (top : NodeId) × IsOwner (graph g) n top × (top ≡ n → ⊥) × (p ≡ main top)

module _ {A : Type 0} (g : GraphView A) (declared : List Declared) (nodes : List NodeId) where
  -- from the one point to the other the declaration is passed: the other is the main of its node, and it is its own target. A bind's right side that its
  -- own main reads is read as a part of the bind's formula, though it is grabbed
  abbrev pub IsPassed : Point → Point → ℕ → Type 0
  IsPassed p q n =
      (d : Declared) × (slice_get declared n ≡ Some d) × (d.target ≡ n) × (q ≡ main (node_in nodes n)) × (IsOwnRoot g p q.node → ⊥)

  -- the declarations that a walk from the point on passes, in its order
  abbrev pub PassesFrom : Point → List Point → List ℕ → Type 0
  PassesFrom p [] targets = targets ≡ []
  PassesFrom p (q ∷ rest) targets =
      (((n : ℕ) → IsPassed p q n → ⊥) × PassesFrom q rest targets)
      ⊎ ((n : ℕ) × (more : List ℕ) × (targets ≡ n ∷ more) × IsPassed p q n × PassesFrom q rest more)

  -- those that the walk passes
  abbrev pub PassesAll : List Point → List ℕ → Type 0
  PassesAll [] targets = targets ≡ []
  PassesAll (p ∷ rest) targets = PassesFrom p rest targets

-- so does the cycle of points that was met
abbrev pub PassesMet : {A : Type 0} → GraphView A → List Declared → List NodeId → Option Refused → List ℕ → Type 0
PassesMet g declared nodes (Some (Cycle points)) targets = PassesAll g declared nodes points.items targets
PassesMet g declared nodes met targets = ⊥

-- the cycle of points that was met passes these declarations, each once
abbrev pub CyclePasses : {A : Type 0} → GraphView A → List Declared → List NodeId → List ℕ → Type 0
CyclePasses g declared nodes targets = PassesMet g declared nodes g.refused targets

-- it is a cycle of points that was met
abbrev pub IsCycleMet : Option Refused → Type 0
IsCycleMet (Some (Cycle points)) = Unit {0}
IsCycleMet met = ⊥

-- a row of declarations that comes back to its first
abbrev pub closed : List ℕ → List ℕ
closed [] = []
closed (n ∷ targets) = n ∷ (targets ++ n ∷ [])

-- the declaration's node was given no earlier than the node, and those of earlier declarations were given earlier
pub record IsFirstNotOlder (nodes : List NodeId) (n : NodeId) (target : ℕ) : Type 0 where
  pub not_older : n.gen_ ≤ (node_in nodes target).gen_
  pub older : (j : ℕ) → j < target → (node_in nodes j).gen_ < n.gen_

-- the nodes of all declarations were given earlier
abbrev pub AllOlder : List NodeId → NodeId → Type 0
AllOlder nodes n = (j : ℕ) → j < length nodes → (node_in nodes j).gen_ < n.gen_

-- the node is that of a declaration that is its own target
abbrev pub IsOwnNode : List Declared → List NodeId → NodeId → ℕ → Type 0
IsOwnNode declared nodes n target =
    (d : Declared) × (slice_get declared target ≡ Some d) × (d.target ≡ target) × (node_in nodes target ≡ n)

-- the node has an owner, and the declaration's node is the first that isn't older than that; or it is dead, and the declaration is the grab whose node it is
pub data IsTold {A : Type 0} (declared : List Declared) (nodes : List NodeId) (g : GraphView A) (n : NodeId) (target : ℕ) : Type 0 where
  of_owner : (top : NodeId) → IsOwner (graph g) n top → IsFirstNotOlder nodes top target → IsTold declared nodes g n target
  of_grab : (row_at g.nodes n ≡ None) → IsOwnNode declared nodes n target → IsTold declared nodes g n target

-- if the node has an owner, the nodes of all declarations are older than that; and if it is dead, it is that of none
pub record NoneTold {A : Type 0} (declared : List Declared) (nodes : List NodeId) (g : GraphView A) (n : NodeId) : Type 0 where
  pub owner : (top : NodeId) → IsOwner (graph g) n top → AllOlder nodes top
  pub grab : row_at g.nodes n ≡ None → (target : ℕ) → IsOwnNode declared nodes n target → ⊥
