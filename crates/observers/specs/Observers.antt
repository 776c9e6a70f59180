-- What a contract sees of observers, and what is told of them.
use Rattle.std.specs.Prelude.{◌≡◌, ◌⊎◌, ◌+◌, ℕ, true, false, cond, List, [], ◌∷◌, ◌++◌, Option, Some, None, slice_get, zero, suc}
use Rattle.inc_value.specs.Choice.{Among}
use Rattle.inc_value.specs.Outcome.{IsNoText}
use Rattle.inc_value.specs.declared.node.NodeId.{NodeId}
use Rattle.inc_value.specs.declared.node.ObsId.{ObsId}
use Rattle.inc_value.specs.declared.outcome.Outcome.{Outcome}
use Rattle.inc_value.specs.declared.outcome.Outcome.TheVariants.{Val, Invalid}
use Rattle.inc_terms.specs.Same.{same_outcome}
use Rattle.observers.specs.declared.observer.Observer.{Observer}
use Rattle.observers.specs.declared.observer.Watch.{Watch}
use Rattle.observers.specs.declared.observer.Watch.TheVariants.{Off, Fresh, Since}
use Rattle.observers.specs.declared.notice.Notice.{Notice}
use Rattle.observers.specs.declared.notice.Told.{Told}
use Rattle.observers.specs.declared.notice.Told.TheVariants as told

-- the observers that were made, in order, and what was told of watched ones last
pub record ObserversView : Type 0 where
  pub made : List Observer
  pub notices : List Notice

-- ---- observers

-- an observer once it is made: it shows nothing yet, and isn't watched
abbrev pub new_observer : NodeId → Observer
new_observer n = record { node = n; in_use = true; shown = None; watch = Off }

-- an observer that was ended
abbrev pub ended : NodeId → Observer
ended n = record { node = n; in_use = false; shown = None; watch = Off }

-- the nodes of the observers that are in use
abbrev pub in_use : List Observer → List NodeId
in_use [] = []
in_use (o ∷ os) = cond o.in_use (o.node ∷ in_use os) (in_use os)

-- the node of an observer, if it is in use
abbrev pub looked_at : Option Observer → Option NodeId
looked_at None = None
looked_at (Some o) = cond o.in_use (Some o.node) None

-- the node that an observer looks at, if it was made and is in use
abbrev pub node_at : List Observer → ObsId → Option NodeId
node_at made o = looked_at (slice_get made o.0)

-- what an observer shows, if it is in use and shows something
abbrev pub shown_in : Option Observer → Option Outcome
shown_in None = None
shown_in (Some o) = cond o.in_use o.shown None

abbrev pub shown_at : List Observer → ObsId → Option Outcome
shown_at made o = shown_in (slice_get made o.0)

-- how an observer is watched once a watch began: one that was watched is as it was
abbrev pub watch_from : Watch → Watch
watch_from Off = Fresh
watch_from Fresh = Fresh
watch_from (Since o) = Since o

abbrev pub begun : Observer → Observer
begun o = record { node = o.node; in_use = o.in_use; shown = o.shown; watch = watch_from o.watch }

-- the observer at a place is watched from now on
abbrev pub watched : ℕ → List Observer → List Observer
watched place [] = []
watched zero (o ∷ os) = begun o ∷ os
watched (suc place) (o ∷ os) = o ∷ watched place os

-- ---- what is told

-- what is told of an outcome other than the one that was told last
abbrev pub change : Outcome → Outcome → Told
change old Invalid = told.Invalid
change old (Val v) = told.Change old (Val v)

-- what is told of an observer that is watched so and shows this now, if something is
abbrev pub tells : Watch → Outcome → Option Told
tells Off now = None
tells Fresh now = Some (told.Init now)
tells (Since old) now = cond (same_outcome old now) None (Some (change old now))

-- how it is watched then
abbrev pub watch_after : Watch → Outcome → Watch
watch_after Off now = Off
watch_after Fresh now = Since now
watch_after (Since old) now = Since now

-- what is told of an observer whose node shows this now: nothing of one that isn't in use
abbrev pub told_of : Outcome → Observer → Option Told
told_of now o = cond o.in_use (tells o.watch now) None

-- an observer once it shows this: one that isn't in use stays as it is
abbrev pub after : Outcome → Observer → Observer
after now o = cond o.in_use (record { node = o.node; in_use = o.in_use; shown = Some now; watch = watch_after o.watch now }) o

-- the notice of the observer of a number
abbrev pub notice_of : ℕ → Option Told → List Notice
notice_of number None = []
notice_of number (Some t) = record { observer = record { 0 = number }; told = t } ∷ []

-- no memory is taken to copy it
abbrev pub IsToldNoText : Watch → Type 0
IsToldNoText Off = Unit {0}
IsToldNoText Fresh = Unit {0}
IsToldNoText (Since old) = IsNoText old

-- by what nodes show now
module _ (shows : NodeId → Outcome) where
  -- what is told of these observers, of which the first has the number
  abbrev pub notices_of : ℕ → List Observer → List Notice
  notices_of number [] = []
  notices_of number (o ∷ os) = notice_of number (told_of (shows o.node) o) ++ notices_of (number + 1) os

  -- these observers once they show it and were told of
  abbrev pub told_by : List Observer → List Observer
  told_by [] = []
  told_by (o ∷ os) = after (shows o.node) o ∷ told_by os

  -- an observer in use that shows something shows what its node shows now, but where its node is news
  abbrev pub IsCurrent : List NodeId → List Observer → Type 0
  IsCurrent news made = (o : Observer) (x : Outcome) → Among o made → o.in_use ≡ true → o.shown ≡ Some x → Among o.node news ⊎ (shows o.node ≡ x)

  -- an observer in use stays as it is, or neither what its node shows now nor what was told of it last is a text
  abbrev pub IsLight : Observer → Type 0
  IsLight o = o.in_use ≡ true → (after (shows o.node) o ≡ o) ⊎ (IsNoText (shows o.node) × IsToldNoText o.watch)

  abbrev pub AllLight : List Observer → Type 0
  AllLight made = (o : Observer) → Among o made → IsLight o
