-- What observers keep so that a round looks at those alone that are due, and what it makes of them.
use Rattle.std.specs.Prelude.{◌≡◌, ◌⊎◌, ◌+◌, ◌≤◌, ◌==◌, ◌&&◌, ◌||◌, ℕ, Bool, true, false, not, cond, List, [], ◌∷◌, ◌++◌, length, Option, Some, None, slice_get, slice_set}
use Rattle.inc_value.specs.Choice.{Among}
use Rattle.inc_value.specs.declared.node.NodeId.{NodeId}
use Rattle.inc_value.specs.declared.outcome.Outcome.{Outcome}
use Rattle.inc_terms.specs.Depend.{main}
use Rattle.inc_terms.specs.Same.{same_outcome}
use Rattle.point_map.specs.Rows.{Rows, at}
use Rattle.observers.specs.Observers.{after, told_of, notice_of}
use Rattle.observers.specs.declared.observer.Observer.{Observer}
use Rattle.observers.specs.declared.observer.Watch.{Watch}
use Rattle.observers.specs.declared.observer.Watch.TheVariants.{Off, Fresh, Since}
use Rattle.observers.specs.declared.notice.Notice.{Notice}
use Rattle.observers.specs.declared.settle.Settled.{Settled}
use Rattle.observers.specs.declared.looking.Looking.{Looking}

-- ---- who is due

-- the places that are due, of so many
pub record Due : Type 0 where
  pub places : List ℕ
  pub width : ℕ

-- how many places aren't marked
abbrev pub unmarked : List Bool → ℕ
unmarked [] = 0
unmarked (b ∷ bs) = cond b 0 1 + unmarked bs

-- each marked place is listed, and there is room for all that aren't marked
pub record IsMarked (places : List ℕ) (marked : List Bool) : Type 0 where
  pub listed : (i : ℕ) → slice_get marked i ≡ Some true → Among i places
  pub count : length places + unmarked marked ≤ length marked

-- ---- who looks at a node

-- those who look at a node, as they are listed
abbrev pub listed_in : Option Looking → List ℕ
listed_in None = []
listed_in (Some l) = l.places.items

abbrev pub listed_at : Rows Looking → NodeId → List ℕ
listed_at looking n = listed_in (at looking (main n))

-- each observer in use is listed at its node
abbrev pub LooksAll : List Observer → Rows Looking → Type 0
LooksAll made looking = (i : ℕ) (o : Observer) → slice_get made i ≡ Some o → o.in_use ≡ true → Among i (listed_at looking o.node)

-- who was listed at a node still is
abbrev pub KeepsListed : Rows Looking → Rows Looking → Type 0
KeepsListed old new = (i : ℕ) (n : NodeId) → Among i (listed_at old n) → Among i (listed_at new n)

-- whether the observer at a place is in use
abbrev pub used_in : Option Observer → Bool
used_in None = false
used_in (Some o) = o.in_use

abbrev pub is_used : List Observer → ℕ → Bool
is_used made place = used_in (slice_get made place)

-- ---- what observers keep

abbrev pub is_fresh : Watch → Bool
is_fresh Off = false
is_fresh Fresh = true
is_fresh (Since o) = false

abbrev pub shows_none : Option Outcome → Bool
shows_none None = true
shows_none (Some o) = false

-- something is to be told of the observer, or it shows nothing yet
abbrev pub awaits : Observer → Bool
awaits o = o.in_use && (shows_none o.shown || is_fresh o.watch)

-- each observer that awaits a round is due
abbrev pub AwaitingAreDue : List Observer → List ℕ → Type 0
AwaitingAreDue made due = (i : ℕ) (o : Observer) → slice_get made i ≡ Some o → awaits o ≡ true → Among i due

-- what was told last is what is shown
abbrev pub IsToldShown : Watch → Option Outcome → Type 0
IsToldShown Off shown = Unit {0}
IsToldShown Fresh shown = Unit {0}
IsToldShown (Since old) shown = shown ≡ Some old

abbrev pub ShowWhatWasTold : List Observer → Type 0
ShowWhatWasTold made = (i : ℕ) (o : Observer) → slice_get made i ≡ Some o → IsToldShown o.watch o.shown

-- a watch of the observer begins anew: it is in use and isn't watched
abbrev pub is_off : Watch → Bool
is_off Off = true
is_off Fresh = false
is_off (Since o) = false

abbrev pub open_in : Option Observer → Bool
open_in None = false
open_in (Some o) = o.in_use && is_off o.watch

-- ---- who is covered by those that are due

-- the observers in use of these nodes are due
abbrev pub CoversNode : List Observer → NodeId → List ℕ → Type 0
CoversNode made node due = (i : ℕ) (o : Observer) → slice_get made i ≡ Some o → o.in_use ≡ true → o.node ≡ node → Among i due

abbrev pub CoversNews : List Observer → List NodeId → List ℕ → Type 0
CoversNews made news due = (i : ℕ) (o : Observer) → slice_get made i ≡ Some o → o.in_use ≡ true → Among o.node news → Among i due

-- who is due stays due
abbrev pub StayDue : List ℕ → List ℕ → Type 0
StayDue old new = (i : ℕ) → Among i old → Among i new

-- the numbers don't fall, from so high on
abbrev pub RisesFrom : ℕ → List ℕ → Type 0
RisesFrom low [] = Unit {0}
RisesFrom low (x ∷ xs) = (low ≤ x) × RisesFrom x xs

abbrev pub IsOrdered : List ℕ → Type 0
IsOrdered xs = RisesFrom 0 xs

-- the same number as the last
abbrev pub is_last : Option ℕ → ℕ → Bool
is_last None x = false
is_last (Some y) x = y == x

-- without those that are as the one before
abbrev pub distinct : Option ℕ → List ℕ → List ℕ
distinct last [] = []
distinct last (x ∷ xs) = cond (is_last last x) (distinct last xs) (x ∷ distinct (Some x) xs)

-- ---- what is made of those that are due

-- an observer that shows this shows what its node shows now
abbrev pub shows_it : Option Outcome → Outcome → Bool
shows_it None now = false
shows_it (Some old) now = same_outcome old now

-- nothing is told of it
abbrev pub tells_none : Watch → Outcome → Bool
tells_none Off now = true
tells_none Fresh now = false
tells_none (Since old) now = same_outcome old now

-- the observer stays as it is, and nothing is told of it
abbrev pub is_left : Outcome → Observer → Bool
is_left now o = not o.in_use || (shows_it o.shown now && tells_none o.watch now)

module _ (shows : NodeId → Outcome) where
  abbrev pub notice_at : ℕ → Option Observer → List Notice
  notice_at place None = []
  notice_at place (Some o) = notice_of place (told_of (shows o.node) o)

  -- what is told of those at the places
  abbrev pub notices_at : List Observer → List ℕ → List Notice
  notices_at made [] = []
  notices_at made (place ∷ places) = notice_at place (slice_get made place) ++ notices_at made places

  abbrev pub settled_as : ℕ → Observer → List Settled
  settled_as place o = cond (is_left (shows o.node) o) [] (record { place = place; observer = after (shows o.node) o } ∷ [])

  abbrev pub settled_of : ℕ → Option Observer → List Settled
  settled_of place None = []
  settled_of place (Some o) = settled_as place o

  abbrev pub settled_at : List Observer → List ℕ → List Settled
  settled_at made [] = []
  settled_at made (place ∷ places) = settled_of place (slice_get made place) ++ settled_at made places

  -- nothing is told of the observer, and it stays as it is
  pub record IsQuiet (o : Observer) : Type 0 where
    pub silent : told_of (shows o.node) o ≡ None
    pub still : after (shows o.node) o ≡ o

  -- each observer whose place isn't listed stays as it is
  abbrev pub CoversAll : List Observer → List ℕ → Type 0
  CoversAll made due = (i : ℕ) (o : Observer) → slice_get made i ≡ Some o → Among i due ⊎ IsQuiet o

-- the observers, each that was settled as it is then
abbrev pub put_one : Settled → List Observer → List Observer
put_one one made = slice_set made one.place one.observer

abbrev pub put_all : List Settled → List Observer → List Observer
put_all [] made = made
put_all (one ∷ rest) made = put_one one (put_all rest made)

-- ---- room

-- there is room for what a round makes of each observer, and for what it tells, also while what it told last is kept
pub record HasRooms (width settled told notices : ℕ) : Type 0 where
  pub settled_room : width ≤ settled
  pub told_room : width ≤ told
  pub notices_room : width ≤ notices
