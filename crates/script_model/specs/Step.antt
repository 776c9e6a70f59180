-- One line of a script: what it is refused with, what it changes, and what it prints.
use Rattle.std.specs.Prelude.{◌≡◌, ℕ, zero, suc, ◌+◌, Bool, true, false, not, ◌||◌, nat_le, nat_lt, nat_eq, cond, List, [], ◌∷◌, ◌++◌, map, filter, length, codes, Option, None, Some, is_some, is_none, unwrap_or}
use Rattle.std.specs.Fmt.{decimal}
use Rattle.std.specs.List.{list_any, flat_map}
use Rattle.std.specs.Str.{bytes_eq}
use Rattle.inc_value.specs.declared.ty.Ty.{Ty}
use Rattle.inc_value.specs.Choice.{and_then, Among}
use Rattle.script_model.specs.Values.{Outcome, Val, printed_value, printed_outcome}
use Rattle.script_model.specs.Formula as model
use Rattle.script_model.specs.Formula.{Formula, Body, Entry, Observer, State, Meanings, Name, start, entry_at, built_at, bind_at, links_at, places_of, places_of_body, nothing_kept, Unwatched, Fresh}
use Rattle.script_model.specs.Grammar.{Line}
use Rattle.script_model.specs.Check.{Reason, Command, SessionBroken, NotStabilized, NotBuilt, NotLinked, TooManyLinks, TooManyPlaces, reason_number, is_against, line_order, first_that, command_of, names_of, target_of_body, Declare, Assign, Link, Unlink, Stale, Take, Observe, Unobserve, Watch, Show, Advance, Stabilize}
use Rattle.script_model.specs.Request.{Request, TooLong, Blank, Malformed, TooDeep, Asks, IsRequest}
use Rattle.script_model.specs.Need.{Item, Named, Needed, Met}
use Rattle.script_model.specs.Depth as depth
use Rattle.script_model.specs.Blocked.{IsCycle, InTheWay, IsPrintedFor}
use Rattle.script_model.specs.Settle.{Notice, First, Changed, TurnedInvalid, Settles}

-- ---- moments

-- the state as the last accepted stabilize left it, the present one, and the number of the stabilize that was refused,
-- if one was
pub record Moment : Type 0 where
  pub settled : State
  pub present : State
  pub broken : Option ℕ

-- before the first line
abbrev pub first_moment : Moment
first_moment = record { settled = start; present = start; broken = None }

-- ---- what a command changes

-- the observer in use of a name
abbrev pub find_observer : List Observer → List ℕ → Option Observer
find_observer [] name = None
find_observer (o ∷ os) name = cond (bytes_eq name o.name) (Some o) (find_observer os name)

-- the outcome that an observer shows
abbrev pub shown_by : State → List ℕ → Option Outcome
shown_by s name = and_then (find_observer s.observers name) (λ o. o.shown)

-- the declarations, with another body at a position
abbrev pub with_body : (Body → Body) → List Entry → ℕ → List Entry
with_body change [] n = []
with_body change (e ∷ es) zero = record e { body = change e.body } ∷ es
with_body change (e ∷ es) (suc n) = e ∷ with_body change es n

abbrev pub changed_at : State → ℕ → (Body → Body) → State
changed_at s n change = record s { entries = with_body change s.entries n }

-- an expert with one dependency more, one less, or made stale once more
abbrev pub linked : ℕ → Body → Body
linked target (model.Expert f first links stale) = model.Expert f first (links ++ target ∷ []) stale
linked target body = body

abbrev pub without_first : ℕ → List ℕ → List ℕ
without_first n [] = []
without_first n (m ∷ ms) = cond (nat_eq n m) ms (m ∷ without_first n ms)

abbrev pub unlinked : ℕ → Body → Body
unlinked target (model.Expert f first links stale) = model.Expert f first (without_first target links) stale
unlinked target body = body

abbrev pub staled : Body → Body
staled (model.Expert f first links stale) = model.Expert f first links (stale + 1)
staled body = body

-- a declaration at the end
abbrev pub declared_in : State → List ℕ → Ty → Body → State
declared_in s name t body = record s { entries = s.entries ++ record { name = name; ty = t; target = target_of_body (length s.entries) body; body = body } ∷ [] }

-- the first live grab of a bind, from the n-th declaration on
abbrev pub is_live_grab : ℕ → Body → Bool
is_live_grab bind (model.Grab b v true) = nat_eq bind b
is_live_grab bind body = false

abbrev pub live_grab : ℕ → ℕ → List Entry → Option ℕ
live_grab bind n [] = None
live_grab bind n (e ∷ es) = cond (is_live_grab bind e.body) (Some n) (live_grab bind (suc n) es)

-- another name for a declaration
abbrev pub alias : ℕ → Body
alias target = model.Computed (Name target) nothing_kept

-- a grab that is its own target, of what the bind was last built for
abbrev pub own_grab : ℕ → Option Outcome → Body
own_grab bind (Some (Val v)) = model.Grab bind v true
own_grab bind built = alias bind

-- what a grab declares: another name for the name that the bind's body is, or for the bind's live grab, or a grab
abbrev pub grab_or : ℕ → Option Outcome → Option ℕ → Body
grab_or bind built (Some grab) = alias grab
grab_or bind built None = own_grab bind built

abbrev pub grab_of : State → ℕ → Option (Formula × Formula) → Body
grab_of s bind (Some (left, Name target)) = alias target
grab_of s bind _ = grab_or bind (built_at s bind) (live_grab bind 0 s.entries)

-- a watched observer
abbrev pub watched : model.Watch → model.Watch
watched Unwatched = Fresh
watched watch = watch

abbrev pub with_watch : List ℕ → Observer → Observer
with_watch name o = cond (bytes_eq name o.name) (record o { watch = watched o.watch }) o

abbrev pub new_observer : List ℕ → ℕ → Observer
new_observer name target = record { name = name; target = target; shown = None; watch = Unwatched }

-- the one state that a command leaves; a stabilize has a definition of its own
abbrev pub effect : State → Command → State
effect s (Declare name t body) = declared_in s name t body
effect s (Assign target v) = changed_at s target (λ body. model.Variable v)
effect s (Link expert target) = changed_at s expert (linked target)
effect s (Unlink expert target) = changed_at s expert (unlinked target)
effect s (Stale expert) = changed_at s expert staled
effect s (Take name t bind) = declared_in s name t (grab_of s bind (bind_at s bind))
effect s (Observe observer target) = record s { observers = s.observers ++ new_observer observer target ∷ [] }
effect s (Unobserve observer) = record s { observers = filter (λ (o : Observer). not (bytes_eq observer o.name)) s.observers }
effect s (Watch observer) = record s { observers = map (with_watch observer) s.observers }
effect s (Show observer) = s
effect s (Advance time) = record s { now = time }
effect s Stabilize = s

-- ---- refusals

-- whether a bind was last built for a value
abbrev pub is_built : Option Outcome → Bool
is_built (Some (Val v)) = true
is_built _ = false

-- where a reason stands against a command, by the state
abbrev pub is_barred : State → Command → Reason → Bool
is_barred s (Show observer) NotStabilized = is_none (shown_by s observer)
is_barred s (Take name t bind) NotBuilt = not (is_built (built_at s bind))
is_barred s (Unlink expert target) NotLinked = not (list_any (nat_eq target) (links_at s expert))
is_barred s (Link expert target) TooManyLinks = nat_le 4096 (length (links_at s expert))
is_barred s (Declare name t body) TooManyPlaces = nat_lt 1048575 (places_of s + places_of_body body)
is_barred s c r = false

abbrev pub bars : State → Option Command → Reason → Bool
bars s None r = false
bars s (Some c) r = is_barred s c r

-- where a reason stands against a line
abbrev pub holds : Meanings → Moment → Line → Reason → Bool
holds F m l SessionBroken = is_some m.broken
holds F m l r = is_against F (names_of m.present) l r || bars m.present (command_of F (names_of m.present) l) r

-- the one order in which the reasons are looked at, each over the whole line before the next
abbrev pub order : List Reason
order = SessionBroken ∷ (line_order ++ NotStabilized ∷ NotBuilt ∷ NotLinked ∷ TooManyLinks ∷ TooManyPlaces ∷ [])

-- why a line is refused
pub data Refusal : Type 0 where
  LineTooLong : Refusal
  NoCommand : Refusal
  LineTooDeep : Refusal
  Because : (why : Reason) → Refusal
  Broken : (kept : ℕ) → Refusal
  Cycle : (targets : List ℕ) → Refusal
  Height : (target : ℕ) → Refusal

-- the number that is printed
abbrev pub number_of : Refusal → ℕ
number_of NoCommand = 1
number_of LineTooLong = 2
number_of LineTooDeep = 25
number_of (Because why) = reason_number why
number_of (Broken kept) = 22
number_of (Cycle targets) = 20
number_of (Height target) = 21

-- whether a refusal breaks the session
abbrev pub breaks : Refusal → Bool
breaks (Cycle targets) = true
breaks (Height target) = true
breaks why = false

-- the refusal for a reason; a broken session tells what broke it
abbrev pub refusal_for : Moment → Reason → Refusal
refusal_for m SessionBroken = Broken (unwrap_or m.broken 0)
refusal_for m why = Because why

-- ---- what a line comes to

-- a line is refused, settles, or does something
pub data Verdict : Type 0 where
  Refuse : (why : Refusal) → Verdict
  Settle : Verdict
  Act : (command : Command) → Verdict

abbrev pub allowed : Option Command → Verdict
allowed None = Refuse NoCommand
allowed (Some Stabilize) = Settle
allowed (Some c) = Act c

abbrev pub verdict_for : Moment → Option Command → Option Reason → Verdict
verdict_for m command None = allowed command
verdict_for m command (Some why) = Refuse (refusal_for m why)

-- the first reason that stands against a line, or what it does
abbrev pub verdict_of : Meanings → Moment → Line → Verdict
verdict_of F m l = verdict_for m (command_of F (names_of m.present) l) (first_that (holds F m l) order)

-- ---- what is printed

-- what a line is answered with
pub data Reply : Type 0 where
  Done : Reply
  Shown : (observer : List ℕ) (outcome : Outcome) → Reply
  Stable : (round : ℕ) → Reply
  Tells : (notice : Notice) → Reply
  Refused : (why : Refusal) → Reply

-- the name of the declaration at a position
abbrev pub name_of : State → ℕ → List ℕ
name_of s n = elim (entry_at s n) [ None ↦ [] | Some e ↦ e.name ]

-- a notice as it is printed
abbrev pub printed_notice : (ℕ → List ℕ) → Notice → List ℕ
printed_notice names (First o outcome) = o ++ codes " init " ++ printed_outcome names outcome
printed_notice names (Changed o was v) = o ++ codes " change " ++ printed_outcome names was ++ codes " " ++ printed_value names v
printed_notice names (TurnedInvalid o) = o ++ codes " invalid"

-- why, as it is printed
abbrev pub printed_refusal : (ℕ → List ℕ) → Refusal → List ℕ
printed_refusal names (Cycle targets) = codes "20 cycle" ++ flat_map (λ n. codes " " ++ names n) targets
printed_refusal names (Height target) = codes "21 height " ++ names target
printed_refusal names (Broken kept) = codes "22 " ++ decimal kept
printed_refusal names why = decimal (number_of why)

-- a reply, over the names of declarations
abbrev pub printed_reply : (ℕ → List ℕ) → Reply → List ℕ
printed_reply names Done = codes "ok"
printed_reply names (Shown observer o) = observer ++ codes " = " ++ printed_outcome names o
printed_reply names (Stable k) = codes "stable " ++ decimal k
printed_reply names (Tells notice) = printed_notice names notice
printed_reply names (Refused why) = codes "refused " ++ printed_refusal names why

-- a reply as a line, with its newline
abbrev pub printed : State → Reply → List ℕ
printed s reply = printed_reply (name_of s) reply ++ 10 ∷ []

-- whether a reply is a refusal
abbrev pub is_refusal : Reply → Bool
is_refusal (Refused why) = true
is_refusal reply = false

-- what a command is answered with
abbrev pub shows : List ℕ → Option Outcome → Reply
shows observer None = Done
shows observer (Some o) = Shown observer o

abbrev pub reply_to : State → Command → Reply
reply_to s (Show observer) = shows observer (shown_by s observer)
reply_to s command = Done

-- ---- steps

-- a refusal changes nothing
abbrev pub Refuses : Moment → Refusal → Moment → List Reply → Type 0
Refuses m why after replies = (after ≡ m) × (replies ≡ Refused why ∷ [])

-- nothing that is needed stands in the way
abbrev pub NothingNeededIsBlocked : Meanings → Moment → Type 0
NothingNeededIsBlocked F m = (i : Item) → Needed F m.present i → InTheWay F m.present i → ⊥

-- a stabilize is accepted where nothing that is needed stands in the way; it may be refused where something that is met
-- does
pub data Stabilizes (F : Meanings) (m after : Moment) (replies : List Reply) : Type 0 where
  settles : (notices : List Notice) → NothingNeededIsBlocked F m → Settles F m.settled m.present after.present notices → after.settled ≡ after.present
      → after.broken ≡ None → replies ≡ Stable (m.present.accepted + 1) ∷ map (λ n. Tells n) notices → Stabilizes F m after replies
  by_cycle : (targets : List ℕ) (n : ℕ) → IsCycle F m.present targets → Among n targets → Met F m.settled m.present (Named n)
      → after ≡ record m { broken = Some 20 } → replies ≡ Refused (Cycle targets) ∷ [] → Stabilizes F m after replies
  by_height : (target : ℕ) (i : Item) → Met F m.settled m.present i → depth.TooDeep F m.present i → IsPrintedFor m.present target i
      → after ≡ record m { broken = Some 21 } → replies ≡ Refused (Height target) ∷ [] → Stabilizes F m after replies

-- the one moment that a command leaves
abbrev pub moved : Moment → Command → Moment
moved m command = record m { present = effect m.present command }

-- a command leads from one moment to the next, with its one reply
abbrev pub Acts : Moment → Command → Moment → List Reply → Type 0
Acts m command after replies = (after ≡ moved m command) × (replies ≡ reply_to m.present command ∷ [])

-- a verdict leads from one moment to the next
abbrev pub Follows : Meanings → Moment → Verdict → Moment → List Reply → Type 0
Follows F m (Refuse why) after replies = Refuses m why after replies
Follows F m Settle after replies = Stabilizes F m after replies
Follows F m (Act command) after replies = Acts m command after replies

-- what a line asks for leads from one moment to the next
abbrev pub Answers : Meanings → Moment → Request → Moment → List Reply → Type 0
Answers F m TooLong after replies = Refuses m LineTooLong after replies
Answers F m Blank after replies = (after ≡ m) × (replies ≡ [])
Answers F m Malformed after replies = Refuses m NoCommand after replies
Answers F m TooDeep after replies = Refuses m LineTooDeep after replies
Answers F m (Asks line) after replies = Follows F m (verdict_of F m line) after replies

-- a line leads from one moment to the next, and prints these replies
abbrev pub Step : Meanings → Moment → List ℕ → Moment → List Reply → Type 0
Step F m bytes after replies = (request : Request) × IsRequest bytes request × Answers F m request after replies
