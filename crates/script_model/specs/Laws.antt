-- Laws of the definitions: what holds of every script, whatever runs it.
use Rattle.std.specs.Prelude.{◌≡◌, ℕ, ◌≤◌, true, false, List, ◌∷◌, None, Some, length, Option, [], map, take}
use Rattle.inc_value.specs.Choice.{Every, Reaches}
use Rattle.script_model.specs.Values as value
use Rattle.script_model.specs.Values.{Value, Outcome}
use Rattle.inc_value.specs.declared.ty.Ty.{Ty}
use Rattle.script_model.specs.Formula.{Formula, Body, Computed, nothing_kept, Entry, State, Meanings, entry_at, meanings_of, Name}
use Rattle.script_model.specs.Check.{Command, Names, binds_of_command, command_of}
use Rattle.script_model.specs.Evaluate.{value_at, Gives, NameGives}
use Rattle.script_model.specs.Grammar.{Line, IsLine, Stabilize, Grab}
use Rattle.script_model.specs.Need.{Edge, Inside, IsVisit, Item, ItemGives, Left, Met, Named, Needed, Place, Reads, Visit, WithinWork}
use Rattle.script_model.specs.Blocked.{OnCycle, Holds, InTheWay}
use Rattle.script_model.specs.Valid.{HasType, BoundsFit, OutcomeHasType, Valid, KeepToTypes, LibraryKeepsToTypes}
use Rattle.script_model.specs.Request.{Request, Asks, IsRequest}
use Rattle.script_model.specs.Run.{Turn, IsRun, Halts, IsTurn, bytes_of, transcript}
use Rattle.script_model.specs.Step.{Moment, Reply, Refusal, Refused, Stabilizes, Step, breaks, number_of, first_moment, Follows, verdict_of}
use Rattle.inc_value.specs.declared.function.FnRef.{FnRef}
use Rattle.inc_value.specs.declared.value.Value as engine
use Rattle.script_model.specs.Calls.{IsTyped, calls_of}

-- what a formula gives within a depth it gives within every greater one
abbrev pub EveryDepthAgrees : Type 0
EveryDepthAgrees = (F : Meanings) (s : State) (d e : ℕ) (E : List Value) (f : Formula) (o : Outcome) → d ≤ e → value_at F s d E f ≡ Some o → value_at F s e E f ≡ Some o

-- a formula gives at most one outcome
abbrev pub OneOutcome : Type 0
OneOutcome = (F : Meanings) (s : State) (E : List Value) (f : Formula) (o p : Outcome) → Gives F s E f o → Gives F s E f p → o ≡ p

-- a line asks for one thing
abbrev pub OneRequest : Type 0
OneRequest = (line : List ℕ) (a b : Request) → IsRequest line a → IsRequest line b → a ≡ b

-- a refusal changes nothing, but for those of a stabilize that met a cycle or was too deep
abbrev pub RefusalsChangeNothing : Type 0
RefusalsChangeNothing =
    (F : Meanings) (m after : Moment) (line : List ℕ) (why : Refusal) (rest : List Reply) → Step F m line after (Refused why ∷ rest) → breaks why ≡ false → after ≡ m

-- and those keep all but that the session is broken, by their number
abbrev pub RefusedStabilizesBreak : Type 0
RefusedStabilizesBreak =
    (F : Meanings) (m after : Moment) (line : List ℕ) (why : Refusal) (rest : List Reply) → Step F m line after (Refused why ∷ rest) → breaks why ≡ true
    → (m.broken ≡ None) × (after ≡ record m { broken = Some (number_of why) })

-- a line that isn't a stabilize leads to one moment, with one answer
abbrev pub OneEffect : Type 0
OneEffect =
    (F : Meanings) (m a b : Moment) (line : List ℕ) (rs qs : List Reply) → (IsRequest line (Asks Stabilize) → ⊥)
    → Step F m line a rs → Step F m line b qs → (a ≡ b) × (rs ≡ qs)

-- what a line declares has at most 64 binds, since each opens a level for the rest of the line
abbrev pub FewBinds : Type 0
FewBinds =
    (F : Meanings) (names : Names) (bytes : List ℕ) (line : Line) (command : Command) → IsLine bytes line
    → command_of F names line ≡ Some command → binds_of_command command ≤ 64

-- in a valid state where nothing that is needed is on a cycle, whatever is needed gives an outcome
abbrev pub NeededGives : Type 0
NeededGives =
    (F : Meanings) (s : State) → KeepToTypes F → Valid F s → ((n : ℕ) → Needed F s (Named n) → OnCycle F s n → ⊥)
    → (i : Item) → Needed F s i → (o : Outcome) × ItemGives F s i o

-- what gives an outcome is on no cycle
abbrev pub GivenIsOnNoCycle : Type 0
GivenIsOnNoCycle = (F : Meanings) (s : State) (n : ℕ) (o : Outcome) → NameGives F s n o → OnCycle F s n → ⊥

-- where nothing changed since the last accepted stabilize, no call is due
abbrev pub NothingDueAfterSettling : Type 0
NothingDueAfterSettling = (F : Meanings) (s : State) (calls : ℕ) → WithinWork F s s calls → calls ≡ 0

-- every line asks for something: it is too long, blank, malformed or nested too deep, or it is a command of today's forms
abbrev pub EveryLineAsks : Type 0
EveryLineAsks = (line : List ℕ) → (request : Request) × IsRequest line request

-- a line that isn't a stabilize makes no call
abbrev pub OnlyStabilizesCall : Type 0
OnlyStabilizesCall = (F : Meanings) (t : Turn) → (IsRequest t.line (Asks Stabilize) → ⊥) → IsTurn F t → t.work ≡ 0

-- an item makes one visit at most, at one state
abbrev pub OneVisit : Type 0
OneVisit = (F : Meanings) (s : State) (v w : Visit) → IsVisit F s v → IsVisit F s w → v.item ≡ w.item → v ≡ w

-- an edge, whatever the value
abbrev pub bare : Edge → Edge
bare (Inside v) = Inside (value.Bool true)
bare edge = edge

-- a place that is met has one list of values of the binds round it
abbrev pub MeetsOnce : Type 0
MeetsOnce =
    (F : Meanings) (before s : State) (owner : ℕ) (p q : List Edge) → Met F before s (Place owner p) → Met F before s (Place owner q)
    → map bare p ≡ map bare q → p ≡ q

-- the states have the same declaration wherever one is reached, or holds what is reached
abbrev pub AgreeFrom : Meanings → State → State → Item → Type 0
AgreeFrom F s other i = (j : Item) (n : ℕ) → Reaches (Reads F s) i j → Holds n j → entry_at other n ≡ entry_at s n

-- what a declaration gives depends on what is reached from it by reads, and on the clock
abbrev pub ReadsSuffice : Type 0
ReadsSuffice =
    (F : Meanings) (s other : State) (n : ℕ) (o : Outcome) → other.now ≡ s.now → AgreeFrom F s other (Named n) → Gives F s [] (Name n) o
    → Gives F other [] (Name n) o

-- in a valid state what a formula of a type gives is Invalid or a value of the type, where the binds round it have theirs
abbrev pub ValuesHaveTypes : Type 0
ValuesHaveTypes =
    (F : Meanings) (s : State) → KeepToTypes F → Valid F s → (n : ℕ) (E : List Value) (bounds : List Ty) (f : Formula) (t : Ty) (o : Outcome)
    → BoundsFit s E bounds → HasType F s n bounds f t → Gives F s E f o → OutcomeHasType s o t

-- in a valid state what a declaration gives is Invalid or a value of its type
abbrev pub DeclarationsHaveTypes : Type 0
DeclarationsHaveTypes =
    (F : Meanings) (s : State) → KeepToTypes F → Valid F s → (n : ℕ) (e : Entry) (o : Outcome) → entry_at s n ≡ Some e → NameGives F s n o
    → OutcomeHasType s o e.ty

-- in a valid state each call that a visit of what is met makes is given proper values of the types that its function takes
abbrev pub CallsAreTyped : Type 0
CallsAreTyped =
    (F : Meanings) (before s : State) → KeepToTypes F → Valid F s → (v : Visit) → IsVisit F s v → Met F before s v.item
    → Every IsTyped (calls_of F s v)

-- a visit counts the calls that it makes
abbrev pub VisitsCountCalls : Type 0
VisitsCountCalls = (F : Meanings) (s : State) (v : Visit) → IsVisit F s v → v.cost ≡ length (calls_of F s v)

-- functions of a library that keep to their types do so as the model has them
abbrev pub LibrariesKeepToTypes : Type 0
LibrariesKeepToTypes =
    (named : List ℕ → Option FnRef) (value : FnRef → List engine.Value → engine.Value) → LibraryKeepsToTypes named value → KeepToTypes (meanings_of named value)

-- both states of a moment are valid
abbrev pub ValidMoment : Meanings → Moment → Type 0
ValidMoment F m = Valid F m.settled × Valid F m.present

-- a script begins valid
abbrev pub StartIsValid : Type 0
StartIsValid = (F : Meanings) → ValidMoment F first_moment

-- every line keeps both states valid, where the functions keep to their types
abbrev pub StepsKeepValidity : Type 0
StepsKeepValidity =
    (F : Meanings) (m after : Moment) (line : List ℕ) (replies : List Reply) → KeepToTypes F → ValidMoment F m → Step F m line after replies
    → ValidMoment F after

-- so does what any line of the whole grammar comes to, also one of a form that isn't here yet
abbrev pub LinesKeepValidity : Type 0
LinesKeepValidity =
    (F : Meanings) (m after : Moment) (bytes : List ℕ) (line : Line) (replies : List Reply) → KeepToTypes F → ValidMoment F m → IsLine bytes line
    → Follows F m (verdict_of F m line) after replies → ValidMoment F after

-- so does a line that finds no memory
abbrev pub HaltsKeepValidity : Type 0
HaltsKeepValidity =
    (F : Meanings) (m after : Moment) (line : List ℕ) (calls : ℕ) → KeepToTypes F → ValidMoment F m → Halts F m line after calls
    → ValidMoment F after

-- in a run all moments are valid
abbrev pub RunsAreValid : Type 0
RunsAreValid =
    (F : Meanings) (lines : List (List ℕ)) (turns : List Turn) → KeepToTypes F → IsRun F lines turns
    → Every (λ (t : Turn). ValidMoment F t.before × ValidMoment F t.after) turns

-- ---- one transcript

-- the turn ends unbroken: no stabilize was refused in it or before
abbrev pub IsUnbroken : Turn → Type 0
IsUnbroken t = t.after.broken ≡ None

-- the turn refuses no stabilize, in an unbroken session or in a broken one
abbrev pub BreaksNothing : Turn → Type 0
BreaksNothing t = t.after.broken ≡ t.before.broken

-- the turn grabs no bind
abbrev pub GrabsNothing : Turn → Type 0
GrabsNothing t = (name bind : List ℕ) → t.request ≡ Asks (Grab name bind) → ⊥

-- the same lines print the same bytes, where no stabilize was refused and no bind is grabbed. Otherwise these choices are
-- free: which of the names and cycles in the way is told, whether a stabilize is refused where only what isn't needed is in
-- the way, and what a bind that is met and not needed was last built for
abbrev pub OneTranscript : Type 0
OneTranscript =
    (F : Meanings) (lines : List (List ℕ)) (ts us : List Turn) → IsRun F lines ts → IsRun F lines us → Every IsUnbroken ts → Every IsUnbroken us
    → Every GrabsNothing ts
    → transcript ts ≡ transcript us

-- so do the lines before the first refused stabilize, whatever follows
abbrev pub OneBeginning : Type 0
OneBeginning =
    (F : Meanings) (lines : List (List ℕ)) (ts us : List Turn) (n : ℕ) → IsRun F lines ts → IsRun F lines us
    → Every IsUnbroken (take n ts) → Every IsUnbroken (take n us) → Every GrabsNothing (take n ts)
    → transcript (take n ts) ≡ transcript (take n us)

-- each turn prints what the other prints at its place, but for those that refuse a stabilize
abbrev pub PrintAlike : List Turn → List Turn → Type 0
PrintAlike [] [] = Unit {0}
PrintAlike [] (u ∷ us) = ⊥
PrintAlike (t ∷ ts) [] = ⊥
PrintAlike (t ∷ ts) (u ∷ us) = (BreaksNothing t → bytes_of t ≡ bytes_of u) × PrintAlike ts us

-- the numbers that broke the session, after each turn
abbrev pub broken_after : List Turn → List (Option ℕ)
broken_after turns = map (λ (t : Turn). t.after.broken) turns

-- where the same stabilizes are refused, with the same numbers, and no bind is grabbed, the same lines print the same bytes,
-- also behind the refusal: of the refused stabilize itself alone the names are free that it tells
abbrev pub OneTranscriptPastRefusals : Type 0
OneTranscriptPastRefusals =
    (F : Meanings) (lines : List (List ℕ)) (ts us : List Turn) → IsRun F lines ts → IsRun F lines us → broken_after ts ≡ broken_after us
    → Every GrabsNothing ts
    → PrintAlike ts us

-- a declaration, a state and a moment without what binds were last built for
abbrev pub forget_body : Body → Body
forget_body (Computed f kept) = Computed f nothing_kept
forget_body body = body

abbrev pub forget_entry : Entry → Entry
forget_entry e = record e { body = forget_body e.body }

abbrev pub forget_all : List Entry → List Entry
forget_all es = map forget_entry es

abbrev pub forget : State → State
forget s = record s { entries = forget_all s.entries }

abbrev pub forget_moment : Moment → Moment
forget_moment m = record { settled = forget m.settled; present = forget m.present; broken = m.broken }

-- then they also lead to one end, but for what binds were last built for
abbrev pub OneEnd : Type 0
OneEnd =
    (F : Meanings) (lines : List (List ℕ)) (ts us : List Turn) (run : IsRun F lines ts) (other : IsRun F lines us) → broken_after ts ≡ broken_after us
    → Every GrabsNothing ts
    → forget_moment run.end ≡ forget_moment other.end

-- the left of each declared bind that the turn may meet is needed: so it isn't free what the bind is built for
abbrev pub NeedsWhatItMeets : Meanings → Turn → Type 0
NeedsWhatItMeets F t =
    (n : ℕ) → Met F t.before.settled t.before.present (Place n (Left ∷ [])) → Needed F t.before.present (Place n (Left ∷ []))

-- then binds may be grabbed: where the same stabilizes are refused, with the same numbers, the same lines print the same bytes, but for the names that
-- a refused one tells, and lead to the very same
abbrev pub OneCourse : Type 0
OneCourse =
    (F : Meanings) (lines : List (List ℕ)) (ts us : List Turn) (run : IsRun F lines ts) (other : IsRun F lines us) → broken_after ts ≡ broken_after us
    → Every (NeedsWhatItMeets F) ts
    → PrintAlike ts us × (run.end ≡ other.end)

-- a stabilize is accepted where nothing that it meets stands in the way
abbrev pub UnblockedIsAccepted : Type 0
UnblockedIsAccepted =
    (F : Meanings) (m after : Moment) (replies : List Reply) → Stabilizes F m after replies
    → ((i : Item) → Met F m.settled m.present i → InTheWay F m.present i → ⊥)
    → after.broken ≡ None

-- and refused where something that is needed does
abbrev pub BlockedIsRefused : Type 0
BlockedIsRefused =
    (F : Meanings) (m after : Moment) (replies : List Reply) (i : Item) → Stabilizes F m after replies → Needed F m.present i → InTheWay F m.present i
    → (why : Refusal) × (replies ≡ Refused why ∷ []) × (breaks why ≡ true)
