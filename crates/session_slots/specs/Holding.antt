-- A session with what it printed that is still to be read.
use Rattle.std.specs.Prelude.{◌≡◌, ◌<◌, ◌≤◌, ◌+◌, ◌++◌, ◌^◌, ℕ, List, [], length, drop}
use Rattle.script_graph.specs.State.{Stands}
use Rattle.script_model.specs.Formula.{Meanings, meanings_of}
use Rattle.script_model.specs.Step.{Moment, first_moment}
use Rattle.session.specs.Taken.{KeepsUnlessAccepted, Stops, Takes}
use Rattle.session.specs.declared.answer.Did.{Did}
use Rattle.std_library.specs.Functions.{named, given}
use Rattle.session_slots.specs.declared.holder.Holder.{Holder}
use Rattle.session_slots.specs.declared.answer.Answer.{Answer}
use Rattle.session_slots.specs.declared.answer.Answer.TheVariants.{Line, NoMemory, TooManyLines}

-- what the names of functions mean in scripts
abbrev pub standard : Meanings
standard = meanings_of (λ name. named name) (λ f args. given f args)

-- a session before its first line, with nothing to be read
abbrev pub IsFirst : Holder → Type 0
IsFirst h = Stands standard h.session.kept first_moment × (h.session.lines ≡ 0) × (h.printed.items ≡ [])

-- the line is one of the session's turns, by its own clause, and what it prints goes behind what is still to be read
abbrev pub IsTaken : Holder → List ℕ → Holder → Did → Type 0
IsTaken old text new how = ((m : Moment) → Stands standard old.session.kept m
    → Takes standard m text new.session.kept old.printed.items new.printed.items old.session.library.calls new.session.library.calls how)
    × KeepsUnlessAccepted how old.session.kept new.session.kept × (new.session.lines ≡ old.session.lines + 1)

-- the line found no memory: the session is where its own clause says that such a line may leave it, and nothing more is to be read
abbrev pub IsStopped : Holder → List ℕ → Holder → Type 0
IsStopped old text new = ((m : Moment) → Stands standard old.session.kept m
    → Stops standard m text new.session.kept old.session.library.calls new.session.library.calls)
    × (new.printed.items ≡ old.printed.items) × (new.session.lines ≡ old.session.lines + 1)

-- the session's next line, with how it was taken
abbrev pub TakesLine : Holder → List ℕ → Holder → Answer → Type 0
TakesLine old text new (Line how) = IsTaken old text new how
TakesLine old text new NoMemory = IsStopped old text new
TakesLine old text new TooManyLines = (new ≡ old) × (2 ^ 30 ≤ old.session.lines)
TakesLine old text new other = ⊥

-- what is to be read goes to the front of the room for it, whose rest stays, or where the room is too small all stays as it was
abbrev pub Reads : List ℕ → List ℕ → List ℕ → List ℕ → Type 0
Reads pending room after left = (length pending ≤ length room → (after ≡ pending ++ drop (length pending) room) × (left ≡ []))
    × (length room < length pending → (after ≡ room) × (left ≡ pending))
