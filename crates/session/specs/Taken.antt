-- What taking a line does.
use Rattle.std.specs.Prelude.{◌≡◌, ◌≤◌, ◌+◌, ℕ, false, List, [], ◌∷◌, ◌++◌}
use Rattle.script_model.specs.Formula.{Meanings}
use Rattle.script_model.specs.Grammar.{Stabilize}
use Rattle.script_model.specs.Request.{Asks, IsRequest}
use Rattle.script_model.specs.Run.{Turn, IsTurn, Halts, bytes_of}
use Rattle.script_model.specs.Step.{Moment, Refusal, Reply, Refused, number_of, is_refusal}
use Rattle.session.specs.declared.answer.Did.TheVariants as did
use Rattle.session.specs.declared.answer.Did.{Did}
use Rattle.script_graph.specs.Kept.{Kept}
use Rattle.script_graph.specs.State.{Stands}

-- how a line was taken, by what it prints: nothing, a line that is no refusal and maybe more, or one refusal with its number
abbrev pub Says : Did → List Reply → Type 0
Says did.Blank replies = replies ≡ []
Says did.Accepted replies = (first : Reply) × (more : List Reply) × (replies ≡ first ∷ more) × (is_refusal first ≡ false)
Says (did.Refused n) replies = (why : Refusal) × (replies ≡ Refused why ∷ []) × (number_of why ≡ n)

-- from a moment that was stood for there is a turn of the model over the line: its printed lines are what was appended,
-- its end is stood for, and no more functions were called than are due
pub record Takes (F : Meanings) (m : Moment) (line : List ℕ) (new : Kept) (written appended : List ℕ) (called calls : ℕ) (how : Did) : Type 0 where
  pub turn : Turn
  pub from : turn.before ≡ m
  pub over : turn.line ≡ line
  pub is_turn : IsTurn F turn
  pub stands : Stands F new turn.after
  pub printed : appended ≡ written ++ bytes_of turn
  pub within : calls ≤ called + turn.work
  pub says : Says how turn.replies

-- the line asks for a stabilize
abbrev pub AsksStabilize : List ℕ → Type 0
AsksStabilize line = IsRequest line (Asks Stabilize)

-- a line that was not accepted leaves what is kept, but where a stabilize was refused for what it met
abbrev pub KeepsUnlessAccepted : Did → Kept → Kept → Type 0
KeepsUnlessAccepted did.Accepted old new = Unit {0}
KeepsUnlessAccepted did.Blank old new = new ≡ old
KeepsUnlessAccepted (did.Refused n) old new = (n ≡ 20 → ⊥) → (n ≡ 21 → ⊥) → new ≡ old

-- where no memory was found, a moment is stood for at which the line may leave things, and no more functions were called than
-- are due there
pub record Stops (F : Meanings) (m : Moment) (line : List ℕ) (new : Kept) (called calls : ℕ) : Type 0 where
  pub after : Moment
  pub due : ℕ
  pub halts : Halts F m line after due
  pub stands : Stands F new after
  pub within : calls ≤ called + due
