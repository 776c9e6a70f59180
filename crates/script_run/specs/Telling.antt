-- What is written of a turn.
use Rattle.std.specs.Prelude.{◌≡◌, ℕ, ◌+◌, Bool, true, false, List, [], ◌∷◌, ◌++◌}
use Rattle.std.specs.List.{flat_map, list_any}
use Rattle.script_model.specs.Run.{bytes_of}
use Rattle.script_model.specs.Step.{Reply, Refusal, Refused, Stable}
use Rattle.script_run.specs.Counts.{Count, Counted}

-- what is written behind the replies to a line, by what had been counted before it and after it
abbrev pub Behind : Type 0
Behind = List Reply → Count → Count → List ℕ

-- nothing is written behind a refusal
abbrev pub IsQuiet : Behind → Type 0
IsQuiet behind = (why : Refusal) (was is : Count) → behind (Refused why ∷ []) was is ≡ []

-- whether a reply is that to an accepted stabilize
abbrev pub tells_stable : Reply → Bool
tells_stable (Stable round) = true
tells_stable reply = false

-- between the counts of accepted stabilizes before and after a line lies its own one, where its replies are those to an accepted
-- stabilize, else none
pub record TellsRound (before after : ℕ) (replies : List Reply) : Type 0 where
  pub rose : list_any tells_stable replies ≡ true → after ≡ before + 1
  pub stayed : list_any tells_stable replies ≡ false → after ≡ before

-- what is written of a turn: what it prints, and what stands behind it
abbrev pub told_of : Behind → Counted → List ℕ
told_of behind c = bytes_of c.turn ++ behind c.turn.replies c.was c.is

-- all that is written of turns
abbrev pub all_told : Behind → List Counted → List ℕ
all_told behind counted = flat_map (told_of behind) counted
