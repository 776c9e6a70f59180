-- How many calls and builds had been counted before and after each turn.
use Rattle.std.specs.Prelude.{◌≡◌, ◌≤◌, ℕ, ◌+◌, ◌-◌, List, [], ◌∷◌, map}
use Rattle.std.specs.List.{sum_by}
use Rattle.script_model.specs.Run.{Turn}
use Rattle.session.specs.Taken.{AsksStabilize}

-- how many calls the library has counted, and how many builds of right sides of binds the session
pub record Count : Type 0 where
  pub calls : ℕ
  pub builds : ℕ

-- before the first line: the library may have counted calls already, the session no build
abbrev pub count_at_first : ℕ → Count
count_at_first calls = record { calls = calls; builds = 0 }

-- a turn, what had been counted before it, and what had been counted after it
pub record Counted : Type 0 where
  pub turn : Turn
  pub was : Count
  pub is : Count

-- the turns alone
abbrev pub turns_of : List Counted → List Turn
turns_of counted = map (λ (c : Counted). c.turn) counted

-- how many calls the library counted in a turn
abbrev pub count_of : Counted → ℕ
count_of c = c.is.calls - c.was.calls

-- how many it counted in all turns together
abbrev pub sum_of : List Counted → ℕ
sum_of counted = sum_by count_of counted

-- the counts did not fall in the turn, that of calls rose by no more than the calls that were due, and that of builds only in a stabilize
pub record IsCount (c : Counted) : Type 0 where
  pub later : c.was.calls ≤ c.is.calls
  pub within : c.is.calls ≤ c.was.calls + c.turn.work
  pub built_later : c.was.builds ≤ c.is.builds
  pub quiet : (AsksStabilize c.turn.line → ⊥) → c.is.builds ≡ c.was.builds

-- the counts of turns one after the other, from what was counted before the first one to what was after the last one
abbrev pub AreCounts : Count → List Counted → Count → Type 0
AreCounts was [] is = was ≡ is
AreCounts was (c ∷ counted) is = (c.was ≡ was) × IsCount c × AreCounts c.is counted is

-- the counts of the turns add up to the rise of the library's count
abbrev pub CountsAddUp : Type 0
CountsAddUp = (was is : Count) (counted : List Counted) → AreCounts was counted is → was.calls + sum_of counted ≡ is.calls
