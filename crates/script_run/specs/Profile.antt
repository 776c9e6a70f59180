-- What is written behind the replies to a line where counts are told.
use Rattle.std.specs.Prelude.{◌≡◌, ℕ, zero, suc, ◌-◌, Bool, true, false, List, ◌∷◌, [], ◌++◌, codes}
use Rattle.std.specs.Fmt.{decimal}
use Rattle.std.specs.List.{list_any}
use Rattle.script_run.specs.Counts.{Count}
use Rattle.script_run.specs.Telling.{Behind, tells_stable}

-- the line that tells a count, behind what is counted
abbrev pub count_line : List ℕ → ℕ → List ℕ
count_line counted count = counted ++ decimal count ++ 10 ∷ []

-- the line that tells builds, where there were some
abbrev pub builds_line : ℕ → List ℕ
builds_line zero = []
builds_line (suc count) = count_line (codes "builds ") (suc count)

-- the lines that tell calls and builds, behind an accepted stabilize alone
abbrev pub counts_line : Bool → ℕ → ℕ → List ℕ
counts_line true calls builds = count_line (codes "calls ") calls ++ builds_line builds
counts_line false calls builds = []

-- behind an accepted stabilize, how many calls the library counted in it, and how many builds the session; behind any other line nothing
abbrev pub counts_told : Behind
counts_told replies was is = counts_line (list_any tells_stable replies) (is.calls - was.calls) (is.builds - was.builds)

-- what was noted are these counts
pub record IsNoted (noted : Count) (noted_accepted : ℕ) (was : Count) (accepted : ℕ) : Type 0 where
  pub counts : noted ≡ was
  pub rounds : noted_accepted ≡ accepted
