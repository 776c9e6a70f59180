-- What runs write.
use Rattle.std.specs.Prelude.{◌≡◌, ℕ, ℤ, List, [], ◌++◌, ◌/◌, ◌==◌, codes, cond}
use Rattle.std.specs.Fmt.{decimal, signed_decimal}
use Rattle.incr_bench.specs.declared.job.Job.{Job}
use Rattle.incr_bench.specs.declared.rounds.Rounds.{Rounds}

-- how many of something there were in the rounds
abbrev pub count_line : List ℕ → ℕ → List ℕ
count_line name count = ((name ++ codes " ") ++ decimal count) ++ codes "\n"

-- what the first observer shows after them
abbrev pub last_line : ℤ → List ℕ
last_line last = (codes "last " ++ signed_decimal last) ++ codes "\n"

-- how many functions were called in the rounds, how many notices these told, and what the first observer shows after them
abbrev pub counts_of : Rounds → List ℕ
counts_of rounds = (count_line (codes "calls") rounds.calls ++ count_line (codes "notices") rounds.notices) ++ last_line rounds.last

-- what of a time falls to one of a count; 0 where there is none
abbrev pub each_of : ℕ → ℕ → ℕ
each_of time count = cond (count == 0) 0 (time / count)

-- a text with a number behind it, between two texts
abbrev pub with_number : List ℕ → List ℕ → ℕ → List ℕ → List ℕ
with_number text before number behind = text ++ ((before ++ decimal number) ++ behind)

-- a text with a time behind it, and what of that falls to one of a count
abbrev pub with_time : List ℕ → List ℕ → ℕ → ℕ → List ℕ
with_time text name time count =
    with_number (with_number (with_number (text ++ name) (codes ": ") time (codes " ns, "))
    [] (each_of time count) (codes " ns for each of ")) [] count (codes "\n")

-- a text with the times of rounds behind it: by nodes built, by rounds, by calls and by notices
abbrev pub with_times : List ℕ → Job → Rounds → List ℕ
with_times text job rounds =
    with_time (with_time (with_time (with_time text (codes "built") rounds.building job.size)
    (codes "rounds") rounds.running job.rounds) (codes "calls") rounds.running rounds.calls)
    (codes "notices") rounds.running rounds.notices

-- what is written of rounds of a job, and what is noted of them
pub record IsReport (job : Job) (counts times : List ℕ) : Type 0 where
  pub rounds : Rounds
  pub counted : counts ≡ counts_of rounds
  pub timed : times ≡ with_times [] job rounds
