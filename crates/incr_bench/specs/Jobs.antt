-- What the words of the command line ask for.
use Rattle.std.specs.Prelude.{◌≡◌, ◌<◌, ◌≤◌, ◌^◌, ℕ, List, [], ◌∷◌, Option, None, Some, if◌then◌else◌, codes}
use Rattle.std.specs.Str.{bytes_eq}
use Rattle.std.specs.Str.Parse.{IsNumeral, digits_value, without_leading_plus}
use Rattle.incr_bench.specs.declared.job.Job.{Job}
use Rattle.incr_bench.specs.declared.job.Shape.{Shape}
use Rattle.incr_bench.specs.declared.job.Shape.TheVariants.{Chain, Fan, Tree, Fold, Cut, Never, Idle, Flip, Flipx, Aside, Switch, Bind, Nested, Boxed, Ticks, Watched, Turns, Told, Shown, Ended, Expert, Expertx, Frozen, Steady}

-- the shape that a word names
abbrev pub shape_of : List ℕ → Option Shape
shape_of name =
    if bytes_eq name (codes "chain") then Some Chain
    else (if bytes_eq name (codes "fan") then Some Fan
    else (if bytes_eq name (codes "tree") then Some Tree
    else (if bytes_eq name (codes "fold") then Some Fold
    else (if bytes_eq name (codes "cut") then Some Cut
    else (if bytes_eq name (codes "never") then Some Never
    else (if bytes_eq name (codes "idle") then Some Idle
    else (if bytes_eq name (codes "flip") then Some Flip
    else (if bytes_eq name (codes "flipx") then Some Flipx
    else (if bytes_eq name (codes "aside") then Some Aside
    else (if bytes_eq name (codes "switch") then Some Switch
    else (if bytes_eq name (codes "bind") then Some Bind
    else (if bytes_eq name (codes "nested") then Some Nested
    else (if bytes_eq name (codes "boxed") then Some Boxed
    else (if bytes_eq name (codes "ticks") then Some Ticks
    else (if bytes_eq name (codes "watched") then Some Watched
    else (if bytes_eq name (codes "turns") then Some Turns
    else (if bytes_eq name (codes "told") then Some Told
    else (if bytes_eq name (codes "shown") then Some Shown
    else (if bytes_eq name (codes "ended") then Some Ended
    else (if bytes_eq name (codes "expert") then Some Expert
    else (if bytes_eq name (codes "expertx") then Some Expertx
    else (if bytes_eq name (codes "frozen") then Some Frozen
    else (if bytes_eq name (codes "steady") then Some Steady
    else None)))))))))))))))))))))))

-- the largest size of a shape: as long as a chain may be, and as many nodes as a graph may have
abbrev pub most_of : Shape → ℕ
most_of Chain = 128
most_of Flip = 127
most_of Flipx = 127
most_of Tree = 524288
most_of Bind = 200000
most_of Nested = 200000
most_of Steady = 65536
most_of _ = 1000000

-- a word writes the number, or none below 2^64: digits, before which a plus may stand
abbrev pub Writes : List ℕ → Option ℕ → Type 0
Writes word (Some n) = IsNumeral 10 (without_leading_plus word) × ((digits_value 10 (without_leading_plus word) ≡ n) × (n < 2 ^ 64))
Writes word None = IsNumeral 10 (without_leading_plus word) → digits_value 10 (without_leading_plus word) < 2 ^ 64 → ⊥

-- a graph of the job's size can be built
abbrev pub IsWithin : Job → Type 0
IsWithin job = (0 < job.size) × (job.size ≤ 1000000)

-- a shape's name, its size and the rounds ask for the job
pub record Asks (name size_word rounds_word : List ℕ) (job : Job) : Type 0 where
  pub shape : shape_of name ≡ Some job.shape
  pub size : Writes size_word (Some job.size)
  pub rounds : Writes rounds_word (Some job.rounds)
  pub some : 0 < job.size
  pub most : job.size ≤ most_of job.shape

-- the words, of which the first is the program's name, ask for the job
abbrev pub AsksFor : List (List ℕ) → Job → Type 0
AsksFor (program ∷ name ∷ size ∷ rounds ∷ []) job = Asks name size rounds job
AsksFor words job = ⊥
