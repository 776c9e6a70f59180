-- Runs of scripts: lines one after the other, and what they print.
use Rattle.std.specs.Prelude.{◌≡◌, ℕ, ◌+◌, ◌≤◌, Bool, List, [], ◌∷◌, map, length, None, Some}
use Rattle.std.specs.List.{sum_by, flat_map, list_any}
use Rattle.script_model.specs.Formula as model
use Rattle.script_model.specs.Formula.{Formula, Formulas, Body, Entry, State, Meanings}
use Rattle.script_model.specs.Grammar as line
use Rattle.script_model.specs.Need.{WithinWork}
use Rattle.script_model.specs.Request.{Request, Asks, IsRequest}
use Rattle.script_model.specs.Step.{Moment, Reply, Stable, Refused, Cycle, Height, Answers, printed, is_refusal, first_moment}

-- ---- calls

abbrev mutual
  -- one visit's cost for each place of a formula
  pub calls_in : Formula → ℕ
  calls_in (model.Apply f arguments) = 1 + calls_in_all arguments
  calls_in (model.Fold f first elements) = count_in elements + calls_in_all elements
  calls_in (model.If test a b) = calls_in test + (calls_in a + calls_in b)
  calls_in (model.Join child) = calls_in child
  calls_in (model.Bind left body) = calls_in left + calls_in body
  calls_in f = 0

  pub calls_in_all : Formulas → ℕ
  calls_in_all model.End = 0
  calls_in_all (model.More f rest) = calls_in f + calls_in_all rest

  pub count_in : Formulas → ℕ
  count_in model.End = 0
  count_in (model.More f rest) = 1 + count_in rest

-- one visit's cost for each place of a declaration
abbrev pub calls_of_body : Body → ℕ
calls_of_body (model.Computed f kept) = calls_in f
calls_of_body (model.Freeze child predicate frozen) = 1 + calls_in child
calls_of_body (model.Expert f first links stale) = length links
calls_of_body _ = 0

-- one visit's cost for each place
abbrev pub most_calls : State → ℕ
most_calls s = sum_by (λ (e : Entry). calls_of_body e.body) s.entries

-- an accepted stabilize has the calls that are due, a refused one at most one visit's cost for each place, and every
-- other line none
abbrev pub MayCall : Meanings → Moment → List Reply → ℕ → Type 0
MayCall F m (Stable k ∷ replies) calls = WithinWork F m.settled m.present calls
MayCall F m (Refused (Cycle targets) ∷ replies) calls = calls ≤ most_calls m.present
MayCall F m (Refused (Height target) ∷ replies) calls = calls ≤ most_calls m.present
MayCall F m replies calls = calls ≡ 0

-- ---- turns

-- one line, with what it asks for, what it led to and how many calls of functions were due
pub record Turn : Type 0 where
  pub before : Moment
  pub line : List ℕ
  pub request : Request
  pub after : Moment
  pub replies : List Reply
  pub work : ℕ

-- the line leads where the turn says
pub record IsTurn (F : Meanings) (t : Turn) : Type 0 where
  pub asks : IsRequest t.line t.request
  pub answers : Answers F t.before t.request t.after t.replies
  pub due : MayCall F t.before t.replies t.work

-- turns one after the other
abbrev pub Chain : Meanings → Moment → List Turn → Moment → Type 0
Chain F m [] end = m ≡ end
Chain F m (t ∷ turns) end = (t.before ≡ m) × IsTurn F t × Chain F t.after turns end

-- what a turn prints, with newlines
abbrev pub bytes_of : Turn → List ℕ
bytes_of t = flat_map (printed t.after.present) t.replies

-- whether a turn prints a refusal
abbrev pub is_refused : Turn → Bool
is_refused t = list_any is_refusal t.replies

-- the lines of turns
abbrev pub lines_read : List Turn → List (List ℕ)
lines_read turns = map (λ (t : Turn). t.line) turns

-- all that turns print
abbrev pub transcript : List Turn → List ℕ
transcript turns = flat_map bytes_of turns

-- how many calls were due in all
abbrev pub work_of : List Turn → ℕ
work_of turns = sum_by (λ (t : Turn). t.work) turns

-- whether some line was refused
abbrev pub any_refused : List Turn → Bool
any_refused turns = list_any is_refused turns

-- a run from the beginning over these lines
pub record IsRun (F : Meanings) (lines : List (List ℕ)) (turns : List Turn) : Type 0 where
  pub end : Moment
  pub chain : Chain F first_moment turns end
  pub reads : lines_read turns ≡ lines

-- ---- want of memory

-- where a line may leave things that found no memory: as they were; where it asks for a stabilize, also as after one
-- that was accepted, whose lines alone are missing, or broken, with the number 0
pub data Halts (F : Meanings) (m : Moment) (bytes : List ℕ) (after : Moment) (calls : ℕ) : Type 0 where
  unchanged : after ≡ m → calls ≡ 0 → Halts F m bytes after calls
  accepted : (k : ℕ) (replies : List Reply) → IsRequest bytes (Asks line.Stabilize) → Answers F m (Asks line.Stabilize) after (Stable k ∷ replies)
      → WithinWork F m.settled m.present calls → Halts F m bytes after calls
  broken : IsRequest bytes (Asks line.Stabilize) → m.broken ≡ None → after ≡ record m { broken = Some 0 } → calls ≤ most_calls m.present → Halts F m bytes after calls
