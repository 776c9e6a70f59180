-- Worked scripts: what their lines print and how many calls they make.
use Rattle.std.specs.Fmt.{decimal}
use Rattle.std.specs.Prelude.{◌≡◌, ℕ, zero, suc, ◌++◌, ◌≤◌, ◌∷◌, [], List, map, pos, neg_ℤ, codes, Bool, true, false, Option, None, Some}
use Rattle.inc_value.specs.declared.function.FnRef.{FnRef}
use Rattle.inc_value.specs.declared.ty.Base.TheVariants as base
use Rattle.inc_value.specs.declared.ty.Ty.TheVariants as ty
use Rattle.script_model.specs.Values.{Value, Int, Reference, Outcome, Val, Invalid}
use Rattle.script_model.specs.Formula.{Entry, State, start, Meanings, Name, Bound, Bind, Join, Apply, End, More, Variable, Computed, Grab, Unwatched, Told, nothing_kept}
use Rattle.script_model.specs.Blocked.{IsCycle, IsPrintedFor}
use Rattle.script_model.specs.Depth.{TooDeep}
use Rattle.script_model.specs.Grammar.{Line, Stabilize, IsLine}
use Rattle.script_model.specs.Need.{Named, Met, WithinWork}
use Rattle.script_model.specs.Request.{Asks}
use Rattle.script_model.specs.Run.{Turn, IsTurn, IsRun, MayCall, bytes_of, transcript, lines_read, work_of}
use Rattle.script_model.specs.Settle.{TurnedInvalid}
use Rattle.script_model.specs.Step.{Moment, Answers, Stable, Tells, Refused, Cycle, Height, printed, first_moment}
use Rattle.script_model.specs.Valid.{IsNamed, Valid}

-- ---- a sum

-- `add` takes two ints and gives an int, of 3 and 4 it gives 7
pub record AddsThreeAndFour (F : Meanings) (add : FnRef) : Type 0 where
  pub named : F.named (codes "add") ≡ Some add
  pub takes : add.sig.takes ≡ ty.Int ∷ ty.Int ∷ []
  pub gives : add.sig.gives ≡ ty.Int
  pub seven : F.value add (Int (pos 3) ∷ Int (pos 4) ∷ []) ≡ Int (pos 7)

abbrev pub sum_lines : List (List ℕ)
sum_lines = codes "var x int 3" ∷ codes "let y add(x, 4)" ∷ codes "observe o y" ∷ codes "stabilize" ∷ codes "show o" ∷ []

abbrev pub sum_transcript : List ℕ
sum_transcript = codes "ok\nok\nok\nstable 1\no = 7\n"

-- the lines have a run that prints these bytes, with one call
abbrev pub SumIsShown : Type 0
SumIsShown =
    (F : Meanings) (add : FnRef) → AddsThreeAndFour F add
    → (turns : List Turn) × IsRun F sum_lines turns × (transcript turns ≡ sum_transcript) × (work_of turns ≡ 1)

-- every run of them makes at most one call
abbrev pub SumIsOneCall : Type 0
SumIsOneCall = (F : Meanings) (add : FnRef) → AddsThreeAndFour F add → (turns : List Turn) → IsRun F sum_lines turns → work_of turns ≤ 1

-- ---- runs of the whole grammar

-- the line leads where the turn says, be its form one of today's or not
pub record Leads (F : Meanings) (t : Turn) : Type 0 where
  pub tree : Line
  pub written : IsLine t.line tree
  pub asks : t.request ≡ Asks tree
  pub answers : Answers F t.before (Asks tree) t.after t.replies
  pub due : MayCall F t.before t.replies t.work

-- such turns one after the other
abbrev pub AllLead : Meanings → Moment → List Turn → Moment → Type 0
AllLead F m [] end = m ≡ end
AllLead F m (t ∷ turns) end = (t.before ≡ m) × Leads F t × AllLead F t.after turns end

-- a run from the beginning over these lines
pub record IsWholeRun (F : Meanings) (lines : List (List ℕ)) (turns : List Turn) : Type 0 where
  pub end : Moment
  pub chain : AllLead F first_moment turns end
  pub reads : lines_read turns ≡ lines

-- ---- a bind that is built anew

-- `add` takes two ints and gives an int; to 10 it adds 1 and 2
pub record AddsToTen (F : Meanings) (add : FnRef) : Type 0 where
  pub named : F.named (codes "add") ≡ Some add
  pub takes : add.sig.takes ≡ ty.Int ∷ ty.Int ∷ []
  pub gives : add.sig.gives ≡ ty.Int
  pub eleven : F.value add (Int (pos 10) ∷ Int (pos 1) ∷ []) ≡ Int (pos 11)
  pub twelve : F.value add (Int (pos 10) ∷ Int (pos 2) ∷ []) ≡ Int (pos 12)

abbrev pub bind_lines : List (List ℕ)
bind_lines =
    codes "var x int 1" ∷ codes "var z int 10" ∷ codes "let b bind v = x in add(z, v)" ∷ codes "observe o b" ∷ codes "stabilize" ∷ codes "show o"
    ∷ codes "set x 2" ∷ codes "stabilize" ∷ codes "show o" ∷ []

abbrev pub bind_transcript : List ℕ
bind_transcript = codes "ok\nok\nok\nok\nstable 1\no = 11\nok\nstable 2\no = 12\n"

-- the lines have a run that prints these bytes, with one call in each stabilize
abbrev pub BindIsShown : Type 0
BindIsShown =
    (F : Meanings) (add : FnRef) → AddsToTen F add
    → (turns : List Turn) × IsWholeRun F bind_lines turns × (transcript turns ≡ bind_transcript)
    × (map (λ (t : Turn). t.work) turns ≡ 0 ∷ 0 ∷ 0 ∷ 0 ∷ 1 ∷ 0 ∷ 0 ∷ 1 ∷ 0 ∷ [])

-- the states round the second stabilize: x was set to 2, and b was built while x was 1
abbrev pub bind_state : FnRef → Value → State
bind_state add x = record {
  entries =
      record { name = codes "x"; ty = ty.Int; target = 0; body = Variable x }
      ∷ record { name = codes "z"; ty = ty.Int; target = 1; body = Variable (Int (pos 10)) }
      ∷ record {
        name = codes "b";
        ty = add.sig.gives;
        target = 2;
        body = Computed (Bind (Name 0) (Apply add (More (Name 1) (More (Bound 0) End)))) (record nothing_kept { built = Some (Val (Int (pos 1))) });
      }
      ∷ [];
  observers = record { name = codes "o"; target = 2; shown = Some (Val (Int (pos 11))); watch = Unwatched } ∷ [];
  now = 0;
  accepted = 1;
}

-- at most one call is due in it
abbrev pub BindIsOneCall : Type 0
BindIsOneCall =
    (F : Meanings) (add : FnRef) (calls : ℕ) → WithinWork F (bind_state add (Int (pos 1))) (bind_state add (Int (pos 2))) calls → calls ≤ 1

-- ---- a cycle

-- a reference that is set to the join that reads it
abbrev pub cycle_lines : List (List ℕ)
cycle_lines = codes "var x int 1" ∷ codes "var h node int &x" ∷ codes "let j join(h)" ∷ codes "observe o j" ∷ codes "set h &j" ∷ []

-- the lines lead to a state where a stabilize meets j, which reads itself, and the refusal prints these bytes
pub record MeetsCycle (F : Meanings) : Type 0 where
  pub turns : List Turn
  pub run : IsWholeRun F cycle_lines turns
  pub oks : transcript turns ≡ codes "ok\nok\nok\nok\nok\n"
  pub cycle : IsCycle F run.end.present (2 ∷ 2 ∷ [])
  pub met : Met F run.end.settled run.end.present (Named 2)
  pub refusal : printed run.end.present (Refused (Cycle (2 ∷ 2 ∷ []))) ≡ codes "refused 20 cycle j j\n"

abbrev pub NameIsOnCycle : Type 0
NameIsOnCycle = (F : Meanings) → MeetsCycle F

-- ---- a chain that is too high

-- so many names behind the i-th, each a function of the one before
abbrev pub chain_from : FnRef → ℕ → ℕ → List Entry
chain_from neg i zero = []
chain_from neg i (suc k) =
    record { name = codes "n" ++ decimal (suc i); ty = ty.Int; target = suc i; body = Computed (Apply neg (More (Name i) End)) nothing_kept }
    ∷ chain_from neg (suc i) k

-- 130 names, of which n0 is a variable; p shows the last one
abbrev pub chain_state : FnRef → State
chain_state neg = record {
  entries = record { name = codes "n0"; ty = ty.Int; target = 0; body = Variable (Int (pos 1)) } ∷ chain_from neg 0 129;
  observers = record { name = codes "p"; target = 129; shown = None; watch = Unwatched } ∷ [];
  now = 0;
  accepted = 0;
}

-- a stabilize meets the last one, which is too deep, and the refusal prints these bytes
pub record MeetsHeight (F : Meanings) (neg : FnRef) : Type 0 where
  pub deep : TooDeep F (chain_state neg) (Named 129)
  pub met : Met F start (chain_state neg) (Named 129)
  pub named : IsPrintedFor (chain_state neg) 129 (Named 129)
  pub refusal : printed (chain_state neg) (Refused (Height 129)) ≡ codes "refused 21 height n129\n"

abbrev pub ChainIsTooDeep : Type 0
ChainIsTooDeep = (F : Meanings) (neg : FnRef) → MeetsHeight F neg

-- ---- a grab that dies

-- `neg` takes an int and gives one, of 2 it gives -2
pub record NegatesTwo (F : Meanings) (neg : FnRef) : Type 0 where
  pub two : F.value neg (Int (pos 2) ∷ []) ≡ Int (neg_ℤ (pos 2))

-- x is a variable, h refers to r, b is a bind on x, r a grab of what b was built for while x was 1, and j joins h; o shows
-- b and q, which is watched, j
abbrev pub grab_state : FnRef → Value → Option Outcome → Bool → Outcome → Outcome → ℕ → State
grab_state neg x built is_live at_o at_q k = record {
  entries =
      record { name = codes "x"; ty = ty.Int; target = 0; body = Variable x }
      ∷ record { name = codes "h"; ty = ty.Node base.Int; target = 1; body = Variable (Reference 3 base.Int) }
      ∷ record {
        name = codes "b";
        ty = ty.Int;
        target = 2;
        body = Computed (Bind (Name 0) (Apply neg (More (Bound 0) End))) (record nothing_kept { built = built });
      }
      ∷ record { name = codes "r"; ty = ty.Int; target = 3; body = Grab 2 (Int (pos 1)) is_live }
      ∷ record { name = codes "j"; ty = ty.Int; target = 4; body = Computed (Join (Name 1)) nothing_kept } ∷ [];
  observers =
      record { name = codes "o"; target = 2; shown = Some at_o; watch = Unwatched }
      ∷ record { name = codes "q"; target = 4; shown = Some at_q; watch = Told at_q } ∷ [];
  now = 0;
  accepted = k;
}

abbrev pub minus_one : Outcome
minus_one = Val (Int (neg_ℤ (pos 1)))

-- while x is 1
abbrev pub grab_lives : FnRef → State
grab_lives neg = grab_state neg (Int (pos 1)) (Some (Val (Int (pos 1)))) true minus_one minus_one 2

-- x was set to 2
abbrev pub x_is_set : FnRef → State
x_is_set neg = grab_state neg (Int (pos 2)) (Some (Val (Int (pos 1)))) true minus_one minus_one 2

-- and that was settled
abbrev pub grab_is_dead : FnRef → State
grab_is_dead neg = grab_state neg (Int (pos 2)) (Some (Val (Int (pos 2)))) false (Val (Int (neg_ℤ (pos 2)))) Invalid 3

-- the stabilize in which the grab dies, with one call
abbrev pub grab_turn : FnRef → Turn
grab_turn neg = record {
  before = record { settled = grab_lives neg; present = x_is_set neg; broken = None };
  line = codes "stabilize";
  request = Asks Stabilize;
  after = record { settled = grab_is_dead neg; present = grab_is_dead neg; broken = None };
  replies = Stable 3 ∷ Tells (TurnedInvalid (codes "q")) ∷ [];
  work = 1;
}

abbrev pub GrabDies : Type 0
GrabDies = (F : Meanings) (neg : FnRef) → NegatesTwo F neg → IsTurn F (grab_turn neg) × (bytes_of (grab_turn neg) ≡ codes "stable 3\nq invalid\n")

-- a function of the library that takes an int and gives one
pub record TakesAnInt (F : Meanings) (f : FnRef) : Type 0 where
  pub named : IsNamed F f
  pub takes : f.sig.takes ≡ ty.Int ∷ []
  pub gives : f.sig.gives ≡ ty.Int

-- the state in which the grab lives is valid
abbrev pub GrabStateIsValid : Type 0
GrabStateIsValid = (F : Meanings) (neg : FnRef) → TakesAnInt F neg → Valid F (grab_lives neg)
