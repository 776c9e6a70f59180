-- The script of the sum, line by line.
use Rattle.std.proofs.Common.{◌≡◌, inl, inr, List, [], ◌∷◌, Option, None, Some, refl, arith}
use Rattle.std.specs.Fmt.{digits}
use Rattle.std.specs.Prelude.{ℕ, pos, codes, drop}
use Rattle.inc_value.specs.declared.function.FnRef.{FnRef}
use Rattle.inc_value.specs.declared.ty.Ty.TheVariants as ty
use Rattle.script_model.specs.Check as check
use Rattle.inc_value.specs.Choice.{here, step}
use Rattle.script_model.specs.Values.{Value, Int, Outcome, Val}
use Rattle.script_model.specs.Formula.{Formula, Entry, State, Meanings, start, Literal, Name, Apply, End, More, Variable, Computed, Unwatched, nothing_kept}
use Rattle.script_model.specs.Evaluate.{value_at, Gives}
use Rattle.script_model.specs.Grammar as grammar
use Rattle.script_model.specs.Grammar.{Line}
use Rattle.script_model.specs.Literals as literals
use Rattle.script_model.specs.Need.{Item, Named, Place, Argument, Needed, Reads, from_root, Visit, visit_of, IsVisit, WithinWork}
use Rattle.script_model.specs.Depth.{Point, Main, Depends}
use Rattle.script_model.specs.Parsing.{formula_read, list_front}
use Rattle.script_model.specs.Request.{IsRequest, Asks}
use Rattle.script_model.specs.Row.{AddsThreeAndFour, sum_lines, sum_transcript, SumIsShown}
use Rattle.script_model.specs.Run.{Turn, IsRun, transcript}
use Rattle.script_model.specs.Settle.{Settles}
use Rattle.script_model.specs.Step as steps
use Rattle.script_model.specs.Step.{Moment, Done, Shown, Stable, Stabilizes, Follows, NothingNeededIsBlocked, Act, verdict_of, first_moment}
use Rattle.script_model.proofs.Asked.{is_request_read}
use Rattle.script_model.proofs.Falls.{Falls, among_all, nothing_is_blocked}

-- ---- what the lines ask for

abbrev pub x_line : Line
x_line = grammar.Var (codes "x") ty.Int (literals.Integer (pos 3))

abbrev pub y_line : Line
y_line = grammar.Let (codes "y")
    (grammar.Call (codes "add") (grammar.More (grammar.Name (codes "x")) (grammar.More (grammar.Literal (literals.Integer (pos 4))) grammar.End)))

abbrev pub o_line : Line
o_line = grammar.Observe (codes "o") (codes "y")

abbrev pub show_line : Line
show_line = grammar.Show (codes "o")

pub y_asks : IsRequest (codes "let y add(x, 4)") (Asks y_line)
unfolding formula_read list_front
y_asks = is_request_read (codes "let y add(x, 4)")

-- ---- the states

abbrev three : Value
three = Int (pos 3)

abbrev four : Value
four = Int (pos 4)

abbrev x_entry : Entry
x_entry = record { name = codes "x"; ty = ty.Int; target = 0; body = Variable three }

abbrev sum : FnRef → Formula
sum add = Apply add (More (Name 0) (More (Literal four) End))

abbrev y_entry : FnRef → Entry
y_entry add = record { name = codes "y"; ty = add.sig.gives; target = 1; body = Computed (sum add) nothing_kept }

abbrev pub with_x : State
with_x = record { entries = x_entry ∷ []; observers = []; now = 0; accepted = 0 }

abbrev pub with_y : FnRef → State
with_y add = record { entries = x_entry ∷ y_entry add ∷ []; observers = []; now = 0; accepted = 0 }

-- o shows an outcome, and so many stabilizes were accepted
abbrev state : FnRef → Option Outcome → ℕ → State
state add shown k =
    record {
      entries = x_entry ∷ y_entry add ∷ [];
      observers = record { name = codes "o"; target = 1; shown = shown; watch = Unwatched } ∷ [];
      now = 0;
      accepted = k;
    }

abbrev pub observed : FnRef → State
observed add = state add None 0

abbrev pub settled : FnRef → State
settled add = state add (Some (Val (Int (pos 7)))) 1

abbrev pub moment : State → State → Moment
moment before now = record { settled = before; present = now; broken = None }

-- ---- what is needed

abbrev pub items : List Item
items = Named 1 ∷ Place 1 [] ∷ Place 1 (Argument 0 ∷ []) ∷ Place 1 (Argument 1 ∷ []) ∷ Named 0 ∷ []

abbrev points : List Point
points = Main (Place 1 []) ∷ Main (Named 0) ∷ Main (Place 1 (Argument 1 ∷ [])) ∷ []

module _ (F : Meanings) (add : FnRef) where
  pub items_fall : Falls (Reads F (observed add)) items
  items_fall = (
    (λ y r. among_all y (Place 1 [] ∷ []) (drop 1 items) (inl refl, tt) r.1),
    (
      (λ y r. among_all y (Place 1 (Argument 0 ∷ []) ∷ Place 1 (Argument 1 ∷ []) ∷ []) (drop 2 items) (inl refl, (inr (inl refl), tt)) r.1),
      (
        (λ y r. among_all y (Named 0 ∷ []) (drop 3 items) (inr (inl refl), tt) r.1),
        ((λ y r. absurd r.1), ((λ y r. absurd r.1), tt)),
      ),
    ),
  )

  points_fall : Falls (Depends F (observed add)) points
  points_fall = (
    (λ y r. among_all y (Main (Named 0) ∷ Main (Place 1 (Argument 1 ∷ [])) ∷ []) (drop 1 points) (inl refl, (inr (inl refl), tt)) r.1),
    ((λ y r. absurd r.1), ((λ y r. absurd r.1), tt)),
  )

  nothing_blocks : NothingNeededIsBlocked F (moment start (observed add))
  nothing_blocks =
      nothing_is_blocked F (observed add) items points items_fall (inl refl, tt) points_fall
      ((inl refl, tt), ((inl refl, tt), ((inr (inl refl), tt), ((inr (inr (inl refl)), tt), ((inr (inl refl), tt), tt)))))
      (omega arith)

  sum_gives : AddsThreeAndFour F add → Gives F (observed add) [] (Name 1) (Val (Int (pos 7)))
  unfolding value_at
  sum_gives is = (3, rw is.seven refl)

  sum_settles : AddsThreeAndFour F add → Settles F start (observed add) (settled add) []
  sum_settles is = record {
    observers = (Val (Int (pos 7)), [], sum_gives is, refl, refl, refl);
    entries = ((Variable three, refl, refl), ((Computed (sum add) nothing_kept, refl, (nothing_kept, refl, record { built = refl })), tt));
    now = refl;
    accepted = refl;
  }

  -- the call of the sum
  abbrev pub call : Visit
  call = visit_of (Place 1 []) (three ∷ four ∷ []) 0 1

  call_is_visit : IsVisit F (observed add) call
  unfolding value_at
  call_is_visit = (2, inl refl)

  call_is_needed : Needed F (observed add) (Place 1 [])
  call_is_needed = (Named 1, inl refl, step {b = Place 1 []} (0, inl refl) here)

  one_call : WithinWork F start (observed add) 1
  one_call = record {
    visits = call ∷ [];
    distinct = ((λ among. among), tt);
    due = (record { visit = call_is_visit; met = from_root call_is_needed; fresh = λ was needed. needed.1 }, tt);
    enough = omega arith;
  }

  y_is_allowed : AddsThreeAndFour F add
      → verdict_of F (moment start with_x) y_line ≡ Act (check.Declare (codes "y") add.sig.gives (Computed (sum add) nothing_kept))
  y_is_allowed is = rw (is.named, is.takes) refl

  y_leads : AddsThreeAndFour F add
      → Follows F (moment start with_x) (verdict_of F (moment start with_x) y_line) (moment start (with_y add)) (Done ∷ [])
  y_leads is = rw (y_is_allowed is) (refl, refl)

  sum_stabilizes : AddsThreeAndFour F add → Stabilizes F (moment start (observed add)) (moment (settled add) (settled add)) (Stable 1 ∷ [])
  sum_stabilizes is = steps.settles [] nothing_blocks (sum_settles is) refl refl refl

-- ---- the run

abbrev pub sum_turns : FnRef → List Turn
sum_turns add =
    record { before = first_moment; line = codes "var x int 3"; request = Asks x_line; after = moment start with_x; replies = Done ∷ []; work = 0 }
    ∷ record {
      before = moment start with_x;
      line = codes "let y add(x, 4)";
      request = Asks y_line;
      after = moment start (with_y add);
      replies = Done ∷ [];
      work = 0;
    }
    ∷ record {
      before = moment start (with_y add);
      line = codes "observe o y";
      request = Asks o_line;
      after = moment start (observed add);
      replies = Done ∷ [];
      work = 0;
    }
    ∷ record {
      before = moment start (observed add);
      line = codes "stabilize";
      request = Asks grammar.Stabilize;
      after = moment (settled add) (settled add);
      replies = Stable 1 ∷ [];
      work = 1;
    }
    ∷ record {
      before = moment (settled add) (settled add);
      line = codes "show o";
      request = Asks show_line;
      after = moment (settled add) (settled add);
      replies = Shown (codes "o") (Val (Int (pos 7))) ∷ [];
      work = 0;
    }
    ∷ []

pub sum_runs : (F : Meanings) (add : FnRef) → AddsThreeAndFour F add → IsRun F sum_lines (sum_turns add)
sum_runs F add is = record {
  end = moment (settled add) (settled add);
  chain = (
    refl,
    record { asks = is_request_read (codes "var x int 3"); answers = (refl, refl); due = refl },
    (
      refl,
      record { asks = y_asks; answers = y_leads F add is; due = refl },
      (
        refl,
        record { asks = is_request_read (codes "observe o y"); answers = (refl, refl); due = refl },
        (
          refl,
          record { asks = is_request_read (codes "stabilize"); answers = sum_stabilizes F add is; due = one_call F add },
          (refl, record { asks = is_request_read (codes "show o"); answers = (refl, refl); due = refl }, refl),
        ),
      ),
    ),
  );
  reads = refl;
}

sum_prints : (add : FnRef) → transcript (sum_turns add) ≡ sum_transcript
unfolding digits
sum_prints add = refl

pub sum_is_shown : SumIsShown
sum_is_shown F add is = (sum_turns add, sum_runs F add is, sum_prints add, refl)
