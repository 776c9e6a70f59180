-- The script of the bind that is built anew, line by line.
use Rattle.std.proofs.Common.{◌≡◌, ◌⊎◌, ◌≤◌, ◌∙◌, sym, inl, inr, List, [], ◌∷◌, Option, None, Some, refl, arith}
use Rattle.std.specs.Fmt.{digits}
use Rattle.std.specs.List.{sum_by}
use Rattle.std.specs.Prelude.{ℕ, ℤ, suc, Bool, true, false, pos, codes, drop}
use Rattle.inc_value.specs.declared.function.FnRef.{FnRef}
use Rattle.inc_value.specs.declared.ty.Ty.TheVariants as ty
use Rattle.inc_value.specs.Choice.{Among, NoRepeats, Every, here, step}
use Rattle.script_model.specs.Values.{Value, Int, Outcome, Val}
use Rattle.script_model.specs.Formula.{Entry, State, Meanings, Formula, start, Name, Bound, Bind, Apply, End, More, Variable, Computed, Unwatched, nothing_kept}
use Rattle.script_model.specs.Evaluate.{value_at, Gives, chosen}
use Rattle.script_model.specs.Grammar as grammar
use Rattle.script_model.specs.Grammar.{Line, IsLine}
use Rattle.script_model.specs.Literals as literals
use Rattle.script_model.specs.Need.{Item, Named, Place, Argument, Left, Inside, Needed, Reads, Met, from_root, Visit, visit_of, IsVisit, IsDue, WithinWork, ItemGives, StillStands, visits_at, from_held, reads_at, rounds}
use Rattle.script_model.specs.Depth.{Point, Main, Change, Depends, points_at, stands_at}
use Rattle.script_model.specs.Parsing.{formula_read, list_front}
use Rattle.script_model.specs.Request.{Asks}
use Rattle.script_model.specs.Row.{IsWholeRun, AddsToTen, bind_lines, bind_transcript, BindIsShown, BindIsOneCall}
use Rattle.script_model.specs.Run.{Turn, transcript}
use Rattle.script_model.specs.Settle.{Settles}
use Rattle.script_model.specs.Check as check
use Rattle.script_model.specs.Step as steps
use Rattle.script_model.specs.Step.{Moment, Done, Shown, Stable, Stabilizes, Follows, NothingNeededIsBlocked, Act, verdict_of, first_moment}
use Rattle.script_model.proofs.Falls.{Falls, among_all, stays_among, needed_among, nothing_is_blocked, either}
use Rattle.script_model.proofs.Evaluation.{one_outcome}
use Rattle.script_model.proofs.Asked.{is_line}

-- ---- the states

abbrev one : Value
one = Int (pos 1)

abbrev two : Value
two = Int (pos 2)

abbrev ten : Value
ten = Int (pos 10)

abbrev x_entry : Value → Entry
x_entry v = record { name = codes "x"; ty = ty.Int; target = 0; body = Variable v }

abbrev z_entry : Entry
z_entry = record { name = codes "z"; ty = ty.Int; target = 1; body = Variable ten }

abbrev sum : FnRef → Formula
sum add = Apply add (More (Name 1) (More (Bound 0) End))

abbrev b_entry : FnRef → Option Outcome → Entry
b_entry add built =
    record { name = codes "b"; ty = add.sig.gives; target = 2; body = Computed (Bind (Name 0) (sum add)) (record nothing_kept { built = built }) }

abbrev with_x : State
with_x = record { entries = x_entry one ∷ []; observers = []; now = 0; accepted = 0 }

abbrev with_z : State
with_z = record { entries = x_entry one ∷ z_entry ∷ []; observers = []; now = 0; accepted = 0 }

abbrev with_b : FnRef → State
with_b add = record { entries = x_entry one ∷ z_entry ∷ b_entry add None ∷ []; observers = []; now = 0; accepted = 0 }

-- x has the value, b was built for an outcome, o shows an outcome, and so many stabilizes were accepted
abbrev state : FnRef → Value → Option Outcome → Option Outcome → ℕ → State
state add v built shown k = record {
  entries = x_entry v ∷ z_entry ∷ b_entry add built ∷ [];
  observers = record { name = codes "o"; target = 2; shown = shown; watch = Unwatched } ∷ [];
  now = 0;
  accepted = k;
}

abbrev fresh_state : FnRef → State
fresh_state add = state add one None None 0

abbrev first_settled : FnRef → State
first_settled add = state add one (Some (Val one)) (Some (Val (Int (pos 11)))) 1

abbrev then_set : FnRef → State
then_set add = state add two (Some (Val one)) (Some (Val (Int (pos 11)))) 1

abbrev second_settled : FnRef → State
second_settled add = state add two (Some (Val two)) (Some (Val (Int (pos 12)))) 2

abbrev moment : State → State → Moment
moment before now = record { settled = before; present = now; broken = None }

-- ---- what the lines ask for

abbrev x_line : Line
x_line = grammar.Var (codes "x") ty.Int (literals.Integer (pos 1))

abbrev z_line : Line
z_line = grammar.Var (codes "z") ty.Int (literals.Integer (pos 10))

abbrev b_line : Line
b_line =
    grammar.Let (codes "b") (grammar.Bind (codes "v") (grammar.Name (codes "x"))
    (grammar.Call (codes "add") (grammar.More (grammar.Name (codes "z")) (grammar.More (grammar.Name (codes "v")) grammar.End))))

abbrev o_line : Line
o_line = grammar.Observe (codes "o") (codes "b")

abbrev set_line : Line
set_line = grammar.Set (codes "x") (literals.Integer (pos 2))

abbrev show_line : Line
show_line = grammar.Show (codes "o")

b_written : IsLine (codes "let b bind v = x in add(z, v)") b_line
unfolding formula_read list_front
b_written = is_line (codes "let b bind v = x in add(z, v)") b_line refl

stabilize_written : IsLine (codes "stabilize") grammar.Stabilize
stabilize_written = is_line (codes "stabilize") grammar.Stabilize refl

show_written : IsLine (codes "show o") show_line
show_written = is_line (codes "show o") show_line refl

-- ---- what is needed

abbrev behind_bind : Value → List Item
behind_bind v =
    Place 2 (Inside v ∷ []) ∷ Place 2 (Argument 0 ∷ Inside v ∷ []) ∷ Place 2 (Argument 1 ∷ Inside v ∷ []) ∷ Place 2 (Left ∷ []) ∷ Named 0
    ∷ Named 1 ∷ []

abbrev items : Value → List Item
items v = Named 2 ∷ Place 2 [] ∷ behind_bind v

abbrev behind_sum : Value → List Point
behind_sum v = Main (Place 2 (Argument 1 ∷ Inside v ∷ [])) ∷ Change (Place 2 []) ∷ Main (Named 0) ∷ Main (Named 1) ∷ []

abbrev points : Value → List Point
points v = Main (Place 2 []) ∷ Main (Place 2 (Inside v ∷ [])) ∷ behind_sum v

module _ (F : Meanings) (add : FnRef) (v : Value) (built shown : Option Outcome) (k : ℕ) where
  abbrev here_now : State
  here_now = state add v built shown k

  x_gives : Gives F here_now [] (Name 0) (Val v)
  unfolding value_at
  x_gives = (1, refl)

  -- the value of x at a depth, if it has one there
  abbrev XAt : ℕ → Type 0
  XAt d = (value_at F here_now d [] (Name 0) ≡ None) ⊎ (value_at F here_now d [] (Name 0) ≡ Some (Val v))

  x_at : (d : ℕ) → XAt d
  x_at d = either F here_now [] (Name 0) (Val v) d x_gives

  bind_reads : (y : Item) (d : ℕ) → XAt d → Among y (reads_at F here_now d (Place 2 [])) → Among y (behind_bind v)
  bind_reads y d (inl is) r = among_all y (Place 2 (Left ∷ []) ∷ []) (behind_bind v) (inr (inr (inr (inl refl))), tt) (rw is at r)
  bind_reads y d (inr is) r =
      among_all y (Place 2 (Left ∷ []) ∷ Place 2 (Inside v ∷ []) ∷ []) (behind_bind v) (inr (inr (inr (inl refl))), (inl refl, tt)) (rw is at r)

  pub items_fall : Falls (Reads F here_now) (items v)
  items_fall = (
    (λ y r. among_all y (Place 2 [] ∷ []) (drop 1 (items v)) (inl refl, tt) r.1),
    (
      (λ y r. bind_reads y r.0 (x_at r.0) r.1),
      (
        (λ y r. among_all y (Place 2 (Argument 0 ∷ Inside v ∷ []) ∷ Place 2 (Argument 1 ∷ Inside v ∷ []) ∷ Place 2 (Left ∷ []) ∷ [])
            (drop 3 (items v)) (inl refl, (inr (inl refl), (inr (inr (inl refl)), tt))) r.1),
        (
          (λ y r. among_all y (Named 1 ∷ []) (drop 4 (items v)) (inr (inr (inr (inl refl))), tt) r.1),
          (
            (λ y r. among_all y (Place 2 (Left ∷ []) ∷ []) (drop 5 (items v)) (inl refl, tt) r.1),
            (
              (λ y r. among_all y (Named 0 ∷ []) (drop 6 (items v)) (inl refl, tt) r.1),
              ((λ y r. absurd r.1), ((λ y r. absurd r.1), tt)),
            ),
          ),
        ),
      ),
    ),
  )

  bind_depends : (y : Point) (d : ℕ) → XAt d → Among y (points_at F here_now d (Main (Place 2 [])))
      → Among y (Main (Place 2 (Inside v ∷ [])) ∷ behind_sum v)
  bind_depends y d (inl is) r =
      among_all y (Change (Place 2 []) ∷ []) (Main (Place 2 (Inside v ∷ [])) ∷ behind_sum v) (inr (inr (inl refl)), tt) (rw is at r)
  bind_depends y d (inr is) r =
      among_all y (Change (Place 2 []) ∷ Main (Place 2 (Inside v ∷ [])) ∷ []) (Main (Place 2 (Inside v ∷ [])) ∷ behind_sum v)
      (inr (inr (inl refl)), (inl refl, tt)) (rw is at r)

  -- the sum depends on its arguments where the left gives its value
  sum_depends : (y : Point) (stands : Bool)
      → Among y (Change (Place 2 []) ∷ chosen stands (Main (Named 1) ∷ Main (Place 2 (Argument 1 ∷ Inside v ∷ [])) ∷ []) [])
      → Among y (behind_sum v)
  sum_depends y true r =
      among_all y (Change (Place 2 []) ∷ Main (Named 1) ∷ Main (Place 2 (Argument 1 ∷ Inside v ∷ [])) ∷ []) (behind_sum v)
      (inr (inl refl), (inr (inr (inr (inl refl))), (inl refl, tt))) r
  sum_depends y false r = among_all y (Change (Place 2 []) ∷ []) (behind_sum v) (inr (inl refl), tt) r

  pub points_fall : Falls (Depends F here_now) (points v)
  points_fall = (
    (λ y r. bind_depends y r.0 (x_at r.0) r.1),
    (
      (λ y r. sum_depends y (stands_at F here_now r.0 2 (rounds (Inside v ∷ []))) r.1),
      (
        (λ y r. among_all y (Change (Place 2 []) ∷ []) (drop 3 (points v)) (inl refl, tt) r.1),
        (
          (λ y r. among_all y (Main (Named 0) ∷ []) (drop 4 (points v)) (inl refl, tt) r.1),
          ((λ y r. absurd r.1), ((λ y r. absurd r.1), tt)),
        ),
      ),
    ),
  )

  pub nothing_blocks : (before : State) → NothingNeededIsBlocked F (moment before here_now)
  nothing_blocks before =
      nothing_is_blocked F here_now (items v) (points v) items_fall (inl refl, tt) points_fall (
        (inl refl, (inr (inr (inr (inl refl))), tt)),
        (
          (inl refl, (inr (inr (inr (inl refl))), tt)),
          (
            (inr (inl refl), tt),
            (
              (inr (inr (inr (inr (inr (inl refl))))), tt),
              (
                (inr (inr (inl refl)), tt),
                (
                  (inr (inr (inr (inr (inl refl)))), tt),
                  ((inr (inr (inr (inr (inl refl)))), tt), ((inr (inr (inr (inr (inr (inl refl))))), tt), tt)),
                ),
              ),
            ),
          ),
        ),
      )
      (omega arith)

  pub sum_is_needed : Needed F here_now (Place 2 (Inside v ∷ []))
  unfolding value_at
  sum_is_needed = (Named 2, inl refl, step {b = Place 2 []} (0, inl refl) (step {b = Place 2 (Inside v ∷ [])} (1, inr (inl refl)) here))

  pub left_is_met : (before : State) → Met F before here_now (Place 2 (Left ∷ []))
  left_is_met before = from_root (Named 2, inl refl, step {b = Place 2 []} (0, inl refl) (step {b = Place 2 (Left ∷ [])} (0, inl refl) here))

  -- what b gives, of what the sum gives
  pub b_gives : (w : Value) → F.value add (ten ∷ v ∷ []) ≡ w → Gives F here_now [] (Name 2) (Val w)
  unfolding value_at
  b_gives w is = (5, rw is refl)

  -- a stabilize shows the sum, and builds the bind for x
  pub stabilizes : (before : State) (w : Value) → F.value add (ten ∷ v ∷ []) ≡ w
      → Settles F before here_now (state add v (Some (Val v)) (Some (Val w)) (suc k)) []
  stabilizes before w is = record {
    observers = (Val w, [], b_gives w is, refl, refl, refl);
    entries = (
      (Variable v, refl, refl),
      (
        (Variable ten, refl, refl),
        (
          (
            Computed (Bind (Name 0) (sum add)) (record nothing_kept { built = Some (Val v) }),
            refl,
            (record nothing_kept { built = Some (Val v) }, refl, record { built = record { needed = λ need. (Val v, left_gives, refl); either = inr (Val v, left_is_met before, left_gives, refl) } }),
          ),
          tt,
        ),
      ),
    );
    now = refl;
    accepted = omega arith;
  }
    where
      left_gives : ItemGives F here_now (Place 2 (Left ∷ [])) (Val v)
      left_gives = x_gives

  -- the call of the sum
  abbrev call : Visit
  call = visit_of (Place 2 (Inside v ∷ [])) (ten ∷ v ∷ []) 0 1

  pub sum_is_visit : IsVisit F here_now call
  unfolding value_at
  sum_is_visit = (2, inl refl)

-- ---- the turns

abbrev stabilizing : State → State → State → ℕ → Turn
stabilizing before now after k = record {
  before = moment before now;
  line = codes "stabilize";
  request = Asks grammar.Stabilize;
  after = moment after after;
  replies = Stable k ∷ [];
  work = 1;
}

abbrev showing : State → ℤ → Turn
showing s n =
    record {
      before = moment s s;
      line = codes "show o";
      request = Asks show_line;
      after = moment s s;
      replies = Shown (codes "o") (Val (Int n)) ∷ [];
      work = 0;
    }

abbrev turns : FnRef → List Turn
turns add =
    record { before = first_moment; line = codes "var x int 1"; request = Asks x_line; after = moment start with_x; replies = Done ∷ []; work = 0 }
    ∷ record {
      before = moment start with_x;
      line = codes "var z int 10";
      request = Asks z_line;
      after = moment start with_z;
      replies = Done ∷ [];
      work = 0;
    }
    ∷ record {
      before = moment start with_z;
      line = codes "let b bind v = x in add(z, v)";
      request = Asks b_line;
      after = moment start (with_b add);
      replies = Done ∷ [];
      work = 0;
    }
    ∷ record {
      before = moment start (with_b add);
      line = codes "observe o b";
      request = Asks o_line;
      after = moment start (fresh_state add);
      replies = Done ∷ [];
      work = 0;
    }
    ∷ stabilizing start (fresh_state add) (first_settled add) 1
    ∷ showing (first_settled add) (pos 11)
    ∷ record {
      before = moment (first_settled add) (first_settled add);
      line = codes "set x 2";
      request = Asks set_line;
      after = moment (first_settled add) (then_set add);
      replies = Done ∷ [];
      work = 0;
    }
    ∷ stabilizing (first_settled add) (then_set add) (second_settled add) 2
    ∷ showing (second_settled add) (pos 12)
    ∷ []

b_is_allowed : (F : Meanings) (add : FnRef) → AddsToTen F add
    → verdict_of F (moment start with_z) b_line ≡ Act
    (check.Declare (codes "b") add.sig.gives (Computed (Bind (Name 0) (sum add)) (record nothing_kept { built = None })))
b_is_allowed F add is = rw (is.named, is.takes) refl

b_leads : (F : Meanings) (add : FnRef) → AddsToTen F add
    → Follows F (moment start with_z) (verdict_of F (moment start with_z) b_line) (moment start (with_b add)) (Done ∷ [])
b_leads F add is = rw (b_is_allowed F add is) (refl, refl)

first_stabilizes : (F : Meanings) (add : FnRef) → AddsToTen F add
    → Stabilizes F (moment start (fresh_state add)) (moment (first_settled add) (first_settled add)) (Stable 1 ∷ [])
first_stabilizes F add is =
    steps.settles [] (nothing_blocks F add one None None 0 start) (stabilizes F add one None None 0 start (Int (pos 11)) is.eleven) refl refl refl

second_stabilizes : (F : Meanings) (add : FnRef) → AddsToTen F add
    → Stabilizes F (moment (first_settled add) (then_set add)) (moment (second_settled add) (second_settled add)) (Stable 2 ∷ [])
second_stabilizes F add is =
    steps.settles [] (nothing_blocks F add two (Some (Val one)) (Some (Val (Int (pos 11)))) 1 (first_settled add))
    (stabilizes F add two (Some (Val one)) (Some (Val (Int (pos 11)))) 1 (first_settled add) (Int (pos 12)) is.twelve) refl refl refl

first_call : (F : Meanings) (add : FnRef) → WithinWork F start (fresh_state add) 1
first_call F add = record {
  visits = call F add one None None 0 ∷ [];
  distinct = ((λ among. among), tt);
  due = (
    record {
      visit = sum_is_visit F add one None None 0;
      met = from_root (sum_is_needed F add one None None 0);
      fresh = λ was needed. needed.1;
    },
    tt,
  );
  enough = omega arith;
}

-- the place for the value 2 wasn't needed while x was 1
not_there : Among (Place 2 (Inside two ∷ [])) (items one) → ⊥
not_there (inl e) = cc
not_there (inr (inl e)) = cc
not_there (inr (inr (inl e))) = cc
not_there (inr (inr (inr (inl e)))) = cc
not_there (inr (inr (inr (inr (inl e))))) = cc
not_there (inr (inr (inr (inr (inr (inl e)))))) = cc
not_there (inr (inr (inr (inr (inr (inr (inl e))))))) = cc
not_there (inr (inr (inr (inr (inr (inr (inr (inl e)))))))) = cc
not_there (inr (inr (inr (inr (inr (inr (inr (inr e)))))))) = e

second_call : (F : Meanings) (add : FnRef) → WithinWork F (first_settled add) (then_set add) 1
second_call F add = record {
  visits = call F add two (Some (Val one)) (Some (Val (Int (pos 11)))) 1 ∷ [];
  distinct = ((λ among. among), tt);
  due = (
    record {
      visit = sum_is_visit F add two (Some (Val one)) (Some (Val (Int (pos 11)))) 1;
      met = from_root (sum_is_needed F add two (Some (Val one)) (Some (Val (Int (pos 11)))) 1);
      fresh = λ was needed. not_there
          (needed_among F (first_settled add) (items one) (Place 2 (Inside two ∷ []))
          (items_fall F add one (Some (Val one)) (Some (Val (Int (pos 11)))) 1) (inl refl, tt) needed);
    },
    tt,
  );
  enough = omega arith;
}

pub bind_runs : (F : Meanings) (add : FnRef) → AddsToTen F add → IsWholeRun F bind_lines (turns add)
bind_runs F add is = record {
  end = moment (second_settled add) (second_settled add);
  chain = (
    refl,
    record { tree = x_line; written = is_line (codes "var x int 1") x_line refl; asks = refl; answers = (refl, refl); due = refl },
    (
      refl,
      record { tree = z_line; written = is_line (codes "var z int 10") z_line refl; asks = refl; answers = (refl, refl); due = refl },
      (
        refl,
        record { tree = b_line; written = b_written; asks = refl; answers = b_leads F add is; due = refl },
        (
          refl,
          record { tree = o_line; written = is_line (codes "observe o b") o_line refl; asks = refl; answers = (refl, refl); due = refl },
          (
            refl,
            record {
              tree = grammar.Stabilize;
              written = stabilize_written;
              asks = refl;
              answers = first_stabilizes F add is;
              due = first_call F add;
            },
            (
              refl,
              record { tree = show_line; written = show_written; asks = refl; answers = (refl, refl); due = refl },
              (
                refl,
                record { tree = set_line; written = is_line (codes "set x 2") set_line refl; asks = refl; answers = (refl, refl); due = refl },
                (
                  refl,
                  record {
                    tree = grammar.Stabilize;
                    written = stabilize_written;
                    asks = refl;
                    answers = second_stabilizes F add is;
                    due = second_call F add;
                  },
                  (refl, record { tree = show_line; written = show_written; asks = refl; answers = (refl, refl); due = refl }, refl),
                ),
              ),
            ),
          ),
        ),
      ),
    ),
  );
  reads = refl;
}

bind_prints : (add : FnRef) → transcript (turns add) ≡ bind_transcript
unfolding digits
bind_prints add = refl

pub bind_is_shown : BindIsShown
bind_is_shown F add is = (turns add, bind_runs F add is, bind_prints add, refl)

-- ---- no more calls than one are due in the second stabilize

module _ (F : Meanings) (add : FnRef) where
  abbrev was : State
  was = first_settled add

  abbrev is_now : State
  is_now = then_set add

  abbrev shown_then : Option Outcome
  shown_then = Some (Val (Int (pos 11)))

  -- what was held and still stands is needed now
  still_there : (h : Item) → Among h (items one) → StillStands F is_now h → Among h (items two)
  still_there h (inl e) stands = inl e
  still_there h (inr (inl e)) stands = inr (inl e)
  still_there h (inr (inr (inl e))) stands = absurd (gone (rw e at stands))
    where
      gone : StillStands F is_now (Place 2 (Inside one ∷ [])) → ⊥
      gone k = let same = one_outcome F is_now [] (Name 0) (Val one) (Val two) k.0 (x_gives F add two (Some (Val one)) shown_then 1) in cc
  still_there h (inr (inr (inr (inl e)))) stands = absurd (gone (rw e at stands))
    where
      gone : StillStands F is_now (Place 2 (Argument 0 ∷ Inside one ∷ [])) → ⊥
      gone k = let same = one_outcome F is_now [] (Name 0) (Val one) (Val two) k.0 (x_gives F add two (Some (Val one)) shown_then 1) in cc
  still_there h (inr (inr (inr (inr (inl e))))) stands = absurd (gone (rw e at stands))
    where
      gone : StillStands F is_now (Place 2 (Argument 1 ∷ Inside one ∷ [])) → ⊥
      gone k = let same = one_outcome F is_now [] (Name 0) (Val one) (Val two) k.0 (x_gives F add two (Some (Val one)) shown_then 1) in cc
  still_there h (inr (inr (inr (inr (inr rest))))) stands = inr (inr (inr (inr (inr rest))))

  met_among : (i : Item) → Met F was is_now i → Among i (items two)
  met_among i (from_root needed) = needed_among F is_now (items two) i (items_fall F add two (Some (Val one)) shown_then 1) (inl refl, tt) needed
  met_among i (from_held {h = h} held stands on) =
      let held_there =
      needed_among F was (items one) h (items_fall F add one (Some (Val one)) shown_then 1) (inl refl, tt) (held.root, held.was, held.reached) in
      stays_among (Reads F is_now) (items two) h i (items_fall F add two (Some (Val one)) shown_then 1) (still_there h held_there stands) on

  abbrev the_call : Visit
  the_call = call F add two (Some (Val one)) shown_then 1

  z_at : (d : ℕ) → (value_at F is_now d (two ∷ []) (Name 1) ≡ None) ⊎ (value_at F is_now d (two ∷ []) (Name 1) ≡ Some (Val ten))
  unfolding value_at
  z_at d = either F is_now (two ∷ []) (Name 1) (Val ten) d (1, refl)

  v_at : (d : ℕ) → (value_at F is_now d (two ∷ []) (Bound 0) ≡ None) ⊎ (value_at F is_now d (two ∷ []) (Bound 0) ≡ Some (Val two))
  unfolding value_at
  v_at d = either F is_now (two ∷ []) (Bound 0) (Val two) d (1, refl)

  visits_of_sum : (v : Visit) (d : ℕ) → (value_at F is_now d (two ∷ []) (Name 1) ≡ None) ⊎ (value_at F is_now d (two ∷ []) (Name 1) ≡ Some (Val ten))
      → (value_at F is_now d (two ∷ []) (Bound 0) ≡ None) ⊎ (value_at F is_now d (two ∷ []) (Bound 0) ≡ Some (Val two))
      → Among v (visits_at F is_now d (Place 2 (Inside two ∷ []))) → v ≡ the_call
  visits_of_sum v d (inl z) b r = absurd (rw z at r)
  visits_of_sum v d (inr z) (inl b) r = absurd (rw (z, b) at r)
  visits_of_sum v d (inr z) (inr b) r = one (rw (z, b) at r)
    where
      one : Among v (the_call ∷ []) → v ≡ the_call
      one (inl e) = e
      one (inr none) = absurd none

  is_the_call : (v : Visit) (d : ℕ) (i : Item) → Among i (items two) → Among v (visits_at F is_now d i) → v ≡ the_call
  is_the_call v d i (inl e) r = absurd (rw e at r)
  is_the_call v d i (inr (inl e)) r = absurd (rw e at r)
  is_the_call v d i (inr (inr (inl e))) r = visits_of_sum v d (z_at d) (v_at d) (rw e at r)
  is_the_call v d i (inr (inr (inr (inl e)))) r = absurd (rw e at r)
  is_the_call v d i (inr (inr (inr (inr (inl e))))) r = absurd (rw e at r)
  is_the_call v d i (inr (inr (inr (inr (inr (inl e)))))) r = absurd (rw e at r)
  is_the_call v d i (inr (inr (inr (inr (inr (inr (inl e))))))) r = absurd (rw e at r)
  is_the_call v d i (inr (inr (inr (inr (inr (inr (inr (inl e)))))))) r = absurd (rw e at r)
  is_the_call v d i (inr (inr (inr (inr (inr (inr (inr (inr none)))))))) r = absurd none

  one_cost : (vs : List Visit) → NoRepeats vs → Every (IsDue F was is_now) vs → sum_by (λ (v : Visit). v.cost) vs ≤ 1
  one_cost [] distinct due = omega arith
  one_cost (v ∷ []) distinct due = let e = is_the_call v due.0.visit.0 v.item (met_among v.item due.0.met) due.0.visit.1 in rw e (omega arith)
  one_cost (v ∷ w ∷ vs) distinct due =
      let e = is_the_call v due.0.visit.0 v.item (met_among v.item due.0.met) due.0.visit.1 in
      let f = is_the_call w due.1.0.visit.0 w.item (met_among w.item due.1.0.met) due.1.0.visit.1 in
      absurd (distinct.0 (inl (e ∙ sym f)))

  pub at_most_one : (calls : ℕ) → WithinWork F was is_now calls → calls ≤ 1
  at_most_one calls within = let cost = one_cost within.visits within.distinct within.due in let enough = within.enough in omega (arith, cost, enough)

pub bind_is_one_call : BindIsOneCall
bind_is_one_call F add calls within = at_most_one F add calls within
