-- The script that makes a cycle, line by line.
use Rattle.std.proofs.Common.{◌≡◌, inl, inr, List, [], ◌∷◌, None, refl}
use Rattle.std.specs.Fmt.{digits}
use Rattle.std.specs.Prelude.{ℕ, pos, codes}
use Rattle.inc_value.specs.declared.ty.Base.TheVariants as base
use Rattle.inc_value.specs.declared.ty.Ty.TheVariants as ty
use Rattle.inc_value.specs.Choice.{here}
use Rattle.script_model.specs.Values.{Int, Reference}
use Rattle.script_model.specs.Formula.{Entry, State, Meanings, start, Name, Join, Variable, Computed, nothing_kept, Unwatched}
use Rattle.script_model.specs.Evaluate.{value_at}
use Rattle.script_model.specs.Grammar as grammar
use Rattle.script_model.specs.Grammar.{Line, IsLine}
use Rattle.script_model.specs.Literals as literals
use Rattle.script_model.specs.Need.{Named, Needed, from_root}
use Rattle.script_model.specs.Blocked.{at_once, through, NameReads}
use Rattle.script_model.specs.Parsing.{formula_read, list_front}
use Rattle.script_model.specs.Request.{Asks}
use Rattle.script_model.specs.Row.{IsWholeRun, cycle_lines, NameIsOnCycle}
use Rattle.script_model.specs.Run.{Turn}
use Rattle.script_model.specs.Step.{Moment, Done, Refused, Cycle, printed, first_moment}
use Rattle.script_model.proofs.Asked.{is_line}

-- ---- the states

abbrev x_entry : Entry
x_entry = record { name = codes "x"; ty = ty.Int; target = 0; body = Variable (Int (pos 1)) }

abbrev h_entry : ℕ → Entry
h_entry target = record { name = codes "h"; ty = ty.Node base.Int; target = 1; body = Variable (Reference target base.Int) }

abbrev j_entry : Entry
j_entry = record { name = codes "j"; ty = ty.Int; target = 2; body = Computed (Join (Name 1)) nothing_kept }

abbrev with_x : State
with_x = record { entries = x_entry ∷ []; observers = []; now = 0; accepted = 0 }

abbrev with_h : State
with_h = record { entries = x_entry ∷ h_entry 0 ∷ []; observers = []; now = 0; accepted = 0 }

abbrev with_j : State
with_j = record { entries = x_entry ∷ h_entry 0 ∷ j_entry ∷ []; observers = []; now = 0; accepted = 0 }

abbrev observed : ℕ → State
observed target = record {
  entries = x_entry ∷ h_entry target ∷ j_entry ∷ [];
  observers = record { name = codes "o"; target = 2; shown = None; watch = Unwatched } ∷ [];
  now = 0;
  accepted = 0;
}

abbrev unsettled : State → Moment
unsettled s = record { settled = start; present = s; broken = None }

-- ---- what the lines ask for

abbrev x_line : Line
x_line = grammar.Var (codes "x") ty.Int (literals.Integer (pos 1))

abbrev h_line : Line
h_line = grammar.Var (codes "h") (ty.Node base.Int) (literals.Referred (codes "x"))

abbrev j_line : Line
j_line = grammar.Let (codes "j") (grammar.Join (grammar.Name (codes "h")))

abbrev o_line : Line
o_line = grammar.Observe (codes "o") (codes "j")

abbrev set_line : Line
set_line = grammar.Set (codes "h") (literals.Referred (codes "j"))

j_written : IsLine (codes "let j join(h)") j_line
unfolding formula_read list_front
j_written = is_line (codes "let j join(h)") j_line refl

-- ---- the turns

abbrev turns : List Turn
turns =
    record { before = first_moment; line = codes "var x int 1"; request = Asks x_line; after = unsettled with_x; replies = Done ∷ []; work = 0 }
    ∷ record {
      before = unsettled with_x;
      line = codes "var h node int &x";
      request = Asks h_line;
      after = unsettled with_h;
      replies = Done ∷ [];
      work = 0;
    }
    ∷ record {
      before = unsettled with_h;
      line = codes "let j join(h)";
      request = Asks j_line;
      after = unsettled with_j;
      replies = Done ∷ [];
      work = 0;
    }
    ∷ record {
      before = unsettled with_j;
      line = codes "observe o j";
      request = Asks o_line;
      after = unsettled (observed 0);
      replies = Done ∷ [];
      work = 0;
    }
    ∷ record {
      before = unsettled (observed 0);
      line = codes "set h &j";
      request = Asks set_line;
      after = unsettled (observed 2);
      replies = Done ∷ [];
      work = 0;
    }
    ∷ []

j_reads_j : (F : Meanings) → NameReads F (observed 2) 2 2
unfolding value_at
j_reads_j F = through 2 [] (0, inl refl) (at_once (1, inr (inl refl)))

j_is_needed : (F : Meanings) → Needed F (observed 2) (Named 2)
j_is_needed F = (Named 2, inl refl, here)

leads : (F : Meanings) → IsWholeRun F cycle_lines turns
leads F = record {
  end = unsettled (observed 2);
  chain = (
    refl,
    record { tree = x_line; written = is_line (codes "var x int 1") x_line refl; asks = refl; answers = (refl, refl); due = refl },
    (
      refl,
      record { tree = h_line; written = is_line (codes "var h node int &x") h_line refl; asks = refl; answers = (refl, refl); due = refl },
      (
        refl,
        record { tree = j_line; written = j_written; asks = refl; answers = (refl, refl); due = refl },
        (
          refl,
          record { tree = o_line; written = is_line (codes "observe o j") o_line refl; asks = refl; answers = (refl, refl); due = refl },
          (
            refl,
            record { tree = set_line; written = is_line (codes "set h &j") set_line refl; asks = refl; answers = (refl, refl); due = refl },
            refl,
          ),
        ),
      ),
    ),
  );
  reads = refl;
}

prints : printed (observed 2) (Refused (Cycle (2 ∷ 2 ∷ []))) ≡ codes "refused 20 cycle j j\n"
unfolding digits
prints = refl

pub name_is_on_cycle : NameIsOnCycle
unfolding leads
name_is_on_cycle F = record {
  turns = turns;
  run = leads F;
  oks = refl;
  cycle = ((j_reads_j F, tt), refl, ((λ among. among), tt));
  met = from_root (j_is_needed F);
  refusal = prints;
}
