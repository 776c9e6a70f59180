-- What the functions of right sides of the tests make.
use Rattle.std.specs.Prelude.{◌≡◌, List, [], ◌∷◌, pos, if◌then◌else◌}
use Rattle.std.specs.Ordering.{int_eq}
use Rattle.inc_value.specs.Sig.{Signature}
use Rattle.inc_value.specs.declared.function.FnRef.{FnRef}
use Rattle.inc_value.specs.declared.ty.Base.TheVariants as base
use Rattle.inc_value.specs.declared.ty.Ty.{Ty}
use Rattle.inc_value.specs.declared.ty.Ty.TheVariants as ty
use Rattle.inc_value.specs.declared.value.Value.{Value}
use Rattle.inc_value.specs.declared.value.Value.TheVariants.{Int}
use Rattle.inc_terms.specs.Term.{Term, Step, Const, Cap, Map, Fold, If, Join, Bind, At, Steps, Now, End, More}
use Rattle.node_arena.specs.Building.{Use}
use Rattle.node_arena.specs.RightSide.{RightSide}
use Rattle.closure_examples.specs.declared.table.Entry.{Entry}
use Rattle.closure_examples.specs.declared.table.Entry.TheVariants.{Five, Negation, Double, Choice, Target, Nested, Clock, Stepped, Switched, Zero}

-- the value, mapped by the function
abbrev pub negation_term : FnRef → Value → Term
negation_term neg v = Map neg (More (Const v) End)

-- that function is called
abbrev pub negation_uses : FnRef → List Use
negation_uses neg = record { function = neg; most = 0 } ∷ []

-- of each left value, that value mapped
abbrev pub negation_side : FnRef → RightSide
negation_side neg = record { term = negation_term neg; uses = negation_uses neg; ids = []; size = 2 }

-- the first of the types taken is this one
abbrev pub TakesFirst : List Ty → Ty → Type 0
TakesFirst [] t = ⊥
TakesFirst (first ∷ rest) t = first ≡ t

-- ---- a table of right sides

-- which of its right sides a left value has
abbrev pub entry_of : Value → Entry
entry_of (Int z) =
    if int_eq z (pos 1) then Five
    else if int_eq z (pos 2) then Negation
    else if int_eq z (pos 3) then Double
    else if int_eq z (pos 4) then Choice
    else if int_eq z (pos 5) then Target
    else if int_eq z (pos 6) then Nested
    else if int_eq z (pos 7) then Clock
    else if int_eq z (pos 8) then Stepped
    else if int_eq z (pos 9) then Switched
    else Zero
entry_of v = Zero

-- the captures are an integer, a truth value and a reference to an integer
abbrev pub table_sig : Signature
table_sig = record { takes = ty.Int ∷ ty.Int ∷ ty.Bool ∷ ty.Node base.Int ∷ []; gives = ty.Int }

-- from 5 seconds on, 2
abbrev pub late_two : List Step
late_two = record { time = pos 5000000000; value = Int (pos 2) } ∷ []

-- the right side, which calls the three functions
abbrev pub table_term : FnRef → FnRef → FnRef → Entry → Term
table_term neg add of_left Five = Const (Int (pos 5))
table_term neg add of_left Negation = Map neg (More (Cap 0) End)
table_term neg add of_left Double = Fold add (Int (pos 0)) (More (Cap 0) (More (Cap 0) End))
table_term neg add of_left Choice = If (Cap 1) (Cap 0) (Const (Int (pos 0)))
table_term neg add of_left Target = Join (Cap 2)
table_term neg add of_left Nested = Bind (Cap 0) of_left End
table_term neg add of_left Clock = Now
table_term neg add of_left Stepped = Steps (Int (pos 1)) late_two
table_term neg add of_left Switched = If (At (pos 5000000000)) (Const (Int (pos 1))) (Const (Int (pos 0)))
table_term neg add of_left Zero = Const (Int (pos 0))

-- the functions that are called; a right side of the last one takes two nodes
abbrev pub table_uses : FnRef → FnRef → FnRef → List Use
table_uses neg add of_left =
    record { function = neg; most = 0 }
    ∷ record { function = add; most = 0 }
    ∷ record { function = of_left; most = 2 }
    ∷ []

-- what the table makes
abbrev pub table_side : FnRef → FnRef → FnRef → RightSide
table_side neg add of_left = record {
  term = λ v. table_term neg add of_left (entry_of v);
  uses = table_uses neg add of_left;
  ids = [];
  size = 4;
}
