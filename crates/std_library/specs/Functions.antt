-- The functions of the standard library: names, numbers, types and values.
use Rattle.std.specs.Prelude.{ℕ, Bool, true, false, ◌&&◌, ◌||◌, not, ◌==◌, if◌then◌else◌, List, [], ◌∷◌, length, Option, None, Some, option_map, codes, pos, int_lt, int_le}
use Rattle.std.specs.Cmp.Lexicographic.{pointwise}
use Rattle.std.specs.Fmt.{signed_decimal}
use Rattle.std.specs.Int.{w64, int_wrapping_add, int_wrapping_sub, int_wrapping_mul, int_wrapping_neg, int_min, int_max}
use Rattle.std.specs.List.{find}
use Rattle.std.specs.Ordering.{int_eq}
use Rattle.std.specs.Str.{bytes_eq}
use Rattle.inc_value.specs.Sig.{Signature}
use Rattle.inc_value.specs.Ty.{same_ty}
use Rattle.inc_value.specs.declared.function.FnRef.{FnRef}
use Rattle.inc_value.specs.declared.function.FnKind.{FnKind}
use Rattle.inc_value.specs.declared.function.FnKind.TheVariants.{Map, Rhs}
use Rattle.inc_value.specs.declared.ty.Ty.{Ty}
use Rattle.inc_value.specs.declared.ty.Ty.TheVariants as ty
use Rattle.inc_value.specs.declared.value.Value.{Value}
use Rattle.inc_value.specs.declared.value.Value.TheVariants as value
use Rattle.std_library.specs.Operations.{quotient, remainder, sum_of, joined}
use Rattle.std_library.specs.declared.function.Function.{Function}
use Rattle.std_library.specs.declared.function.Function.TheVariants.{Add, Sub, Mul, Div, Rem, Neg, Min, Max, Clamp, Pick, Sum9, Eq, Lt, Le, And, Or, Not, Cat, Len, Same, Show, Pos}

-- every function, by number
abbrev pub all_functions : List Function
all_functions =
    Add ∷ Sub ∷ Mul ∷ Div ∷ Rem ∷ Neg ∷ Min ∷ Max ∷ Clamp ∷ Pick ∷ Sum9
    ∷ Eq ∷ Lt ∷ Le ∷ And ∷ Or ∷ Not ∷ Cat ∷ Len ∷ Same ∷ Show ∷ Pos ∷ []

-- the name, as scripts write it
abbrev pub name_of : Function → List ℕ
name_of Add = codes "add"
name_of Sub = codes "sub"
name_of Mul = codes "mul"
name_of Div = codes "div"
name_of Rem = codes "rem"
name_of Neg = codes "neg"
name_of Min = codes "min"
name_of Max = codes "max"
name_of Clamp = codes "clamp"
name_of Pick = codes "pick"
name_of Sum9 = codes "sum9"
name_of Eq = codes "eq"
name_of Lt = codes "lt"
name_of Le = codes "le"
name_of And = codes "and"
name_of Or = codes "or"
name_of Not = codes "not"
name_of Cat = codes "cat"
name_of Len = codes "len"
name_of Same = codes "same"
name_of Show = codes "show"
name_of Pos = codes "pos"

-- the number, as references have it
abbrev pub number_of : Function → ℕ
number_of Add = 1
number_of Sub = 2
number_of Mul = 3
number_of Div = 4
number_of Rem = 5
number_of Neg = 6
number_of Min = 7
number_of Max = 8
number_of Clamp = 9
number_of Pick = 10
number_of Sum9 = 11
number_of Eq = 12
number_of Lt = 13
number_of Le = 14
number_of And = 15
number_of Or = 16
number_of Not = 17
number_of Cat = 18
number_of Len = 19
number_of Same = 20
number_of Show = 21
number_of Pos = 22

-- the types taken, and the one given
abbrev pub sig_of : Function → Signature
sig_of Add = record { takes = ty.Int ∷ ty.Int ∷ []; gives = ty.Int }
sig_of Sub = record { takes = ty.Int ∷ ty.Int ∷ []; gives = ty.Int }
sig_of Mul = record { takes = ty.Int ∷ ty.Int ∷ []; gives = ty.Int }
sig_of Div = record { takes = ty.Int ∷ ty.Int ∷ []; gives = ty.Int }
sig_of Rem = record { takes = ty.Int ∷ ty.Int ∷ []; gives = ty.Int }
sig_of Neg = record { takes = ty.Int ∷ []; gives = ty.Int }
sig_of Min = record { takes = ty.Int ∷ ty.Int ∷ []; gives = ty.Int }
sig_of Max = record { takes = ty.Int ∷ ty.Int ∷ []; gives = ty.Int }
sig_of Clamp = record { takes = ty.Int ∷ ty.Int ∷ ty.Int ∷ []; gives = ty.Int }
sig_of Pick = record { takes = ty.Bool ∷ ty.Int ∷ ty.Int ∷ []; gives = ty.Int }
sig_of Sum9 = record { takes = ty.Int ∷ ty.Int ∷ ty.Int ∷ ty.Int ∷ ty.Int ∷ ty.Int ∷ ty.Int ∷ ty.Int ∷ ty.Int ∷ []; gives = ty.Int }
sig_of Eq = record { takes = ty.Int ∷ ty.Int ∷ []; gives = ty.Bool }
sig_of Lt = record { takes = ty.Int ∷ ty.Int ∷ []; gives = ty.Bool }
sig_of Le = record { takes = ty.Int ∷ ty.Int ∷ []; gives = ty.Bool }
sig_of And = record { takes = ty.Bool ∷ ty.Bool ∷ []; gives = ty.Bool }
sig_of Or = record { takes = ty.Bool ∷ ty.Bool ∷ []; gives = ty.Bool }
sig_of Not = record { takes = ty.Bool ∷ []; gives = ty.Bool }
sig_of Cat = record { takes = ty.Text ∷ ty.Text ∷ []; gives = ty.Text }
sig_of Len = record { takes = ty.Text ∷ []; gives = ty.Int }
sig_of Same = record { takes = ty.Text ∷ ty.Text ∷ []; gives = ty.Bool }
sig_of Show = record { takes = ty.Int ∷ []; gives = ty.Text }
sig_of Pos = record { takes = ty.Int ∷ []; gives = ty.Bool }

-- a value of a type
abbrev pub value_in : Ty → Value
value_in ty.Int = value.Int (pos 0)
value_in ty.Bool = value.Bool false
value_in ty.Text = value.Text []
value_in (ty.Node to) = value.Node (record { slot = 0; gen_ = 0 }) to

-- what a function gives for its arguments; of arguments that are not of its types, any value of the type that it gives
abbrev pub value_of : Function → List Value → Value
value_of Add (value.Int a ∷ value.Int b ∷ []) = value.Int (int_wrapping_add w64 a b)
value_of Sub (value.Int a ∷ value.Int b ∷ []) = value.Int (int_wrapping_sub w64 a b)
value_of Mul (value.Int a ∷ value.Int b ∷ []) = value.Int (int_wrapping_mul w64 a b)
value_of Div (value.Int a ∷ value.Int b ∷ []) = value.Int (quotient a b)
value_of Rem (value.Int a ∷ value.Int b ∷ []) = value.Int (remainder a b)
value_of Neg (value.Int a ∷ []) = value.Int (int_wrapping_neg w64 a)
value_of Min (value.Int a ∷ value.Int b ∷ []) = value.Int (int_min a b)
value_of Max (value.Int a ∷ value.Int b ∷ []) = value.Int (int_max a b)
value_of Clamp (value.Int a ∷ value.Int b ∷ value.Int c ∷ []) = value.Int (int_min (int_max a b) c)
value_of Pick (value.Bool first ∷ value.Int a ∷ value.Int b ∷ []) = value.Int (if first then a else b)
value_of Sum9 args = value.Int (sum_of args)
value_of Eq (value.Int a ∷ value.Int b ∷ []) = value.Bool (int_eq a b)
value_of Lt (value.Int a ∷ value.Int b ∷ []) = value.Bool (int_lt a b)
value_of Le (value.Int a ∷ value.Int b ∷ []) = value.Bool (int_le a b)
value_of And (value.Bool a ∷ value.Bool b ∷ []) = value.Bool (a && b)
value_of Or (value.Bool a ∷ value.Bool b ∷ []) = value.Bool (a || b)
value_of Not (value.Bool a ∷ []) = value.Bool (not a)
value_of Cat (value.Text a ∷ value.Text b ∷ []) = value.Text (joined a b)
value_of Len (value.Text a ∷ []) = value.Int (pos (length a))
value_of Same (value.Text a ∷ value.Text b ∷ []) = value.Bool (bytes_eq a b)
value_of Show (value.Int a ∷ []) = value.Text (signed_decimal a)
value_of Pos (value.Int a ∷ []) = value.Bool (int_lt (pos 0) a)
value_of f _ = value_in (sig_of f).gives

-- a function as nodes refer to it
abbrev pub reference_of : Function → FnRef
reference_of f = record { id = record { kind = Map; number = number_of f }; sig = sig_of f }

-- the first of some functions that has a name
abbrev pub first_named : List Function → List ℕ → Option Function
first_named functions name = find (λ f. bytes_eq (name_of f) name) functions

-- the function that has a name
abbrev pub function_named : List ℕ → Option Function
function_named name = first_named all_functions name

-- the function that has a number
abbrev pub function_numbered : ℕ → Option Function
function_numbered number = find (λ f. number_of f == number) all_functions

-- the reference that a name stands for
abbrev pub named : List ℕ → Option FnRef
named name = option_map reference_of (function_named name)

-- whether a kind is that of maps
abbrev pub is_map : FnKind → Bool
is_map Map = true
is_map Rhs = false

-- whether two signatures take the same types, one for one, and give the same one
abbrev pub same_signature : Signature → Signature → Bool
same_signature s t = pointwise same_ty s.takes t.takes && same_ty s.gives t.gives

-- whether a reference is exactly that of a function
abbrev pub refers_to : FnRef → Function → Bool
refers_to f function = is_map f.id.kind && f.id.number == number_of function && same_signature f.sig (sig_of function)

-- whether a reference is exactly that of the function, where there is one
abbrev pub known_as : FnRef → Option Function → Bool
known_as f None = false
known_as f (Some function) = refers_to f function

-- whether a reference is exactly one of the table
abbrev pub known : FnRef → Bool
known f = known_as f (function_numbered f.id.number)

-- what a function gives for its arguments; where there is none, any value
abbrev pub given_by : Option Function → List Value → Value
given_by None args = value.Int (pos 0)
given_by (Some function) args = value_of function args

-- what a reference gives for its arguments
abbrev pub given : FnRef → List Value → Value
given f args = given_by (function_numbered f.id.number) args
