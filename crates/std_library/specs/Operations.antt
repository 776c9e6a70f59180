-- What the functions compute, where std has no word for it. Integers have 64 bits.
use Rattle.std.specs.Prelude.{ℕ, ◌++◌, List, take, fold, ℤ, pos, ◌+ℤ◌, int_rem, if◌then◌else◌}
use Rattle.std.specs.Int.{w64, int_wrap, int_wrapping_div}
use Rattle.std.specs.Ordering.{int_eq}
use Rattle.inc_value.specs.declared.value.Value.{Value}
use Rattle.inc_value.specs.declared.value.Value.TheVariants.{Int, Bool, Text, Node}

-- the quotient, cut toward 0 and wrapped: that of the least by -1 is the least; by 0 it is 0
abbrev pub quotient : ℤ → ℤ → ℤ
quotient a b = if int_eq b (pos 0) then pos 0 else int_wrapping_div w64 a b

-- what that quotient leaves, with the sign of the first; by 0 it is 0
abbrev pub remainder : ℤ → ℤ → ℤ
remainder a b = if int_eq b (pos 0) then pos 0 else int_rem a b

-- the integer that a value is, and 0 for any other value
abbrev pub int_of : Value → ℤ
int_of (Int z) = z
int_of (Bool b) = pos 0
int_of (Text bytes) = pos 0
int_of (Node id base) = pos 0

-- the sum of the integers, wrapped
abbrev pub sum_of : List Value → ℤ
sum_of values = int_wrap w64 (fold (λ sum v. sum +ℤ int_of v) (pos 0) values)

-- the first 4,096 bytes of one text after the other
abbrev pub joined : List ℕ → List ℕ → List ℕ
joined a b = take 4096 (a ++ b)
