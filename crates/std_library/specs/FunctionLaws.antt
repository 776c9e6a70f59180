-- Each name stands for a known map of base types, and a known function gives what its type says.
use Rattle.std.specs.Prelude.{◌≡◌, ℕ, zero, suc, ◌+◌, ◌-◌, ◌/◌, ◌%◌, ◌↔◌, ◌+ℤ◌, fold, get_or, min, take, slice_get, ◌^◌, ◌<◌, ◌≤◌, Bool, true, false, ◌&&◌, ◌==◌, List, [], ◌∷◌, ◌++◌, length, Option, None, Some, option_map, IsTrue, IfSome, All, ℤ, pos, negsuc, neg_ℤ, int_lt, int_div, int_rem, FitsSigned, if◌then◌else◌}
use Rattle.std.specs.Bool.{MatchBool, Decides}
use Rattle.std.specs.Cmp.Lexicographic.{pointwise_decides}
use Rattle.std.specs.Fmt.{decimal, signed_decimal}
use Rattle.std.specs.Int.{w64, cast_signed, cast_unsigned, int_wrap, int_wrapping_div, int_min, int_max}
use Rattle.std.specs.Int.Signed.{mag_rem}
use Rattle.std.specs.List.{find}
use Rattle.std.specs.Ordering.{int_eq}
use Rattle.std.specs.Str.Parse.{AllDigits}
use Rattle.std.proofs.Common.{refl, sym, ◌∙◌, ap, subst, lit≤, lit<, arith, eq-eqb, ne_eqb}
use Rattle.std.proofs.lemmas.Bool.Decides.{when_true, Decides-eqb}
use Rattle.std.proofs.lemmas.Fmt.{decimal_is_IsNumeral, length_signed_le}
use Rattle.std.proofs.lemmas.Int.{wrapping_add_onto, int_wrap-add_left, wrapping_add_is, wrapping_sub_is, wrapping_mul_is, wrapping_neg_is, SFits-int_wrap}
use Rattle.std.proofs.lemmas.List.{length-take, take_min}
use Rattle.std.proofs.lemmas.List.Elements.{All-append, All-cons, All-from_get_or, All-nil, All-take}
use Rattle.std.proofs.lemmas.List.Sums.{fold_more}
use Rattle.std.proofs.lemmas.Str.Parse.{digit_at}
use Rattle.std.proofs.Math.Facts.{sfits_to_z, Fits-of_lt}
use Rattle.std.proofs.Math.Nat.{div-le_self}
use Rattle.std.proofs.Math.Seq.{take-append-add}
use Rattle.inc_value.specs.Sig.{IsMapSig, Signature}
use Rattle.inc_value.specs.Text.{IsPrintable, IsText}
use Rattle.inc_value.specs.Ty.{IsBase, same_base, same_ty}
use Rattle.inc_value.specs.Value.{type_of, IsProper}
use Rattle.inc_value.specs.declared.function.FnRef.{FnRef}
use Rattle.inc_value.specs.declared.function.FnKind.{FnKind}
use Rattle.inc_value.specs.declared.function.FnKind.TheVariants.{Map, Rhs}
use Rattle.inc_value.specs.declared.ty.Base.{Base}
use Rattle.inc_value.specs.declared.ty.Base.TheVariants as base
use Rattle.inc_value.specs.declared.ty.Ty.{Ty}
use Rattle.inc_value.specs.declared.ty.Ty.TheVariants as ty
use Rattle.inc_value.specs.declared.value.Value.{Value}
use Rattle.inc_value.specs.declared.value.Value.TheVariants as value
use Rattle.std_library.specs.Functions.{all_functions, reference_of, named, known, known_as, given, given_by, function_named, function_numbered, sig_of, number_of, value_of, value_in, refers_to, same_signature, is_map}
use Rattle.std_library.specs.Operations.{quotient, remainder, int_of, sum_of, joined}
use Rattle.std_library.specs.declared.function.Function.{Function}
use Rattle.std_library.specs.declared.function.Function.TheVariants.{Add, Sub, Mul, Div, Rem, Neg, Min, Max, Clamp, Pick, Sum9, Eq, Lt, Le, And, Or, Not, Cat, Len, Same, Show, Pos}

-- what a name leads to: a map of the library
abbrev pub IsMap : FnRef → Type 0
IsMap f = IsTrue (known f) × (f.id.kind ≡ Map) × IsMapSig f.sig

AreBase : List Ty → Type 0
AreBase [] = Unit {0}
AreBase (t ∷ tys) = IsBase t × AreBase tys

all_base : (tys : List Ty) → AreBase tys → All IsBase tys
unfolding AreBase
all_base [] h = All-nil IsBase
all_base (t ∷ tys) h = All-cons IsBase t tys h.0 (all_base tys h.1)

reference_is_map : (function : Function) → IsMap (reference_of function)
unfolding AreBase
reference_is_map Add = (refl, refl, (lit≤ tt, all_base (ty.Int ∷ ty.Int ∷ []) (tt, (tt, tt)), tt))
reference_is_map Sub = (refl, refl, (lit≤ tt, all_base (ty.Int ∷ ty.Int ∷ []) (tt, (tt, tt)), tt))
reference_is_map Mul = (refl, refl, (lit≤ tt, all_base (ty.Int ∷ ty.Int ∷ []) (tt, (tt, tt)), tt))
reference_is_map Div = (refl, refl, (lit≤ tt, all_base (ty.Int ∷ ty.Int ∷ []) (tt, (tt, tt)), tt))
reference_is_map Rem = (refl, refl, (lit≤ tt, all_base (ty.Int ∷ ty.Int ∷ []) (tt, (tt, tt)), tt))
reference_is_map Neg = (refl, refl, (lit≤ tt, all_base (ty.Int ∷ []) (tt, tt), tt))
reference_is_map Min = (refl, refl, (lit≤ tt, all_base (ty.Int ∷ ty.Int ∷ []) (tt, (tt, tt)), tt))
reference_is_map Max = (refl, refl, (lit≤ tt, all_base (ty.Int ∷ ty.Int ∷ []) (tt, (tt, tt)), tt))
reference_is_map Clamp = (refl, refl, (lit≤ tt, all_base (ty.Int ∷ ty.Int ∷ ty.Int ∷ []) (tt, (tt, (tt, tt))), tt))
reference_is_map Pick = (refl, refl, (lit≤ tt, all_base (ty.Bool ∷ ty.Int ∷ ty.Int ∷ []) (tt, (tt, (tt, tt))), tt))
reference_is_map Sum9 = (refl, refl, (lit≤ tt, all_base (ty.Int ∷ ty.Int ∷ ty.Int ∷ ty.Int ∷ ty.Int ∷ ty.Int ∷ ty.Int ∷ ty.Int ∷ ty.Int ∷ []) (tt, (tt, (tt, (tt, (tt, (tt, (tt, (tt, (tt, tt))))))))), tt))
reference_is_map Eq = (refl, refl, (lit≤ tt, all_base (ty.Int ∷ ty.Int ∷ []) (tt, (tt, tt)), tt))
reference_is_map Lt = (refl, refl, (lit≤ tt, all_base (ty.Int ∷ ty.Int ∷ []) (tt, (tt, tt)), tt))
reference_is_map Le = (refl, refl, (lit≤ tt, all_base (ty.Int ∷ ty.Int ∷ []) (tt, (tt, tt)), tt))
reference_is_map And = (refl, refl, (lit≤ tt, all_base (ty.Bool ∷ ty.Bool ∷ []) (tt, (tt, tt)), tt))
reference_is_map Or = (refl, refl, (lit≤ tt, all_base (ty.Bool ∷ ty.Bool ∷ []) (tt, (tt, tt)), tt))
reference_is_map Not = (refl, refl, (lit≤ tt, all_base (ty.Bool ∷ []) (tt, tt), tt))
reference_is_map Cat = (refl, refl, (lit≤ tt, all_base (ty.Text ∷ ty.Text ∷ []) (tt, (tt, tt)), tt))
reference_is_map Len = (refl, refl, (lit≤ tt, all_base (ty.Text ∷ []) (tt, tt), tt))
reference_is_map Same = (refl, refl, (lit≤ tt, all_base (ty.Text ∷ ty.Text ∷ []) (tt, (tt, tt)), tt))
reference_is_map Show = (refl, refl, (lit≤ tt, all_base (ty.Int ∷ []) (tt, tt), tt))
reference_is_map Pos = (refl, refl, (lit≤ tt, all_base (ty.Int ∷ []) (tt, tt), tt))

named_function_is_map : (o : Option Function) → IfSome (option_map reference_of o) IsMap
named_function_is_map None = tt
named_function_is_map (Some function) = reference_is_map function

-- a name stands for a map of the library
pub named_is_map : (name : List ℕ) (f : FnRef) → named name ≡ Some f → IsMap f
named_is_map name f e =
    let P : Option FnRef → Type 0 = λ o. IfSome o IsMap in
    subst P e (named_function_is_map (function_named name))

base_from_test : (a b : Base) → MatchBool (same_base a b) (a ≡ b) (Unit {0})
base_from_test base.Int base.Int = refl
base_from_test base.Bool base.Bool = refl
base_from_test base.Text base.Text = refl
base_from_test _ _ = tt

node_from_test : (a b : Base) (t : Bool) → MatchBool t (a ≡ b) (Unit {0}) → MatchBool t (ty.Node a ≡ ty.Node b) (Unit {0})
node_from_test a b true h = ap ty.Node h
node_from_test a b false h = tt

type_from_test : (a b : Ty) → MatchBool (same_ty a b) (a ≡ b) (Unit {0})
type_from_test ty.Int ty.Int = refl
type_from_test ty.Bool ty.Bool = refl
type_from_test ty.Text ty.Text = refl
type_from_test (ty.Node a) (ty.Node b) = node_from_test a b (same_base a b) (base_from_test a b)
type_from_test _ _ = tt

base_same : (a : Base) → same_base a a ≡ true
base_same base.Int = refl
base_same base.Bool = refl
base_same base.Text = refl

type_same : (t : Ty) → same_ty t t ≡ true
type_same ty.Int = refl
type_same ty.Bool = refl
type_same ty.Text = refl
type_same (ty.Node to) = base_same to

type_decides : (a b : Ty) → Decides (same_ty a b) (a ≡ b)
type_decides a b =
    let P : Ty → Type 0 = λ t. same_ty a t ≡ true in
    (λ e. when_true (a ≡ b) (Unit {0}) e (type_from_test a b), λ e. subst P e (type_same a))

map_from_test : (k : FnKind) → is_map k ≡ true → k ≡ Map
map_from_test Map h = refl
map_from_test Rhs h = absurd cc

refers_to_itself : (function : Function) → refers_to (reference_of function) function ≡ true
refers_to_itself Add = refl
refers_to_itself Sub = refl
refers_to_itself Mul = refl
refers_to_itself Div = refl
refers_to_itself Rem = refl
refers_to_itself Neg = refl
refers_to_itself Min = refl
refers_to_itself Max = refl
refers_to_itself Clamp = refl
refers_to_itself Pick = refl
refers_to_itself Sum9 = refl
refers_to_itself Eq = refl
refers_to_itself Lt = refl
refers_to_itself Le = refl
refers_to_itself And = refl
refers_to_itself Or = refl
refers_to_itself Not = refl
refers_to_itself Cat = refl
refers_to_itself Len = refl
refers_to_itself Same = refl
refers_to_itself Show = refl
refers_to_itself Pos = refl

first_true : (a b : Bool) → (a && b) ≡ true → a ≡ true
first_true true b h = refl
first_true false b h = h

last_true : (a b : Bool) → (a && b) ≡ true → b ≡ true
last_true true b h = h
last_true false b h = absurd cc

signature_from_test : (s t : Signature) → same_signature s t ≡ true → s ≡ t
signature_from_test s t h =
    let takes : s.takes ≡ t.takes = (pointwise_decides type_decides s.takes t.takes).0 (first_true _ _ h) in
    let gives : s.gives ≡ t.gives = (type_decides s.gives t.gives).0 (last_true _ _ h) in
    λ i. record { takes = takes i; gives = gives i }

-- the test passes for the function's own reference alone
reference_from_test : (f : FnRef) (function : Function) → refers_to f function ≡ true → f ≡ reference_of function
reference_from_test f function h =
    let front : (is_map f.id.kind && f.id.number == number_of function) ≡ true = first_true _ _ h in
    let kind : f.id.kind ≡ Map = map_from_test f.id.kind (first_true _ _ front) in
    let number : f.id.number ≡ number_of function = (Decides-eqb f.id.number (number_of function)).0 (last_true _ _ front) in
    let sig : f.sig ≡ sig_of function = signature_from_test f.sig (sig_of function) (last_true _ _ h) in
    λ i. record { id = record { kind = kind i; number = number i }; sig = sig i }

same_answer : {P : Type 0} (a b : Bool) → Decides a P → Decides b P → a ≡ b
same_answer true b tests_a tests_b = sym (tests_b.1 (tests_a.0 refl))
same_answer false true tests_a tests_b = tests_a.1 (tests_b.0 refl)
same_answer false false tests_a tests_b = refl

refers_decides : (f : FnRef) (function : Function) → Decides (refers_to f function) (f ≡ reference_of function)
refers_decides f function =
    let P : FnRef → Type 0 = λ g. refers_to g function ≡ true in
    (reference_from_test f function, λ e. subst P (sym e) (refers_to_itself function))

-- a test that passes for the reference of the function of that number alone answers whether the library knows the reference
pub known_by_number : (f : FnRef) (function : Function) (test : Bool) → function_numbered f.id.number ≡ Some function
    → IsTrue test ↔ (f ≡ reference_of function) → test ≡ known f
known_by_number f function test is passes =
    let tested : Decides test (f ≡ reference_of function) = (λ e. passes.0 e, λ e. passes.1 e) in
    same_answer test (refers_to f function) tested (refers_decides f function) ∙ sym (ap (known_as f) is)

value_in_has_type : (t : Ty) → type_of (value_in t) ≡ t
value_in_has_type ty.Int = refl
value_in_has_type ty.Bool = refl
value_in_has_type ty.Text = refl
value_in_has_type (ty.Node to) = refl

value_is_typed : (function : Function) (args : List Value) → type_of (value_of function args) ≡ (sig_of function).gives
value_is_typed Add (value.Int a ∷ value.Int b ∷ []) = refl
value_is_typed Sub (value.Int a ∷ value.Int b ∷ []) = refl
value_is_typed Mul (value.Int a ∷ value.Int b ∷ []) = refl
value_is_typed Div (value.Int a ∷ value.Int b ∷ []) = refl
value_is_typed Rem (value.Int a ∷ value.Int b ∷ []) = refl
value_is_typed Neg (value.Int a ∷ []) = refl
value_is_typed Min (value.Int a ∷ value.Int b ∷ []) = refl
value_is_typed Max (value.Int a ∷ value.Int b ∷ []) = refl
value_is_typed Clamp (value.Int a ∷ value.Int b ∷ value.Int c ∷ []) = refl
value_is_typed Pick (value.Bool a ∷ value.Int b ∷ value.Int c ∷ []) = refl
value_is_typed Sum9 args = refl
value_is_typed Eq (value.Int a ∷ value.Int b ∷ []) = refl
value_is_typed Lt (value.Int a ∷ value.Int b ∷ []) = refl
value_is_typed Le (value.Int a ∷ value.Int b ∷ []) = refl
value_is_typed And (value.Bool a ∷ value.Bool b ∷ []) = refl
value_is_typed Or (value.Bool a ∷ value.Bool b ∷ []) = refl
value_is_typed Not (value.Bool a ∷ []) = refl
value_is_typed Cat (value.Text a ∷ value.Text b ∷ []) = refl
value_is_typed Len (value.Text a ∷ []) = refl
value_is_typed Same (value.Text a ∷ value.Text b ∷ []) = refl
value_is_typed Show (value.Int a ∷ []) = refl
value_is_typed Pos (value.Int a ∷ []) = refl
value_is_typed function _ = value_in_has_type (sig_of function).gives

given_by_is_typed : (o : Option Function) (f : FnRef) (args : List Value) → IsTrue (known_as f o) → type_of (given_by o args) ≡ f.sig.gives
given_by_is_typed None f args h = absurd cc
given_by_is_typed (Some function) f args h =
    value_is_typed function args ∙ sym (ap (λ (g : FnRef). g.sig.gives) (reference_from_test f function h))

-- a known function gives the type that the function of its number gives
pub gives_by_number : (f : FnRef) (function : Function) → IsTrue (known f) → function_numbered f.id.number ≡ Some function
    → (sig_of function).gives ≡ f.sig.gives
gives_by_number f function h is =
    let same : f ≡ reference_of function = reference_from_test f function (subst (λ o. IsTrue (known_as f o)) is h) in
    sym (ap (λ (g : FnRef). g.sig.gives) same)

-- a known function takes the types that the function of its number takes
pub takes_by_number : (f : FnRef) (function : Function) → IsTrue (known f) → function_numbered f.id.number ≡ Some function
    → f.sig.takes ≡ (sig_of function).takes
takes_by_number f function h is =
    let same : f ≡ reference_of function = reference_from_test f function (subst (λ o. IsTrue (known_as f o)) is h) in
    ap (λ (g : FnRef). g.sig.takes) same

-- a known function gives a value of the type that it says
pub given_is_typed : (f : FnRef) (args : List Value) → IsTrue (known f) → type_of (given f args) ≡ f.sig.gives
given_is_typed f args h = given_by_is_typed (function_numbered f.id.number) f args h

known_as_is_map : (o : Option Function) (f : FnRef) → IsTrue (known_as f o) → IsMapSig f.sig
known_as_is_map None f h = absurd cc
known_as_is_map (Some function) f h =
    subst (λ (g : FnRef). IsMapSig g.sig) (sym (reference_from_test f function h)) (reference_is_map function).2

known_as_of_map : (f : FnRef) (o : Option Function) → IsTrue (known_as f o) → f.id.kind ≡ Map
known_as_of_map f None h = absurd cc
known_as_of_map f (Some function) h = map_from_test f.id.kind (first_true _ _ (first_true _ _ h))

-- a known function is a map
pub known_of_map : (f : FnRef) → IsTrue (known f) → f.id.kind ≡ Map
known_of_map f h = known_as_of_map f (function_numbered f.id.number) h

-- a known function has the types of a map
pub known_is_map : (f : FnRef) → IsTrue (known f) → IsMapSig f.sig
known_is_map f h = known_as_is_map (function_numbered f.id.number) f h

-- whatever its arguments, a known function gives no reference to a node
pub given_is_base : (f : FnRef) (args : List Value) → IsTrue (known f) → IsBase (type_of (given f args))
given_is_base f args h = subst IsBase (sym (given_is_typed f args h)) (known_is_map f h).2

zero_is_proper : IsProper (value.Int (pos 0))
zero_is_proper = record { sfits = lit≤ tt }

value_in_is_proper : (t : Ty) → IsProper (value_in t)
value_in_is_proper ty.Int = zero_is_proper
value_in_is_proper ty.Bool = tt
value_in_is_proper ty.Text = (lit≤ tt, All-nil IsPrintable)
value_in_is_proper (ty.Node to) = tt

picked_is_proper : (first : Bool) (a b : ℤ) → FitsSigned w64 a → FitsSigned w64 b → IsProper (value.Int (if first then a else b))
picked_is_proper true a b fits_a fits_b = fits_a
picked_is_proper false a b fits_a fits_b = fits_b

-- the bits of a natural that is below 2^64, read as a signed number
bits_are_proper : (n : ℕ) → n < 2 ^ 64 → FitsSigned w64 (cast_signed w64 n)
bits_are_proper n small = sfits_to_z (Fits-of_lt small)

bits_of_negation : (n : ℕ) → cast_unsigned w64 (neg_ℤ (pos n)) < 2 ^ 64
bits_of_negation zero = lit< tt
bits_of_negation (suc n) = omega arith

bits_of_quotient : (a b : ℤ) → FitsSigned w64 a → cast_unsigned w64 (int_div a b) < 2 ^ 64
bits_of_quotient (pos a) (pos b) fits = omega (arith, fits.sfits, div-le_self a b)
bits_of_quotient (pos a) (negsuc b) fits = bits_of_negation (a / suc b)
bits_of_quotient (negsuc a) (pos b) fits = bits_of_negation (suc a / b)
bits_of_quotient (negsuc a) (negsuc b) fits = omega (arith, fits.sfits, div-le_self (suc a) (suc b))

quotient_is_proper : (a b : ℤ) → FitsSigned w64 a → FitsSigned w64 (quotient a b)
quotient_is_proper a b fits =
    picked_is_proper (int_eq b (pos 0)) (pos 0) (int_wrapping_div w64 a b) zero_is_proper (bits_are_proper _ (bits_of_quotient a b fits))

remainder_is_proper : (a b : ℤ) → FitsSigned w64 a → FitsSigned w64 (remainder a b)
remainder_is_proper a b fits =
    picked_is_proper (int_eq b (pos 0)) (pos 0) (int_rem a b) zero_is_proper (record { sfits = omega (arith, mag_rem a b, fits.sfits) })

clamped_is_proper : (a b c : ℤ) → FitsSigned w64 a → FitsSigned w64 b → FitsSigned w64 c → FitsSigned w64 (int_min (int_max a b) c)
clamped_is_proper a b c fits_a fits_b fits_c =
    let greater : FitsSigned w64 (int_max a b) = picked_is_proper (int_lt b a) a b fits_a fits_b in
    picked_is_proper (int_lt c (int_max a b)) c (int_max a b) fits_c greater

joined_is_text : (a b : List ℕ) → All IsPrintable a → All IsPrintable b → IsText (joined a b)
joined_is_text a b all_a all_b =
    (omega (arith, length-take 4096 (a ++ b)), All-take IsPrintable 4096 (a ++ b) (All-append IsPrintable a b all_a all_b))

length_is_proper : (a : List ℕ) → length a ≤ 4096 → FitsSigned w64 (pos (length a))
length_is_proper a short = record { sfits = omega (arith, short) }

digits_are_printable : (n : ℕ) → n < 2 ^ 64 → All IsPrintable (decimal n)
digits_are_printable n small =
    let digits : AllDigits 10 (decimal n) = (decimal_is_IsNumeral n small).0.1 in
    All-from_get_or IsPrintable (decimal n) 0 (λ i below. let digit = digit_at (decimal n) i digits below in (omega (arith, digit.0), omega (arith, digit.1)))

decimal_is_printable : (z : ℤ) → FitsSigned w64 z → All IsPrintable (signed_decimal z)
decimal_is_printable (pos n) fits = digits_are_printable n (omega (arith, fits.sfits))
decimal_is_printable (negsuc n) fits =
    All-cons IsPrintable 45 (decimal (suc n)) (lit≤ tt, lit≤ tt) (digits_are_printable (suc n) (omega (arith, fits.sfits)))

-- an integer in decimal is a text
pub decimal_is_text : (z : ℤ) → FitsSigned w64 z → IsText (signed_decimal z)
decimal_is_text z fits =
    let short : length (signed_decimal z) ≤ 20 + 1 = length_signed_le 20 z (omega (arith, fits.sfits)) fits.sfits in
    (omega (arith, short), decimal_is_printable z fits)

value_is_proper : (function : Function) (args : List Value) → All IsProper args → IsProper (value_of function args)
value_is_proper Add (value.Int a ∷ value.Int b ∷ []) all =
    rw (wrapping_add_is w64 a b (all 0 (value.Int a) (lit≤ tt)) (all 1 (value.Int a) (lit≤ tt))) (SFits-int_wrap w64 _)
value_is_proper Sub (value.Int a ∷ value.Int b ∷ []) all =
    rw (wrapping_sub_is w64 a b (all 0 (value.Int a) (lit≤ tt)) (all 1 (value.Int a) (lit≤ tt))) (SFits-int_wrap w64 _)
value_is_proper Mul (value.Int a ∷ value.Int b ∷ []) all =
    rw (wrapping_mul_is w64 a b (all 0 (value.Int a) (lit≤ tt)) (all 1 (value.Int a) (lit≤ tt))) (SFits-int_wrap w64 _)
value_is_proper Div (value.Int a ∷ value.Int b ∷ []) all = quotient_is_proper a b (all 0 (value.Int a) (lit≤ tt))
value_is_proper Rem (value.Int a ∷ value.Int b ∷ []) all = remainder_is_proper a b (all 0 (value.Int a) (lit≤ tt))
value_is_proper Neg (value.Int a ∷ []) all = rw (wrapping_neg_is w64 a (all 0 (value.Int a) (lit≤ tt))) (SFits-int_wrap w64 _)
value_is_proper Min (value.Int a ∷ value.Int b ∷ []) all =
    picked_is_proper (int_lt b a) b a (all 1 (value.Int a) (lit≤ tt)) (all 0 (value.Int a) (lit≤ tt))
value_is_proper Max (value.Int a ∷ value.Int b ∷ []) all =
    picked_is_proper (int_lt b a) a b (all 0 (value.Int a) (lit≤ tt)) (all 1 (value.Int a) (lit≤ tt))
value_is_proper Clamp (value.Int a ∷ value.Int b ∷ value.Int c ∷ []) all =
    clamped_is_proper a b c (all 0 (value.Int a) (lit≤ tt)) (all 1 (value.Int a) (lit≤ tt)) (all 2 (value.Int a) (lit≤ tt))
value_is_proper Pick (value.Bool first ∷ value.Int a ∷ value.Int b ∷ []) all =
    picked_is_proper first a b (all 1 (value.Int a) (lit≤ tt)) (all 2 (value.Int a) (lit≤ tt))
value_is_proper Sum9 args all = SFits-int_wrap w64 _
value_is_proper Eq (value.Int a ∷ value.Int b ∷ []) all = tt
value_is_proper Lt (value.Int a ∷ value.Int b ∷ []) all = tt
value_is_proper Le (value.Int a ∷ value.Int b ∷ []) all = tt
value_is_proper And (value.Bool a ∷ value.Bool b ∷ []) all = tt
value_is_proper Or (value.Bool a ∷ value.Bool b ∷ []) all = tt
value_is_proper Not (value.Bool a ∷ []) all = tt
value_is_proper Cat (value.Text a ∷ value.Text b ∷ []) all = joined_is_text a b (all 0 (value.Text a) (lit≤ tt)).1 (all 1 (value.Text a) (lit≤ tt)).1
value_is_proper Len (value.Text a ∷ []) all = length_is_proper a (all 0 (value.Text a) (lit≤ tt)).0
value_is_proper Same (value.Text a ∷ value.Text b ∷ []) all = tt
value_is_proper Show (value.Int a ∷ []) all = decimal_is_text a (all 0 (value.Int a) (lit≤ tt))
value_is_proper Pos (value.Int a ∷ []) all = tt
value_is_proper function _ all = value_in_is_proper (sig_of function).gives

given_by_is_proper : (o : Option Function) (args : List Value) → All IsProper args → IsProper (given_by o args)
given_by_is_proper None args all = zero_is_proper
given_by_is_proper (Some function) args all = value_is_proper function args all

-- of values that a program can hold, a function gives such a value
pub given_is_proper : (f : FnRef) (args : List Value) → All IsProper args → IsProper (given f args)
given_is_proper f args all = given_by_is_proper (function_numbered f.id.number) args all

-- the functions have the numbers from this one on
Counts : ℕ → List Function → Type 0
Counts from [] = Unit {0}
Counts from (function ∷ functions) = (number_of function ≡ from) × Counts (suc from) functions

find_by_place : (from : ℕ) (functions : List Function) (n : ℕ) → Counts from functions
    → find (λ f. number_of f == from + n) functions ≡ slice_get functions n
unfolding Counts
find_by_place from [] n counts = refl
find_by_place from (function ∷ functions) zero counts =
    let same : (number_of function == from + 0) ≡ true = eq-eqb _ _ (omega (arith, counts.0)) in rw same refl
find_by_place from (function ∷ functions) (suc n) counts =
    let other : (number_of function == from + suc n) ≡ false = ne_eqb _ _ (omega (arith, counts.0)) in
    let shifted : from + suc n ≡ suc from + n = omega arith in
    rw other (subst (λ m. find (λ f. number_of f == m) functions ≡ slice_get functions n) (sym shifted) (find_by_place (suc from) functions n counts.1))

all_count : Counts 1 all_functions
unfolding Counts
all_count = (refl, (refl, (refl, (refl, (refl, (refl, (refl, (refl, (refl, (refl, (refl, (refl, (refl, (refl, (refl, (refl, (refl, (refl, (refl, (refl, (refl, (refl, tt))))))))))))))))))))))

-- the function with a number stands at the place before it
pub numbered_by_place : (number : ℕ) → 1 ≤ number → slice_get all_functions (number - 1) ≡ function_numbered number
numbered_by_place number some =
    let counted : 1 + (number - 1) ≡ number = omega arith in
    sym (find_by_place 1 all_functions (number - 1) all_count) ∙ ap (λ (m : ℕ). find (λ f. number_of f == m) all_functions) counted

-- a text and what fits behind it of another one
pub joined_by_parts : (a b : List ℕ) → length a ≤ 4096 → a ++ take (min (4096 - length a) (length b)) b ≡ joined a b
joined_by_parts a b short =
    let all : length a + (4096 - length a) ≡ 4096 = omega arith in
    ap (λ (rest : List ℕ). a ++ rest) (take_min (4096 - length a) b) ∙ sym (take-append-add a b (4096 - length a)) ∙ ap (λ (n : ℕ). take n (a ++ b)) all

-- a sum in 64 bits, with one more value
pub sum_more : (values : List Value) (i : ℕ) (none : Value) (sum : ℕ) (number : ℤ) → i < length values → sum < 2 ^ 64 → FitsSigned w64 number
    → cast_signed w64 sum ≡ sum_of (take i values) → number ≡ int_of (get_or values i none)
    → cast_signed w64 ((sum + cast_unsigned w64 number) % 2 ^ 64) ≡ sum_of (take (i + 1) values)
sum_more values i none sum number below small fits before is =
    let add : ℤ → Value → ℤ = λ total v. total +ℤ int_of v in
    wrapping_add_onto w64 sum number small fits
    ∙ (λ j. int_wrap w64 (before j +ℤ is j))
    ∙ int_wrap-add_left w64 (fold add (pos 0) (take i values)) (int_of (get_or values i none))
    ∙ sym (ap (int_wrap w64) (fold_more add (pos 0) values i none below))
