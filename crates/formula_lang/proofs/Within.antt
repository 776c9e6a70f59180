-- What the code goes through in a formula is what the table of refusals asks for.
use Rattle.std.proofs.Common.{◌≡◌, ◌≤◌, ℕ, Option, None, Some, is_none, is_some, not, Bool, true, false, ◌||◌, List, [], ◌∷◌, ◌++◌, length, map, refl, ap, sym, arith, ◌∙◌, cond, flat_map}
use Rattle.std.proofs.lemmas.Grind.{flat_map-append}
use Rattle.std.proofs.lemmas.List.Folds.{list_any-append}
use Rattle.std.specs.List.{list_any}
use Rattle.script_model.specs.Check.{Names, Bound, is_among, is_top_form, own_literals, read_names, mentioned, mentioned_in_all, own_functions, referred_names, trees_in, trees_in_all, typed, typed_top, body_as}
use Rattle.inc_value.specs.Choice.{and_then}
use Rattle.script_model.specs.Formula.{Computed, Meanings, nothing_kept}
use Rattle.script_model.specs.Grammar as grammar
use Rattle.script_model.specs.Grammar.{Tree, Trees, TimedLiteral, Call, If, Bind, Join, Fold, At, Now, Steps, Freeze, After, End, More, Let}
use Rattle.formula_lang.specs.Within.{functions_within, functions_within_all, names_within, names_within_all}
use Rattle.line_times.proofs.Freezes.{of_frozen}
use Rattle.line_times.proofs.Mentions.{or_nothing}
use Rattle.line_parser.specs.TreeView.{frozen}

-- ---- freezes

-- freezes round a formula read the names that it reads
pub names_frozen : (variables : List (List ℕ)) (child : Tree) (names : List (List ℕ))
    → names_within variables (frozen child names) ≡ names_within variables child
names_frozen variables child [] = refl
names_frozen variables child (name ∷ names) = names_frozen variables (Freeze child name) names

-- either of three, in another order
other_first : (a b c : Bool) → (a || (b || c)) ≡ ((b || a) || c)
other_first true true c = refl
other_first true false c = refl
other_first false true c = refl
other_first false false c = refl

-- a test passes one of the functions of freezes round a formula where it passes a predicate or a function of the formula
pub functions_frozen : (test : List ℕ → Bool) (child : Tree) (names : List (List ℕ))
    → list_any test (functions_within (frozen child names)) ≡ (list_any test names || list_any test (functions_within child))
functions_frozen test child [] = refl
functions_frozen test child (name ∷ names) =
    functions_frozen test (Freeze child name) names ∙ other_first (list_any test names) (test name) (list_any test (functions_within child))

-- either of three, in the order of the code
turned : (a b c : Bool) → ((a || b) || c) ≡ (b || (a || c))
turned true true c = refl
turned true false c = refl
turned false b c = refl

-- so the code asks of a freeze and of those round it
pub freeze_passes : (test : List ℕ → Bool) (child : Tree) (name : List ℕ) (names : List (List ℕ)) (a b c : Bool) → a ≡ test name
    → b ≡ list_any test names → c ≡ list_any test (functions_within child) → ((a || b) || c) ≡ list_any test (functions_within (frozen (Freeze child name) names))
freeze_passes test child name names a b c own around inside =
    rw (own, around, inside) (turned (test name) (list_any test names) (list_any test (functions_within child)))
    ∙ sym (functions_frozen test (Freeze child name) names)

-- a test tells that nothing was found
pub found_none : {A : Type 0} (found there : Option A) (b : Bool) → is_some found ≡ not b → found ≡ there → b ≡ is_none there
found_none None there true e same = ap is_none same
found_none None there false e same = absurd (cc)
found_none (Some x) there true e same = absurd (cc)
found_none (Some x) there false e same = ap is_none same

pub not_typed_frozen : (F : Meanings) (declared : Names) (bounds : List Bound) (child : Tree) (name : List ℕ) (names : List (List ℕ))
    → typed F declared bounds (frozen child (name ∷ names)) ≡ None
not_typed_frozen F declared bounds = of_frozen (typed F declared bounds) None (λ child name. refl)

-- a freeze within a freeze has no type
pub no_top_frozen : (F : Meanings) (declared : Names) (child : Tree) (inner : List ℕ) (names : List (List ℕ)) → 1 ≤ length names
    → typed_top F declared (frozen (Freeze child inner) names) ≡ None
no_top_frozen F declared child inner [] some = absurd (omega (arith, some))
no_top_frozen F declared child inner (name ∷ []) some = refl
no_top_frozen F declared child inner (name ∷ (next ∷ names)) some = no_top_frozen F declared (Freeze child inner) name (next ∷ names) (omega arith)

-- ---- functions

mutual
  pub calls_within : (t : Tree) → flat_map own_functions (trees_in t) ≡ functions_within t
  calls_within (grammar.Literal l) = refl
  calls_within (grammar.Name name) = refl
  calls_within (Call function arguments) = ap (λ fs. function ∷ fs) (calls_within_all arguments)
  calls_within (If test a b) =
      flat_map-append own_functions (trees_in test ++ trees_in a) (trees_in b)
      ∙ ap (λ fs. fs ++ flat_map own_functions (trees_in b)) (flat_map-append own_functions (trees_in test) (trees_in a))
      ∙ rw (calls_within test, calls_within a, calls_within b) refl
  calls_within (Bind variable left body) =
      flat_map-append own_functions (trees_in left) (trees_in body) ∙ rw (calls_within left, calls_within body) refl
  calls_within (Join child) = calls_within child
  calls_within (Fold function first elements) = ap (λ fs. function ∷ fs) (calls_within_all elements)
  calls_within (At time) = refl
  calls_within Now = refl
  calls_within (Steps first steps) = refl
  calls_within (After span) = refl
  calls_within (grammar.Every span) = refl
  calls_within (Freeze child predicate) = ap (λ fs. predicate ∷ fs) (calls_within child)

  calls_within_all : (ts : Trees) → flat_map own_functions (trees_in_all ts) ≡ functions_within_all ts
  calls_within_all End = refl
  calls_within_all (More first rest) =
      flat_map-append own_functions (trees_in first) (trees_in_all rest) ∙ rw (calls_within first, calls_within_all rest) refl

-- ---- names

nothing_behind : {A : Type 0} (xs : List A) → xs ++ [] ≡ xs
nothing_behind [] = refl
nothing_behind (x ∷ xs) = ap (λ ys. x ∷ ys) (nothing_behind xs)

-- the names that literals of these formulas refer to
abbrev referred_in : List Tree → List (List ℕ)
referred_in ts = flat_map referred_names (flat_map own_literals ts)

referred_append : (xs ys : List Tree) → referred_in (xs ++ ys) ≡ referred_in xs ++ referred_in ys
referred_append xs ys =
    ap (λ ls. flat_map referred_names ls) (flat_map-append own_literals xs ys)
    ∙ flat_map-append referred_names (flat_map own_literals xs) (flat_map own_literals ys)

-- either of four, in another order
four : (a b c d : Bool) → ((a || b) || (c || d)) ≡ ((a || c) || (b || d))
four true b c d = refl
four false true true d = refl
four false true false d = refl
four false false c d = refl

three : (a b c : Bool) → (a || (b || c)) ≡ (b || (a || c))
three true true c = refl
three true false c = refl
three false b c = refl

-- a test passes one of the names as they stand in the formula just where it passes one that is mentioned or one that a literal refers to
module _ (test : List ℕ → Bool) where
  abbrev passes : List (List ℕ) → Bool
  passes names = list_any test names

  two_parts : (h m k n : List (List ℕ)) (xs ys : List Tree) → passes h ≡ (passes m || passes (referred_in xs))
      → passes k ≡ (passes n || passes (referred_in ys)) → passes (h ++ k) ≡ (passes (m ++ n) || passes (referred_in (xs ++ ys)))
  two_parts h m k n xs ys first rest =
      rw (list_any-append test h k, list_any-append test m n, referred_append xs ys, list_any-append test (referred_in xs) (referred_in ys), first, rest)
      (four (passes m) (passes (referred_in xs)) (passes n) (passes (referred_in ys)))

  mutual
    reads_any : (variables : List (List ℕ)) (t : Tree)
        → passes (names_within variables t) ≡ (passes (mentioned variables t) || passes (referred_in (trees_in t)))
    reads_any variables (grammar.Literal l) = ap passes (sym (nothing_behind (referred_names l)))
    reads_any variables (grammar.Name name) = sym (or_nothing (passes (cond (is_among variables name) [] (name ∷ []))))
    reads_any variables (Call function arguments) = read_any variables arguments
    reads_any variables (If t a b) =
        two_parts (names_within variables t ++ names_within variables a) (mentioned variables t ++ mentioned variables a) (names_within variables b)
        (mentioned variables b) (trees_in t ++ trees_in a) (trees_in b)
        (two_parts (names_within variables t) (mentioned variables t) (names_within variables a) (mentioned variables a) (trees_in t) (trees_in a)
        (reads_any variables t) (reads_any variables a))
        (reads_any variables b)
    reads_any variables (Bind variable left body) =
        two_parts (names_within variables left) (mentioned variables left) (names_within (variable ∷ variables) body)
        (mentioned (variable ∷ variables) body) (trees_in left) (trees_in body)
        (reads_any variables left) (reads_any (variable ∷ variables) body)
    reads_any variables (Join child) = reads_any variables child
    reads_any variables (Fold function first elements) =
        list_any-append test (referred_names first) (names_within_all variables elements)
        ∙ rw (read_any variables elements, list_any-append test (referred_names first) (referred_in (trees_in_all elements)))
        (three (passes (referred_names first)) (passes (mentioned_in_all variables elements)) (passes (referred_in (trees_in_all elements))))
    reads_any variables (At time) = refl
    reads_any variables Now = refl
    reads_any variables (Steps first steps) =
        ap (λ ls. passes (flat_map referred_names ls)) (sym (nothing_behind (first ∷ map (λ (s : TimedLiteral). s.literal) steps)))
    reads_any variables (After span) = refl
    reads_any variables (grammar.Every span) = refl
    reads_any variables (Freeze child predicate) = reads_any variables child

    read_any : (variables : List (List ℕ)) (ts : Trees)
        → passes (names_within_all variables ts) ≡ (passes (mentioned_in_all variables ts) || passes (referred_in (trees_in_all ts)))
    read_any variables End = refl
    read_any variables (More first rest) =
        two_parts (names_within variables first) (mentioned variables first) (names_within_all variables rest) (mentioned_in_all variables rest)
        (trees_in first) (trees_in_all rest)
        (reads_any variables first) (read_any variables rest)

  pub reads_within : (name : List ℕ) (t : Tree) → passes (read_names (Let name t)) ≡ passes (names_within [] t)
  reads_within name t = list_any-append test (mentioned [] t) (referred_in (trees_in t)) ∙ sym (reads_any [] t)

-- at the top of a `let` a formula of the other forms is one like others
pub computed_top : (F : Meanings) (names : Names) (t : Tree) → is_top_form t ≡ false
    → typed_top F names t ≡ and_then (typed F names [] t) (λ x. body_as (Computed x.formula nothing_kept) x.ty)
computed_top F names (After span) h = absurd (cc)
computed_top F names (grammar.Every span) h = absurd (cc)
computed_top F names (Freeze child predicate) h = absurd (cc)
computed_top F names _ h = refl
