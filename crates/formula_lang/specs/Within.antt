-- Names and functions of formulas, as the code goes through them. Contracts of private functions cite these, those of public ones none.
use Rattle.std.specs.Prelude.{ℕ, cond, List, [], ◌∷◌, ◌++◌, map}
use Rattle.std.specs.List.{flat_map}
use Rattle.script_model.specs.Check.{is_among, referred_names}
use Rattle.script_model.specs.Grammar.{Tree, Trees, TimedLiteral, Literal, Name, Call, If, Bind, Join, Fold, Steps, Freeze, End, More}

-- the names that the literals of steps refer to
abbrev pub referred_in : List TimedLiteral → List (List ℕ)
referred_in steps = flat_map referred_names (map (λ (s : TimedLiteral). s.literal) steps)

abbrev mutual
  -- the names that a formula mentions within binds of these variables, where they aren't those, and those that its
  -- literals refer to, as they stand in it
  pub names_within : List (List ℕ) → Tree → List (List ℕ)
  names_within variables (Literal literal) = referred_names literal
  names_within variables (Name name) = cond (is_among variables name) [] (name ∷ [])
  names_within variables (Call function arguments) = names_within_all variables arguments
  names_within variables (If test a b) = names_within variables test ++ names_within variables a ++ names_within variables b
  names_within variables (Bind variable left body) = names_within variables left ++ names_within (variable ∷ variables) body
  names_within variables (Join child) = names_within variables child
  names_within variables (Fold function first elements) = referred_names first ++ names_within_all variables elements
  names_within variables (Steps first steps) = referred_names first ++ referred_in steps
  names_within variables (Freeze child predicate) = names_within variables child
  names_within variables tree = []

  pub names_within_all : List (List ℕ) → Trees → List (List ℕ)
  names_within_all variables End = []
  names_within_all variables (More first rest) = names_within variables first ++ names_within_all variables rest

abbrev mutual
  -- the functions that a formula names
  pub functions_within : Tree → List (List ℕ)
  functions_within (Call function arguments) = function ∷ functions_within_all arguments
  functions_within (If test a b) = functions_within test ++ functions_within a ++ functions_within b
  functions_within (Bind variable left body) = functions_within left ++ functions_within body
  functions_within (Join child) = functions_within child
  functions_within (Fold function first elements) = function ∷ functions_within_all elements
  functions_within (Freeze child predicate) = predicate ∷ functions_within child
  functions_within tree = []

  pub functions_within_all : Trees → List (List ℕ)
  functions_within_all End = []
  functions_within_all (More first rest) = functions_within first ++ functions_within_all rest
