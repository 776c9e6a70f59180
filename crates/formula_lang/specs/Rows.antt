-- What the rows of the table of refusals ask of one name.
use Rattle.std.specs.Prelude.{ℕ, Bool, not, List, Option, is_none}
use Rattle.inc_value.specs.declared.function.FnRef.{FnRef}
use Rattle.script_model.specs.Check.{Names, is_among, is_bind, is_declared, is_expert, is_variable, kind_of}

-- the name isn't declared
abbrev pub is_unknown : Names → List ℕ → Bool
is_unknown names = λ name. not (is_declared names name)

-- no observer in use has the name
abbrev pub is_no_observer : Names → List ℕ → Bool
is_no_observer names = λ name. not (is_among names.observers name)

-- the name stands for no variable
abbrev pub is_no_variable : Names → List ℕ → Bool
is_no_variable names = λ name. not (is_variable (kind_of names name))

-- the name stands for no bind
abbrev pub is_no_bind : Names → List ℕ → Bool
is_no_bind names = λ name. not (is_bind (kind_of names name))

-- the name stands for no expert
abbrev pub is_no_expert : Names → List ℕ → Bool
is_no_expert names = λ name. not (is_expert (kind_of names name))

-- no function has the name
abbrev pub lacks : (List ℕ → Option FnRef) → List ℕ → Bool
lacks named = λ name. is_none (named name)
