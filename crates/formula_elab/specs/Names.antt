-- The names in a formula that is laid out, those that its values refer to among them.
use Rattle.std.specs.Prelude.{ℕ}
use Rattle.script_model.specs.Formula.{Formula, Formulas, Body}
use Rattle.script_model.specs.Leaves.{EveryLeaf, EveryLeafOfAll, EveryLeafOf}
use Rattle.formula_elab.specs.Today.{IsLaidOut, AreLaidOut, IsLaidOutBody}

-- within so many binds the formula is laid out, and every name in it has the property
abbrev pub EveryName : (ℕ → Type 0) → ℕ → Formula → Type 0
EveryName P binds f = IsLaidOut binds f × EveryLeaf P P f

-- so are all of the formulas
abbrev pub EveryNameOfAll : (ℕ → Type 0) → ℕ → Formulas → Type 0
EveryNameOfAll P binds fs = AreLaidOut binds fs × EveryLeafOfAll P P fs

-- so is what is declared
abbrev pub EveryNameOf : (ℕ → Type 0) → Body → Type 0
EveryNameOf P body = IsLaidOutBody body × EveryLeafOf P P body
