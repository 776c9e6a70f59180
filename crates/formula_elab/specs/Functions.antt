-- How many functions of right sides are to be made.
use Rattle.std.specs.Prelude.{◌+◌, ℕ, List, [], ◌∷◌}
use Rattle.formula_elab.specs.Make as make
use Rattle.formula_elab.specs.Make.{Make}
use Rattle.formula_elab.specs.Opened.{Planned}
use Rattle.formula_elab.specs.declared.plan.Planned.TheVariants.{Body, Node}

-- a body is one
abbrev pub bodies_of : Planned → ℕ
bodies_of (Body o) = 1
bodies_of (Node x) = 0

abbrev pub bodies_in : List Planned → ℕ
bodies_in [] = 0
bodies_in (x ∷ makes) = bodies_of x + bodies_in makes

-- the same of what is made next
abbrev pub bodies_made : Make → ℕ
bodies_made (make.Right b) = 1
bodies_made (make.Node d ty) = 0
