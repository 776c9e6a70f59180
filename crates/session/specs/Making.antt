-- What making nodes and bodies for a declaration leads to, and leaves of the functions of a script.
use Rattle.std.specs.Prelude.{◌≡◌, ℕ, Bool, List, IsTrue, length}
use Rattle.formula_elab.specs.Make as make
use Rattle.formula_elab.specs.Make.{Make, function_made}
use Rattle.formula_elab.specs.declared.plan.Planned.{Planned}
use Rattle.formula_elab.specs.declared.make.Made.{Made}
use Rattle.graph.specs.Standing.{GraphView}
use Rattle.inc_value.specs.declared.function.FnRef.{FnRef}
use Rattle.inc_value.specs.declared.value.Value.{Value}
use Rattle.node_arena.specs.Meanings.{KeepsKnown}
use Rattle.node_arena.specs.RightSide.{RightSide}
use Rattle.script_functions.specs.Bodies.{Body, side_of}
use Rattle.script_functions.specs.Keeping.{KeepsBodies, is_known, makers, side_in}
use Rattle.script_graph.specs.Growing.{AreServed, IsMaking, functions_over}

-- a function that was made of a body is known, and makes what the body does
abbrev pub IsServing : (FnRef → Bool) → (FnRef → RightSide) → Make → Made → Type 0
IsServing known right (make.Right b) m = IsTrue (known (function_made m)) × (right (function_made m) ≡ side_of b)
IsServing known right (make.Node d ty) m = Unit {0}

-- the library and its count of builds are as they were, and no more bodies were kept than so many
pub record KeepsFunctions {L : Type 0} (lib lib' : L) (built built' : ℕ) (kept kept' : List Body) (most : ℕ) : Type 0 where
  pub library : lib' ≡ lib
  pub builds : built' ≡ built
  pub bodies : KeepsBodies kept kept' most

-- functions that were known are so, and those of right sides make what they made
pub record StayKnown (maps maps' : FnRef → Bool) (bodies bodies' : List Body) : Type 0 where
  pub known : KeepsKnown (is_known maps (makers bodies)) (is_known maps' (makers bodies'))
  pub sides : (f : FnRef) → IsTrue (is_known maps (makers bodies) f) → side_in (makers bodies') f ≡ side_in (makers bodies) f

-- over a library that knows these maps and has these values, and the bodies that are kept, so much of what is to be made was made, and its functions serve
pub record MadeSoFar {A : Type 0} (maps : FnRef → Bool) (value : FnRef → List Value → Value) (bodies : List Body) (first now : GraphView A)
    (makes : List Planned) (made : List Made) : Type 0 where
  pub making : IsMaking (functions_over value bodies) first now makes made
  pub served : AreServed (is_known maps (makers bodies)) (side_in (makers bodies)) makes made

-- all of it was made
pub record AreMade {A : Type 0} (maps : FnRef → Bool) (value : FnRef → List Value → Value) (bodies : List Body) (first now : GraphView A)
    (makes : List Planned) (made : List Made) : Type 0 where
  pub so_far : MadeSoFar maps value bodies first now makes made
  pub whole : length made ≡ length makes
