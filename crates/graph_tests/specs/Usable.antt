-- What bodies of the tests may call and list.
use Rattle.std.specs.Prelude.{◌≡◌, ◌≤◌, IsTrue, Bool, [], Option, Some}
use Rattle.inc_value.specs.declared.function.FnRef.{FnRef}
use Rattle.inc_terms.specs.Within.{Given}
use Rattle.node_arena.specs.Arena.{Arena}
use Rattle.node_arena.specs.Listing.{Listed}
use Rattle.node_arena.specs.RightSide.{RightSide}
use Rattle.node_arena.specs.Typing.{Fits}
use Rattle.script_functions.specs.declared.line.Line as lines
use Rattle.script_functions.specs.declared.line.Line.TheVariants.{Map, Fold, Bind}
use Rattle.std_library.specs.Functions as library

-- a listed node was given, and is of its type or dead
abbrev pub IsFit : Arena → Listed → Type 0
IsFit a x = Given a.given x.node × Fits a x.node x.ty

-- maps and folds of a line call a function of the library, and a bind calls the one within, for at least two nodes
abbrev pub CallsKept : Option FnRef → lines.Line → Type 0
CallsKept within (Map f ps) = IsTrue (library.known f)
CallsKept within (Fold f v ps) = IsTrue (library.known f)
CallsKept within (Bind l f most ps) = (within ≡ Some f) × (2 ≤ most)
CallsKept within line = Unit {0}

-- a function is known, lists no node, and takes two nodes at most
pub record IsSmall (known : FnRef → Bool) (right : FnRef → RightSide) (f : FnRef) : Type 0 where
  pub is_known : IsTrue (known f)
  pub ids : (right f).ids ≡ []
  pub size : (right f).size ≤ 2
