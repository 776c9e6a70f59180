-- Types of values.
use Rattle.std.specs.Prelude as std
use Rattle.std.specs.Prelude.{true, false, ◌&&◌, List, [], ◌∷◌, Option, None, Some}
use Rattle.inc_value.specs.declared.ty.Base.TheVariants as base
use Rattle.inc_value.specs.declared.ty.Base.{Base}
use Rattle.inc_value.specs.declared.ty.Ty.{Ty}
use Rattle.inc_value.specs.declared.ty.Ty.TheVariants.{Int, Bool, Text, Node}

-- not a node reference
abbrev pub IsBase : Ty → Type 0
IsBase Int = Unit {0}
IsBase Bool = Unit {0}
IsBase Text = Unit {0}
IsBase (Node base) = ⊥

-- the base type that a type is; none of references
abbrev pub base_of : Ty → Option Base
base_of Int = Some base.Int
base_of Bool = Some base.Bool
base_of Text = Some base.Text
base_of (Node b) = None

-- a base type as a type
abbrev pub type_of_base : Base → Ty
type_of_base base.Int = Int
type_of_base base.Bool = Bool
type_of_base base.Text = Text

-- the same base type
abbrev pub same_base : Base → Base → std.Bool
same_base base.Int base.Int = true
same_base base.Bool base.Bool = true
same_base base.Text base.Text = true
same_base a b = false

-- the same type
abbrev pub same_ty : Ty → Ty → std.Bool
same_ty Int Int = true
same_ty Bool Bool = true
same_ty Text Text = true
same_ty (Node a) (Node b) = same_base a b
same_ty a b = false

-- the same types, one for one
abbrev pub same_types : List Ty → List Ty → std.Bool
same_types [] [] = true
same_types (a ∷ left) (b ∷ right) = same_ty a b && same_types left right
same_types left right = false
