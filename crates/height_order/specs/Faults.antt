-- Why a link isn't made.
use Rattle.std.specs.Prelude.{List}
use Rattle.inc_value.specs.declared.node.Point.{Point}
use Rattle.height_order.specs.declared.heights.LinkFault.{LinkFault}
use Rattle.height_order.specs.declared.heights.LinkFault.TheVariants.{Path, Over}

-- P holds of the points of a path, if the fault is one
abbrev pub IfPath : (List Point → Type 0) → LinkFault → Type 0
IfPath P (Path list) = P list.items
IfPath P fault = Unit {0}

-- P holds of the points of a chain that is too long, if the fault is one
abbrev pub IfOver : (List Point → Type 0) → LinkFault → Type 0
IfOver P (Over list) = P list.items
IfOver P fault = Unit {0}

-- P holds, unless the fault is a chain that is too long
abbrev pub UnlessOver : Type 0 → LinkFault → Type 0
UnlessOver P (Over list) = Unit {0}
UnlessOver P fault = P
