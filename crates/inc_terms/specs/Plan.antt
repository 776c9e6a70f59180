-- The links of a point that has them all.
use Rattle.std.specs.Prelude.{List, [], ◌∷◌, ◌++◌, map, Option, None, Some}
use Rattle.inc_value.specs.declared.node.NodeId.{NodeId}
use Rattle.inc_value.specs.declared.node.Part.{Part}
use Rattle.inc_value.specs.declared.node.Part.TheVariants.{Change, Main}
use Rattle.inc_value.specs.declared.node.Point.{Point}
use Rattle.inc_value.specs.declared.outcome.Outcome.{Outcome}
use Rattle.inc_terms.specs.Graph.{Graph, Row, Def}
use Rattle.inc_terms.specs.Depend.{main, change, fixed_reads, rights_of}

-- the change of the scope's bind
abbrev pub gate_of : Option NodeId → List Point
gate_of None = []
gate_of (Some b) = change b ∷ []

-- the right sides that the change's outcome chose
abbrev pub targets : Graph → NodeId → Def → Option Outcome → List Point
targets G n def None = []
targets G n def (Some o) = map main (rights_of G n def o)

-- a main's right sides, by its own change's outcome; a change has none
abbrev pub right_links : Graph → (Point → Option Outcome) → NodeId → Def → Part → List Point
right_links G out n def Change = []
right_links G out n def Main = targets G n def (out (change n))

-- gate, fixed reads, right side
abbrev pub plan : Graph → (Point → Option Outcome) → Point → Row → List Point
plan G out p r = gate_of r.scope ++ (fixed_reads G p.node r.def p.part ++ right_links G out p.node r.def p.part)
