-- What a watched node is.
use Rattle.std.specs.Prelude.{ℕ, pos}
use Rattle.inc_terms.specs.Code.{def_of}
use Rattle.inc_terms.specs.Graph.{Def, At, Now, Every}
use Rattle.clock_nodes.specs.declared.watch.Kind.{Kind}
use Rattle.clock_nodes.specs.declared.watch.Kind.TheVariants as kind
use Rattle.clock_nodes.specs.declared.watch.Watch.{Watch}
use Rattle.clock_nodes.specs.declared.watch.Watch.TheVariants as watch

-- the definition of which it was made
abbrev pub kind_def : Kind → Def
kind_def (kind.At t) = At t
kind_def kind.Now = Now
kind_def (kind.Every base span) = Every base (pos span)
kind_def (kind.Steps def) = def_of def.value

-- the definition of a watched node
abbrev pub watch_def : Watch → Def
watch_def (watch.Waits slot until) = At until
watch_def (watch.Other apart) = kind_def apart.value.kind

-- the slot in which it stands
abbrev pub watch_slot : Watch → ℕ
watch_slot (watch.Waits slot until) = slot
watch_slot (watch.Other apart) = apart.value.slot
