-- How long the worklist gets, by who is newly needed.
use Rattle.std.specs.Prelude.{◌≤◌, ◌+◌, ◌*◌, ℕ, not, List, length}
use Rattle.inc_value.specs.declared.node.Point.{Point}
use Rattle.inc_value.specs.Choice.{Among}
use Rattle.necessary_graph.specs.Part.{NecessaryPart}
use Rattle.stabilize_round.specs.Counts.{number_of}
use Rattle.wiring.specs.Deciding.{is_needed}
use Rattle.wiring.specs.Graph.{HasLinks}
use Rattle.wiring.specs.declared.work.Work.{Work}

-- how many of the points aren't needed
unfoldable pub unneeded : NecessaryPart → List Point → ℕ
unneeded g points = number_of (λ (p : Point). not (is_needed g p)) points

-- each point that has links once it is needed is of the list
abbrev pub Covers : Work → List Point → Type 0
Covers work points = (p : Point) → HasLinks work p → Among p points

-- how much is left to wire: what may be taken off each time that a link is tried again, the worklist, and the points that aren't needed
abbrev pub left_to_wire : Work → List Point → ℕ
left_to_wire work points = work.retries * (length points + 2) + (length work.todo.items + unneeded work.graph points)

-- no more is left to wire
abbrev pub Grows : Work → Work → Type 0
Grows old new = (points : List Point) → Covers old points → left_to_wire new points ≤ left_to_wire old points
