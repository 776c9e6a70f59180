-- Who is needed, as a test.
use Rattle.std.specs.Prelude.{ℕ, zero, suc, ◌==◌, Bool, true, false, cond, ◌&&◌}
use Rattle.std.specs.List.{list_any}
use Rattle.inc_value.specs.declared.node.Point.{Point}
use Rattle.link_table.specs.declared.link.Link.{Link}
use Rattle.point_map.specs.Rows.{same_point}
use Rattle.necessity.specs.Need.{root_times}
use Rattle.necessary_graph.specs.Part.{NecessaryPart}

-- a root, or linked to by a point that is reached from one over fewer links
abbrev pub needed_within : NecessaryPart → ℕ → Point → Bool
needed_within g zero p = false
needed_within g (suc d) p = cond (root_times g.roots p == 0) (list_any (λ (l : Link). same_point l.kid p && needed_within g d l.reader) g.links.all) true

-- heights fall along links and are at most 128, so no walk has more than 129 points
unfoldable pub is_needed : NecessaryPart → Point → Bool
is_needed g p = needed_within g 129 p
