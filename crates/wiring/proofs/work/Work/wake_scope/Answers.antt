use Rattle.std.proofs.Common.{◌≡◌, ◌⊎◌, Some, subst}
use Rattle.std.specs.Prelude.{◌↔◌}
use Rattle.inc_value.specs.Choice.{Among}
use Rattle.inc_value.specs.declared.node.Point.{Point}
use Rattle.inc_terms.specs.Depend.{change}
use Rattle.point_map.specs.Rows.{at}
use Rattle.link_table.specs.Links.{Reads}
use Rattle.node_outcomes.specs.Row.{stage_in}
use Rattle.node_outcomes.specs.declared.row.Stage.TheVariants.{Gated}
use Rattle.wiring.proofs.Gathering.{waits_for}
use Rattle.wiring.proofs.work.Work.wake_scope.Goals as goal

pub returns-in-Ok-clause-woken : goal.returns-in-Ok-clause-woken
returns-in-Ok-clause-woken c p =
    let old = c.args.self.now in
    let items = c.gather_gated.new.todo.items in
    waits_for old p (change c.args.bind) items c.requires.quiet
    (subst (λ (x : Point). Among p items ↔ (Among p old.todo.items ⊎ (Reads old.graph.links p x × (stage_in (at old.rows p) ≡ Some Gated))))
    c.change.ensures (c.in-Ok.ensures.gathered p))

pub returns-in-Err-clause-waits : goal.returns-in-Err-clause-waits
returns-in-Err-clause-waits c =
    let w = c.in-Err.ensures.waits in
    (w.0, record { reads = subst (λ (x : Point). Reads c.args.self.now.graph.links w.0 x) c.change.ensures w.1; stage = w.2 })
