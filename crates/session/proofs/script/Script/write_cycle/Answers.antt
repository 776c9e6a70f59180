use Rattle.std.proofs.Common.{◌≡◌, ◌++◌, List, ℕ, Some, ap, subst, sym, ◌∙◌}
use Rattle.std.specs.Prelude.{OnOk}
use Rattle.script_graph.specs.Stabilizing.{CyclePasses, closed}
use Rattle.session.proofs.Failing.{on_ok_from}
use Rattle.session.proofs.OwnNodes.{have_targets}
use Rattle.session.proofs.Passing.{cycle_told}
use Rattle.session.proofs.script.Script.write_cycle.Goals as goal
use Rattle.session.specs.Replies.{cycle_line, name_in}

pub write_passed-requires-clause-targets : goal.write_passed-requires-clause-targets
write_passed-requires-clause-targets g c = have_targets _ c.self.invariant

pub returns-clause-ok : goal.returns-clause-ok
returns-clause-ok g c =
    let h = c.in-Some-Cycle in
    let s = c.self.inside in
    subst (λ v. OnOk c.write_passed.result ((targets : List ℕ) × CyclePasses v.kept.graph v.kept.names.declared v.kept.nodes targets
    × (c.write_passed.new.out.items ≡ c.args.out.now.items ++ cycle_line (name_in v.kept.names) (closed targets)))) c.self.view_is
    (on_ok_from c.write_passed.result c.write_passed.ensures.ok (λ told. (
      told.0,
      cycle_told s.graph s.names.declared s.nodes.items h.points _ told.0 (sym h.ensures ∙ ap (λ r. Some r) h.field-0-is)
          c.deref.ensures.value told.1,
      told.2,
    )))
