use Rattle.std.proofs.Common.{sym, subst, ◌∙◌}
use Rattle.inc_value.specs.declared.node.Point.{Point}
use Rattle.inc_terms.specs.Depend.{main, change}
use Rattle.stabilizer.specs.Dying.{KeepsGate}
use Rattle.stabilizer.proofs.Killing.KeepingGates.{put_to_gate, scope_row}
use Rattle.stabilizer.proofs.parts.Parts.put_to_gate.Goals as goal

module _ (c : goal.After-keep_gate-in-Some) where
  first : KeepsGate c.put_back_node.new.self c.keep_gate.new.self.work (main c.args.node) (change c.in-Some.scope)
  first = subst (λ (x : Point). KeepsGate c.put_back_node.new.self c.keep_gate.new.self.work x (change c.in-Some.scope)) c.main.ensures
      (subst (λ (x : Point). KeepsGate c.put_back_node.new.self c.keep_gate.new.self.work c.main.result x) c.change.ensures
      c.keep_gate.ensures.gate)

  last : KeepsGate c.keep_gate.new.self.work c.keep_gate-in-Some.new.self.work (change c.args.node) (change c.in-Some.scope)
  last = subst (λ (x : Point). KeepsGate c.keep_gate.new.self.work c.keep_gate-in-Some.new.self.work x (change c.in-Some.scope))
      c.change-in-Some.ensures
      (subst (λ (x : Point). KeepsGate c.keep_gate.new.self.work c.keep_gate-in-Some.new.self.work c.change-in-Some.result x)
      c.change-in-Some-2.ensures c.keep_gate-in-Some.ensures.gate)

pub returns-in-Some-clause-put : goal.returns-in-Some-clause-put
returns-in-Some-clause-put c =
    let r = scope_row c.args.self.now.arena c.args.node c.in-Some.scope (sym c.scope_of.ensures ∙ c.in-Some.is) in
    let b = c.put_back_node.ensures in
    put_to_gate c.args.self.now.arena c.args.self.now.work c.put_back_node.new.self c.keep_gate.new.self.work c.keep_gate-in-Some.new.self.work
    c.args.node c.in-Some.scope r.0 r.1 r.2 b.stays.kept b.stays.places b.taken b.behind b.stays.loses b.heap b.rows
    b.stays.rest (first c) (last c)
