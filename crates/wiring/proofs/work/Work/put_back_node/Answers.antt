use Rattle.std.proofs.Common.{◌≡◌, ◌⊎◌, inl, inr, Some, sym, ap, subst}
use Rattle.inc_value.specs.declared.node.Point.{Point}
use Rattle.inc_terms.specs.Depend.{main, change}
use Rattle.inc_terms.specs.Graph.{Row}
use Rattle.node_arena.specs.Arena.{row_at}
use Rattle.wiring.specs.Wiring.{IsAtGate}
use Rattle.wiring.proofs.NodeBack.{BackAt, node_back, node_at_gate, node_taken}
use Rattle.wiring.proofs.TakingAll.{loses_links}
use Rattle.wiring.proofs.work.Work.put_back_node.Goals as goal

pub put_back-requires-clause-row : goal.put_back-requires-clause-row
put_back-requires-clause-row c = let r = c.requires.row in
    subst (λ (x : Point). (s : Row) × (row_at c.args.arena.now x.node ≡ Some s) × (s.scope ≡ Some c.args.bind)) (sym c.main.ensures) r

pub put_back-requires-2-clause-row : goal.put_back-requires-2-clause-row
put_back-requires-2-clause-row c = let r = c.requires.row in
    subst (λ (x : Point). (s : Row) × (row_at c.args.arena.now x.node ≡ Some s) × (s.scope ≡ Some c.args.bind)) (sym c.change.ensures) r

module _ (c : goal.After-put_back-2) where
  first : BackAt c.args.arena.now c.args.self.now c.put_back.new.self (main c.args.node) c.args.bind
  first = subst (λ (x : Point). BackAt c.args.arena.now c.args.self.now c.put_back.new.self x c.args.bind) c.main.ensures c.put_back.ensures.rows

  second : BackAt c.args.arena.now c.put_back.new.self c.put_back-2.new.self (change c.args.node) c.args.bind
  second = subst (λ (x : Point). BackAt c.args.arena.now c.put_back.new.self c.put_back-2.new.self x c.args.bind) c.change.ensures
      c.put_back-2.ensures.rows

pub returns-clause-stays : goal.returns-clause-stays
returns-clause-stays c =
    loses_links c.args.arena.now c.args.self.now c.put_back.new.self c.put_back-2.new.self c.put_back.ensures.stays c.put_back-2.ensures.stays

pub returns-clause-rows : goal.returns-clause-rows
returns-clause-rows c = node_back c.args.arena.now c.args.self.now c.put_back.new.self c.put_back-2.new.self c.args.node c.args.bind (first c) (second c)
    c.put_back-2.ensures.stays.loses

pub returns-clause-behind : goal.returns-clause-behind
returns-clause-behind c =
    node_at_gate c.args.arena.now c.args.self.now c.put_back.new.self c.put_back-2.new.self c.args.node c.args.bind (first c) (second c)
    c.put_back-2.ensures.stays.loses
    (subst (λ (x : Point). IsAtGate c.put_back.new.self x) c.main.ensures c.put_back.ensures.behind)
    (subst (λ (x : Point). IsAtGate c.put_back-2.new.self x) c.change.ensures c.put_back-2.ensures.behind)

pub returns-clause-taken : goal.returns-clause-taken
returns-clause-taken c =
    node_taken c.args.arena.now c.args.self.now c.put_back.new.self c.put_back-2.new.self c.args.node c.args.bind (first c) (second c)
    c.put_back-2.ensures.stays.loses c.put_back.ensures.stays.places.round c.put_back.ensures.stays.kept.step c.put_back-2.ensures.stays.kept.step c.put_back.ensures.taken
    c.put_back-2.ensures.taken

at_point : (c : goal.After-put_back-2) (q : Point) → (q ≡ main c.args.node) ⊎ (q ≡ change c.args.bind) → (q.node ≡ c.args.node) ⊎ (q ≡ change c.args.bind)
at_point c q (inl e) = inl (ap (λ (x : Point). x.node) e)
at_point c q (inr e) = inr e

at_change : (c : goal.After-put_back-2) (q : Point) → (q ≡ change c.args.node) ⊎ (q ≡ change c.args.bind) → (q.node ≡ c.args.node) ⊎ (q ≡ change c.args.bind)
at_change c q (inl e) = inl (ap (λ (x : Point). x.node) e)
at_change c q (inr e) = inr e

pub returns-clause-heap : goal.returns-clause-heap
returns-clause-heap c q h = elim (c.put_back-2.ensures.heap q h) [
  | inl held ↦ elim (c.put_back.ensures.heap q held) [
    | inl was ↦ inl was
    | inr new ↦ inr (at_point c q (subst (λ (x : Point). (q ≡ x) ⊎ (q ≡ change c.args.bind)) c.main.ensures new))
  ]
  | inr new ↦ inr (at_change c q (subst (λ (x : Point). (q ≡ x) ⊎ (q ≡ change c.args.bind)) c.change.ensures new))
]
