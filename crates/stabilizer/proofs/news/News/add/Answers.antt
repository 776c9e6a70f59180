use Rattle.std.proofs.Common.{List, [], ◌∷◌, inl, inr, refl, sym, subst}
use Rattle.inc_value.specs.Choice.{Among}
use Rattle.inc_value.specs.declared.node.NodeId.{NodeId}
use Rattle.inc_terms.proofs.Plan.{among_left, among_right}
use Rattle.stabilizer.proofs.news.News.add.Goals as goal

pub returns-in-Ok-clause-added : goal.returns-in-Ok-clause-added
returns-in-Ok-clause-added c = inr (subst (λ (ns : List NodeId). Among c.args.node ns) (sym c.in-Ok.ensures.items)
    (among_right c.args.node c.args.self.now.nodes.items (c.args.node ∷ []) (inl refl)))

pub returns-in-Ok-clause-stay : goal.returns-in-Ok-clause-stay
returns-in-Ok-clause-stay c n is = elim is [
  | inl all ↦ inl all
  | inr listed ↦ inr (subst (λ (ns : List NodeId). Among n ns) (sym c.in-Ok.ensures.items)
      (among_left n c.args.self.now.nodes.items (c.args.node ∷ []) listed))
]
