use Rattle.std.proofs.Common.{◌∙◌, inl, inr, subst}
use Rattle.inc_value.specs.Choice.{Among}
use Rattle.inc_value.specs.declared.node.NodeId.{NodeId}
use Rattle.observers.proofs.Lists.{drop_next}
use Rattle.observers.proofs.looking.gather.Goals as goal

abbrev pub other : NodeId
other = record { slot = 0; gen_ = 0 }

pub loop-node-preserved : goal.loop-node-preserved
loop-node-preserved c =
    let inv = c.loop-node.invariant in
    let look = c.look.ensures in
    record {
      looks = look.looks;
      covers = λ i o there used new. elim (inv.covers i o there used new) [
        | inl a ↦ inl (look.stay i a)
        | inr left ↦ elim (subst (Among o.node) (drop_next c.args.news.now c.loop-node.node-index other c.loop-node-test.true) left) [
          | inl same ↦ inl (look.covers i o there used same)
          | inr rest ↦ inr rest
        ]
      ];
      stay = λ i a. look.stay i (inv.stay i a);
      width = look.width ∙ inv.width;
    }
