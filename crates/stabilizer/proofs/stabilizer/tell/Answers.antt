use Rattle.std.proofs.Common.{List, inl, inr, sym, subst}
use Rattle.inc_value.specs.Choice.{Among}
use Rattle.inc_value.specs.declared.node.NodeId.{NodeId}
use Rattle.stabilizer.proofs.stabilizer.tell.Goals as goal

-- not all may be news, so what is news is listed
pub tell-told-requires : goal.tell-told-requires
tell-told-requires c = record {
  current = λ o x among used shown. elim (c.requires.current o x among used shown) [
    | inl (inl all) ↦ absurd (let none = c.if-all.false in cc)
    | inl (inr listed) ↦ inl (subst (λ (ns : List NodeId). Among o.node ns) (sym c.deref.ensures.value) listed)
    | inr same ↦ inr same
  ];
}
