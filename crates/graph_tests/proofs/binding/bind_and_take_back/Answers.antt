use Rattle.graph_tests.proofs.binding.bind_and_take_back.Goals as goal

pub back_to-requires : goal.back_to-requires
back_to-requires c = record {
  unneeded = λ whole p need. c.in-Ok.ensures.needed p (c.bind-bound.ensures.needed p need);
  unscoped = λ whole. c.bind-bound.ensures.unscoped _ c.in-Ok.ensures.unscoped;
}
