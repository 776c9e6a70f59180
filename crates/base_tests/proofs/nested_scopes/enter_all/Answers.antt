use Rattle.std.proofs.Common.{arith}
use Rattle.base_tests.proofs.nested_scopes.enter_all.Goals as goal

pub enter-two-requires-clause-below : goal.enter-two-requires-clause-below
enter-two-requires-clause-below c = λ n s h. (let up_to = c.enter-one.ensures.up_to n s h in omega (arith, up_to))

pub enter-three-requires-clause-below : goal.enter-three-requires-clause-below
enter-three-requires-clause-below c = λ n s h. (let up_to = c.enter-two.ensures.up_to n s h in omega (arith, up_to))

pub enter-four-requires-clause-below : goal.enter-four-requires-clause-below
enter-four-requires-clause-below c = λ n s h. (let up_to = c.enter-three.ensures.up_to n s h in omega (arith, up_to))
