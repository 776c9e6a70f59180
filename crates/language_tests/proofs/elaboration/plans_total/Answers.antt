use Rattle.language_tests.proofs.Planning.{total_is_plannable}
use Rattle.language_tests.proofs.elaboration.plans_total.Goals as goal

pub planned-requires : goal.planned-requires
planned-requires c = total_is_plannable c.in-Some.ensures
