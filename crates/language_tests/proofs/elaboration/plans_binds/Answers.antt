use Rattle.language_tests.proofs.Planning.{nested_is_plannable}
use Rattle.language_tests.proofs.elaboration.plans_binds.Goals as goal

pub planned-requires : goal.planned-requires
planned-requires c = nested_is_plannable c.in-Some.ensures
