use Rattle.language_tests.proofs.Planning.{targets_typed}
use Rattle.language_tests.proofs.elaboration.planned.Goals as goal

pub elaborate-requires-clause-targets : goal.elaborate-requires-clause-targets
elaborate-requires-clause-targets c = targets_typed c.in-Some.ensures
