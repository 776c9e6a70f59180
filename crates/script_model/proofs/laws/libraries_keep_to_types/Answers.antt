use Rattle.script_model.proofs.Libraries.{libraries_keep_to_types}
use Rattle.script_model.proofs.laws.libraries_keep_to_types.Goals as goal

pub returns : goal.returns
returns c = libraries_keep_to_types
