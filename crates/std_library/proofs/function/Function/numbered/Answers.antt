use Rattle.std.proofs.Common.{◌∙◌, ap}
use Rattle.std.specs.Prelude.{slice_get}
use Rattle.std_library.specs.Functions.{all_functions}
use Rattle.std_library.specs.FunctionLaws.{numbered_by_place}
use Rattle.std_library.proofs.function.Function.numbered.Goals as goal

-- the functions stand by number
pub returns : goal.returns
returns c =
    c.at_place.ensures ∙ ap (slice_get all_functions) c.in_ok-place.ensures.1 ∙ numbered_by_place c.args.number c.in_ok-place.ensures.0
