use Rattle.std.proofs.Common.{sym, ◌∙◌}
use Rattle.std_library.specs.FunctionLaws.{known_by_number}
use Rattle.std_library.proofs.std_lib.StdLibLibrary.knows.Goals as goal

pub returns-in-Some : goal.returns-in-Some
returns-in-Some c = known_by_number c.args.f c.in-Some.function c.has_reference.result (sym c.numbered.ensures ∙ c.in-Some.is) c.has_reference.ensures
