use Rattle.script_model.proofs.Courses.{one_course}
use Rattle.script_model.proofs.laws.one_course.Goals as goal

pub returns : goal.returns
returns c = one_course
