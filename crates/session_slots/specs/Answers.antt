-- What the calls answer, as numbers.
use Rattle.std.specs.Prelude.{◌+◌, ℤ, pos, negsuc}
use Rattle.session.specs.declared.answer.Did.TheVariants as did
use Rattle.session.specs.declared.session.notices.NoticeKind.TheVariants as kind
use Rattle.session_slots.specs.declared.answer.Answer.{Answer}
use Rattle.session_slots.specs.declared.answer.Answer.TheVariants.{Line, Done, Notice, NoNotice, NoSession, NoMemory, TooManyLines, NoSlot, OpenAlready}

-- 0 and more where something was done, below 0 where nothing was
abbrev pub code_of : Answer → ℤ
code_of (Line did.Blank) = pos 0
code_of (Line did.Accepted) = pos 1
code_of (Line (did.Refused n)) = pos (100 + n)
code_of Done = pos 1
code_of NoNotice = pos 0
code_of (Notice kind.Init) = pos 1
code_of (Notice kind.Change) = pos 2
code_of (Notice kind.Invalid) = pos 3
code_of NoSession = negsuc 0
code_of NoMemory = negsuc 1
code_of TooManyLines = negsuc 2
code_of NoSlot = negsuc 3
code_of OpenAlready = negsuc 4
