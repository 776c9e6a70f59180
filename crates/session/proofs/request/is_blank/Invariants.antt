use Rattle.std.proofs.Common.{◌≡◌, drop}
use Rattle.script_model.specs.Language.{is_blank}
use Rattle.session.proofs.request.is_blank.Given as goal

abbrev pub invariant-loop-byte : goal.invariant-loop-byte
invariant-loop-byte l = is_blank (drop l.byte-index l.content) ≡ is_blank l.content
