use Rattle.std.proofs.Common.{◌≡◌, length}
use Rattle.script_functions.specs.Bodies.{type_at}
use Rattle.script_functions.specs.Lines.{PartsHave}
use Rattle.script_functions.proofs.typing.all_have.Given as goal

-- as many are left of both, and all are of their types exactly where those left are
abbrev pub invariant-loop-part : goal.invariant-loop-part
invariant-loop-part l =
    (length l.part-iterator.a.rest.now ≡ length l.part-iterator.b.rest.now)
    × (PartsHave (type_at l.draft) l.part-iterator.a.rest.now l.part-iterator.b.rest.now
    → PartsHave (type_at l.draft) l.parts l.types)
    × (PartsHave (type_at l.draft) l.parts l.types
    → PartsHave (type_at l.draft) l.part-iterator.a.rest.now l.part-iterator.b.rest.now)
