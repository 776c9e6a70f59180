use Rattle.function_kit.proofs.Making.{constant_added}
use Rattle.function_kit.proofs.constant.constant.Goals as goal

pub returns : goal.returns
returns c =
    rw c.added.ensures (constant_added c.args.builder.now c.constant.new.self c.args.captures.now c.args.value c.args.ty c.requires.typed.type
    c.constant.result c.constant.ensures.answer c.constant.ensures.added c.constant.ensures.err)
