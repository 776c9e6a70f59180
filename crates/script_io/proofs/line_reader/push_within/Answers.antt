use Rattle.std.proofs.Common.{[], ◌∷◌, sym, ◌∙◌, arith, length-append}
use Rattle.std.proofs.lemmas.List.{take_all, take-append-le}
use Rattle.script_io.proofs.line_reader.push_within.Goals as goal

pub returns-then-len-lt-LONGEST-clause-items : goal.returns-then-len-lt-LONGEST-clause-items
returns-then-len-lt-LONGEST-clause-items c = rw c.push_reserved.ensures.items (sym (take_all 4096 _ (omega (arith, length-append c.args.line.now.items (c.args.byte ∷ [])))))

pub returns-else-len-lt-LONGEST-clause-items : goal.returns-else-len-lt-LONGEST-clause-items
returns-else-len-lt-LONGEST-clause-items c = sym (take-append-le 4096 _ _ (omega arith) ∙ take_all 4096 _ c.requires.short)
