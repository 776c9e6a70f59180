use Rattle.std.proofs.Common.{drop, ap, sym, ◌∙◌, arith}
use Rattle.std.proofs.lemmas.List.{drop-drop}
use Rattle.line_parser.proofs.Steps.{word_again}
use Rattle.line_parser.proofs.parser.cursor.Cursor.eat_each.Goals as goal

pub loop-count-preserved : goal.loop-count-preserved
loop-count-preserved c =
    let more = word_again c.args.word.now c.loop-count.self (sym c.if-not-eat_word.ensures.found) in
    record {
      so_far = rw c.if-not-eat_word.ensures.rest (omega (arith, more, c.loop-count.invariant.so_far));
      rest = c.if-not-eat_word.ensures.rest ∙ (ap (drop 1) c.loop-count.invariant.rest ∙ drop-drop 1 c.loop-count.count c.args.self.now);
    }
