use Rattle.std.proofs.Common.{◌≡◌, length, [], false, All}
use Rattle.inc_value.specs.Text.{IsPrintable}
use Rattle.script_model.specs.Reading.{text_from}
use Rattle.line_tokens.proofs.lexer.text.Given as goal

abbrev pub invariant-loop-left : goal.invariant-loop-left
invariant-loop-left l = record {
  so_far : text_from l.bytes.items false l.left ≡ text_from [] false l.after;
  printable : All IsPrintable
      l.bytes.items;
}

abbrev pub decreases-loop-left : goal.decreases-loop-left
decreases-loop-left l = length l.left
