use Rattle.script_io.proofs.CommandLine.{two_words}
use Rattle.script_io.proofs.command_line.is_run.Goals as goal

pub returns-in-len2 : goal.returns-in-len2
returns-in-len2 c = two_words c.args.words.now c.word-item.result c.as_str.result.now c.eq.result c.in-len2.len_at_least c.in-len2.len_below c.word-item.is c.as_str.ensures c.eq.ensures
