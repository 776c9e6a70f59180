-- The command that the words are read by, as clap sees it.
use Rattle.std.specs.Prelude.{ℕ, true, List, [], codes, Some}
use Rattle.clap.specs.Words.{App, Rule, new_app, new_rule, with_rule, with_subcommand}
use Rattle.clap.specs.declared.builder.value_parser.ValueParser.TheVariants as parser

-- a required number in a range
abbrev pub number_rule : (name : List ℕ) → ℕ → ℕ → Rule
number_rule name least most = record (new_rule name) { parser = Some (parser.Unsigned least most); required = true }

-- `run`, and `gen` with its two numbers
abbrev pub runs : App
runs = new_app (codes "run")

abbrev pub generates : App
generates = with_rule (with_rule (new_app (codes "gen")) (number_rule (codes "STEPS") 1 20000)) (number_rule (codes "SEED") 0 2147483647)

-- one of the two is required, and there is neither help nor a version
abbrev pub bare : App
bare = record {
  top = record (new_app (codes "incr")).top {
    disable_help_flag = true;
    disable_help_subcommand = true;
    disable_version_flag = true;
    subcommand_required = true;
  };
  subs = [];
}

abbrev pub incr : App
incr = with_subcommand (with_subcommand bare runs.top) generates.top
