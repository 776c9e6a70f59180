-- What is built: the command, as clap sees it.
use Rattle.std.proofs.Common.{◌≡◌, true, refl}
use Rattle.clap.specs.Words.{App, is_simple_and_free}
use Rattle.clap.proofs.OnLiterals.{clap_on_literals}
use Rattle.command_words.specs.Command.{incr}

-- a command with the settings that are made first
abbrev pub settled : App → App
settled a = record {
  top = record a.top {
    disable_help_flag = true;
    disable_help_subcommand = true;
    disable_version_flag = true;
    subcommand_required = true;
  };
  subs = a.subs;
}

-- clap's definitions say all of its parses
pub incr-simple : is_simple_and_free incr ≡ true
unfolding clap_on_literals
incr-simple = refl
