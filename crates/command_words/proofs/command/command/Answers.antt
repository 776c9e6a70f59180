use Rattle.std.proofs.Common.{◌≡◌, true, ◌∙◌, ap, ap₂}
use Rattle.std.proofs.lemmas.Result.{IfOk-weaker}
use Rattle.clap.specs.Simple.{app_of_fields}
use Rattle.clap.specs.Words.{App, app_of, with_subcommand}
use Rattle.clap.specs.declared.builder.command.Command.{Command}
use Rattle.clap.specs.declared.builder.command.Command.TheOpen.{Command-F}
use Rattle.command_words.specs.Command.{bare, runs}
use Rattle.command_words.proofs.Building.{settled}
use Rattle.command_words.proofs.command.command.Goals as goal

pub returns : goal.returns
returns c =
    let fields = c.subcommand_required.ensures
    ∙ ap (λ (f : Command-F Command). record f { subcommand_required = true }) (c.disable_version_flag.ensures
    ∙ ap (λ (f : Command-F Command). record f { disable_version_flag = true }) (c.disable_help_subcommand.ensures
    ∙ ap (λ (f : Command-F Command). record f { disable_help_subcommand = true }) c.disable_help_flag.ensures)) in
    let settings : app_of c.subcommand_required.result ≡ bare = ap app_of_fields fields ∙ ap settled c.new.ensures.app in
    let first : app_of c.in_ok-subcommand.field-0 ≡ with_subcommand bare runs.top =
    c.in_ok-subcommand.ensures.shape c.new-2.ensures.local ∙ ap₂ with_subcommand settings (ap (λ (a : App). a.top) c.new-2.ensures.app) in
    IfOk-weaker c.subcommand-2.result _ _ (λ r added. added.shape c.in_ok-gen_command.ensures.local
    ∙ ap₂ with_subcommand first (ap (λ (a : App). a.top) c.in_ok-gen_command.ensures.app)) c.subcommand-2.ensures
