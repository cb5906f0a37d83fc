-- Commands with more arguments.
use Rattle.std.proofs.Common.{◌≡◌, true, false, ap, ◌∙◌}
use Rattle.clap.specs.Walk.{Text}
use Rattle.clap.specs.Simple.{App, app_of, app_of_fields, new_app, new_shape}
use Rattle.clap.specs.declared.builder.command.Command.{Command}
use Rattle.clap.specs.declared.builder.command.Command.TheOpen.{Command-F}
use Rattle.clap.specs.declared.builder.command.Command.TheViews.{out-Command as fields_of}

-- a new command that is asked for no help
pub without_help : (new_one no_flag made : Command) (name : Text) → app_of new_one ≡ new_app name → (fields_of new_one).has_globals ≡ false →
    fields_of no_flag ≡ record (fields_of new_one) { disable_help_flag = true } → fields_of made ≡ record (fields_of no_flag) { disable_help_subcommand = true } →
    (app_of made ≡ record (new_app name) { top = record (new_shape name) { disable_help_flag = true; disable_help_subcommand = true } }) × ((fields_of made).has_globals ≡ false)
without_help new_one no_flag made name app local first second =
    let fields = second ∙ ap (λ (f : Command-F Command). record f { disable_help_subcommand = true }) first in (
      ap app_of_fields fields ∙ ap (λ (a : App). record a { top = record a.top { disable_help_flag = true; disable_help_subcommand = true } }) app,
      ap (λ (f : Command-F Command). f.has_globals) fields ∙ local,
    )
