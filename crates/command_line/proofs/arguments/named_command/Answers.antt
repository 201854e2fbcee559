use Rattle.std.proofs.Common.{codes, true, ap, ◌≡◌, ◌∙◌}
use Rattle.clap.specs.Words.{App, app_of, new_app}
use Rattle.clap.specs.Simple.{app_of_fields}
use Rattle.command_line.proofs.arguments.named_command.Goals as goal

pub returns : goal.returns
returns c =
    let plain : App = new_app (codes "kendo") in
    let with_version : app_of c.version.result ≡ record plain { top = record plain.top { has_version = true } } =
    ap app_of_fields c.version.ensures ∙ ap (λ (a : App). record a { top = record a.top { has_version = true } }) (ap app_of_fields c.about.ensures ∙ c.new.ensures.app) in
    ap app_of_fields c.subcommand_required.ensures ∙ ap (λ (a : App). record a { top = record a.top { subcommand_required = true } }) (ap app_of_fields c.after_help.ensures ∙ with_version)
