use Rattle.std.proofs.Common.{◌≡◌, ◌∙◌, true, ap, codes}
use Rattle.clap.specs.Simple.{app_of_fields, new_app, on_top}
use Rattle.clap.specs.Words.{app_of}
use Rattle.gkr_words.proofs.words.line_of_none.Goals as goal

pub returns : goal.returns
returns c =
    let no_flag : app_of c.disable_help_flag.result ≡ on_top (λ s. record s { disable_help_flag = true }) (new_app (codes "gkr")) =
    ap app_of_fields c.disable_help_flag.ensures ∙ ap (on_top (λ s. record s { disable_help_flag = true })) c.new.ensures.app in
    let no_help : app_of c.disable_help_subcommand.result ≡ on_top (λ s. record s { disable_help_subcommand = true }) (on_top (λ s. record s { disable_help_flag = true }) (new_app (codes "gkr"))) =
    ap app_of_fields c.disable_help_subcommand.ensures ∙ ap (on_top (λ s. record s { disable_help_subcommand = true })) no_flag in
    ap app_of_fields c.subcommand_required.ensures ∙ ap (on_top (λ s. record s { subcommand_required = true })) no_help
