use Rattle.std.proofs.Common.{rules, true, ◌≡◌, ◌∙◌, ap, ap₂, codes}
use Rattle.std.proofs.lemmas.Result.{IfOk-weaker}
use Rattle.clap.specs.Simple.{App, app_of, new_app, on_top, with_subcommand}
use Rattle.sheep_words.proofs.command.command.Goals as goal

pub returns : goal.returns
returns c =
    let bare_is : app_of c.disable_help_subcommand.result ≡ on_top (λ shape. record shape { no_binary_name = true; disable_help_flag = true; disable_help_subcommand = true }) (new_app (codes "sheep")) = search rules in
    let one = c.in_ok-subcommand.ensures.shape c.in_ok-run.ensures.1 ∙ ap₂ with_subcommand bare_is (ap (λ (a : App). a.top) c.in_ok-run.ensures.0) in
    let two = c.in_ok-subcommand-2.ensures.shape (search rules) ∙ ap₂ with_subcommand one (ap (λ (a : App). a.top) c.plain_command-replay.ensures.app) in
    let three = c.in_ok-subcommand-3.ensures.shape c.in_ok-generate.ensures.1 ∙ ap₂ with_subcommand two (ap (λ (a : App). a.top) c.in_ok-generate.ensures.0) in
    IfOk-weaker c.subcommand-4.result _ _ (λ r h. h.shape c.in_ok-live.ensures.1 ∙ ap₂ with_subcommand three (ap (λ (a : App). a.top) c.in_ok-live.ensures.0)) c.subcommand-4.ensures
