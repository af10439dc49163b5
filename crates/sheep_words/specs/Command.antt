-- The command line as `clap` knows it.
use Rattle.std.specs.Prelude.{true, codes, Some}
use Rattle.clap.specs.Words.{App, Rule, Text, new_app, new_rule, with_rule, with_subcommand}
use Rattle.clap.specs.Simple.{on_top}
use Rattle.clap.specs.declared.builder.action.ArgAction.TheVariants.{Set, SetTrue}

abbrev pub trace_rule : Rule
trace_rule = record (new_rule (codes "trace")) { long = Some (codes "trace"); action = Some SetTrue }

abbrev pub seed_rule : Rule
seed_rule = record (new_rule (codes "seed")) { long = Some (codes "seed"); action = Some Set }

abbrev pub number_rule : Rule
number_rule = record (new_rule (codes "number")) { required = true; action = Some Set }

-- a command without help
abbrev pub plain_app : Text → App
plain_app name = on_top (λ shape. record shape { disable_help_flag = true }) (new_app name)

abbrev pub run_app : App
run_app = with_rule (with_rule (plain_app (codes "run")) seed_rule) trace_rule

abbrev pub replay_app : App
replay_app = plain_app (codes "replay")

abbrev pub gen_app : App
gen_app = with_rule (plain_app (codes "gen")) number_rule

abbrev pub live_app : App
live_app = with_rule (plain_app (codes "live")) trace_rule

-- the whole: one level of subcommands, and no help
abbrev pub sheep_app : App
sheep_app =
    with_subcommand (with_subcommand (with_subcommand (with_subcommand
    (on_top (λ shape. record shape { no_binary_name = true; disable_help_flag = true; disable_help_subcommand = true })
    (new_app (codes "sheep")))
    run_app.top) replay_app.top) gen_app.top) live_app.top
