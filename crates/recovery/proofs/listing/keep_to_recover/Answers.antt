use Rattle.std.proofs.Common.{rules}
use Rattle.std.proofs.lemmas.Fn.{filter_same}
use Rattle.recovery.specs.Shown.{is_to_recover}
use Rattle.recovery.proofs.listing.keep_to_recover.Goals as goal

pub returns : goal.returns
returns g c =
    filter_same _ (is_to_recover c.args.me c.args.epoch.0 (g.R.Rows.shown c.args.rows.now)) _ (λ x b f' k. search rules) _ _ c.retain.ensures
