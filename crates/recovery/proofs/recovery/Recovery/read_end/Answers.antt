use Rattle.std.proofs.Common.{◌≡◌, false, sym, ◌∙◌}
use Rattle.std.specs.Option.{option_copied}
use Rattle.recovery.specs.Shown.{NodeView}
use Rattle.recovery.specs.State.{search_on}
use Rattle.recovery.specs.Steps.{without_unanswered}
use Rattle.recovery.specs.Kept.{recovery_state, is_searched}
use Rattle.recovery.proofs.ReplyLemmas.{read_ignored}
use Rattle.recovery.proofs.recovery.Recovery.read_end.Goals as goal

pub returns-else-searches-clause-ok : goal.returns-else-searches-clause-ok
returns-else-searches-clause-ok g c =
    let shown : NodeView = g.R.Rows.shown c.args.rows.now in
    let lacks : is_searched c.args.oid (search_on (recovery_state c.args.self.now shown)) ≡ false = sym c.searches.ensures ∙ c.if-searches.false in
    c.forget.ensures shown
    ∙ sym (read_ignored c.args.oid c.args.from (option_copied c.args.said) (search_on (recovery_state c.args.self.now shown))
    (without_unanswered c.args.number (recovery_state c.args.self.now shown)) lacks)
