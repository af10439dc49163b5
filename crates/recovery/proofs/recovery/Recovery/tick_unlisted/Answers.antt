use Rattle.std.proofs.Common.{ap, sym, ◌∙◌}
use Rattle.recovery.specs.Shown.{NodeView}
use Rattle.recovery.specs.State.{Recovery, RecoveryState}
use Rattle.recovery.specs.Kept.{recovery_state}
use Rattle.recovery.proofs.TickLemmas.{lists_sends, after_lists, none_current}
use Rattle.recovery.proofs.recovery.Recovery.tick_unlisted.Goals as goal

pub returns-clause-sends : goal.returns-clause-sends
returns-clause-sends g c =
    let state : RecoveryState = recovery_state c.args.self.now (g.R.Rows.shown c.args._rows.now) in
    c.in_ok-sends.ensures.sends ∙ sym (lists_sends c.args.first state c.requires.lacks)

pub returns-clause-ok : goal.returns-clause-ok
returns-clause-ok g c =
    let shown : NodeView = g.R.Rows.shown c.args._rows.now in
    ap (λ (r : Recovery). recovery_state r shown) c.in_ok-sends.ensures.ok
    ∙ sym (after_lists c.args.first (recovery_state c.args.self.now shown) c.requires.lacks (none_current c.args.self.now c.requires.none))
