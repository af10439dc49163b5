use Rattle.std.proofs.Common.{sym, ◌∙◌}
use Rattle.recovery.specs.Kept.{recovery_state}
use Rattle.recovery.proofs.MayLemmas.{next_ends}
use Rattle.recovery.proofs.recovery.Recovery.tick_search.Goals as goal

pub tick_level-requires-clause-may : goal.tick_level-requires-clause-may
tick_level-requires-clause-may g c =
    next_ends c.args.first (recovery_state c.args.self.now (g.R.Rows.shown c.args.rows.now)) c.in-Some.search c.requires.may c.requires.step
    (sym c.next_search.ensures ∙ c.in-Some.is)
