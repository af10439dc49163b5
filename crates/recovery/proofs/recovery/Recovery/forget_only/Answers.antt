use Rattle.recovery.proofs.recovery.Recovery.forget_only.Goals as goal

pub returns-clause-ok : goal.returns-clause-ok
returns-clause-ok g c = c.forget.ensures (g.R.Rows.shown c.args._rows.now)
