use Rattle.recovery.specs.Kept.{recovery_state}
use Rattle.recovery.proofs.ReplyLemmas.{reply_fits}
use Rattle.recovery.proofs.recovery.Recovery.on_reply.Goals as goal

pub message_end-requires-clause-fits : goal.message_end-requires-clause-fits
message_end-requires-clause-fits g c =
    reply_fits c.args.rsp.now (recovery_state c.args.self.now (g.R.Rows.shown c.args.rows.now)) c.requires.fits c.requires.step.wanted
