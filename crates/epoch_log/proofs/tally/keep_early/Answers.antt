use Rattle.epoch_log.proofs.TallyLemmas.{is_early-insert}
use Rattle.epoch_log.proofs.tally.keep_early.Goals as goal

pub returns-clause-ok : goal.returns-clause-ok
returns-clause-ok c = is_early-insert c.args.early.now c.insert.new.self c.args.epoch c.args.node c.in_ok-insert.ensures.updates.0
