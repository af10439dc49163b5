use Rattle.std.proofs.Common.{◌≤◌, arith}
use Rattle.object_id.specs.declared.limits.TheConstants.{EPOCH_MAX}
use Rattle.epoch_log.specs.Epochs.{epoch_of}
use Rattle.epoch_log.proofs.MembersLemmas.{IsLog-epochs}
use Rattle.epoch_log.proofs.tally.Tally.epoch.Goals as goal

pub overflow_cast-result : goal.overflow_cast-result
overflow_cast-result c =
    let most : epoch_of c.args.before.now ≤ EPOCH_MAX = IsLog-epochs c.args.before.now c.requires.log in
    omega (arith, most, c.requires.tally.epochs, c.len.ensures)
