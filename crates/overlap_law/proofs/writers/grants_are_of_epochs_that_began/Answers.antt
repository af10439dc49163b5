use Rattle.std.proofs.Common.{cond, [], ◌∷◌, ◌++◌, ap, ◌∙◌}
use Rattle.epoch_log.specs.Epochs.{epoch_of}
use Rattle.vdi_directory.specs.Effects.{grants}
use Rattle.overlap_law.specs.Grants.{gives, publishes, granted_in}
use Rattle.overlap_law.proofs.DatedEffects.{last_epoch-push, last_epoch-most, last_epoch-rises}
use Rattle.overlap_law.proofs.writers.grants_are_of_epochs_that_began.Goals as goal

pub returns-clause-began : goal.returns-clause-began
returns-clause-began c =
    λ log vid. (last_epoch-most (grants vid) log, last_epoch-most (gives vid) log, last_epoch-most (publishes vid) log)

pub returns-clause-rise : goal.returns-clause-rise
returns-clause-rise c =
    λ log entry vid.
    (last_epoch-rises (grants vid) log entry, last_epoch-rises (gives vid) log entry, last_epoch-rises (publishes vid) log entry)

pub returns-clause-grant : goal.returns-clause-grant
returns-clause-grant c =
    λ log entry vid is. last_epoch-push (gives vid) log entry ∙ ap (λ b. cond b (epoch_of (log ++ entry ∷ [])) (granted_in log vid)) is

pub returns-clause-kept : goal.returns-clause-kept
returns-clause-kept c =
    λ log entry vid is. last_epoch-push (gives vid) log entry ∙ ap (λ b. cond b (epoch_of (log ++ entry ∷ [])) (granted_in log vid)) is
