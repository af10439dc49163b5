use Rattle.overlap_law.specs.TiedAttempts.{IsTied}
use Rattle.overlap_law.proofs.DoneMade.{done_made}
use Rattle.overlap_law.proofs.RunsByChanges.{on_the_way}
use Rattle.overlap_law.proofs.TiedInRuns.{kept_tied}
use Rattle.overlap_law.proofs.WorkedInRuns.{holds_then}
use Rattle.overlap_law.specs.StepMoments.{moment_in_step}
use Rattle.overlap_law.proofs.tables.what_is_done_was_made.Goals as goal

pub returns : goal.returns
returns c = λ script moves start stepping so_far range is step by leads trail req number work current status learns done j attempt at
    opened.
    let holds = holds_then script range moves start is in
    done_made script range start holds.begun holds.tied holds.fit stepping step by so_far leads req number work current status learns done
    j attempt
    at opened
    ((on_the_way script IsTied (kept_tied script range) moves start (moment_in_step script stepping start so_far) is trail).fates.whole j
    attempt at)
