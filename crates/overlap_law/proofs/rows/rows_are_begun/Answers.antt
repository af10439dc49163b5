use Rattle.overlap_law.specs.Holders.{is_live_object}
use Rattle.overlap_law.proofs.BegunInMoments.{begun-in_run}
use Rattle.overlap_law.proofs.rows.rows_are_begun.Goals as goal

pub returns : goal.returns
returns c = λ script moves moment range is.
    begun-in_run script range moves moment is (is_live_object moment.world.log moment.past.attempts)
