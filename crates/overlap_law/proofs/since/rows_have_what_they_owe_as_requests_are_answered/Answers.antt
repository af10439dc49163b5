-- What holds of each moment of a run is at hand: of attempts that they are shaped, tied, whole, of works and in order, and that what is
-- asked is of one; and that rows stand in turn.
use Rattle.std.proofs.Common.{sym, subst}
use Rattle.sheep_world.specs.NodeCauses.{RequestComes}
use Rattle.vdi_directory.specs.Decisions.{log_effects}
use Rattle.overlap_law.specs.MomentChanges as moments
use Rattle.overlap_law.specs.Since.{RowsAreSince}
use Rattle.overlap_law.specs.StepMoments.{SteppingNode, IsStepping, last_in_step, moment_in_step}
use Rattle.overlap_law.proofs.FinishedInMoments.{TermsHold, kept_terms}
use Rattle.overlap_law.proofs.MakersInTraffic.{HasMakersOfAttempts, kept_makers}
use Rattle.overlap_law.proofs.NoRecoveredDue.{began-with_past}
use Rattle.overlap_law.proofs.OrderedInRuns.{ordered-in_run}
use Rattle.overlap_law.proofs.RunsByChanges.{run-kept}
use Rattle.overlap_law.proofs.SinceRequests.{since_served}
use Rattle.overlap_law.proofs.StayingRows.{RowsHold, kept_rows}
use Rattle.overlap_law.proofs.WholeInRuns.{whole-on_the_way}
use Rattle.overlap_law.proofs.WorksOfAttempts.{AreOfWorks, kept_works}
use Rattle.overlap_law.proofs.since.rows_have_what_they_owe_as_requests_are_answered.Goals as goal

pub returns : goal.returns
returns c = λ script moves start n host name to request stepping good range is answers stepped since.
    let own : IsStepping script start.world (record { n = n; host = host; cause = RequestComes name to request })
    = subst (IsStepping script start.world) answers stepped in
    let holds = run-kept script RowsHold (kept_rows script range) moves start is in
    subst (λ (s : SteppingNode). RowsAreSince (log_effects (moment_in_step script s start (last_in_step s)).world.log) good
    (moment_in_step script s start (last_in_step s)).world.hosts (moment_in_step script s start (last_in_step s)).past.attempts)
    (sym answers)
    (since_served script range start (began-with_past script moves start is) n host name to request own good
    (run-kept script TermsHold (kept_terms script range) moves start is) holds.shaped holds.tied holds.turns holds.sound
    (ordered-in_run script range moves start start is moments.Still)
    (run-kept script HasMakersOfAttempts (kept_makers script range) moves start is)
    (run-kept script AreOfWorks (kept_works script range) moves start is)
    (whole-on_the_way script range moves start start is moments.Still) since)
