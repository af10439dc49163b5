-- What holds of each moment of a run is at hand: attempts are shaped and tied, nodes have read of the log, and rows stand in turn.
use Rattle.std.proofs.Common.{sym, subst}
use Rattle.sheep_world.specs.NodeCauses.{EntryIsRead}
use Rattle.vdi_directory.specs.Decisions.{log_effects}
use Rattle.overlap_law.specs.MomentChanges as moments
use Rattle.overlap_law.specs.Past.{MomentWithPast}
use Rattle.overlap_law.specs.Since.{RowsAreSince}
use Rattle.overlap_law.specs.StepMoments.{SteppingNode, IsStepping, first_in_step, moment_in_step}
use Rattle.overlap_law.proofs.NoRecoveredDue.{began-with_past}
use Rattle.overlap_law.proofs.ReadInMoments.{kept_sound}
use Rattle.overlap_law.proofs.RunsByChanges.{run-kept}
use Rattle.overlap_law.proofs.SinceAtReadings.{since_after}
use Rattle.overlap_law.proofs.StayingRows.{RowsHold, kept_rows}
use Rattle.overlap_law.proofs.bytes.rows_have_what_they_owe_as_entries_are_read.Goals as goal

pub returns : goal.returns
returns c = λ script moves start n host entry steps good range is reads stepped placed since.
    let began = began-with_past script moves start is in
    let own : IsStepping script start.world (record { n = n; host = host; cause = EntryIsRead entry })
    = subst (IsStepping script start.world) reads stepped in
    let holds : RowsHold start = run-kept script RowsHold (kept_rows script range) moves start is in
    let change = moments.StepBegins (record { n = n; host = host; cause = EntryIsRead entry }) own tt in
    let after : MomentWithPast
    = moment_in_step script (record { n = n; host = host; cause = EntryIsRead entry }) start
    (first_in_step (record { n = n; host = host; cause = EntryIsRead entry })) in
    subst (λ (s : SteppingNode). RowsAreSince (log_effects (moment_in_step script s start (first_in_step s)).world.log) good
    (moment_in_step script s start (first_in_step s)).world.hosts (moment_in_step script s start (first_in_step s)).past.attempts)
    (sym reads)
    (since_after script range start began n host entry own good holds.shaped holds.tied holds.turns holds.sound
    ((kept_sound script range).keeps start start after began change holds.sound) placed since)
