-- What holds of each moment on the way of an event is at hand: attempts are shaped and tied, nodes have stood, and rows stand in turn.
use Rattle.overlap_law.specs.Past.{MomentWithPast}
use Rattle.overlap_law.specs.StepMoments.{moment_in_step}
use Rattle.overlap_law.specs.MomentChanges as moments
use Rattle.overlap_law.proofs.MessagesInMoments.{Have, kept_messages}
use Rattle.overlap_law.proofs.NoRecoveredDue.{began-with_past}
use Rattle.overlap_law.proofs.RunsByChanges.{on_the_way}
use Rattle.overlap_law.proofs.SinceInSteps.{since_goes_on}
use Rattle.overlap_law.proofs.StayingRows.{RowsHold, kept_rows}
use Rattle.overlap_law.proofs.StoodNodes.{TheUpHaveStood, kept_stood}
use Rattle.overlap_law.proofs.bytes.rows_have_what_they_owe_as_attempts_begin.Goals as goal

pub returns : goal.returns
returns c = λ script moves start stepping so_far next live good range is stepped by within trail good_live ordered placed begun since.
    let after : MomentWithPast = moment_in_step script stepping start next in
    let way = moments.Then trail (moments.StepGoesOn stepping so_far next stepped by within) in
    let holds : RowsHold after = on_the_way script RowsHold (kept_rows script range) moves start after is way in
    let stood : TheUpHaveStood after.world.log after.world.hosts
    = on_the_way script (λ (moment : MomentWithPast). TheUpHaveStood moment.world.log moment.world.hosts) (kept_stood script range) moves
    start after is way in
    let have = on_the_way script (Have script range) (kept_messages script range) moves start after is way in
    since_goes_on script range start (began-with_past script moves start is) stepping stepped by so_far next within live good good_live
    holds.shaped holds.tied stood holds.sound holds.turns have ordered placed begun since
