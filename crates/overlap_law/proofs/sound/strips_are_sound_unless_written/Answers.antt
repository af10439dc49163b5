use Rattle.overlap_law.specs.Headline.{ledger_of}
use Rattle.overlap_law.specs.MomentChanges.{Still}
use Rattle.overlap_law.specs.TiedAttempts.{IsTied}
use Rattle.vdi_directory.specs.Decisions.{log_effects}
use Rattle.overlap_law.proofs.CarriedTables.{good_id_at}
use Rattle.overlap_law.proofs.HistoryCarried.{stands-in_run}
use Rattle.overlap_law.proofs.RunsByChanges.{on_the_way}
use Rattle.overlap_law.proofs.SoundAlike.{come_alike, sound_unless_written}
use Rattle.overlap_law.proofs.SoundCodedRuns.{coded-in_run}
use Rattle.overlap_law.proofs.TiedInRuns.{kept_tied}
use Rattle.overlap_law.proofs.sound.strips_are_sound_unless_written.Goals as goal

pub returns-clause-alike : goal.returns-clause-alike
returns-clause-alike c = λ script moves moment range is.
    come_alike (ledger_of moment.past.history) (log_effects moment.world.log) (good_id_at moment) moment.world.hosts moment.past.attempts
    (coded-in_run script range moves moment is) (stands-in_run script range moves moment is).written

pub returns-clause-sound : goal.returns-clause-sound
returns-clause-sound c = λ script moves moment range is.
    sound_unless_written (ledger_of moment.past.history) (log_effects moment.world.log) (good_id_at moment) moment.world.hosts
    moment.past.attempts (coded-in_run script range moves moment is) (stands-in_run script range moves moment is).written
    (on_the_way script IsTied (kept_tied script range) moves moment moment is Still).fates.whole
