use Rattle.overlap_law.specs.Headline.{ledger_of}
use Rattle.overlap_law.specs.MomentChanges.{Still}
use Rattle.vdi_directory.specs.Decisions.{log_effects}
use Rattle.overlap_law.proofs.CarriedTables.{good_id_at}
use Rattle.overlap_law.proofs.HistoryCarried.{stands-in_run}
use Rattle.overlap_law.proofs.SoundAlike.{come_alike}
use Rattle.overlap_law.proofs.SoundCodedRuns.{coded-in_run}
use Rattle.overlap_law.proofs.SoundReadsAlike.{reads_alike}
use Rattle.overlap_law.proofs.UnwrittenInRuns.{reads_unwritten-on_the_way}
use Rattle.overlap_law.proofs.sound.strips_that_are_read_come_alike.Goals as goal

pub returns : goal.returns
returns c = λ script moves moment range is.
    reads_alike (ledger_of moment.past.history) (log_effects moment.world.log) (good_id_at moment) moment.world.hosts moment.past.attempts
    (come_alike (ledger_of moment.past.history) (log_effects moment.world.log) (good_id_at moment) moment.world.hosts moment.past.attempts
    (coded-in_run script range moves moment is) (stands-in_run script range moves moment is).written)
    (reads_unwritten-on_the_way script range moves moment is Still)
