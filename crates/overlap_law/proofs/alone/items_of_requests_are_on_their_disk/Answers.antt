use Rattle.overlap_law.proofs.AloneOnDisks.{on_their_disk-in_run}
use Rattle.overlap_law.proofs.AloneStepsOnDisks.{on_disk_in_step}
use Rattle.overlap_law.proofs.alone.items_of_requests_are_on_their_disk.Goals as goal

pub returns : goal.returns
returns c = record {
  in_run = λ script moves moment range ran. on_their_disk-in_run script range moves moment ran;
  in_step = λ script moves start stepping so_far range ran is by leads req request got opened at.
      on_disk_in_step script range moves start ran stepping is by so_far leads req request got opened at;
}
