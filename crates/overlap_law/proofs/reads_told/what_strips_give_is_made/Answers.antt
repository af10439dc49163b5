use Rattle.overlap_law.specs.StepMoments.{moment_in_step}
use Rattle.overlap_law.proofs.FateLemmas.{made-not_doomed}
use Rattle.overlap_law.proofs.StripReadsThrough.{block_stands}
use Rattle.overlap_law.proofs.reads_told.what_strips_give_is_made.Goals as goal

pub returns : goal.returns
returns c = λ script moves start stepping so_far session req number work attempt status course bytes inode home piece d p unit j made
    range run is by leads trail ends is_read is_vid few blocks coded own known is_good inside at covers is_made quiet is_block.
    block_stands script range moves start run stepping is by so_far leads trail session req number work attempt status course bytes ends
    inode home piece is_read is_vid few blocks d p coded own known is_good unit inside j made at covers
    (made-not_doomed (moment_in_step script stepping start so_far).world.hosts made is_made) quiet is_block
