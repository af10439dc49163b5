use Rattle.overlap_law.proofs.WrittenBack.{written_back_names}
use Rattle.overlap_law.proofs.works.what_is_written_back_names_what_is_made.Goals as goal

pub returns : goal.returns
returns c = λ script moves start on so_far live good_id range ran is by leads trail calls entries own session req number work attempt status
    op bytes vid snapshot ids header ends at alive.
    written_back_names script range moves start ran on is by so_far leads trail session req number work attempt status op bytes vid snapshot
    ids header ends at alive live good_id calls entries own
