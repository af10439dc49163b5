use Rattle.overlap_law.proofs.CheckDoneReplies.{of_check}
use Rattle.overlap_law.proofs.checked.what_is_checked_was_under_way.Goals as goal

pub returns : goal.returns
returns c = λ script events event before after range run is req session replies.
    of_check script range events before run event after is req session replies
