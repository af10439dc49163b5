use Rattle.overlap_law.proofs.CheckDoneReplies.{one_value}
use Rattle.overlap_law.proofs.checked.each_check_leaves_one_value.Goals as goal

pub returns : goal.returns
returns c = λ script range moves last run event made happened req session replies.
    one_value script range moves last run event made happened req session replies
