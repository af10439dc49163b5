use Rattle.overlap_law.proofs.PassedStays.{still_passed}
use Rattle.overlap_law.proofs.heart.what_was_passed_lacks_rows.Goals as goal

pub returns : goal.returns
returns c =
    λ script moves start before after range is trail change good lack n was search policy level at up on good_so policy_so passed below.
    still_passed script range moves start before after is trail change good lack n was search at up on policy level good_so policy_so passed
    below
