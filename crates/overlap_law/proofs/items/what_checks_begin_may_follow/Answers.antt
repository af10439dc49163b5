use Rattle.overlap_law.proofs.CheckStartsFollow.{starts-in_run}
use Rattle.overlap_law.proofs.items.what_checks_begin_may_follow.Goals as goal

pub returns : goal.returns
returns c = λ script moves moment range is n host there up rsp write comes.
    starts-in_run script range moves moment is n host there up rsp write comes
