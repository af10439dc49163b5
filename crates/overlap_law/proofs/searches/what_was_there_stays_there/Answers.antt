use Rattle.overlap_law.proofs.HasChanges.{goes_on_there}
use Rattle.overlap_law.proofs.searches.what_was_there_stays_there.Goals as goal

pub returns : goal.returns
returns c =
    λ script moves start before after range is trail change good alive not_missing has n was now there at up was_listed listed same_epoch oid index policy
    good_so policy_so index_so made.
    goes_on_there script range moves start before after is trail change good alive not_missing has n now at up oid index policy listed
    good_so policy_so index_so made was there was_listed same_epoch
