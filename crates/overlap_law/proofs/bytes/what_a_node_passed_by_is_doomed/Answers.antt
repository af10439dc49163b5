use Rattle.overlap_law.proofs.OwedBeyond.{unserved_is_doomed}
use Rattle.overlap_law.proofs.bytes.what_a_node_passed_by_is_doomed.Goals as goal

pub returns : goal.returns
returns c = λ moment shaped fates ends placed j attempt there n host got i row at covers reaches unserved.
    unserved_is_doomed moment.world.log moment.world.hosts moment.past.attempts shaped fates.whole ends placed j attempt there n host got
    i row at covers reaches unserved
