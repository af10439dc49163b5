use Rattle.overlap_law.proofs.PublishedInRuns.{outboxes-in_run, published-on_the_way}
use Rattle.overlap_law.proofs.PublishedInodes.{published_made}
use Rattle.overlap_law.proofs.tables.published_inodes_are_made.Goals as goal

pub returns-clause-published : goal.returns-clause-published
returns-clause-published c = λ script moves start moment range is trail good_id.
    published_made moment.world.log good_id moment.past.attempts (published-on_the_way script range moves start moment is trail)

pub returns-clause-once : goal.returns-clause-once
returns-clause-once c = λ script moves start moment range is trail. published-on_the_way script range moves start moment is trail

pub returns-clause-to_publish : goal.returns-clause-to_publish
returns-clause-to_publish c = λ script moves moment range is. outboxes-in_run script range moves moment is
