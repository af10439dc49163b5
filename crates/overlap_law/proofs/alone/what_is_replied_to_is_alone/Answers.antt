use Rattle.overlap_law.proofs.AloneChecksTold.{all-on_the_way}
use Rattle.overlap_law.proofs.alone.what_is_replied_to_is_alone.Goals as goal

pub returns : goal.returns
returns c = λ script moves move start end before after range way good_id test.
    all-on_the_way script range moves move start end before after way good_id test
