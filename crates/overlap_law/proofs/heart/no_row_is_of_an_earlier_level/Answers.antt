use Rattle.overlap_law.proofs.EarlierLevels.{no_earlier-on_the_way}
use Rattle.overlap_law.proofs.heart.no_row_is_of_an_earlier_level.Goals as goal

pub returns : goal.returns
returns c = λ script moves start before after range is trail change n was host there at oid level below covers.
    no_earlier-on_the_way script range moves start before after is trail change n was host there at oid level below covers
